-- Three distributors renumbered in turn, by computation: 0 is 1 now, 1 is 2, 2 is 0. What is not below n stays, and so
-- does a list of another length. Assumes nothing.
use mathlib.Core.Path.{◌≡◌, refl}
use mathlib.Core.List.{List, [], ◌∷◌, ◌++◌}
use Prim.Native.Nat.{ℕ, ◌<◌}
use native.Mathlib.Omega.{arith}
use lib.ListN.{get_or, replicate}
use lib.IntN.{pos}
use Rattle.numbers.specs.Renumbering.{Renumbering, number_by, place_by, moved_along}
use Rattle.numbers.specs.Units.{no_money}
use Rattle.numbers.specs.declared.units.Pesos.{Pesos}
use Rattle.numbers.proofs.BoolLaws.{by_last}
use Rattle.settlement.specs.Example.{in_sector_zero}
use Rattle.supply.specs.Line.{renumbered_lines}
use Rattle.fixing.specs.Input.{FixingInput, input_of}
use Rattle.fixing.specs.Sector.{renumbered_charges}
use Rattle.ledger.specs.Example.{plain_line, plain_numbers, plain_series}
use Rattle.ledger.specs.Ledger.{unfixed_ledger}
use Rattle.ledger.proofs.Computed.{ledger_computed}
use Rattle.history.specs.Renumbered.{renumbered_input, moved_ledger}

below_three : (P : ℕ → Type 0) → P 0 → P 1 → P 2 → (i : ℕ) → i < 3 → P i
below_three P zero one two = by_last 2 P (by_last 1 P (by_last 0 P (λ j p. absurd (omega arith)) zero) one) two

rotation : Renumbering 3
rotation =
    record {
      new = λ i. get_or (1 ∷ 2 ∷ 0 ∷ []) i 0;
      old = λ i. get_or (2 ∷ 0 ∷ 1 ∷ []) i 0;
      new_below = below_three _ (omega arith) (omega arith) (omega arith);
      old_below = below_three _ (omega arith) (omega arith) (omega arith);
      old_new = below_three _ refl refl refl;
      new_old = below_three _ refl refl refl;
    }

-- lines and sector factors, the third line naming 3, which is no distributor
input : FixingInput
input =
    input_of plain_numbers plain_series (plain_line 0 100000 10 ++ (plain_line 1 83000 10 ++ plain_line 3 60000 11))
    (in_sector_zero 0 10000 9000 8000) []

example_lines : (renumbered_input rotation input).lines ≡ plain_line 1 100000 10 ++ (plain_line 2 83000 10
    ++ plain_line 3 60000 11)
unfolding ledger_computed number_by renumbered_lines renumbered_input rotation input
example_lines = refl

example_sectors : (renumbered_input rotation input).sectors ≡ in_sector_zero 0 8000 10000 9000
unfolding ledger_computed number_by place_by moved_along renumbered_input rotation input
example_sectors = refl

example_another_length : renumbered_input rotation (input_of plain_numbers plain_series (0 ∷ []) (7 ∷ 8 ∷ []) []) ≡ input_of
    plain_numbers plain_series (0 ∷ []) (7 ∷ 8 ∷ []) []
unfolding ledger_computed renumbered_input
example_another_length = refl

-- balances of three distributors and of a place past them
money : ℕ → ℕ → ℕ → ℕ → List Pesos
money a b c past =
    record { 0 = pos a } ∷ record { 0 = pos b } ∷ record { 0 = pos c } ∷ record { 0 = pos past } ∷ replicate 36 no_money

-- balances and counts; the entries past n stay
example_entries : moved_ledger rotation (unfixed_ledger 3 7 (money 5 0 9 4) (8 ∷ 0 ∷ 1 ∷ 6 ∷ replicate 36 0))
    ≡ unfixed_ledger 3 7 (money 9 5 0 4) (1 ∷ 8 ∷ 0 ∷ 6 ∷ replicate 36 0)
unfolding ledger_computed number_by place_by moved_along renumbered_charges moved_ledger rotation money
example_entries = refl
