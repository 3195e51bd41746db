-- An example of a split month worked by hand, which holds the definitions by computation: after the print's fixing of
-- month 1 another starts on the 11th of month 2, March 2000, and bills distributor 1 in sector 1, not in sector 0.
-- Assumes nothing.
use mathlib.Core.Path.{◌≡◌, refl}
use mathlib.Core.Bool.{Bool, true, false}
use mathlib.Core.List.{List, [], ◌∷◌, ◌++◌}
use Prim.Native.Nat.{ℕ}
use lib.ListN.{get_or, replicate}
use lib.IntN.{ℤ, pos, negsuc}
use Rattle.fixing.specs.Sector.{filled_places}
use Rattle.fixing.specs.declared.sector.SectorCharges.{SectorCharges}
use Rattle.settlement.specs.Example.{in_sector_zero, billed_readings, even_losses}
use Rattle.ledger.specs.Ledger.{opening_ledger, no_balances, no_counts, present_in, charge_in}
use Rattle.ledger.specs.Billed.{split_charge, billed_under}
use Rattle.ledger.specs.Fix.{FixingCall, fixing_call_of, fixing_answer, fixing_answered, fixing_ledger}
use Rattle.ledger.specs.Settle.{SettlementCall, settlement_call_of, settlement_ledger}
use Rattle.ledger.specs.Example.{plain_line, plain_series, print_call, print_ledger}
use Rattle.ledger.specs.declared.ledger.Ledger.{Ledger}
use Rattle.ledger.proofs.Computed.{ledger_computed}
use Rattle.examples.specs.ClassExamples.{settled_number, first_money}

-- a word for sector 0 of distributors 0 and 2 and for sector 1 of distributor 1
abbrev in_sector_one : {A : Type 0} → A → A → A → A → List A
in_sector_one none a b c = (a ∷ replicate 8 none) ++ ((b ∷ replicate 6 none) ++ (c ∷ replicate 7 none))

-- the fixing from the 11th on
abbrev eleventh_call : FixingCall
eleventh_call =
    fixing_call_of false
    (record { month = 2; day = 11; dollar = 100000; reference_factor = 10000; first_month = 1 })
    plain_series (plain_line 0 90000 10 ++ (plain_line 1 83000 10 ++ plain_line 2 60000 11))
    (in_sector_one 0 10000 10000 10000) [] (replicate 9 (pos 0)) (replicate 3 0)

-- the ledger with both: the print's charges are the older ones
abbrev charged_sectors : List Bool → List ℤ → SectorCharges
charged_sectors present charges = filled_places 24 (λ k. get_or present k false) (λ k. get_or charges k (pos 0))

abbrev split : Ledger
split =
    record {
      n = 3;
      last = 0;
      fixed = true;
      month = 2;
      day = 11;
      force =
          charged_sectors (in_sector_one false true true true)
          (in_sector_one (pos 0) (negsuc 9048) (negsuc 2048) (pos 10090));
      has_older = true;
      older =
          charged_sectors (in_sector_zero false true true true)
          (in_sector_zero (pos 0) (negsuc 15661) (pos 1338) (pos 13022));
      balances = no_balances;
      counts = no_counts;
    }

example_split_ledger : fixing_ledger print_ledger eleventh_call ≡ split
unfolding ledger_computed
example_split_ledger = refl

-- it stands beside the print's, and alone it is refused
example_eleventh : (fixing_answered (fixing_answer print_ledger eleventh_call)).number ≡ 0
unfolding ledger_computed
example_eleventh = refl

example_alone : (fixing_answered (fixing_answer (opening_ledger 3) eleventh_call)).number ≡ 16
unfolding ledger_computed
example_alone = refl

-- a second fixing for month 2 leaves the print's as the older, one for month 1 leaves none
example_same_month : (fixing_ledger split eleventh_call).older ≡ split.older
unfolding ledger_computed
example_same_month = refl

example_earlier_month : (fixing_ledger split print_call).has_older ≡ false
unfolding ledger_computed
example_earlier_month = refl

-- sector 0 of each distributor, and sector 1 of distributor 1: whether it is present, and its charge
abbrev billed_sectors : ℕ → List Bool × List ℤ
billed_sectors month =
    let present = present_in (billed_under split month) in
    let charge = charge_in (billed_under split month) in (
      present 0 ∷ present 8 ∷ present 9 ∷ present 16 ∷ [],
      charge 0 ∷ charge 8 ∷ charge 9 ∷ charge 16 ∷ [],
    )

-- (-15,662 * 10 - 9,049 * 21) / 31, 1,338 * 10 / 31, -2,049 * 21 / 31 and (13,022 * 10 + 10,090 * 21) / 31
example_split_month : billed_sectors 2 ≡ (
  true ∷ true ∷ true ∷ true ∷ [],
  negsuc 11181 ∷ pos 432 ∷ negsuc 1387 ∷ pos 11036 ∷ [],
)
unfolding ledger_computed
example_split_month = refl

-- the month after is whole
example_whole_month : billed_sectors 3 ≡ (
  true ∷ false ∷ true ∷ true ∷ [],
  negsuc 9048 ∷ pos 0 ∷ negsuc 2048 ∷ pos 10090 ∷ [],
)
unfolding ledger_computed
example_whole_month = refl

-- 1,000 kWh of distributor 1 in sector 0 are billed in the split month, and refused in the month after
abbrev sector_zero : ℕ → SettlementCall
sector_zero month = settlement_call_of month (billed_readings 0 1000 0) even_losses (replicate 3 (pos 0))

example_billed_split : first_money 3 (settlement_ledger split (sector_zero 2)).balances ≡ pos 0 ∷ pos 432 ∷ pos 0 ∷ []
unfolding ledger_computed first_money
example_billed_split = refl

-- the older fixing stays kept
example_older_after : (settlement_ledger split (sector_zero 2)).has_older ≡ true
unfolding ledger_computed
example_older_after = refl

example_absent_after : settled_number (settlement_ledger split (sector_zero 2)) (sector_zero 3) ≡ 12
unfolding ledger_computed settled_number
example_absent_after = refl

-- half away in both directions
example_half_away : (split_charge 30 15 (pos 1) (pos 0) ≡ pos 1) × (split_charge 30 15 (negsuc 0) (pos 0) ≡ negsuc 0)
unfolding ledger_computed
example_half_away = (refl, refl)
