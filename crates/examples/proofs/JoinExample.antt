-- An example of a join worked by hand, which holds the definitions by computation: after class example 9, with month 1
-- settled for three distributors, a fourth joins. Month 2 is next and has no fixing; then one covers all four, and
-- month 2 is settled with nothing billed. Assumes nothing.
use mathlib.Core.Path.{◌≡◌, refl}
use mathlib.Core.Bool.{false}
use mathlib.Core.List.{[], ◌∷◌, ◌++◌}
use Prim.Native.Nat.{ℕ}
use lib.ListN.{take, replicate}
use lib.IntN.{pos, negsuc}
use Rattle.numbers.specs.Refusal.{verdict_answered}
use Rattle.settlement.specs.Example.{in_sector_zero}
use Rattle.ledger.specs.Fix.{FixingCall, fixing_call_of, fixing_answer, fixing_answered, fixing_ledger}
use Rattle.ledger.specs.Settle.{SettlementCall, settlement_call_of, settlement_ledger}
use Rattle.ledger.specs.Join.{join_verdict, join_ledger}
use Rattle.ledger.specs.Example.{plain_line, plain_series, first_ledger}
use Rattle.ledger.specs.declared.ledger.Ledger.{Ledger}
use Rattle.ledger.proofs.Computed.{ledger_computed}
use Rattle.examples.specs.ClassExamples.{settled_number, first_money}

-- the ledger after the join, the fixing of month 2 for four, and the ledger with it
abbrev joined : Ledger
joined = join_ledger first_ledger

abbrev covering_call : FixingCall
covering_call =
    fixing_call_of false (record { month = 2; day = 1; dollar = 100000; reference_factor = 10000; first_month = 1 })
    plain_series (plain_line 0 100000 10 ++ (plain_line 1 83000 10 ++ (plain_line 2 60000 11 ++ plain_line 3 60000 11)))
    (in_sector_zero 0 10000 10000 10000 ++ (10000 ∷ replicate 7 0)) [] (replicate 12 (pos 0)) (replicate 4 0)

abbrev covered : Ledger
covered = fixing_ledger joined covering_call

-- a settlement with nothing billed
abbrev nothing_billed : ℕ → SettlementCall
nothing_billed month = settlement_call_of month (replicate 128 0) (replicate 8 10000) (replicate 4 (pos 0))

-- the join is accepted; then month 3 is out of turn, and month 2 has no fixing, until one covers all
example_joined : (verdict_answered [] (join_verdict first_ledger)).number ≡ 0
unfolding ledger_computed
example_joined = refl

example_out_of_turn : settled_number joined (nothing_billed 3) ≡ 4
unfolding ledger_computed settled_number
example_out_of_turn = refl

example_no_fixing : settled_number joined (nothing_billed 2) ≡ 5
unfolding ledger_computed settled_number
example_no_fixing = refl

example_covered : (fixing_answered (fixing_answer joined covering_call)).number ≡ 0
unfolding ledger_computed
example_covered = refl

-- counts and balances after the join, and counts after month 2
example_joined_counts : take 5 joined.counts ≡ 1 ∷ 1 ∷ 1 ∷ 0 ∷ 0 ∷ []
unfolding ledger_computed
example_joined_counts = refl

example_joined_balances : first_money 5 joined.balances ≡ negsuc 1301 ∷ pos 0 ∷ pos 0 ∷ pos 0 ∷ pos 0 ∷ []
unfolding ledger_computed first_money
example_joined_balances = refl

example_raised_counts : take 5 (settlement_ledger covered (nothing_billed 2)).counts ≡ 2 ∷ 2 ∷ 2 ∷ 1 ∷ 0 ∷ []
unfolding ledger_computed
example_raised_counts = refl
