-- The invariant: the positions of those passed are written. A balance and an amount together fit.
use mathlib.Core.Path.{◌≡◌, refl, ◌∙◌, ap}
use Prim.Native.Nat.{ℕ}
use lib.IntN.{ℤ, nat_abs, ◌+ℤ◌}
use mir.Syntax.{w64}
use mir.Val.{SFits, to_z, of_z}
use mir.Facts.{to_z-of_z}
use Rattle.numbers.specs.declared.units.Pesos.{Pesos}
use Rattle.settlement.specs.Amount.{collected_amount}
use Rattle.settlement.specs.Settlement.{position_of}
use Rattle.settlement.specs.Month.{money_at, position_list}
use Rattle.numbers.proofs.SignedLaws.{size_fits, is_fits, sum_bits}
use Rattle.settlement.proofs.AmountLaws.{amount_size}
use Rattle.settlement.proofs.MonthLaws.{money_none, money_next, position_size}
use native.Mathlib.Omega.{arith}
use Rattle.settlement.proofs.month.positions.Goals as goal
use Rattle.settlement.proofs.month.positions.Goals.{After-collected_amount-amount}

-- the position of the distributor at hand: in the code, and in the definition
module _ (c : After-collected_amount-amount) where
  abbrev code : ℤ
  code =
      to_z w64 (of_z w64 (money_at c.args.balances c.loop-i.i)) +ℤ to_z w64
      (of_z w64 c.collected_amount-amount.result.0)

  abbrev position : ℕ → ℤ
  position =
      position_of (money_at c.args.balances)
      (collected_amount c.args.charges.now c.args.readings.now c.args.losses.now)

  sum : code ≡ position c.loop-i.i
  unfolding position_of
  sum =
      sum_bits (money_at c.args.balances c.loop-i.i) _ _ _
      (size_fits _ (omega (arith, c.requires.within.within c.loop-i.i (omega arith))))
      (size_fits _ (omega (
        arith,
        ap (λ (m : Pesos). nat_abs m.0) c.collected_amount-amount.ensures,
        amount_size c.args.charges.now _ _ c.loop-i.i (c.requires.billed.billed.facts c.loop-i.i (omega arith))
            (λ s. c.requires.billed.bounded c.loop-i.i s (omega arith)),
      )))
      refl (ap (λ (m : Pesos). m.0) c.collected_amount-amount.ensures)

  fits : SFits w64 code
  fits =
      is_fits code (position c.loop-i.i) sum
      (omega (
        arith,
        position_size c.args.n c.args.balances c.args.charges.now _ _ c.requires.within c.requires.billed
            c.loop-i.i (omega arith),
      ))

pub loop-i-init : goal.loop-i-init
loop-i-init c = money_none _

pub overflow_add-positions : goal.overflow_add-positions
overflow_add-positions c = fits (goal.at.overflow_add-positions c).After-collected_amount-amount

pub loop-i-preserved : goal.loop-i-preserved
loop-i-preserved c =
    let d = (goal.at.loop-i-preserved c).After-collected_amount-amount in
    money_next (position d) c.loop-i.i c.loop-i.positions _ (omega arith) c.loop-i.invariant
    (to_z-of_z (fits d) ∙ sum d)

pub returns : goal.returns
unfolding position_list
returns c =
    let e : c.loop-i.i ≡ c.args.n = omega arith in
    rw e at c.loop-i.invariant
