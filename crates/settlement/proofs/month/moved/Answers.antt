-- The invariant: the balances and transfers of those passed are written. A position and a transfer together fit.
use mathlib.Core.Path.{◌≡◌, refl, ◌∙◌, ap₂}
use Prim.Native.Nat.{ℕ}
use lib.ListN.{get_or}
use lib.IntN.{ℤ, sub_ℕ, ◌+ℤ◌}
use mir.Syntax.{w64}
use mir.Val.{SFits, to_z, of_z}
use mir.Facts.{to_z-of_z}
use Rattle.settlement.specs.Month.{money_at, moved_month}
use Rattle.settlement.specs.declared.month.SettledMonth.{SettledMonth}
use Rattle.numbers.proofs.SignedLaws.{size_fits, is_fits, sum_bits}
use Rattle.settlement.proofs.MonthLaws.{money_none, money_next, moved_size}
use native.Mathlib.Omega.{arith}
use borrow.Author.Rules.{sfits_of}
use Rattle.settlement.proofs.month.moved.Goals as goal
use Rattle.settlement.proofs.month.moved.Goals.{After-difference-transfer}

-- the balance and the transfer of the distributor at hand
module _ (c : After-difference-transfer) where
  abbrev transfer : ℕ → ℤ
  transfer j = sub_ℕ (get_or c.args.received.now j 0) (get_or c.args.paid.now j 0)

  abbrev balance : ℕ → ℤ
  balance j = money_at c.args.positions j +ℤ transfer j

  abbrev code : ℤ
  code =
      to_z w64 (of_z w64 (money_at c.args.positions c.loop-i.i)) +ℤ to_z w64
      (of_z w64 c.difference-transfer.result)

  sum : code ≡ balance c.loop-i.i
  sum =
      sum_bits (money_at c.args.positions c.loop-i.i) _ _ _
      (size_fits _ (omega (arith, c.requires.within.within c.loop-i.i (omega arith))))
      (sfits_of c.difference-transfer.type_inv)
      refl c.difference-transfer.ensures

  fits : SFits w64 code
  fits =
      is_fits code (balance c.loop-i.i) sum
      (omega (
        arith,
        moved_size c.args.n c.args.positions c.args.paid.now c.args.received.now c.requires.within
            c.requires.paid c.requires.received c.loop-i.i (omega arith),
      ))

pub loop-i-init : goal.loop-i-init
loop-i-init c = (money_none _, money_none _)

pub loop-i-preserved : goal.loop-i-preserved
loop-i-preserved c =
    let d = (goal.at.loop-i-preserved c).After-difference-transfer in (
      money_next (balance d) c.loop-i.i c.loop-i.balances _ (omega arith) c.loop-i.invariant.0
          (to_z-of_z (fits d) ∙ sum d),
      money_next (transfer d) c.loop-i.i c.loop-i.transfers _ (omega arith) c.loop-i.invariant.1
          (to_z-of_z {w = w64} (sfits_of c.difference-transfer.type_inv) ∙ c.difference-transfer.ensures),
    )

pub returns : goal.returns
unfolding moved_month
returns c =
    let e : c.loop-i.i ≡ c.args.n = omega arith in
    ap₂ {C = SettledMonth} (λ b t. record { balances = b; transfers = t }) (rw e at c.loop-i.invariant.0)
    (rw e at c.loop-i.invariant.1)
