-- The invariant: the sizes of those passed are written, 0 for those of the other side.
use mathlib.Core.Path.{◌≡◌, sym, ◌∙◌, ap}
use mathlib.Core.Bool.{beq}
use Prim.Native.Nat.{ℕ}
use lib.IntN.{ℤ, nat_abs}
use mir.Syntax.{w64}
use mir.Val.{to_z, of_z}
use mir.Facts.{to_z-of_z}
use Rattle.numbers.specs.Sizes.{most_distributors}
use Rattle.numbers.specs.Signed.{is_negative}
use Rattle.numbers.proofs.ListLaws.{filled_none, filled_next, filled_skip}
use Rattle.settlement.specs.Settlement.{owing, owed, side_size}
use Rattle.settlement.specs.Month.{money_at, sizes_below}
use Rattle.numbers.proofs.SignedLaws.{size_fits, part_size, part_none}
use native.Mathlib.Omega.{arith}
use Rattle.settlement.proofs.month.side_sizes.Goals as goal
use Rattle.settlement.proofs.month.side_sizes.Goals.{After-is_negative}
use Rattle.settlement.proofs.month.side_sizes.Goals.{then-is_negative-negative, else-is_negative-negative}

-- the position at hand, and what the test says of it
module _ (c : After-is_negative) where
  abbrev size : ℕ → ℕ
  size = side_size c.args.negative (money_at c.args.positions)

  abbrev position : ℤ
  position = money_at c.args.positions c.loop-i.i

  unread : to_z w64 (of_z w64 position) ≡ position
  unread = to_z-of_z (size_fits position (omega (arith, c.requires.within c.loop-i.i (omega arith))))

  tested : beq (is_negative position) c.args.negative ≡ beq c.is_negative.result c.args.negative
  tested = ap (λ x. beq x c.args.negative) (sym (c.is_negative.ensures ∙ ap is_negative (unread)))

pub loop-i-init : goal.loop-i-init
unfolding sizes_below
loop-i-init c = filled_none most_distributors 0 _

pub loop-i-preserved : goal.loop-i-preserved
unfolding sizes_below side_size owing owed
loop-i-preserved c =
    let d = (goal.at.loop-i-preserved c).After-is_negative in
    elim c.if-is_negative-negative.branch [
      | then-is_negative-negative w ↦
          w.sizes-is
          ∙ filled_next most_distributors 0 c.loop-i.i (size d) c.loop-i.sizes _ (omega arith) c.loop-i.invariant
          (w.magnitude.ensures ∙ ap nat_abs (unread d)
          ∙ part_size c.args.negative (position d) (tested d ∙ w.if-is_negative-negative.true))
      | else-is_negative-negative w ↦
          w.sizes-is ∙ c.loop-i.invariant
          ∙ filled_skip most_distributors 0 c.loop-i.i (size d)
          (part_none c.args.negative (position d) (tested d ∙ w.if-is_negative-negative.false))
    ]
