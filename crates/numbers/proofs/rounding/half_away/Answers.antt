-- By sign and size: the size is rounded half up, and the sign is put back.
use lib.IntN.{sub_ℕ, nat_abs}
use mathlib.Core.Path.{◌≡◌, ◌∙◌, sym, ap}
use native.Mathlib.Omega.{arith}
use Prim.Native.Nat.{◌<◌, ◌^◌}
use mir.Facts.{to_z-of_z}
use mir.Val.{to_z, of_z}
use mir.Syntax.{w64}
use borrow.Author.Rules.{sfits_of}
use Rattle.numbers.specs.Rounding.{half_up}
use Rattle.numbers.proofs.RoundingLaws.{half_up_self, away_negative, away_positive}
use Rattle.numbers.proofs.rounding.half_away.Goals as goal
use Rattle.numbers.proofs.rounding.half_away.Goals.{After-half_up-rounded, Start}

unread : (c : Start) → to_z w64 (of_z w64 c.args.x) ≡ c.args.x
unread c = to_z-of_z c.ranges.x

pub magnitude-requires : goal.magnitude-requires
magnitude-requires c = rw (unread c) (omega arith)

pub half_up-rounded-requires : goal.half_up-rounded-requires
half_up-rounded-requires c = omega (arith, rw (unread c.before) at c.magnitude.ensures)

-- the rounded size
module _ (c : After-half_up-rounded) where
  rounded : c.half_up-rounded.result ≡ half_up (nat_abs c.args.x) c.args.b
  rounded =
      c.half_up-rounded.ensures ∙ ap (λ m. half_up m c.args.b)
      (rw (unread c.before.before) at c.magnitude.ensures)

  small : c.half_up-rounded.result < 2 ^ 63
  small =
      omega (
        arith,
        rounded,
        half_up_self (nat_abs c.args.x) c.args.b
            c.requires.fact_1,
      )

pub difference-requires : goal.difference-requires
difference-requires c =
    record {
      fact_1 = omega arith;
      fact_2 = small c.before.before;
    }

pub difference-requires-else-is_negative : goal.difference-requires-else-is_negative
difference-requires-else-is_negative c =
    record {
      fact_1 = small c.before.before;
      fact_2 = omega arith;
    }

pub returns-then-is_negative : goal.returns-then-is_negative
returns-then-is_negative c =
    let h = c.before.before.before in
    let s = h.before.before in
    to_z-of_z {w = w64} (sfits_of c.difference.type_inv) ∙ c.difference.ensures ∙ ap (sub_ℕ 0) (rounded h)
    ∙ away_negative s.args.x s.args.b
    (sym (rw (unread s) at c.is_negative.ensures) ∙ c.if-is_negative.true)

pub returns-else-is_negative : goal.returns-else-is_negative
returns-else-is_negative c =
    let h = c.before.before.before in
    let s = h.before.before in
    to_z-of_z {w = w64} (sfits_of c.difference-else-is_negative.type_inv) ∙ c.difference-else-is_negative.ensures ∙ ap (λ m. sub_ℕ m 0) (rounded h)
    ∙ away_positive s.args.x s.args.b
    (sym (rw (unread s) at c.is_negative.ensures) ∙ c.if-is_negative.false)
