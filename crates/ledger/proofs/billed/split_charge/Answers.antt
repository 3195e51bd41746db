-- The machine's products and their sum fit, so they are those of the definition.
use native.Mathlib.Omega.{arith}
use mathlib.Core.Path.{◌≡◌, refl, ◌∙◌, ap}
use Prim.Native.Nat.{◌-◌, ◌*◌, ◌≤◌}
use lib.IntN.{ℤ, pos, nat_abs, ◌+ℤ◌, ◌*ℤ◌}
use mir.Syntax.{w64}
use mir.Val.{to_z, of_z, SFits}
use mir.Facts.{to_z-of_z}
use borrow.Author.Rules.{sfits_of}
use Rattle.numbers.specs.Rounding.{half_away}
use Rattle.numbers.proofs.SignedLaws.{pos_sub_zero, size_mul_le, is_fits, sum_bits, product_bits}
use Rattle.settlement.specs.Amount.{most_charge}
use Rattle.ledger.specs.Billed.{split_charge}
use Rattle.ledger.proofs.BilledLaws.{weighed_size}
use Rattle.ledger.proofs.billed.split_charge.Goals as goal
use Rattle.ledger.proofs.billed.split_charge.Goals.{After-difference, After-difference-2}

-- a value as it is read back from its bits
abbrev back : ℤ → ℤ
back z = to_z w64 (of_z w64 z)

-- the old charge by the days before: in the code, and in the definition
module _ (c : After-difference) where
  abbrev old_code : ℤ
  old_code = back c.args.old *ℤ back c.difference.result

  abbrev old_part : ℤ
  old_part = c.args.old *ℤ pos c.args.before

  old : old_code ≡ old_part
  old =
      product_bits _ _ _ _ c.ranges.old (sfits_of c.difference.type_inv) refl
      (c.difference.ensures ∙ pos_sub_zero c.args.before)

  old_size : nat_abs old_part ≤ most_charge * c.args.before
  old_size = size_mul_le c.args.old (pos c.args.before) c.requires.old_within (omega arith)

  old_fits : SFits w64 old_code
  old_fits = is_fits old_code old_part old (omega (arith, old_size, c.requires.short, c.requires.some))

-- the new charge by the days that remain, and the two added up
module _ (c : After-difference-2) where
  abbrev new_code : ℤ
  new_code = back c.args.new *ℤ back c.difference-2.result

  abbrev new_part : ℤ
  new_part = c.args.new *ℤ pos (c.args.days - c.args.before)

  new : new_code ≡ new_part
  new =
      product_bits _ _ _ _ c.ranges.new (sfits_of c.difference-2.type_inv) refl
      (c.difference-2.ensures ∙ pos_sub_zero (c.args.days - c.args.before))

  new_size : nat_abs new_part ≤ most_charge * (c.args.days - c.args.before)
  new_size = size_mul_le c.args.new (pos (c.args.days - c.args.before)) c.requires.new_within (omega arith)

  new_fits : SFits w64 new_code
  new_fits = is_fits new_code new_part new (omega (arith, new_size, c.requires.short))

  abbrev sum_code : ℤ
  sum_code = back (old_code (goal.at.overflow_add-weighed c).After-difference) +ℤ back new_code

  sum : sum_code ≡ old_part (goal.at.overflow_add-weighed c).After-difference +ℤ new_part
  sum =
      let d = (goal.at.overflow_add-weighed c).After-difference in
      sum_bits (old_code d) new_code _ _ (old_fits d) new_fits (old d) new

  size : nat_abs (old_part (goal.at.overflow_add-weighed c).After-difference +ℤ new_part) ≤ most_charge * c.args.days
  size =
      weighed_size c.args.days c.args.before c.args.old c.args.new c.requires.some c.requires.old_within
      c.requires.new_within

  fits : SFits w64 sum_code
  fits =
      is_fits sum_code (old_part (goal.at.overflow_add-weighed c).After-difference +ℤ new_part) sum
      (omega (arith, size, c.requires.short))

  weighed : back sum_code ≡ old_part (goal.at.overflow_add-weighed c).After-difference +ℤ new_part
  weighed = to_z-of_z {w = w64} fits ∙ sum

pub overflow_add-weighed : goal.overflow_add-weighed
overflow_add-weighed c = fits c

pub half_away-requires : goal.half_away-requires
half_away-requires c =
    omega (arith, ap nat_abs (weighed c), size c, c.requires.short, c.requires.some)

pub returns : goal.returns
unfolding split_charge
returns c =
    to_z-of_z {w = w64} (sfits_of c.half_away.type_inv) ∙ c.half_away.ensures
    ∙ ap (λ z. half_away z c.args.days) (weighed (goal.at.returns c).After-difference-2)
