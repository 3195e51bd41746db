-- A lent list's words as the machine holds them. Assumes nothing.
use mathlib.Core.Path.{◌≡◌, refl, sym, ◌∙◌}
use mathlib.Core.Bool.{◌&&◌}
use Prim.Native.Nat.{zero, suc, ◌-◌, ◌^◌}
use native.Mathlib.Omega.{arith}
use lib.Dec.{eqb}
use lib.IntN.{ℤ, pos, negsuc, nat_abs}
use mir.Syntax.{w64}
use mir.Val.{SFits, of_z}
use borrow.Author.Tests.{ne_eqb}
use Rattle.numbers.specs.Signed.{is_negative}
use Rattle.answers.specs.Answer.{unwritten_word}

-- a word's bits are those of -1 where it is -1
pub unwritten_bits : (z : ℤ) → SFits w64 z →
    eqb (of_z w64 z) unwritten_word ≡ (is_negative z && eqb (nat_abs z) 1)
unfolding is_negative
unwritten_bits (pos n) f = ne_eqb n 18446744073709551615 (λ e. omega (arith, f.sfits))
unwritten_bits (negsuc zero) f = refl
unwritten_bits (negsuc (suc n)) f =
    ne_eqb (2 ^ 64 - suc (suc n)) 18446744073709551615 (λ e. omega (arith, f.sfits)) ∙ sym
    (ne_eqb (suc (suc n)) 1 (λ e. omega arith))
