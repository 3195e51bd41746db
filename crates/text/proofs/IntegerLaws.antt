-- A number's text by its sign and size, and how long it is. Assumes nothing.
use mathlib.Core.Path.{◌≡◌, refl}
use mathlib.Core.Bool.{true, false}
use mathlib.Core.List.{◌∷◌}
use Prim.Native.Nat.{suc, ◌≤◌}
use native.Mathlib.Omega.{arith}
use lib.IntN.{ℤ, pos, negsuc, nat_abs}
use lib.Signed.{le_z}
use borrow.Author.Differences.{le-true}
use borrow.Author.Tests.{leb-false}
use lib.ListN.{length}
use Rattle.std.specs.Prelude.{FitsSigned}
use mir.Syntax.{w64}
use Rattle.text.specs.Text.{minus, decimal, integer}
use Rattle.text.proofs.DecimalLaws.{size_few}
use Rattle.text.proofs.SizeLaws.{decimal_size}

pub integer_above : (z : ℤ) → le_z (pos 0) z ≡ true → decimal (nat_abs z) ≡ integer z
unfolding integer
integer_above (pos n) h = refl
integer_above (negsuc n) h = absurd (omega (arith, le-true (pos 0) (negsuc n) h))

pub integer_below : (z : ℤ) → le_z (pos 0) z ≡ false → minus ∷ decimal (nat_abs z) ≡ integer z
unfolding integer
integer_below (pos n) h = absurd (omega (arith, leb-false 0 n h))
integer_below (negsuc n) h = refl

-- a number of 64 bits has at most 20 bytes
pub integer_few : (z : ℤ) → FitsSigned w64 z → length (integer z) ≤ 20
unfolding integer
integer_few (pos n) f = decimal_size n
integer_few (negsuc n) f = omega (arith, size_few (suc n) (omega (arith, f.sfits)))
