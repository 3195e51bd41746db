-- The digits that the kit's io gives are a number's decimal text. Assumes nothing.
use mathlib.Core.Path.{◌≡◌, ap, ap₂}
use mathlib.Core.List.{[], ◌∷◌, ◌++◌}
use Prim.Native.Nat.{ℕ, zero, suc, ◌-◌, ◌/◌, ◌%◌, ◌^◌, ◌≤◌, ◌<◌}
use native.Mathlib.Decide.{dec_lt}
use native.Mathlib.Nat.{pow-suc, one-le-pow, pow-le-pow_right, mod-eq_of_lt}
use native.Mathlib.Omega.{arith}
use lib.ListN.{length, length-append}
use borrow.Author.Tests.{lt-ltb, le-ltb}
use Rattle.io.specs.Digits.{hex_digit_ascii, last_digits, IsDigitCount}
use Rattle.text.specs.Text.{digit, decimal_within, decimal}

glyph_digit : (d : ℕ) → d < 10 → hex_digit_ascii d ≡ digit d
glyph_digit d p = rw (lt-ltb d 10 p)

pub digits_decimal : (k size x : ℕ) → 1 ≤ size → size ≤ k → x < 10 ^ size → (1 < size → 10 ^ (size - 1) ≤ x) →
    last_digits 10 size x ≡ decimal_within k x
unfolding decimal_within
digits_decimal k zero x p q r s = absurd (omega arith)
digits_decimal zero (suc size) x p q r s = absurd (omega arith)
digits_decimal (suc k) (suc zero) x p q r s =
    let few : x < 10 = omega (arith, r) in
    rw (lt-ltb x 10 few, mod-eq_of_lt few) (ap (λ d. d ∷ []) (glyph_digit x few))
digits_decimal (suc k) (suc (suc size)) x p q r s =
    let one : suc (suc size) - 1 ≡ suc size = omega arith in
    let two : suc size - 1 ≡ size = omega arith in
    let least : 10 ^ suc size ≤ x = rw one at (s (omega arith)) in
    let many : 10 ≤ x = omega (arith, least, pow-suc 10 size, one-le-pow size 10 (omega arith)) in
    let fewer : x / 10 < 10 ^ suc size = omega (arith, r, pow-suc 10 (suc size)) in
    let rest : last_digits 10 (suc size) (x / 10) ≡ decimal_within k (x / 10) =
    digits_decimal k (suc size) (x / 10) (omega arith) (omega arith) fewer
    (λ t. rw two (omega (arith, least, pow-suc 10 size))) in
    rw (le-ltb x 10 many) (ap₂ (λ a d. a ++ (d ∷ [])) rest (glyph_digit (x % 10) (omega arith)))

-- a number of 64 bits has at most 20 digits
module _ (x size : ℕ) (p : x < 2 ^ 64) (f : IsDigitCount 10 1 x size) where
  few : Dec (20 < size) → size ≤ 20
  few (yes q) =
      absurd (omega (
        arith,
        f.2 (omega arith),
        pow-le-pow_right {n = 10} (omega arith) {i = 20} {j = size - 1}
            (omega arith),
      ))
  few (no q) = omega arith

  pub fewest_decimal : last_digits 10 size x ≡ decimal x
  unfolding decimal
  fewest_decimal = digits_decimal 20 size x f.0 (few (dec_lt 20 size)) f.1 f.2

-- few digits write a small number
digits_more : (k x : ℕ) → 1 ≤ k → x < 10 ^ k → 10 ≤ x → 1 < k
digits_more zero x p q r = absurd (omega arith)
digits_more (suc zero) x p q r = absurd (omega (arith, q))
digits_more (suc (suc k)) x p q r = omega arith

digits_few : (n k x : ℕ) → 1 ≤ k → x < 10 ^ k → length (decimal_within n x) ≤ k
unfolding decimal_within
digits_few zero k x p q = omega arith
digits_few (suc n) k x p q = go (dec_lt x 10) (λ r. digits_few n (k - 1) (x / 10) r)
  where
    go : Dec (x < 10) → (1 ≤ k - 1 → x / 10 < 10 ^ (k - 1) → length (decimal_within n (x / 10)) ≤ k - 1) →
        length (decimal_within (suc n) x) ≤ k
    go (yes r) rest = rw (lt-ltb x 10 r) p
    go (no r) rest =
        let many : 10 ≤ x = omega arith in
        let least : 1 < k = digits_more k x p q many in
        let e : k ≡ suc (k - 1) = omega arith in
        let fewer : x / 10 < 10 ^ (k - 1) = omega (arith, rw e at q, pow-suc 10 (k - 1)) in
        rw (le-ltb x 10 many, length-append) (omega (arith, rest (omega arith) fewer))

-- a size of at most 2^63 leaves room for a minus sign
pub size_few : (x : ℕ) → x ≤ 2 ^ 63 → length (decimal x) ≤ 19
unfolding decimal
size_few x p = digits_few 20 19 x (omega arith) (omega (arith, p))
