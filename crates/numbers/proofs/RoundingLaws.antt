-- Laws of the roundings: a rounded quotient keeps whole bounds, and lies within a half of the quotient.
-- Assumes nothing.
use mathlib.Core.Path.{◌≡◌, refl, ◌∙◌, ap}
use mathlib.Core.Bool.{true, false, false≢true, true≢false}
use Prim.Native.Nat.{ℕ, zero, suc, ◌+◌, ◌-◌, ◌*◌, ◌/◌, ◌%◌, ◌<◌, ◌≤◌, min}
use native.Mathlib.Omega.{arith}
use native.Mathlib.Nat.{div-mul-le_self, lt-div-mul-add, le-div_iff_mul-le, div-lt_iff_lt-mul, mul-le-mul_left}
use native.Mathlib.Nat.{add-mul-div_right, mod-add-div, mod-lt}
use lib.IntN.{ℤ, pos, negsuc, nat_abs, sub_ℕ}
use Rattle.numbers.specs.Rounding.{half_up, half_away, divide_up}
use Rattle.numbers.specs.Signed.{is_negative}
use Rattle.numbers.proofs.SignedLaws.{neg_sub, pos_sub_zero, size_neg}

module _ (a b : ℕ) (some : 0 < b) where
  -- at least c, where the quotient is
  pub half_up_ge : (c : ℕ) → c * b ≤ a → c ≤ half_up a b
  unfolding half_up
  half_up_ge c h = (le-div_iff_mul-le {k = 2 * b} (omega arith)).1 (omega (arith, h))

  -- at most c, where the quotient is
  pub half_up_le : (c : ℕ) → a ≤ c * b → half_up a b ≤ c
  unfolding half_up
  half_up_le c h =
      let p : (2 * a + b) / (2 * b) < c + 1 = (div-lt_iff_lt-mul {k = 2 * b} (omega arith)).1 (omega (arith, h)) in
      omega arith

  -- at most what is divided
  pub half_up_self : half_up a b ≤ a
  half_up_self = half_up_le a (omega (arith, mul-le-mul_left a some))

  -- within a half of the quotient
  pub half_up_over : half_up a b * (2 * b) ≤ 2 * a + b
  unfolding half_up
  half_up_over = div-mul-le_self (2 * a + b) (2 * b)

  pub half_up_under : 2 * a + b < half_up a b * (2 * b) + 2 * b
  unfolding half_up
  half_up_under = lt-div-mul-add {b = 2 * b} (omega arith)

  -- whole quotients stand aside
  pub half_up_whole : (c : ℕ) → half_up (c * b + a) b ≡ c + half_up a b
  unfolding half_up
  half_up_whole c =
      let same : 2 * (c * b + a) + b ≡ 2 * a + b + c * (2 * b) = omega arith in
      let more = add-mul-div_right (2 * a + b) c {z = 2 * b} (omega (arith, some)) in
      ap (λ x. x / (2 * b)) same ∙ omega arith

  -- division upwards: the least c with a ≤ c * b
  pub divide_up_covers : a ≤ divide_up a b * b
  unfolding divide_up
  divide_up_covers = omega (arith, lt-div-mul-add {a = a + (b - 1)} some)

  pub divide_up_least : divide_up a b * b < a + b
  unfolding divide_up
  divide_up_least = omega (arith, div-mul-le_self (a + (b - 1)) b)

-- half away by sign and size
pub away_negative : (x : ℤ) (b : ℕ) → is_negative x ≡ true → sub_ℕ 0 (half_up (nat_abs x) b) ≡ half_away x b
unfolding half_away is_negative
away_negative (pos n) b h = absurd (false≢true h)
away_negative (negsuc n) b h = neg_sub (half_up (suc n) b)

pub away_positive : (x : ℤ) (b : ℕ) → is_negative x ≡ false → sub_ℕ (half_up (nat_abs x) b) 0 ≡ half_away x b
unfolding half_away is_negative
away_positive (pos n) b h = pos_sub_zero (half_up n b)
away_positive (negsuc n) b h = absurd (true≢false h)

-- rounding half away keeps a bound on the size
pub away_size : (x : ℤ) (b : ℕ) → nat_abs (half_away x b) ≡ half_up (nat_abs x) b
unfolding half_away
away_size (pos n) b = refl
away_size (negsuc n) b = size_neg (half_up (suc n) b)

pub away_le : (x : ℤ) (b c : ℕ) → 0 < b → nat_abs x ≤ c * b → nat_abs (half_away x b) ≤ c
away_le x b c some h = rw (away_size x b) (half_up_le (nat_abs x) b some c h)

-- std's division upwards is the definition's
pub divide_up_is : (a b : ℕ) → 0 < b → a / b + min 1 (a % b) ≡ divide_up a b
unfolding divide_up
divide_up_is a b h = go (a % b) (mod-add-div a b) (mod-lt a h)
  where
    go : (r : ℕ) → r + b * (a / b) ≡ a → r < b → a / b + min 1 r ≡ (a + (b - 1)) / b
    go zero e l =
        let low : a / b ≤ (a + (b - 1)) / b = (le-div_iff_mul-le {k = b} h).1 (omega (arith, e)) in
        let high : (a + (b - 1)) / b < a / b + 1 = (div-lt_iff_lt-mul {k = b} h).1 (omega (arith, e)) in
        omega arith
    go (suc r) e l =
        let low : a / b + 1 ≤ (a + (b - 1)) / b = (le-div_iff_mul-le {k = b} h).1 (omega (arith, e)) in
        let high : (a + (b - 1)) / b < a / b + 2 = (div-lt_iff_lt-mul {k = b} h).1 (omega (arith, e)) in
        omega arith
