-- The bits of a sum of powers of two, and a number from its bits. Assumes nothing.
use mathlib.Core.Path.{◌≡◌, sym, ◌∙◌, ap}
use Prim.Native.Nat.{ℕ, zero, suc, ◌+◌, ◌-◌, ◌*◌, ◌/◌, ◌%◌, ◌^◌, ◌<◌, ◌≤◌}
use native.Mathlib.Omega.{arith}
use native.Mathlib.Nat.{pow-suc, mul_assoc, mul_comm, add-mul, zero-add, suc-add, add-mul-div_right}
use native.Mathlib.Nat.{add-mul-mod_self_right, div-eq_of_lt, div-div-eq-div-mul, mul-le-mul_right}
use Rattle.numbers.specs.Bounded.{sum_below}
use Rattle.numbers.proofs.BoolLaws.{by_last}
use Rattle.sheet.specs.Sheet.{bit_of}

some_power : (k : ℕ) → 0 < 2 ^ k
some_power zero = omega arith
some_power (suc k) = rw pow-suc (omega (arith, some_power k))

-- a power above 2 ^ b is a multiple of its double
power_above : (b d : ℕ) → 2 ^ (d + suc b) ≡ 2 ^ d * (2 * 2 ^ b)
power_above b zero = rw (zero-add, pow-suc) (omega arith)
power_above b (suc d) =
    rw (suc-add, pow-suc 2 (d + suc b), power_above b d, pow-suc 2 d)
    (mul_assoc (2 ^ d) (2 * 2 ^ b) 2 ∙ ap (λ x. 2 ^ d * x) (mul_comm (2 * 2 ^ b) 2)
    ∙ sym (mul_assoc (2 ^ d) 2 (2 * 2 ^ b)))

-- so a multiple of it does not change bit b
bit_kept : (x y b d : ℕ) → bit_of (x + y * 2 ^ (d + suc b)) b ≡ bit_of x b
unfolding bit_of
bit_kept x y b d =
    let s : y * 2 ^ (d + suc b) ≡ y * 2 ^ d * 2 * 2 ^ b =
    ap (λ z. y * z) (power_above b d) ∙ sym (mul_assoc y (2 ^ d) (2 * 2 ^ b)) ∙ sym (mul_assoc (y * 2 ^ d) 2 (2 ^ b)) in
    ap (λ z. (x + z) / 2 ^ b % 2) s ∙ ap (λ z. z % 2) (add-mul-div_right x (y * 2 ^ d * 2) (some_power b))
    ∙ add-mul-mod_self_right (x / 2 ^ b) (y * 2 ^ d) 2

-- what is added at 2 ^ k is bit k
bit_last : (k x y : ℕ) → x < 2 ^ k → y ≤ 1 → bit_of (x + y * 2 ^ k) k ≡ y
unfolding bit_of
bit_last k x y p q =
    let e : (x + y * 2 ^ k) / 2 ^ k ≡ y = add-mul-div_right x y (some_power k) ∙ omega (arith, div-eq_of_lt p) in
    omega arith

-- the number that has bit j where f j is 1
module _ (f : ℕ → ℕ) where
  pub bits_below : (k : ℕ) → ((j : ℕ) → j < k → f j ≤ 1) → sum_below k (λ j. f j * 2 ^ j) < 2 ^ k
  unfolding sum_below
  bits_below zero h = omega arith
  bits_below (suc k) h =
      rw pow-suc
      (omega (arith, bits_below k (λ j p. h j (omega arith)), mul-le-mul_right (2 ^ k) (h k (omega arith))))

  pub bit_of_bits : (k : ℕ) → ((j : ℕ) → j < k → f j ≤ 1) → (b : ℕ) → b < k →
      bit_of (sum_below k (λ j. f j * 2 ^ j)) b ≡ f b
  unfolding sum_below
  bit_of_bits zero h b p = absurd (omega arith)
  bit_of_bits (suc k) h b p =
      by_last k (λ j. bit_of (sum_below k (λ i. f i * 2 ^ i) + f k * 2 ^ k) j ≡ f j)
      (λ j q. let e : k - suc j + suc j ≡ k = omega arith in
      ap (λ m. bit_of (sum_below k (λ i. f i * 2 ^ i) + f k * 2 ^ m) j) (sym e)
      ∙ bit_kept (sum_below k (λ i. f i * 2 ^ i)) (f k) j (k - suc j)
      ∙ bit_of_bits k (λ i r. h i (omega arith)) j q)
      (bit_last k (sum_below k (λ i. f i * 2 ^ i)) (f k) (bits_below k (λ j q. h j (omega arith))) (h k (omega arith)))
      b p

-- a number is its bits below k and what is above them
bits_above : (number k : ℕ) → number ≡ sum_below k (λ j. bit_of number j * 2 ^ j) + number / 2 ^ k * 2 ^ k
unfolding sum_below bit_of
bits_above number zero = omega arith
bits_above number (suc k) =
    let half : number / 2 ^ suc k ≡ number / 2 ^ k / 2 =
    ap (λ m. number / m) (pow-suc 2 k) ∙ sym (div-div-eq-div-mul number (2 ^ k) 2) in
    bits_above number k
    ∙ ap (λ m. sum_below k (λ j. bit_of number j * 2 ^ j) + m) (split (number / 2 ^ k) (2 ^ k))
    ∙ rw (half, pow-suc 2 k) (omega arith)
  where
    split : (x power : ℕ) → x * power ≡ x % 2 * power + x / 2 * (power * 2)
    split x power =
        let e : x ≡ x % 2 + x / 2 * 2 = omega arith in
        ap (λ m. m * power) e ∙ add-mul (x % 2) (x / 2 * 2) power
        ∙ ap (λ m. x % 2 * power + m) (mul_assoc (x / 2) 2 power ∙ ap (λ m. x / 2 * m) (mul_comm 2 power))

-- a number below 2 ^ k is its bits
pub bits_back : (number k : ℕ) → number < 2 ^ k → sum_below k (λ j. bit_of number j * 2 ^ j) ≡ number
bits_back number k p =
    let e : number / 2 ^ k ≡ 0 = div-eq_of_lt p in
    sym (bits_above number k ∙ ap (λ m. sum_below k (λ j. bit_of number j * 2 ^ j) + m * 2 ^ k) e ∙ omega arith)
