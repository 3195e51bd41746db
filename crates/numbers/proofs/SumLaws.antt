-- Laws of the sum below a bound. Assumes nothing.
use mathlib.Core.Path.{◌≡◌, refl}
use Prim.Native.Nat.{ℕ, zero, suc, ◌+◌, ◌-◌, ◌*◌, ◌≤◌, ◌<◌}
use native.Mathlib.Numerals.{add-one}
use native.Mathlib.Omega.{arith}
use native.Mathlib.Nat.{suc-mul, mul-add, zero-add, suc-add}
use Rattle.numbers.specs.Bounded.{sum_below}
use Rattle.numbers.proofs.BoolLaws.{by_last}

pub sum_step : (k : ℕ) (f : ℕ → ℕ) → sum_below (k + 1) f ≡ sum_below k f + f k
unfolding sum_below
sum_step k f = rw add-one

-- a loop that adds f k for each index k below a bound: what holds where it comes to index k
pub record Summed (bound : ℕ) (f : ℕ → ℕ) (total k : ℕ) : Type 0 where
  pub most : k ≤ bound
  pub sum : total ≡ sum_below k f

pub summed_none : (bound : ℕ) (f : ℕ → ℕ) → Summed bound f 0 0
unfolding sum_below
summed_none bound f = record { most = omega arith; sum = refl }

module _ {bound : ℕ} {f : ℕ → ℕ} {total k : ℕ} (h : Summed bound f total k) where
  pub summed_more : k < bound → Summed bound f (total + f k) (k + 1)
  summed_more p = record { most = omega arith; sum = rw sum_step (omega arith) }

  pub summed_all : bound ≤ k → total ≡ sum_below bound f
  summed_all p =
      let e : k ≡ bound = omega arith in
      rw e at h.sum

pub sum_same : (k : ℕ) (f g : ℕ → ℕ) → ((j : ℕ) → j < k → f j ≡ g j) → sum_below k f ≡ sum_below k g
unfolding sum_below
sum_same zero f g h = refl
sum_same (suc k) f g h =
    let ih : sum_below k f ≡ sum_below k g = sum_same k f g (λ j p. h j (omega arith)) in
    omega (arith, h k (omega arith))

-- each part at most b: the sum at most as often b
pub sum_le : (k b : ℕ) (f : ℕ → ℕ) → ((j : ℕ) → j < k → f j ≤ b) → sum_below k f ≤ k * b
unfolding sum_below
sum_le zero b f h = omega arith
sum_le (suc k) b f h =
    let ih : sum_below k f ≤ k * b = sum_le k b f (λ j p. h j (omega arith)) in
    rw suc-mul (omega (arith, h k (omega arith)))

-- each part at least b: the sum at least as often b
pub sum_ge : (k b : ℕ) (f : ℕ → ℕ) → ((j : ℕ) → j < k → b ≤ f j) → k * b ≤ sum_below k f
unfolding sum_below
sum_ge zero b f h = omega arith
sum_ge (suc k) b f h =
    let ih : k * b ≤ sum_below k f = sum_ge k b f (λ j p. h j (omega arith)) in
    rw suc-mul (omega (arith, h k (omega arith)))

-- part by part at most: the sum at most
pub sum_le_sum : (k : ℕ) (f g : ℕ → ℕ) → ((j : ℕ) → j < k → f j ≤ g j) → sum_below k f ≤ sum_below k g
unfolding sum_below
sum_le_sum zero f g h = omega arith
sum_le_sum (suc k) f g h =
    let ih : sum_below k f ≤ sum_below k g = sum_le_sum k f g (λ j p. h j (omega arith)) in
    omega (arith, h k (omega arith))

sum_up : (k m : ℕ) (f : ℕ → ℕ) → sum_below k f ≤ sum_below (m + k) f
unfolding sum_below
sum_up k zero f = rw zero-add (omega arith)
sum_up k (suc m) f = rw suc-add (omega (arith, sum_up k m f))

-- a sum up to k is at most the whole
pub sum_mono : (k m : ℕ) (f : ℕ → ℕ) → k ≤ m → sum_below k f ≤ sum_below m f
sum_mono k m f h =
    let e : m - k + k ≡ m = omega arith in
    rw e at (sum_up k (m - k) f)

-- a part is at most the sum
pub sum_part : (k : ℕ) (f : ℕ → ℕ) (j : ℕ) → j < k → f j ≤ sum_below k f
unfolding sum_below
sum_part zero f j p = absurd (omega arith)
sum_part (suc k) f j p =
    by_last k (λ i. f i ≤ sum_below k f + f k) (λ i q. omega (arith, sum_part k f i q)) (omega arith) j p

pub sum_add : (k : ℕ) (f g : ℕ → ℕ) → sum_below k (λ j. f j + g j) ≡ sum_below k f + sum_below k g
unfolding sum_below
sum_add zero f g = refl
sum_add (suc k) f g = omega (arith, sum_add k f g)

-- part by part at most, and once less: the sum less
pub sum_less : (k : ℕ) (f g : ℕ → ℕ) → ((j : ℕ) → j < k → f j ≤ g j) → (i : ℕ) → i < k → f i < g i →
    sum_below k f < sum_below k g
sum_less k f g h i p less =
    omega (
      arith,
      sum_same k g (λ j. f j + (g j - f j)) (λ j q. omega (arith, h j q)),
      sum_add k f (λ j. g j - f j),
      sum_part k (λ j. g j - f j) i p,
    )

pub sum_scale : (k c : ℕ) (f : ℕ → ℕ) → sum_below k (λ j. c * f j) ≡ c * sum_below k f
unfolding sum_below
sum_scale zero c f = omega arith
sum_scale (suc k) c f = rw (mul-add, sum_scale k c f)

-- a sum of sums, either one first
pub sum_exchange : (m n : ℕ) (f : ℕ → ℕ → ℕ) →
    sum_below m (λ i. sum_below n (f i)) ≡ sum_below n (λ j. sum_below m (λ i. f i j))
unfolding sum_below
sum_exchange zero n f = omega (arith, sum_le n 0 (λ j. 0) (λ j p. omega arith))
sum_exchange (suc m) n f = omega (arith, sum_exchange m n f, sum_add n (λ j. sum_below m (λ i. f i j)) (f m))
