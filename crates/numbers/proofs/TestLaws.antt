-- Laws of the tests of all and of any index below a bound. Assumes nothing.
use mathlib.Core.Path.{◌≡◌, refl, sym, ap₂}
use mathlib.Core.Bool.{Bool, true, false, not, ◌&&◌, ◌||◌, and-false}
use Prim.Native.Nat.{ℕ, zero, suc, ◌+◌, ◌-◌, ◌<◌, ◌≤◌}
use native.Mathlib.Numerals.{add-one}
use native.Mathlib.Nat.{zero-add, suc-add}
use native.Mathlib.Omega.{arith}
use Rattle.numbers.specs.Bounded.{all_below, any_below}
use Rattle.numbers.proofs.BoolLaws.{and_left, and_right, or_left, or_right, by_last}

pub all_more : (k : ℕ) (t : ℕ → Bool) → all_below k t ≡ true → t k ≡ true → all_below (k + 1) t ≡ true
unfolding all_below
all_more k t h e = rw (add-one, h, e)

pub all_at : (k : ℕ) (t : ℕ → Bool) → all_below k t ≡ true → (j : ℕ) → j < k → t j ≡ true
unfolding all_below
all_at zero t h j p = absurd (omega arith)
all_at (suc k) t h j p =
    by_last k (λ i. t i ≡ true)
    (all_at k t (and_left (all_below k t) (t k) h))
    (and_right (all_below k t) (t k) h)
    j p

pub all_of : (k : ℕ) (t : ℕ → Bool) → ((j : ℕ) → j < k → t j ≡ true) → all_below k t ≡ true
unfolding all_below
all_of zero t h = refl
all_of (suc k) t h = rw (all_of k t (λ j p. h j (omega arith)), h k (omega arith))

-- the same tests
pub all_same : (k : ℕ) (s t : ℕ → Bool) → ((j : ℕ) → j < k → s j ≡ t j) → all_below k s ≡ all_below k t
unfolding all_below
all_same zero s t h = refl
all_same (suc k) s t h = ap₂ ◌&&◌ (all_same k s t (λ j p. h j (omega arith))) (h k (omega arith))

pub all_fails : (k : ℕ) (t : ℕ → Bool) (j : ℕ) → j < k → t j ≡ false → all_below k t ≡ false
unfolding all_below
all_fails zero t j p h = absurd (omega arith)
all_fails (suc k) t j p h =
    by_last k (λ i. t i ≡ false → (all_below k t && t k) ≡ false)
    (λ i q e. rw (all_fails k t i q e))
    (λ e. rw (e, and-false (all_below k t)))
    j p h

-- a loop that tests the indices below a bound and stops at the first that fails: what holds where it comes to index k
pub record Tested (bound : ℕ) (t : ℕ → Bool) (k : ℕ) : Type 0 where
  pub most : k ≤ bound
  pub passed : all_below k t ≡ true

pub tested_none : (bound : ℕ) (t : ℕ → Bool) → Tested bound t 0
unfolding all_below
tested_none bound t = record { most = omega arith; passed = refl }

module _ {bound : ℕ} {t : ℕ → Bool} {k : ℕ} (h : Tested bound t k) where
  pub tested_more : k < bound → t k ≡ true → Tested bound t (k + 1)
  tested_more p e = record { most = omega arith; passed = all_more k t h.passed e }

  pub tested_fails : k < bound → t k ≡ false → false ≡ all_below bound t
  tested_fails p e = sym (all_fails bound t k p e)

  pub tested_all : bound ≤ k → true ≡ all_below bound t
  tested_all p =
      let e : k ≡ bound = omega arith in
      sym (rw e at h.passed)

pub any_step : (k : ℕ) (t : ℕ → Bool) → any_below (k + 1) t ≡ (any_below k t || t k)
unfolding any_below
any_step k t = rw add-one

pub any_more : (k : ℕ) (t : ℕ → Bool) → any_below k t ≡ false → t k ≡ false → any_below (k + 1) t ≡ false
unfolding any_below
any_more k t h e = rw (add-one, h, e)

-- none holds: none at any index
pub any_none : (k : ℕ) (t : ℕ → Bool) → any_below k t ≡ false → (j : ℕ) → j < k → t j ≡ false
unfolding any_below
any_none zero t h j p = absurd (omega arith)
any_none (suc k) t h j p =
    by_last k (λ i. t i ≡ false)
    (any_none k t (or_left (any_below k t) (t k) h))
    (or_right (any_below k t) (t k) h)
    j p

or_true : (a : Bool) → (a || true) ≡ true
or_true true = refl
or_true false = refl

or_false : (a : Bool) → (a || false) ≡ a
or_false true = refl
or_false false = refl

pub any_holds : (k : ℕ) (t : ℕ → Bool) (j : ℕ) → j < k → t j ≡ true → any_below k t ≡ true
unfolding any_below
any_holds zero t j p h = absurd (omega arith)
any_holds (suc k) t j p h =
    by_last k (λ i. t i ≡ true → (any_below k t || t k) ≡ true)
    (λ i q e. rw (any_holds k t i q e))
    (λ e. rw (e, or_true (any_below k t)))
    j p h

-- a test that fails at every index holds at none
pub any_never : (k : ℕ) (t : ℕ → Bool) → ((j : ℕ) → j < k → t j ≡ false) → any_below k t ≡ false
unfolding any_below
any_never zero t h = refl
any_never (suc k) t h = rw (any_never k t (λ j p. h j (omega arith)), h k (omega arith))

-- the same tests
pub any_same : (k : ℕ) (s t : ℕ → Bool) → ((j : ℕ) → j < k → s j ≡ t j) → any_below k s ≡ any_below k t
unfolding any_below
any_same zero s t h = refl
any_same (suc k) s t h = ap₂ ◌||◌ (any_same k s t (λ j p. h j (omega arith))) (h k (omega arith))

-- indices that fail add nothing
any_up : (n k : ℕ) (t : ℕ → Bool) → ((i : ℕ) → n ≤ i → i < k + n → t i ≡ false) → any_below (k + n) t ≡ any_below n t
unfolding any_below
any_up n zero t h = rw zero-add
any_up n (suc k) t h =
    rw (suc-add, any_up n k t (λ i p q. h i p (omega arith)), h (k + n) (omega arith) (omega arith))
    (or_false (any_below n t))

pub any_wide : (n m : ℕ) (t : ℕ → Bool) → n ≤ m → ((i : ℕ) → n ≤ i → i < m → t i ≡ false) → any_below m t ≡ any_below n t
any_wide n m t p h =
    let e : m - n + n ≡ m = omega arith in
    rw e at (any_up n (m - n) t (λ i q r. h i q (omega arith)))

-- an index passes, unless each fails
pub any_unless : (k : ℕ) (t : ℕ → Bool) → any_below k t ≡ not (all_below k (λ i. not (t i)))
unfolding all_below any_below
any_unless zero t = refl
any_unless (suc k) t = rw (any_unless k t) (either (all_below k (λ i. not (t i))) (t k))
  where
    either : (a b : Bool) → (not a || b) ≡ not (a && not b)
    either true true = refl
    either true false = refl
    either false b = refl
