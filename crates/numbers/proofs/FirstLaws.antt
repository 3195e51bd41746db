-- Laws of the first answer below a bound. Assumes nothing.
use mathlib.Core.Path.{◌≡◌, refl, ◌∙◌, ap₂}
use Rattle.std.specs.Prelude.{Option, Some, None}
use Prim.Native.Nat.{ℕ, zero, suc, ◌+◌, ◌-◌, ◌<◌, ◌≤◌}
use native.Mathlib.Numerals.{add-one}
use native.Mathlib.Omega.{arith}
use native.Mathlib.Nat.{zero-add, suc-add}
use Rattle.numbers.specs.Bounded.{or_else, first_below}
use Rattle.numbers.proofs.BoolLaws.{by_last}

module _ {A : Type 0} (f : ℕ → Option A) where
  -- nothing so far: one more is this one's answer
  pub first_step : (k : ℕ) → first_below k f ≡ None → first_below (k + 1) f ≡ f k
  unfolding first_below
  first_step k h = rw (add-one, h)

  first_up : (k m : ℕ) (a : A) → first_below k f ≡ Some a → first_below (m + k) f ≡ Some a
  unfolding first_below
  first_up k zero a h = rw zero-add h
  first_up k (suc m) a h = rw (suc-add, first_up k m a h)

  -- an answer stays the first
  pub first_stays : (k m : ℕ) (a : A) → k ≤ m → first_below k f ≡ Some a → first_below m f ≡ Some a
  first_stays k m a p h =
      let e : m - k + k ≡ m = omega arith in
      rw e at (first_up k (m - k) a h)

  -- the answer at k, with nothing before it, is the first below any m above k
  pub first_is : (k m : ℕ) (a : A) → k < m → first_below k f ≡ None → f k ≡ Some a → first_below m f ≡ Some a
  first_is k m a p h e = first_stays (k + 1) m a (omega arith) (rw (first_step k h) e)

or_none : {A : Type 0} (a b : Option A) → or_else a b ≡ None → (a ≡ None) × (b ≡ None)
or_none None b h = (refl, h)
or_none (Some x) b h = absurd (let z : ◌≡◌ {A = ℕ} 0 1 = cc in omega arith)

-- no answer below the bound: none at any index
pub first_none : {A : Type 0} (f : ℕ → Option A) (k : ℕ) → first_below k f ≡ None → (j : ℕ) → j < k → f j ≡ None
unfolding first_below
first_none f zero h j p = absurd (omega arith)
first_none f (suc k) h j p =
    let q = or_none (first_below k f) (f k) h in
    by_last k (λ i. f i ≡ None) (first_none f k q.0) q.1 j p

-- and the other way
pub first_never : {A : Type 0} (f : ℕ → Option A) (k : ℕ) → ((j : ℕ) → j < k → f j ≡ None) → first_below k f ≡ None
unfolding first_below
first_never f zero h = refl
first_never f (suc k) h = rw (first_never f k (λ j p. h j (omega arith))) (h k (omega arith))

-- the same answers have the same first
pub first_same : {A : Type 0} (f g : ℕ → Option A) (k : ℕ) → ((j : ℕ) → j < k → f j ≡ g j) →
    first_below k f ≡ first_below k g
unfolding first_below
first_same f g zero h = refl
first_same f g (suc k) h = ap₂ or_else (first_same f g k (λ j p. h j (omega arith))) (h k (omega arith))

-- an answer below the bound stands at an index
pub record Found {A : Type 0} (f : ℕ → Option A) (k : ℕ) (a : A) : Type 0 where
  pub index : ℕ
  pub below : index < k
  pub answer : f index ≡ Some a

pub first_found : {A : Type 0} (f : ℕ → Option A) (k : ℕ) (a : A) → first_below k f ≡ Some a → Found f k a
unfolding first_below
first_found f zero a h = absurd (let z : ◌≡◌ {A = ℕ} 0 1 = cc in omega arith)
first_found {A = A} f (suc k) a h = go (first_below k f) refl (λ e. first_found f k a e)
  where
    go : (o : Option A) → first_below k f ≡ o → (first_below k f ≡ Some a → Found f k a) → Found f (suc k) a
    go None e ih = record { index = k; below = omega arith; answer = rw e at h }
    go (Some b) e ih =
        let w = ih (e ∙ (rw e at h)) in
        record { index = w.index; below = omega (arith, w.below); answer = w.answer }
