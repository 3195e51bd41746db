-- Laws of sums, tests and searches below a bound, taken together: where a test holds, what the parts
-- there add, a sum that is less because one part is, and the first place at which a test fails. Assumes nothing.
use mathlib.Core.Path.{◌≡◌, refl}
use mathlib.Core.Bool.{Bool, true, false, cond, not, ◌||◌, false≢true}
use Prim.Native.Nat.{ℕ, zero, suc, ◌+◌, ◌≤◌, ◌<◌}
use native.Mathlib.Omega.{arith}
use lib.Dec.{eqb}
use borrow.Author.Tests.{eq-eqb, ne_eqb}
use Rattle.numbers.specs.Bounded.{sum_below, any_below}
use Rattle.numbers.proofs.BoolLaws.{by_last}
use Rattle.numbers.proofs.SumLaws.{sum_step, sum_le, sum_le_sum, sum_mono, sum_part}
use Rattle.numbers.proofs.TestLaws.{any_none}

-- an index below the bound at which the test holds
pub record Holds (t : ℕ → Bool) (k : ℕ) : Type 0 where
  pub at : ℕ
  pub below : at < k
  pub holds : t at ≡ true

-- a test of any that is true holds somewhere
pub any_where : (k : ℕ) (t : ℕ → Bool) → any_below k t ≡ true → Holds t k
unfolding any_below
any_where zero t h = absurd (false≢true h)
any_where (suc k) t h = go (any_below k t) (any_where k t) (t k) refl h
  where
    go : (a : Bool) → (a ≡ true → Holds t k) → (b : Bool) → t k ≡ b → (a || b) ≡ true → Holds t (suc k)
    go true f b e q = let w = f refl in record { at = w.at; below = omega arith; holds = w.holds }
    go false f true e q = record { at = k; below = omega arith; holds = e }
    go false f false e q = absurd (false≢true q)

-- where each part is at least 1: the parts at which a test holds sum to more than 0 if it holds anywhere, so that it
-- does exactly if these parts change what they are added to
module _ (k : ℕ) (t : ℕ → Bool) (f : ℕ → ℕ) (least : (j : ℕ) → j < k → 1 ≤ f j) where
  pub any_some : any_below k t ≡ true → 0 < sum_below k (λ j. cond (t j) (f j) 0)
  any_some h =
      let w = any_where k t h in
      omega
      (arith, least w.at w.below, rw w.holds at (sum_part k (λ j. cond (t j) (f j) 0) w.at w.below))

  pub any_adds : (before after : ℕ) → after ≡ before + sum_below k (λ j. cond (t j) (f j) 0) →
      any_below k t ≡ not (eqb after before)
  any_adds before after e = go (any_below k t) refl
    where
      go : (b : Bool) → any_below k t ≡ b → b ≡ not (eqb after before)
      go true h = rw (ne_eqb after before (λ same. omega (arith, any_some h)))
      go false h =
          rw (eq-eqb after before (omega
          (arith, sum_le k 0 (λ j. cond (t j) (f j) 0) (λ j p. rw (any_none k t h j p) (omega arith)))))

-- a sum with its next part is at most the whole
pub sum_next : (k m : ℕ) (f : ℕ → ℕ) → k < m → sum_below k f + f k ≤ sum_below m f
sum_next k m f h = rw (← sum_step k f) (sum_mono (k + 1) m f (omega arith))

-- part by part at most, and at one less: the sum is less
pub sum_lt : (k : ℕ) (f g : ℕ → ℕ) → ((j : ℕ) → j < k → f j ≤ g j) → (i : ℕ) → i < k → f i < g i →
    sum_below k f < sum_below k g
unfolding sum_below
sum_lt zero f g h i p q = absurd (omega arith)
sum_lt (suc k) f g h i p q =
    let before : (j : ℕ) → j < k → f j ≤ g j = λ j b. h j (omega arith) in
    by_last k (λ j. f j < g j → sum_below k f + f k < sum_below k g + g k)
    (λ j b l. omega (arith, sum_lt k f g before j b l, h k (omega arith)))
    (λ l. omega (arith, sum_le_sum k f g before))
    i p q

-- a sum of which one part alone counts
pub sum_single : (k i : ℕ) (f : ℕ → ℕ) → i < k → sum_below k (λ j. cond (eqb j i) (f j) 0) ≡ f i
unfolding sum_below
sum_single zero i f p = absurd (omega arith)
sum_single (suc k) i f p =
    by_last k (λ e. sum_below k (λ j. cond (eqb j e) (f j) 0) + cond (eqb k e) (f k) 0 ≡ f e)
    (λ e q. rw (ne_eqb k e (λ h. omega arith)) (omega (arith, sum_single k e f q)))
    (rw (eq-eqb k k refl) (omega
    (arith, sum_le k 0 (λ j. cond (eqb j k) (f j) 0) (λ j q. rw (ne_eqb j k (λ h. omega arith)) (omega arith)))))
    i p

-- the first place at which a test fails
pub record Fails (t : ℕ → Bool) : Type 0 where
  pub at : ℕ
  pub stops : t at ≡ false
  pub before : (j : ℕ) → j < at → t j ≡ true

-- a test that holds before an index only if the index is below the bound fails first somewhere
module _ (t : ℕ → Bool) (bound : ℕ) (few : (m : ℕ) → ((j : ℕ) → j < m → t j ≡ true) → m < bound) where
  search_from : (left m : ℕ) → bound ≤ m + left → ((j : ℕ) → j < m → t j ≡ true) → Fails t
  search_from zero m p f = absurd (omega (arith, few m f))
  search_from (suc left) m p f = go (t m) refl (search_from left (suc m) (omega arith))
    where
      go : (b : Bool) → t m ≡ b → (((j : ℕ) → j < suc m → t j ≡ true) → Fails t) → Fails t
      go true e more = more (by_last m (λ j. t j ≡ true) f e)
      go false e more = record { at = m; stops = e; before = f }

  pub first_fails : Fails t
  first_fails = search_from bound 0 (omega arith) (λ j p. absurd (omega arith))
