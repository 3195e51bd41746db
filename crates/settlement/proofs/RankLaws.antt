-- The laws of the rank by remainder, for every list of remainders: of n distributors k have a rank below k, and whoever
-- has no remainder ranks behind all who have one. Assumes nothing.
use mathlib.Core.Path.{◌≡◌, refl, ◌∙◌, ap}
use mathlib.Core.Bool.{Bool, true, false, cond, false≢true, and-false}
use Prim.Native.Nat.{ℕ, zero, suc, ◌+◌, ◌-◌, ◌≤◌, ◌<◌}
use native.Mathlib.Omega.{arith}
use native.Mathlib.Decide.{dec_le, dec_lt}
use lib.Dec.{ltb}
use borrow.Author.Tests.{ltb-true, lt-ltb, le-ltb, eq-eqb, ne_eqb}
use Rattle.numbers.specs.Bounded.{sum_below}
use Rattle.numbers.proofs.BoolLaws.{same_tests}
use Rattle.numbers.proofs.SumLaws.{sum_same, sum_le, sum_le_sum, sum_less}
use Rattle.settlement.specs.Share.{comes_before, rank}

-- one for a test that holds
pub one_most : (a : Bool) → cond a 1 0 ≤ 1
one_most true = omega arith
one_most false = omega arith

one_le : (a b : Bool) → (a ≡ true → b ≡ true) → cond a 1 0 ≤ cond b 1 0
one_le true b h = rw (h refl) (omega arith)
one_le false b h = omega arith

one_same : (a k b l : ℕ) → (a < k → b < l) → (b < l → a < k) →
    ◌≡◌ {A = ℕ} (cond (ltb a k) 1 0) (cond (ltb b l) 1 0)
one_same a k b l h g =
    ap {B = ℕ} (λ t. cond t 1 0)
    (same_tests (ltb a k) (ltb b l) (λ e. lt-ltb b l (h (ltb-true a k e))) (λ e. lt-ltb a k (g (ltb-true b l e))))

-- remainders that agree below n rank the same
pub rank_same : (n : ℕ) (f g : ℕ → ℕ) → ((j : ℕ) → j < n → f j ≡ g j) → (i : ℕ) → i < n → rank n f i ≡ rank n g i
unfolding rank comes_before
rank_same n f g h i p =
    sum_same n (λ j. cond (comes_before f j i) 1 0) (λ j. cond (comes_before g j i) 1 0) (λ j q. rw (h i p, h j q))

module _ (remainder : ℕ → ℕ) where
  -- the order by remainder and number
  before_larger : (j i : ℕ) → remainder i < remainder j → comes_before remainder j i ≡ true
  unfolding comes_before
  before_larger j i h = rw (lt-ltb (remainder i) (remainder j) h)

  before_lower : (j i : ℕ) → remainder i ≤ remainder j → j < i → comes_before remainder j i ≡ true
  unfolding comes_before
  before_lower j i h p = go (dec_lt (remainder i) (remainder j))
    where
      go : Dec (remainder i < remainder j) → comes_before remainder j i ≡ true
      go (yes less) = before_larger j i less
      go (no same) =
          rw (
            le-ltb (remainder i) (remainder j) (omega arith),
            eq-eqb (remainder j) (remainder i) (omega arith),
            lt-ltb j i p,
          )

  not_before : (j i : ℕ) → remainder j ≤ remainder i → i ≤ j → comes_before remainder j i ≡ false
  unfolding comes_before
  not_before j i h p = rw (le-ltb (remainder i) (remainder j) h, le-ltb j i p, and-false)

  before_most : (j i : ℕ) → comes_before remainder j i ≡ true → remainder i ≤ remainder j
  unfolding comes_before
  before_most j i h = go (dec_le (remainder i) (remainder j))
    where
      go : Dec (remainder i ≤ remainder j) → remainder i ≤ remainder j
      go (yes p) = p
      go (no p) =
          absurd
          (false≢true
          (rw (
            le-ltb (remainder i) (remainder j) (omega arith),
            ne_eqb (remainder j) (remainder i) (omega arith),
          ) at h))

  -- a rank is at most n, and grows by one where one more comes before
  rank_most : (n i : ℕ) → rank n remainder i ≤ n
  unfolding rank
  rank_most n i =
      omega
      (arith, sum_le n 1 (λ j. cond (comes_before remainder j i) 1 0) (λ j p. one_most (comes_before remainder j i)))

  rank_step : (n i : ℕ) → rank (suc n) remainder i ≡ rank n remainder i + cond (comes_before remainder n i) 1 0
  unfolding rank sum_below
  rank_step n i = refl

  -- the last of n + 1 ranks among the others by remainder alone: before those with less, behind the rest
  last_ahead : (n i : ℕ) → remainder i < remainder n → rank n remainder n ≤ rank n remainder i
  unfolding rank
  last_ahead n i less =
      sum_le_sum n (λ j. cond (comes_before remainder j n) 1 0) (λ j. cond (comes_before remainder j i) 1 0)
      (λ j p. one_le (comes_before remainder j n) (comes_before remainder j i)
      (λ e. before_larger j i (omega (arith, before_most j n e))))

  last_behind : (n i : ℕ) → i < n → remainder n ≤ remainder i → rank n remainder i < rank n remainder n
  unfolding rank
  last_behind n i p most =
      sum_less n (λ j. cond (comes_before remainder j i) 1 0) (λ j. cond (comes_before remainder j n) 1 0)
      (λ j q. one_le (comes_before remainder j i) (comes_before remainder j n)
      (λ e. before_lower j n (omega (arith, before_most j i e)) q))
      i p
      (rw (not_before i i (omega arith) (omega arith), before_lower i n most p) (omega arith))

  module _ (n i : ℕ) (p : i < n) where
    by_last_rank : (P : Type 0) →
        (rank (suc n) remainder i ≡ rank n remainder i + 1 → rank n remainder n ≤ rank n remainder i → P) →
        (rank (suc n) remainder i ≡ rank n remainder i → rank n remainder i < rank n remainder n → P) → P
    by_last_rank P ahead behind = go (dec_lt (remainder i) (remainder n))
      where
        go : Dec (remainder i < remainder n) → P
        go (yes less) =
            ahead
            (rank_step n i ∙ ap (λ b. rank n remainder i + cond b 1 0) (before_larger n i less))
            (last_ahead n i less)
        go (no most) =
            let e = ap (λ b. rank n remainder i + cond b 1 0) (not_before n i (omega arith) (omega arith)) in
            behind (omega (arith, rank_step n i, e)) (last_behind n i p (omega arith))

  -- the last itself; and how many of the others rank below k, where the last ranks at k or behind it, or before it
  module _ (n k : ℕ) where
    abbrev others : ℕ
    others = sum_below n (λ i. cond (ltb (rank (suc n) remainder i) k) 1 0)

    last : rank (suc n) remainder n ≡ rank n remainder n
    last =
        let e = ap (λ b. rank n remainder n + cond b 1 0) (not_before n n (omega arith) (omega arith)) in
        omega (arith, rank_step n n, e)

    others_before : k ≤ rank n remainder n → others ≡ sum_below n (λ i. cond (ltb (rank n remainder i) k) 1 0)
    others_before h =
        sum_same n (λ i. cond (ltb (rank (suc n) remainder i) k) 1 0) (λ i. cond (ltb (rank n remainder i) k) 1 0)
        (λ i p. one_same (rank (suc n) remainder i) k (rank n remainder i) k
        (λ less. by_last_rank n i p (rank n remainder i < k) (λ e q. omega arith) (λ e q. omega arith))
        (λ less. by_last_rank n i p (rank (suc n) remainder i < k) (λ e q. omega arith) (λ e q. omega arith)))

    others_behind : rank n remainder n < k → others ≡ sum_below n (λ i. cond (ltb (rank n remainder i) (k - 1)) 1 0)
    others_behind h =
        sum_same n (λ i. cond (ltb (rank (suc n) remainder i) k) 1 0)
        (λ i. cond (ltb (rank n remainder i) (k - 1)) 1 0)
        (λ i p. one_same (rank (suc n) remainder i) k (rank n remainder i) (k - 1)
        (λ less. by_last_rank n i p (rank n remainder i < k - 1) (λ e q. omega arith) (λ e q. omega arith))
        (λ less. by_last_rank n i p (rank (suc n) remainder i < k) (λ e q. omega arith) (λ e q. omega arith)))

  -- of n distributors k have a rank below k
  pub ranks_below : (n k : ℕ) → k ≤ n → sum_below n (λ i. cond (ltb (rank n remainder i) k) 1 0) ≡ k
  unfolding sum_below
  ranks_below zero k h = omega arith
  ranks_below (suc n) k h = go (ranks_below n) (dec_le k (rank n remainder n))
    where
      go : ((l : ℕ) → l ≤ n → sum_below n (λ i. cond (ltb (rank n remainder i) l) 1 0) ≡ l) →
          Dec (k ≤ rank n remainder n) → others n k + cond (ltb (rank (suc n) remainder n) k) 1 0 ≡ k
      go fewer (yes p) =
          rw (last n k, le-ltb (rank n remainder n) k p)
          (omega (arith, others_before n k p, fewer k (omega (arith, rank_most n n))))
      go fewer (no p) =
          rw (last n k, lt-ltb (rank n remainder n) k (omega arith))
          (omega (arith, others_behind n k (omega arith), fewer (k - 1) (omega arith)))

  -- whoever has no remainder ranks behind all who have one
  pub rank_without : (n i : ℕ) → remainder i ≡ 0 →
      sum_below n (λ j. cond (ltb 0 (remainder j)) 1 0) ≤ rank n remainder i
  unfolding rank
  rank_without n i none =
      sum_le_sum n (λ j. cond (ltb 0 (remainder j)) 1 0) (λ j. cond (comes_before remainder j i) 1 0)
      (λ j p. one_le (ltb 0 (remainder j)) (comes_before remainder j i)
      (λ e. before_larger j i (omega (arith, ltb-true 0 (remainder j) e))))
