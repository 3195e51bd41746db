-- The three laws of the shares, by which all later proofs go, for every side and every transferred total that is at
-- most the side's; and that no odd peso goes to one without a remainder. Assumes nothing.
use mathlib.Core.Path.{◌≡◌, refl, ap, ap₂}
use mathlib.Core.Bool.{cond}
use mathlib.Core.List.{[], ◌∷◌}
use Prim.Native.Nat.{ℕ, zero, suc, ◌+◌, ◌*◌, ◌/◌, ◌%◌, ◌≤◌, ◌<◌}
use native.Mathlib.Omega.{arith}
use native.Mathlib.Decide.{dec_lt}
use native.Mathlib.Nat.{div-add-mod, mod-lt, mul-le-mul_right, le_of_mul-le-mul_right}
use lib.Dec.{ltb}
use lib.ListN.{get_or}
use borrow.Author.Tests.{eq-eqb, ne_eqb, lt-ltb, le-ltb}
use Rattle.numbers.specs.Bounded.{sum_below, list_below}
use Rattle.numbers.proofs.SumLaws.{sum_same, sum_le, sum_mono, sum_add, sum_scale, sum_le_sum, sum_less}
use Rattle.settlement.specs.Share.{side_total, share_floor, share_remainder, pesos_left, rank}
use Rattle.settlement.specs.Share.{odd_peso, share}
use Rattle.settlement.proofs.Computed.{settlement_computed}
use Rattle.settlement.proofs.RankLaws.{one_most, rank_same, ranks_below, rank_without}

-- "the largest remainders", and not the largest sizes, by computation: of 6 pesos on sizes 6, 2 and 1 the floors are 4,
-- 1 and 0, the remainders 0, 3 and 6
example_largest_remainder : list_below 3 (share 3 (λ i. get_or (6 ∷ 2 ∷ 1 ∷ []) i 0) 6) ≡ 4 ∷ 1 ∷ 1 ∷ []
unfolding settlement_computed
example_largest_remainder = refl

odd_most : (n : ℕ) (size : ℕ → ℕ) (transferred i : ℕ) → odd_peso n size transferred i ≤ 1
unfolding odd_peso
odd_most n size transferred i =
    one_most (ltb (rank n (share_remainder n size transferred) i) (pesos_left n size transferred))

module _ (n : ℕ) (size : ℕ → ℕ) (transferred : ℕ) (h : transferred ≤ side_total n size) where
  abbrev floor : ℕ → ℕ
  floor = share_floor n size transferred

  abbrev remainder : ℕ → ℕ
  remainder = share_remainder n size transferred

  abbrev total : ℕ
  total = side_total n size

  abbrev left : ℕ
  left = pesos_left n size transferred

  -- the share of a side without a total, and of any other
  share_none : total ≡ 0 → (i : ℕ) → share n size transferred i ≡ 0
  unfolding share
  share_none e i = rw (eq-eqb total 0 e)

  pub share_is : 0 < total → (i : ℕ) → share n size transferred i ≡ floor i + odd_peso n size transferred i
  unfolding share
  share_is some i = rw (ne_eqb total 0 (omega arith))

  -- floor and remainder make up T * size, and so do those of the first k
  divided : (i : ℕ) → floor i * total + remainder i ≡ transferred * size i
  unfolding share_floor share_remainder
  divided i = omega (arith, div-add-mod (transferred * size i) total)

  divided_below : (k : ℕ) → sum_below k floor * total + sum_below k remainder ≡ transferred * sum_below k size
  unfolding sum_below
  divided_below zero = omega arith
  divided_below (suc k) = omega (arith, divided_below k, divided k)

  module _ (some : 0 < total) where
    remainder_less : (i : ℕ) → remainder i < total
    unfolding share_remainder
    remainder_less i = mod-lt (transferred * size i) some

    pub floors_most : (k : ℕ) → k ≤ n → sum_below k floor ≤ transferred
    unfolding side_total
    floors_most k p =
        le_of_mul-le-mul_right
        (omega (arith, divided_below n, mul-le-mul_right total (sum_mono k n floor p)))
        some

    left_total : left * total ≡ sum_below n remainder
    unfolding pesos_left side_total
    left_total =
        let e : left + sum_below n floor ≡ transferred = omega (arith, floors_most n (omega arith)) in
        omega (arith, ap (λ x. x * total) e, divided_below n)

    left_most : left ≤ n
    left_most =
        le_of_mul-le-mul_right
        (omega (arith, left_total, sum_le n total remainder (λ i p. omega (arith, remainder_less i))))
        some

    -- no more pesos are left than there are remainders above zero, so none goes to one without
    left_few : left ≤ sum_below n (λ j. cond (ltb 0 (remainder j)) 1 0)
    left_few =
        le_of_mul-le-mul_right
        (omega (
          arith,
          left_total,
          sum_le_sum n remainder (λ j. total * cond (ltb 0 (remainder j)) 1 0) (λ j p. go j),
          sum_scale n total (λ j. cond (ltb 0 (remainder j)) 1 0),
        ))
        some
      where
        go : (j : ℕ) → remainder j ≤ total * cond (ltb 0 (remainder j)) 1 0
        go j = by (dec_lt 0 (remainder j))
          where
            by : Dec (0 < remainder j) → remainder j ≤ total * cond (ltb 0 (remainder j)) 1 0
            by (yes p) = rw (lt-ltb 0 (remainder j) p) (omega (arith, remainder_less j))
            by (no p) = omega arith

    pub odd_none : (i : ℕ) → remainder i ≡ 0 → odd_peso n size transferred i ≡ 0
    unfolding odd_peso
    odd_none i e = rw (le-ltb (rank n remainder i) left (omega (arith, rank_without remainder n i e, left_few)))

    odd_total : sum_below n (odd_peso n size transferred) ≡ left
    unfolding odd_peso
    odd_total = ranks_below remainder n left left_most

    shares_total_some : sum_below n (share n size transferred) ≡ transferred
    unfolding pesos_left
    shares_total_some =
        omega (
          arith,
          sum_same n (share n size transferred) (λ i. floor i + odd_peso n size transferred i) (λ i p. share_is some i),
          sum_add n floor (odd_peso n size transferred),
          odd_total,
          floors_most n (omega arith),
        )

    -- a floor is at most the size, and less where there is a remainder
    pub floor_most : (i : ℕ) → floor i ≤ size i
    floor_most i = le_of_mul-le-mul_right (omega (arith, divided i, mul-le-mul_right (size i) h)) some

    floor_less : (i : ℕ) → 0 < remainder i → floor i < size i
    floor_less i p = go (dec_lt (floor i) (size i))
      where
        go : Dec (floor i < size i) → floor i < size i
        go (yes q) = q
        go (no q) =
            let most : size i ≤ floor i = omega arith in
            absurd (omega (arith, divided i, mul-le-mul_right (size i) h, mul-le-mul_right total most))

    share_most_some : (i : ℕ) → share n size transferred i ≤ size i
    share_most_some i = go (dec_lt 0 (remainder i))
      where
        go : Dec (0 < remainder i) → share n size transferred i ≤ size i
        go (yes p) = omega (arith, share_is some i, odd_most n size transferred i, floor_less i p)
        go (no p) = omega (arith, share_is some i, odd_none i (omega arith), floor_most i)

  -- they add up to what is transferred
  pub shares_total : sum_below n (share n size transferred) ≡ transferred
  shares_total = go (dec_lt 0 total)
    where
      go : Dec (0 < total) → sum_below n (share n size transferred) ≡ transferred
      go (yes some) = shares_total_some some
      go (no none) =
          omega
          (arith, sum_le n 0 (share n size transferred) (λ i p. omega (arith, share_none (omega arith) i)))

  -- each is at most its size
  pub share_most : (i : ℕ) → i < n → share n size transferred i ≤ size i
  share_most i p = go (dec_lt 0 total)
    where
      go : Dec (0 < total) → share n size transferred i ≤ size i
      go (yes some) = share_most_some some i
      go (no none) = omega (arith, share_none (omega arith) i)

  -- where the whole side is transferred they are the sizes: were one less, they would add up to less
  pub share_whole : transferred ≡ side_total n size → (i : ℕ) → i < n → share n size transferred i ≡ size i
  unfolding side_total
  share_whole e i p = go (dec_lt (share n size transferred i) (size i))
    where
      go : Dec (share n size transferred i < size i) → share n size transferred i ≡ size i
      go (yes less) =
          absurd (omega (arith, sum_less n (share n size transferred) size share_most i p less, shares_total))
      go (no same) = omega (arith, share_most i p)

-- two sides that agree below n have the same shares
module _ (n : ℕ) (f g : ℕ → ℕ) (t : ℕ) (h : (j : ℕ) → j < n → f j ≡ g j) where
  total_same : side_total n f ≡ side_total n g
  unfolding side_total
  total_same = sum_same n f g h

  floor_same : (i : ℕ) → i < n → share_floor n f t i ≡ share_floor n g t i
  unfolding share_floor
  floor_same i p = ap₂ (λ x y. t * x / y) (h i p) total_same

  remainder_same : (i : ℕ) → i < n → share_remainder n f t i ≡ share_remainder n g t i
  unfolding share_remainder
  remainder_same i p = ap₂ (λ x y. t * x % y) (h i p) total_same

  left_same : pesos_left n f t ≡ pesos_left n g t
  unfolding pesos_left
  left_same = rw (sum_same n (share_floor n f t) (share_floor n g t) floor_same)

pub share_same : (n : ℕ) (f g : ℕ → ℕ) (t i : ℕ) → ((j : ℕ) → j < n → f j ≡ g j) → i < n → share n f t i ≡ share n g t i
unfolding share odd_peso
share_same n f g t i h p =
    rw (
      total_same n f g t h,
      floor_same n f g t h i p,
      rank_same n (share_remainder n f t) (share_remainder n g t) (remainder_same n f g t h) i p,
      left_same n f g t h,
    )
