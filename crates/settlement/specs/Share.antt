-- The shares of one side ("The ledger" of document 01; W-208 of document 02 gives out the odd pesos). A side is a size
-- for each distributor, 0 for those who are not on it. What is said of shares elsewhere rests on the three laws in
-- proofs/ShareLaws: they add up to the transferred total, each is at most its size, and where the whole side is
-- transferred they are the sizes. Assumes nothing.
use Rattle.std.specs.Prelude.{Bool, cond, ◌&&◌, ◌||◌, ℕ, ◌+◌, ◌-◌, ◌*◌, ◌/◌, ◌%◌, eqb, ltb}
use Rattle.numbers.specs.Bounded.{sum_below}

-- a side's total
unfoldable pub side_total : ℕ → (ℕ → ℕ) → ℕ
side_total n size = sum_below n size

-- "the floor of T × the position's size / total"
unfoldable pub share_floor : ℕ → (ℕ → ℕ) → ℕ → ℕ → ℕ
share_floor n size transferred i = transferred * size i / side_total n size

-- the remainder of that division
unfoldable pub share_remainder : ℕ → (ℕ → ℕ) → ℕ → ℕ → ℕ
share_remainder n size transferred i = transferred * size i % side_total n size

-- the pesos that the floors leave: "what is left of T"
unfoldable pub pesos_left : ℕ → (ℕ → ℕ) → ℕ → ℕ
pesos_left n size transferred = transferred - sum_below n (share_floor n size transferred)

-- whether j comes before i: "the largest remainders, the lower distributor first among equals"
unfoldable pub comes_before : (ℕ → ℕ) → ℕ → ℕ → Bool
comes_before remainder j i = ltb (remainder i) (remainder j) || (eqb (remainder j) (remainder i) && ltb j i)

-- how many of n come before i
unfoldable pub rank : ℕ → (ℕ → ℕ) → ℕ → ℕ
rank n remainder i = sum_below n (λ j. cond (comes_before remainder j i) 1 0)

-- "what is left of T goes out one peso each": i has one where fewer come before it than pesos are left
unfoldable pub odd_peso : ℕ → (ℕ → ℕ) → ℕ → ℕ → ℕ
odd_peso n size transferred i =
    cond (ltb (rank n (share_remainder n size transferred) i) (pesos_left n size transferred)) 1 0

-- the "share" (a term of 01) of distributor i; "a side of total 0 has shares 0"
unfoldable pub share : ℕ → (ℕ → ℕ) → ℕ → ℕ → ℕ
share n size transferred i =
    cond (eqb (side_total n size) 0) 0 (share_floor n size transferred i + odd_peso n size transferred i)
