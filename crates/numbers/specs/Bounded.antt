-- What is said of every index below a bound: a sum, a test of all, a test of any, the first answer, the list of a
-- function's values, and its lists one after another. Every definition of the engine that walks lines, terms, months or
-- distributors is one of these, so each loop's invariant is the same combinator at the loop's index. Their laws are in
-- proofs/. Assumes nothing.
use Rattle.std.specs.Prelude.{Bool, true, false, cond, ◌&&◌, ◌||◌, List, [], ◌∷◌, ◌++◌, ℕ, zero, suc, ◌+◌, ltb}
use Rattle.std.specs.Prelude.{Option, Some, None}

-- f 0 + f 1 + .. up to below the bound
unfoldable pub sum_below : ℕ → (ℕ → ℕ) → ℕ
sum_below zero f = 0
sum_below (suc k) f = sum_below k f + f k

-- whether the test holds at every index below the bound
unfoldable pub all_below : ℕ → (ℕ → Bool) → Bool
all_below zero t = true
all_below (suc k) t = all_below k t && t k

-- whether the test holds at some index below the bound
unfoldable pub any_below : ℕ → (ℕ → Bool) → Bool
any_below zero t = false
any_below (suc k) t = any_below k t || t k

-- the first answer, or the second where the first is none
abbrev pub or_else : {A : Type 0} → Option A → Option A → Option A
or_else None b = b
or_else (Some a) b = Some a

-- the answer at the least index below the bound that has one
unfoldable pub first_below : {A : Type 0} → ℕ → (ℕ → Option A) → Option A
first_below zero f = None
first_below (suc k) f = or_else (first_below k f) (f k)

-- f 0, f 1, .. up to below the bound
unfoldable pub list_below : {A : Type 0} → ℕ → (ℕ → A) → List A
list_below zero f = []
list_below (suc k) f = list_below k f ++ (f k ∷ [])

-- list 0, list 1, .. up to below the bound, one after another
unfoldable pub join_below : {A : Type 0} → ℕ → (ℕ → List A) → List A
join_below zero f = []
join_below (suc k) f = join_below k f ++ f k

-- a list of `size` places that holds f at each index below k and is empty from there on
unfoldable pub filled_below : {A : Type 0} → ℕ → A → ℕ → (ℕ → A) → List A
filled_below size empty k f = list_below size (λ j. cond (ltb j k) (f j) empty)
