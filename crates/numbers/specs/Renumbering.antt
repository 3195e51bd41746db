-- A renumbering of n distributors: "Offices number the distributors after their own lists and expect the same prices"
-- (W-207 of document 02). Assumes nothing.
use Rattle.std.specs.Prelude.{◌≡◌, cond, List, ℕ, ◌+◌, ◌*◌, ◌/◌, ◌%◌, ◌<◌, ltb, get_or}
use Rattle.numbers.specs.Bounded.{list_below}

-- a bijection of 0 to n - 1, given with its inverse: the new number of each distributor, and the old one
pub record Renumbering (n : ℕ) : Type 0 where
  pub new : ℕ → ℕ
  pub old : ℕ → ℕ
  pub new_below : (i : ℕ) → i < n → new i < n
  pub old_below : (i : ℕ) → i < n → old i < n
  pub old_new : (i : ℕ) → i < n → old (new i) ≡ i
  pub new_old : (i : ℕ) → i < n → new (old i) ≡ i

-- a number by one of the two; one that is not below n stays as it is
unfoldable pub number_by : ℕ → (ℕ → ℕ) → ℕ → ℕ
number_by n number i = cond (ltb i n) (number i) i

-- a place in a list that has `width` of them for each distributor in turn
unfoldable pub place_by : ℕ → (ℕ → ℕ) → ℕ → ℕ → ℕ
place_by n number width k = number_by n number (k / width) * width + k % width

-- such a list of `size` places with its entries moved along to the new numbers; those past n stay as they are
unfoldable pub moved_along : {A : Type 0} {n : ℕ} → Renumbering n → ℕ → A → ℕ → List A → List A
moved_along {n = n} r width empty size list = list_below size (λ k. get_or list (place_by n r.old width k) empty)

-- each distributor's entries of one list stand in the other under its new number
abbrev pub StandUnder : {A : Type 0} {n : ℕ} → Renumbering n → ℕ → A → List A → List A → Type 0
StandUnder {n = n} r width empty one other =
    (i k : ℕ) → i < n → k < width → get_or other (r.new i * width + k) empty ≡ get_or one (i * width + k) empty
