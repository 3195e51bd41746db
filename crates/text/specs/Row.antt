-- A row is columns of lists. Assumes nothing.
use Rattle.std.specs.Prelude.{List, [], ◌∷◌, ◌++◌, ℕ, ◌*◌, ◌/◌, min, length, take, drop}
use Rattle.numbers.specs.Sizes.{most_distributors}
use Rattle.text.specs.Text.{line_end, decimal, words_text, text_below}

-- a column's number in row i, where it has one
unfoldable pub column_text : {A : Type 0} → (A → List ℕ) → List A → ℕ → List ℕ
column_text shown column i = words_text shown (take 1 (drop i column))

-- row i: its number, its numbers of a list, and its number of a column
unfoldable pub row_text : {A B : Type 0} → (A → List ℕ) → (B → List ℕ) → ℕ → List A → List B → List ℕ
row_text shown column_shown i numbers column =
    decimal i ++ words_text shown numbers ++ column_text column_shown column i ++ line_end ∷ []

-- row i of a list, each of whose rows has `width` numbers
abbrev pub row_of : {A B : Type 0} → (A → List ℕ) → (B → List ℕ) → List A → ℕ → List B → ℕ → List ℕ
row_of shown column_shown list width column i =
    row_text shown column_shown i (take width (drop (i * width) list)) column

-- a row for each `width` numbers of the list, which are those of a distributor: for no more than the most
unfoldable pub rows_text : {A B : Type 0} → (A → List ℕ) → (B → List ℕ) → List A → ℕ → List B → List ℕ
rows_text shown column_shown list width column =
    text_below (min (length list / width) most_distributors) (row_of shown column_shown list width column)

-- numbers as a line, a blank between any two
unfoldable pub numbers_line : {A : Type 0} → (A → List ℕ) → List A → List ℕ
numbers_line shown [] = line_end ∷ []
numbers_line shown (first ∷ rest) = shown first ++ words_text shown rest ++ line_end ∷ []
