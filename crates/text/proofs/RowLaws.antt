-- A column in a row, and numbers as a line: none, and a first one before the others. Assumes nothing.
use mathlib.Core.Path.{◌≡◌, refl}
use mathlib.Core.List.{List, [], ◌∷◌, ◌++◌, append-nil}
use Prim.Native.Nat.{ℕ, ◌<◌, ◌≤◌}
use native.Mathlib.Omega.{arith}
use lib.ListN.{length, get_or}
use Rattle.std.specs.List.{IsFirstAndRest}
use Rattle.std.proofs.lemmas.List.{drop_more, drop_all}
use Rattle.text.specs.Row.{column_text, numbers_line}
use Rattle.text.specs.Text.{blank, line_end, words_text}

module _ {A : Type 0} (shown : A → List ℕ) where
  pub column_some : (column : List A) (i : ℕ) (d : A) → i < length column →
      column_text shown column i ≡ blank ∷ shown (get_or column i d)
  unfolding column_text words_text
  column_some column i d p = rw (drop_more column i d p) (append-nil (blank ∷ shown (get_or column i d)))

  pub column_over : (column : List A) (i : ℕ) → length column ≤ i → column_text shown column i ≡ []
  unfolding column_text words_text
  column_over column i p = rw (drop_all i column p)

  pub line_none : (numbers : List A) → length numbers ≡ 0 → numbers_line shown numbers ≡ line_end ∷ []
  unfolding numbers_line
  line_none [] p = refl
  line_none (first ∷ rest) p = absurd (omega (arith, p))

  pub line_some : (numbers : List A) (first : A) (rest : List A) → IsFirstAndRest numbers first rest →
      numbers_line shown numbers ≡ shown first ++ words_text shown rest ++ line_end ∷ []
  unfolding numbers_line
  line_some numbers first rest split = rw split.0
