-- Lists of a journal: "A list is its name, its count K and K numbers". Assumes nothing.
use Rattle.std.specs.Prelude.{Bool, false, ◌≡◌, List, ◌++◌, ℕ, length, drop, Ok, Err}
use Rattle.numbers.specs.Bounded.{list_below}
use Rattle.journal.specs.Cursor.{Reading, read_of, and_then, reads_below, word_after, number_after}
use Rattle.journal.specs.declared.cursor.Read.{Read}
use Rattle.journal.specs.declared.list.BrokenPart.{BrokenPart}

-- so many numbers, none above the most
unfoldable pub numbers_after : ℕ → List ℕ → ℕ → Bool → ℕ → Reading (List ℕ)
numbers_after count text at signed most = reads_below count (λ k from. number_after text from signed most) at

-- number k of them; 0 where it cannot be read
abbrev pub value_or_zero : Reading ℕ → ℕ
value_or_zero (Ok read) = read.value
value_or_zero (Err broken) = 0

unfoldable pub number_at : List ℕ → ℕ → Bool → ℕ → ℕ → ℕ
number_at text at signed most k =
    value_or_zero
    (and_then (numbers_after k text at signed most) (λ before. number_after text before.next signed most))

-- so many numbers, and zeros from one on that cannot be read
unfoldable pub numbers_or_zeros : ℕ → List ℕ → ℕ → Bool → ℕ → List ℕ
numbers_or_zeros count text at signed most = list_below count (number_at text at signed most)

-- a list's name and its count, which is not above the longest
unfoldable pub count_after : List ℕ → ℕ → List ℕ → ℕ → Reading ℕ
count_after text at name longest = and_then (word_after text at name) (λ next. number_after text next false longest)

-- a list: its numbers
unfoldable pub list_after : List ℕ → ℕ → List ℕ → ℕ → Bool → ℕ → Reading (List ℕ)
list_after text at name longest signed most =
    and_then (count_after text at name longest)
    (λ count. numbers_after count.value text count.next signed most)

-- a list that was read: its count, and its numbers first in the lent words
pub record ListFollows (text : List ℕ) (at : ℕ) (name : List ℕ) (longest : ℕ) (signed : Bool) (most : ℕ)
    (read : Read ℕ) (found left : List ℕ) : Type 0 where
  pub words : List ℕ
  pub after : list_after text at name longest signed most ≡ Ok (read_of words read.next)
  pub counted : read.value ≡ length words
  pub lent : left ≡ words ++ drop read.value found

-- what a broken list leaves in lent words: in its places, where its count was read, its first numbers and then zeros;
-- the others are as they were found
abbrev pub left_by_count : Reading ℕ → List ℕ → Bool → ℕ → List ℕ → List ℕ
left_by_count (Ok count) text signed most found =
    numbers_or_zeros count.value text count.next signed most ++ drop count.value found
left_by_count (Err broken) text signed most found = found

unfoldable pub list_left : List ℕ → ℕ → List ℕ → ℕ → Bool → ℕ → List ℕ → List ℕ
list_left text at name longest signed most found =
    left_by_count (count_after text at name longest) text signed most found

-- a list that is broken: the byte, and its count where that was read
pub record ListBroken (text : List ℕ) (at : ℕ) (name : List ℕ) (longest : ℕ) (signed : Bool) (most : ℕ)
    (part : BrokenPart) (found left : List ℕ) : Type 0 where
  pub after : list_after text at name longest signed most ≡ Err part.broken
  pub counted : part.number ≡ value_or_zero (count_after text at name longest)
  pub lent : left ≡ list_left text at name longest signed most found
