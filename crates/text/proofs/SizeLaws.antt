-- How long texts are at most. Assumes nothing.
use mathlib.Core.Path.{◌≡◌}
use mathlib.Core.Bool.{Bool, true, false, cond}
use mathlib.Core.List.{List, [], ◌∷◌, ◌++◌}
use Prim.Native.Nat.{ℕ, zero, suc, ◌+◌, ◌*◌, ◌-◌, ◌/◌, ◌%◌, ◌^◌, ◌≤◌, ◌<◌, min}
use native.Mathlib.Nat.{suc-mul, le_trans, mul-le-mul_right}
use native.Mathlib.Omega.{arith}
use lib.Dec.{ltb}
use lib.IntN.{ℤ, pos, negsuc}
use lib.ListN.{length, get_or, take, drop, length-append, length-take}
use Rattle.std.proofs.lemmas.List.{drop_all}
use Rattle.numbers.specs.Sizes.{most_distributors}
use Rattle.text.specs.Row.{column_text, row_text, row_of, rows_text, numbers_line}
use Rattle.text.specs.Text.{blank, digit, minus, decimal_within, decimal, integer, signed_decimal, word, word_by}
use Rattle.text.specs.Text.{words_text, text_below, words_by}

-- either of two texts
pub choice_size : (test : Bool) (a b : List ℕ) (most : ℕ) → length a ≤ most → length b ≤ most →
    length (cond test a b) ≤ most
choice_size true a b most p q = p
choice_size false a b most p q = q

digits_size : (k x : ℕ) → length (decimal_within k x) ≤ k
unfolding decimal_within
digits_size zero x = omega arith
digits_size (suc k) x =
    choice_size (ltb x 10) (digit x ∷ []) (decimal_within k (x / 10) ++ (digit (x % 10) ∷ [])) (suc k) (omega arith)
    (rw length-append (omega (arith, digits_size k (x / 10))))

pub decimal_size : (x : ℕ) → length (decimal x) ≤ 20
unfolding decimal
decimal_size x = digits_size 20 x

pub integer_size : (z : ℤ) → length (integer z) ≤ 21
unfolding integer
integer_size (pos n) = omega (arith, decimal_size n)
integer_size (negsuc n) = omega (arith, decimal_size (suc n))

signed_decimal_size : (x : ℕ) → length (signed_decimal x) ≤ 21
unfolding signed_decimal
signed_decimal_size x =
    choice_size (ltb x (2 ^ 63)) (decimal x) (minus ∷ decimal (2 ^ 64 - x)) 21
    (omega (arith, decimal_size x))
    (omega (arith, decimal_size (2 ^ 64 - x)))

pub word_size : (x : ℕ) → length (word x) ≤ 21
unfolding word
word_size x = omega (arith, decimal_size x)

pub word_by_size : (signed : Bool) (x : ℕ) → length (word_by signed x) ≤ 22
unfolding word_by
word_by_size signed x =
    choice_size signed (blank ∷ signed_decimal x) (word x) 22
    (omega (arith, signed_decimal_size x))
    (omega (arith, word_size x))

-- texts one after another, each of a size at most
pub texts_size : (k most : ℕ) (f : ℕ → List ℕ) → ((j : ℕ) → j < k → length (f j) ≤ most) →
    length (text_below k f) ≤ k * most
unfolding text_below
texts_size zero most f h = omega arith
texts_size (suc k) most f h =
    rw (length-append, suc-mul)
    (omega (arith, texts_size k most f (λ j p. h j (omega arith)), h k (omega arith)))

pub words_size : (signed : Bool) (words : List ℕ) → length (words_by signed words) ≤ length words * 22
unfolding words_by
words_size signed words =
    texts_size (length words) 22 (λ k. word_by signed (get_or words k 0))
    (λ k p. word_by_size signed (get_or words k 0))

-- numbers that are shown in 21 bytes at most
module _ {A : Type 0} (shown : A → List ℕ) (few : (x : A) → length (shown x) ≤ 21) where
  numbers_size : (numbers : List A) → length (words_text shown numbers) ≤ length numbers * 22
  unfolding words_text
  numbers_size [] = omega arith
  numbers_size (x ∷ rest) =
      simp (length-append, suc-mul)
      (omega (arith, few x, numbers_size rest))

  pub column_size : (column : List A) (i : ℕ) → length (column_text shown column i) ≤ 22
  unfolding column_text
  column_size column i =
      let one : length (take 1 (drop i column)) ≤ 1 = rw length-take (omega arith) in
      omega (arith, numbers_size (take 1 (drop i column)))

  pub numbers_line_size : (numbers : List A) → length (numbers_line shown numbers) ≤ 1 + length numbers * 22
  unfolding numbers_line
  numbers_line_size [] = omega arith
  numbers_line_size (first ∷ rest) = simp length-append (omega (arith, few first, numbers_size rest))

  -- rows, with a column whose numbers take so many bytes at most
  module _ {B : Type 0} (column_shown : B → List ℕ) (column : List B) (most : ℕ)
      (narrow : (i : ℕ) → length (column_text column_shown column i) ≤ most) where
    row_size : (i width : ℕ) (numbers : List A) → length numbers ≤ width →
        length (row_text shown column_shown i numbers column) ≤ 21 + most + width * 22
    unfolding row_text
    row_size i width numbers p =
        simp length-append
        (omega (arith, decimal_size i, numbers_size numbers, narrow i))

    pub rows_size : (list : List A) (width : ℕ) →
        length (rows_text shown column_shown list width column) ≤ most_distributors * (21 + most + width * 22)
    unfolding rows_text
    rows_size list width =
        let rows = min (length list / width) most_distributors in
        let few_rows : rows ≤ most_distributors = omega arith in
        le_trans
        (texts_size rows (21 + most + width * 22)
        (row_of shown column_shown list width column)
        (λ i p. row_size i width (take width (drop (i * width) list)) (rw length-take (omega arith))))
        (mul-le-mul_right (21 + most + width * 22) few_rows)

-- no column
pub column_none : {B : Type 0} (shown : B → List ℕ) (i : ℕ) → length (column_text shown [] i) ≤ 0
unfolding column_text words_text
column_none {B} shown i =
    let none : drop {A = B} i [] ≡ [] = drop_all i [] (omega arith) in
    rw none (omega arith)
