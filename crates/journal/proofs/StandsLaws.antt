-- Words, numbers and lists that stand in a text after a cursor are read as what they write. Assumes nothing.
use mathlib.Core.Path.{◌≡◌, refl, ◌∙◌, ap}
use mathlib.Core.Bool.{Bool, true, false, cond}
use mathlib.Core.List.{List, ◌∷◌, ◌++◌, append_assoc}
use Prim.Native.Nat.{ℕ, zero, suc, ◌<◌, ◌≤◌}
use native.Mathlib.Omega.{arith}
use lib.ListN.{length, get_or, drop}
use lib.Seq.{ext_get_or}
use borrow.Author.Tests.{le-leb}
use Rattle.std.specs.Prelude.{Result, Ok}
use Rattle.std.proofs.lemmas.Slice.Eq.{bytes_eq-Decides}
use Rattle.numbers.specs.Bounded.{list_below}
use Rattle.numbers.proofs.ListLaws.{list_length, list_at}
use Rattle.text.specs.Text.{blank, line_end, decimal, signed_decimal, word, word_by, words_by, text_below}
use Rattle.journal.specs.Token.{token_after}
use Rattle.journal.specs.Cursor.{read_of, Reading, reads_below, most_word, word_after, number_after}
use Rattle.journal.specs.List.{numbers_after, count_after, list_after}
use Rattle.journal.specs.declared.token.Token.{Token}
use Rattle.journal.specs.declared.cursor.Unreadable.{Unreadable}
use Rattle.journal.proofs.TextLaws.{blank_gap, line_gap, Ends, gap_ends, Plain, TokenStands, token_next}
use Rattle.journal.proofs.TextLaws.{token_after_lem, token_bytes}
use Rattle.journal.proofs.DecimalLaws.{text_token, text_in}

-- what is read from a text, and what stands after it
pub record WordStands (text : List ℕ) (reading : Result ℕ Unreadable) (tail : List ℕ) : Type 0 where
  pub next : ℕ
  pub read : reading ≡ Ok next
  pub after : drop next text ≡ tail

pub record ReadStands {A : Type 0} (text : List ℕ) (reading : Reading A) (value : A) (tail : List ℕ) : Type 0 where
  pub next : ℕ
  pub read : reading ≡ Ok (read_of value next)
  pub after : drop next text ≡ tail

-- a number's text starts with a blank
pub word_begins : (signed : Bool) (x : ℕ) → word_by signed x ≡ blank ∷ cond signed (signed_decimal x) (decimal x)
unfolding word_by word
word_begins true x = refl
word_begins false x = refl

pub word_ends : (signed : Bool) (x : ℕ) (tail : List ℕ) → Ends (word_by signed x ++ tail)
word_ends signed x tail = rw (word_begins signed x) (gap_ends blank _ blank_gap)

module _ (text : List ℕ) (at : ℕ) where
  abbrev found : Token
  found = token_after text at

  -- a name after a line end
  pub word_stands : (name tail : List ℕ) → Plain name → Ends tail → drop at text ≡ line_end ∷ (name ++ tail) →
      WordStands text (word_after text at name) tail
  unfolding word_after
  word_stands name tail p e s =
      let t : TokenStands text at name tail = token_next text at name tail p e line_end line_gap s in
      record {
        next = found.end;
        read = rw (token_bytes t, (bytes_eq-Decides name name).1 refl) refl;
        after = token_after_lem t;
      }

  -- a number after a blank
  pub number_stands : (signed : Bool) (x most : ℕ) (tail : List ℕ) → x ≤ most → x ≤ most_word → Ends tail →
      drop at text ≡ word_by signed x ++ tail → ReadStands text (number_after text at signed most) x tail
  unfolding number_after
  number_stands signed x most tail p q e s =
      let token : List ℕ = cond signed (signed_decimal x) (decimal x) in
      let t : TokenStands text at token tail = token_next text at token tail
      (text_token x (omega arith) signed) e blank blank_gap (rw (word_begins signed x) at s) in
      record {
        next = found.end;
        read = rw (token_bytes t, text_in x (omega arith) signed, le-leb x most p) refl;
        after = token_after_lem t;
      }

-- texts one after another, each read from where the one before it ends
module _ (f : ℕ → List ℕ) (begins : (i : ℕ) (tail : List ℕ) → Ends tail → Ends (f i ++ tail)) where
  pub texts_ends : (k : ℕ) (tail : List ℕ) → Ends tail → Ends (text_below k f ++ tail)
  unfolding text_below
  texts_ends zero tail e = e
  texts_ends (suc k) tail e = rw append_assoc (texts_ends k (f k ++ tail) (begins k tail e))

  pub texts_stand : {A : Type 0} (text : List ℕ) (at : ℕ) (readings : ℕ → ℕ → Reading A) (value : ℕ → A) (k : ℕ)
      (tail : List ℕ) →
      ((i : ℕ) → i < k → (from : ℕ) (rest : List ℕ) → Ends rest → drop from text ≡ f i ++ rest →
      ReadStands text (readings i from) (value i) rest) →
      Ends tail → drop at text ≡ text_below k f ++ tail →
      ReadStands text (reads_below k readings at) (list_below k value) tail
  unfolding text_below list_below reads_below
  texts_stand text at readings value zero tail read e s = record { next = at; read = refl; after = s }
  texts_stand text at readings value (suc k) tail read e s =
      let before = texts_stand text at readings value k (f k ++ tail) (λ i p. read i (omega arith)) (begins k tail e)
      (s ∙ append_assoc (text_below k f) (f k) tail) in
      let last = read k (omega arith) before.next tail e before.after in
      record { next = last.next; read = rw (before.read, last.read) refl; after = last.after }

-- a list's own values below its length
pub list_own : (l : List ℕ) → list_below (length l) (λ i. get_or l i 0) ≡ l
list_own l =
    ext_get_or 0 _ l (list_length (λ i. get_or l i 0) (length l))
    (λ i p. list_at (λ j. get_or l j 0) (length l) 0 i (omega (arith, list_length (λ j. get_or l j 0) (length l))))

-- a list after a line end: its name, its count and its words
module _ (text : List ℕ) (at : ℕ) (name : List ℕ) (plain : Plain name) (longest : ℕ) where
  pub count_stands : (k : ℕ) (rest : List ℕ) → k ≤ longest → k ≤ most_word → Ends rest →
      drop at text ≡ line_end ∷ (name ++ (word_by false k ++ rest)) →
      ReadStands text (count_after text at name longest) k rest
  unfolding count_after
  count_stands k rest p q b s =
      let named = word_stands text at name (word_by false k ++ rest) plain (word_ends false k rest) s in
      rw named.read (number_stands text named.next false k longest rest p q b named.after)

  pub list_stands : (signed : Bool) (most : ℕ) (list tail : List ℕ) → length list ≤ longest →
      length list ≤ most_word → ((i : ℕ) → i < length list → get_or list i 0 ≤ most) →
      ((i : ℕ) → i < length list → get_or list i 0 ≤ most_word) → Ends tail →
      drop at text ≡ line_end ∷ (name ++ (word_by false (length list) ++ (words_by signed list ++ tail))) →
      ReadStands text (list_after text at name longest signed most) list tail
  unfolding list_after numbers_after words_by
  list_stands signed most list tail p q few small e s =
      let g : ℕ → List ℕ = λ i. word_by signed (get_or list i 0) in
      let begins : (i : ℕ) (rest : List ℕ) → Ends rest → Ends (g i ++ rest) =
      λ i rest b. word_ends signed (get_or list i 0) rest in
      let count = count_stands (length list) (text_below (length list) g ++ tail) p q
      (texts_ends g begins (length list) tail e) s in
      let numbers = texts_stand g begins text count.next (λ i from. number_after text from signed most)
      (λ i. get_or list i 0) (length list) tail
      (λ i r from rest b t. number_stands text from signed (get_or list i 0) most rest (few i r) (small i r) b t) e
      count.after in
      record {
        next = numbers.next;
        read = rw (count.read, numbers.read) (ap (λ words. Ok (read_of words numbers.next)) (list_own list));
        after = numbers.after;
      }
