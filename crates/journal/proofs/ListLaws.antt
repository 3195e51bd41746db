-- Laws of a list's reading: how far it reaches, how long it is, and what is left of one that is broken.
-- Assumes nothing.
use mathlib.Core.Path.{◌≡◌, refl, sym, ◌∙◌, ap}
use mathlib.Core.Bool.{Bool, false, cond}
use mathlib.Core.List.{List, [], ◌∷◌, ◌++◌, append_assoc}
use Prim.Native.Nat.{ℕ, ◌+◌, ◌≤◌, ◌<◌}
use native.Mathlib.Numerals.{add-one}
use native.Mathlib.Omega.{arith}
use native.Mathlib.Decide.{ℕ_discrete, dec_lt}
use lib.Dec.{ltb}
use lib.ListN.{length, take, drop, set, replicate, length-append, length-drop, take-append-drop}
use lib.Seq.{length-take-le, drop-append-le}
use borrow.Author.Tests.{lt-ltb, le-ltb}
use Rattle.std.specs.Prelude.{Ok, Err, IfOk}
use Rattle.std.proofs.lemmas.Result.{IfOk-weaker}
use Rattle.numbers.specs.Bounded.{list_below, filled_below}
use Rattle.numbers.proofs.ListLaws.{list_length, list_same, filled_none, filled_next}
use Rattle.journal.specs.Cursor.{read_of, Reading, word_after, number_after}
use Rattle.journal.specs.List.{numbers_after, value_or_zero, number_at, numbers_or_zeros, count_after, list_after}
use Rattle.journal.specs.List.{left_by_count, list_left}
use Rattle.journal.specs.declared.cursor.Unreadable.{Unreadable}
use Rattle.journal.proofs.CursorLaws.{if_then, if_any, reads_none, reads_more, reads_broken, reads_keep, reads_length}
use Rattle.journal.proofs.CursorLaws.{ReadWithin, within_then, Past, then_word, then_number, number_most}

-- there are as many numbers as are read
pub numbers_length : (count : ℕ) (text : List ℕ) (at : ℕ) (signed : Bool) (most : ℕ) →
    IfOk (numbers_after count text at signed most) (λ read. length read.value ≡ count)
unfolding numbers_after
numbers_length count text at signed most = reads_length count _ at

-- a count is not above the longest, and neither is a list
module _ (text : List ℕ) (at : ℕ) (name : List ℕ) (longest : ℕ) where
  pub count_most : IfOk (count_after text at name longest) (λ read. read.value ≤ longest)
  unfolding count_after
  count_most =
      if_then (word_after text at name) _ (λ _. Unit {0}) _ (if_any (word_after text at name))
      (λ next e. number_most text next false longest)

  pub list_most : (signed : Bool) (most : ℕ) →
      IfOk (list_after text at name longest signed most) (λ read. length read.value ≤ longest)
  unfolding list_after
  list_most signed most =
      if_then (count_after text at name longest) _ (λ read. read.value ≤ longest) _ count_most
      (λ count p. IfOk-weaker (numbers_after count.value text count.next signed most) _ _
      (λ read e. omega (arith, e, p)) (numbers_length count.value text count.next signed most))

-- past a place still by a list's name and count, and by a list
module _ {text : List ℕ} {place at : ℕ} (o : Past text place at) (name : List ℕ) (longest : ℕ) where
  pub then_count : ReadWithin text (count_after text at name longest) (λ read. Past text place read.next)
  unfolding count_after
  then_count =
      within_then text (word_after text at name) _ (Past text place) _ (then_word o name)
      (λ next p. then_number p false longest)

  pub then_list : (signed : Bool) (most : ℕ) →
      ReadWithin text (list_after text at name longest signed most) (λ read. Past text place read.next)
  unfolding list_after numbers_after
  then_list signed most =
      within_then text (count_after text at name longest) _ (λ read. Past text place read.next) _ then_count
      (λ count p. reads_keep text (Past text place) count.value _ (λ j from q. then_number q signed most) count.next p)

-- a list that is filled up to a place past which the function is empty
filled_rest : {A : Type 0} (size : ℕ) (empty : A) (k : ℕ) (f : ℕ → A) →
    ((j : ℕ) → k ≤ j → j < size → f j ≡ empty) → filled_below size empty k f ≡ list_below size f
unfolding filled_below
filled_rest size empty k f rest = list_same size _ _ (λ j p. go j p (dec_lt j k))
  where
    go : (j : ℕ) → j < size → Dec (j < k) → cond (ltb j k) (f j) empty ≡ f j
    go j p (yes q) = rw (lt-ltb j k q) refl
    go j p (no q) = rw (le-ltb j k (omega arith)) (sym (rest j (omega arith) p))

-- the first k numbers are read into the first of so many places, and zeros stand in the others
pub record NumbersSoFar (text : List ℕ) (at : ℕ) (signed : Bool) (most size : ℕ) (words : List ℕ) (next k : ℕ)
    : Type 0 where
  after : numbers_after k text at signed most ≡ Ok (read_of (list_below k (number_at text at signed most)) next)
  places : words ≡ filled_below size 0 k (number_at text at signed most)

module _ {text : List ℕ} {at : ℕ} {signed : Bool} {most size : ℕ} where
  pub numbers_none : {words : List ℕ} → words ≡ replicate size 0 → NumbersSoFar text at signed most size words at 0
  unfolding numbers_after list_below
  numbers_none zeros = record {
    after = reads_none _ at;
    places = zeros ∙ filled_none size 0 (number_at text at signed most);
  }

  module _ {words : List ℕ} {next k : ℕ} (n : NumbersSoFar text at signed most size words next k) where
    -- number k is the next one that is read
    number_here : {reading : Reading ℕ} → number_after text next signed most ≡ reading →
        value_or_zero reading ≡ number_at text at signed most k
    unfolding number_at
    number_here e = rw (n.after, e) refl

    pub numbers_more : {value last : ℕ} → number_after text next signed most ≡ Ok (read_of value last) → k < size →
        NumbersSoFar text at signed most size (set words k value) last (k + 1)
    unfolding numbers_after list_below
    numbers_more {value} {last} e p = record {
      after =
          reads_more _ at n.after e
          ∙ rw add-one (ap (λ v. Ok (read_of (list_below k (number_at text at signed most) ++ (v ∷ [])) last))
          (number_here e));
      places = filled_next size 0 k _ words value p n.places (number_here e);
    }

    -- one that is broken breaks the list, and zeros stand from it on
    module _ {broken : Unreadable} (e : number_after text next signed most ≡ Err broken) where
      past_broken : (j : ℕ) → k < j → numbers_after j text at signed most ≡ Err broken
      unfolding numbers_after
      past_broken j p = reads_broken _ at n.after e j p

      zero_at : (j : ℕ) → k ≤ j → Dec (k ≡ j) → number_at text at signed most j ≡ 0
      unfolding number_at
      zero_at j p (yes same) = rw (← same) (sym (number_here e))
      zero_at j p (no other) = rw (past_broken j (omega arith)) refl

      pub numbers_broken : k < size →
          (numbers_after size text at signed most ≡ Err broken)
          × (words ≡ numbers_or_zeros size text at signed most)
      unfolding numbers_or_zeros
      numbers_broken p =
          (past_broken size p, n.places ∙ filled_rest size 0 k _ (λ j q r. zero_at j q (ℕ_discrete k j)))

  pub numbers_whole : {words : List ℕ} {next : ℕ} → NumbersSoFar text at signed most size words next size →
      numbers_after size text at signed most ≡ Ok (read_of words next)
  numbers_whole {words} {next} n =
      n.after
      ∙ ap (λ l. Ok (read_of l next)) (sym (n.places ∙ filled_rest size 0 size _ (λ j q r. absurd (omega arith))))

-- what is left of a broken list's room, with what stands after the room
pub list_left_on : (text : List ℕ) (at : ℕ) (name : List ℕ) (longest : ℕ) (signed : Bool) (most n : ℕ)
    (found : List ℕ) → longest ≤ n → n ≤ length found →
    list_left text at name longest signed most (take n found) ++ drop n found
    ≡ list_left text at name longest signed most found
unfolding list_left
list_left_on text at name longest signed most n found p q =
    go (count_after text at name longest) (count_most text at name longest)
  where
    go : (count : Reading ℕ) → IfOk count (λ read. read.value ≤ longest) →
        left_by_count count text signed most (take n found) ++ drop n found ≡ left_by_count count text signed most found
    go (Ok count) h =
        let numbers : List ℕ = numbers_or_zeros count.value text count.next signed most in
        let inside : count.value ≤ length (take n found) = rw (length-take-le n found q) (omega (arith, h)) in
        append_assoc numbers _ _
        ∙ ap (λ l. numbers ++ l)
        (sym (drop-append-le count.value (take n found) (drop n found) inside)
        ∙ ap (drop count.value) (take-append-drop n found))
    go (Err broken) h = take-append-drop n found

-- a broken list leaves as many words as were lent
pub list_left_length : (text : List ℕ) (at : ℕ) (name : List ℕ) (longest : ℕ) (signed : Bool) (most : ℕ)
    (found : List ℕ) → longest ≤ length found →
    length (list_left text at name longest signed most found) ≡ length found
unfolding list_left numbers_or_zeros
list_left_length text at name longest signed most found p =
    go (count_after text at name longest) (count_most text at name longest)
  where
    go : (count : Reading ℕ) → IfOk count (λ read. read.value ≤ longest) →
        length (left_by_count count text signed most found) ≡ length found
    go (Ok count) h =
        simp (length-append, length-drop)
        (omega (arith, h, p, list_length (number_at text count.next signed most) count.value))
    go (Err broken) h = refl
