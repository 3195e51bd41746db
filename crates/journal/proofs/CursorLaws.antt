-- Laws of reading on in a text: reading after reading, how far it reaches, and how large a number is. Assumes nothing.
use mathlib.Core.Path.{◌≡◌, refl, ◌∙◌}
use mathlib.Core.Bool.{Bool, true, false, cond}
use mathlib.Core.List.{List, [], ◌∷◌, ◌++◌}
use Prim.Native.Nat.{ℕ, zero, suc, ◌+◌, ◌≤◌, ◌<◌}
use native.Mathlib.Numerals.{add-one}
use native.Mathlib.Omega.{arith}
use native.Mathlib.Decide.{ℕ_discrete}
use lib.Dec.{leb}
use lib.ListN.{length, length-append}
use borrow.Author.Tests.{leb-true}
use Rattle.std.specs.Prelude.{Result, Ok, Err, Option, Some, None, IfOk, MatchResult, bytes_eq}
use Rattle.journal.specs.Token.{token_after, bytes_of}
use Rattle.journal.specs.Number.{reading_in}
use Rattle.journal.specs.Cursor.{unreadable, read_of, Reading, and_then, reads_below, token_read, word_after}
use Rattle.journal.specs.Cursor.{at_most, number_after}
use Rattle.journal.specs.declared.token.Token.{Token}
use Rattle.journal.specs.declared.cursor.Unreadable.{Unreadable}
use Rattle.journal.proofs.TokenLaws.{token_ordered, token_within, token_inside, token_later}

-- what holds of what was read, and that the byte which is told where a reading is broken lies within the text
abbrev pub ReadWithin : {A : Type 0} → List ℕ → Result A Unreadable → (A → Type 0) → Type 0
ReadWithin text reading P = MatchResult reading P (λ broken. broken.0 ≤ length text)

-- either after two readings
pub within_then : {A B : Type 0} (text : List ℕ) (first : Result A Unreadable) (later : A → Result B Unreadable)
    (P : A → Type 0) (Q : B → Type 0) → ReadWithin text first P →
    ((x : A) → P x → ReadWithin text (later x) Q) → ReadWithin text (and_then first later) Q
within_then text (Ok x) later P Q h k = k x h
within_then text (Err broken) later P Q h k = h

-- what holds of what was read alone
pub if_then : {A B : Type 0} (first : Result A Unreadable) (later : A → Result B Unreadable) (P : A → Type 0)
    (Q : B → Type 0) → IfOk first P → ((x : A) → P x → IfOk (later x) Q) → IfOk (and_then first later) Q
if_then (Ok x) later P Q h k = k x h
if_then (Err broken) later P Q h k = tt

pub if_any : {A : Type 0} (reading : Result A Unreadable) → IfOk reading (λ _. Unit {0})
if_any (Ok x) = tt
if_any (Err broken) = tt

-- the readings below a bound: none, one more, and one that is broken
module _ {A : Type 0} (readings : ℕ → ℕ → Reading A) (at : ℕ) where
  pub reads_none : reads_below 0 readings at ≡ Ok (read_of [] at)
  unfolding reads_below
  reads_none = refl

  module _ {k : ℕ} {values : List A} {next : ℕ} (h : reads_below k readings at ≡ Ok (read_of values next)) where
    pub reads_more : {value : A} {last : ℕ} → readings k next ≡ Ok (read_of value last) →
        reads_below (k + 1) readings at ≡ Ok (read_of (values ++ (value ∷ [])) last)
    unfolding reads_below
    reads_more e = rw (add-one, h, e) refl

    pub reads_broken : {broken : Unreadable} → readings k next ≡ Err broken → (j : ℕ) → k < j →
        reads_below j readings at ≡ Err broken
    unfolding reads_below
    reads_broken e zero p = absurd (omega arith)
    reads_broken {broken} e (suc j) p = go (λ q. reads_broken e j q) (ℕ_discrete k j)
      where
        go : (k < j → reads_below j readings at ≡ Err broken) → Dec (k ≡ j) →
            reads_below (suc j) readings at ≡ Err broken
        go before (yes same) = rw (← same, h, e) refl
        go before (no other) = rw (before (omega arith)) refl

-- what holds of where each reading ends, if it is so of the place before
pub reads_keep : {A : Type 0} (text : List ℕ) (P : ℕ → Type 0) (k : ℕ) (readings : ℕ → ℕ → Reading A) →
    ((j from : ℕ) → P from → ReadWithin text (readings j from) (λ read. P read.next)) → (at : ℕ) → P at →
    ReadWithin text (reads_below k readings at) (λ read. P read.next)
unfolding reads_below
reads_keep text P zero readings keep at p = p
reads_keep text P (suc k) readings keep at p =
    within_then text (reads_below k readings at) _ (λ read. P read.next) _ (reads_keep text P k readings keep at p)
    (λ before q. within_then text (readings k before.next) _ (λ read. P read.next) _ (keep k before.next q)
    (λ last r. r))

-- there are as many
pub reads_length : {A : Type 0} (k : ℕ) (readings : ℕ → ℕ → Reading A) (at : ℕ) →
    IfOk (reads_below k readings at) (λ read. length read.value ≡ k)
unfolding reads_below
reads_length zero readings at = refl
reads_length (suc k) readings at =
    if_then (reads_below k readings at) _ (λ read. length read.value ≡ k) _ (reads_length k readings at)
    (λ before e. if_then (readings k before.next) _ (λ _. Unit {0}) _ (if_any (readings k before.next))
    (λ last r. length-append before.value _ ∙ omega (arith, e)))

-- a place past another, within the text
pub record Past (text : List ℕ) (place next : ℕ) : Type 0 where
  pub within : next ≤ length text
  pub later : place ≤ next

-- so is the place after one more word or number
module _ {text : List ℕ} {place at : ℕ} (o : Past text place at) where
  abbrev token : Token
  token = token_after text at

  past_read : Past text place token.end
  past_read = record {
    within = token_within text at;
    later = omega (arith, o.later, token_later text at o.within, token_ordered text at);
  }

  pub then_word : (word : List ℕ) → ReadWithin text (word_after text at word) (Past text place)
  unfolding word_after
  then_word word = go (bytes_eq (bytes_of text token) word)
    where
      go : (same : Bool) → ReadWithin text (cond same (Ok token.end) (Err (unreadable token.start))) (Past text place)
      go true = past_read
      go false = token_inside text at

  pub then_number : (signed : Bool) (most : ℕ) →
      ReadWithin text (number_after text at signed most) (λ read. Past text place read.next)
  unfolding number_after
  then_number signed most = go (at_most (reading_in signed (bytes_of text token)) most)
    where
      go : (reading : Option ℕ) → ReadWithin text (token_read token reading) (λ read. Past text place read.next)
      go (Some value) = past_read
      go None = token_inside text at

-- a number is not above the most
pub number_most : (text : List ℕ) (at : ℕ) (signed : Bool) (most : ℕ) →
    IfOk (number_after text at signed most) (λ read. read.value ≤ most)
unfolding number_after
number_most text at signed most =
    let next : Token = token_after text at in go next (reading_in signed (bytes_of text next))
  where
    within : (t : Token) (value : ℕ) (b : Bool) → leb value most ≡ b →
        IfOk (token_read t (cond b (Some value) None)) (λ read. read.value ≤ most)
    within t value true h = leb-true value most h
    within t value false h = tt

    go : (t : Token) (reading : Option ℕ) → IfOk (token_read t (at_most reading most)) (λ read. read.value ≤ most)
    go t (Some value) = within t value (leb value most) refl
    go t None = tt
