-- Reading on from a place in a journal: the next word or number. Assumes nothing.
use Rattle.std.specs.Prelude.{Bool, cond, List, [], ◌∷◌, ◌++◌, ℕ, zero, suc, ◌^◌, ◌-◌, leb, Result, Ok, Err}
use Rattle.std.specs.Prelude.{Option, Some, None, bytes_eq}
use Rattle.journal.specs.Token.{token_after, bytes_of}
use Rattle.journal.specs.Number.{reading_in}
use Rattle.journal.specs.declared.token.Token.{Token}
use Rattle.journal.specs.declared.cursor.Unreadable.{Unreadable}
use Rattle.journal.specs.declared.cursor.Read.{Read}

-- "journal error at byte B, B being where the token starts"
abbrev pub unreadable : ℕ → Unreadable
unreadable at = record { 0 = at }

-- what was read, and how far the text is read with it
abbrev pub read_of : {A : Type 0} → A → ℕ → Read A
read_of value next = record { value = value; next = next }

-- that, or the byte of what cannot be read
abbrev pub Reading : Type 0 → Type 0
Reading A = Result (Read A) Unreadable

-- one reading after another: where the first cannot be read, nothing is read after it
abbrev pub and_then : {A B : Type 0} → Result A Unreadable → (A → Result B Unreadable) → Result B Unreadable
and_then (Ok read) later = later read
and_then (Err broken) later = Err broken

-- what was read, as something else
abbrev pub map_read : {A B : Type 0} → (A → B) → Reading A → Reading B
map_read f reading = and_then reading (λ read. Ok (read_of (f read.value) read.next))

-- so many readings from a place on, reading k from where the one before it ends
unfoldable pub reads_below : {A : Type 0} → ℕ → (ℕ → ℕ → Reading A) → ℕ → Reading (List A)
reads_below zero readings at = Ok (read_of [] at)
reads_below (suc k) readings at =
    and_then (reads_below k readings at)
    (λ before. map_read (λ last. before.value ++ (last ∷ [])) (readings k before.next))

-- what a token is read as
abbrev pub token_read : {A : Type 0} → Token → Option A → Reading A
token_read token (Some value) = Ok (read_of value token.end)
token_read token None = Err (unreadable token.start)

-- how far the text is read with the next token, which is the given word; "where the text ends too early B is its
-- length"
unfoldable pub word_after : List ℕ → ℕ → List ℕ → Result ℕ Unreadable
word_after text at word =
    let token = token_after text at in
    cond (bytes_eq (bytes_of text token) word) (Ok token.end) (Err (unreadable token.start))

-- a number that is not above the most
abbrev pub at_most : Option ℕ → ℕ → Option ℕ
at_most (Some value) most = cond (leb value most) (Some value) None
at_most None most = None

-- the next token is a number, signed or not, that is not above the most
unfoldable pub number_after : List ℕ → ℕ → Bool → ℕ → Reading ℕ
number_after text at signed most =
    let token = token_after text at in
    token_read token (at_most (reading_in signed (bytes_of text token)) most)

-- any number that fits 64 bits
abbrev pub most_word : ℕ
most_word = 2 ^ 64 - 1
