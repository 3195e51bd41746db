-- A form: the parts of a command's text in their order (docs/JOURNAL.md, "Input"), what a text holds of them, and the
-- text that is written of them. Assumes nothing.
use Rattle.std.specs.Prelude.{Bool, true, false, ◌≡◌, List, [], ◌∷◌, ◌++◌, ℕ, ◌+◌, ◌-◌, ◌≤◌, ◌<◌, length, get_or, take}
use Rattle.std.specs.Prelude.{drop, replicate, Result, Ok, Err, MatchResult}
use Prim.Native.String.{String}
use Rattle.numbers.specs.Bounded.{sum_below, list_below}
use Rattle.text.specs.Text.{bytes, line_end, word, words_by, text_below, name_text}
use Rattle.journal.specs.Cursor.{Reading, read_of, map_read, reads_below, number_after, most_word}
use Rattle.journal.specs.List.{value_or_zero, count_after, list_after, list_left}
use Rattle.journal.specs.declared.cursor.Read.{Read}
use Rattle.journal.specs.declared.cursor.Unreadable.{Unreadable}
use Rattle.journal.specs.declared.list.BrokenPart.{BrokenPart}
use Rattle.journal.specs.declared.form.BrokenForm.{BrokenForm}
use Rattle.journal.specs.declared.form.Kind.{Kind}
use Rattle.journal.specs.declared.form.Kind.TheVariants.{Nothing, Number, List as Words, Signed, Length}
use Rattle.journal.specs.declared.form.Part.{Part}
use Rattle.journal.specs.declared.form.Parts.{Parts}
use Rattle.journal.specs.declared.form.Placed.{Placed}

-- a part by its name of 12 bytes
abbrev pub part : String → Kind → Part
part name kind = record { 0 = bytes name; 1 = kind }

-- a form has at most twelve parts; past its last there is nothing
abbrev pub part_count : ℕ
part_count = 12

abbrev pub nothing : Part
nothing = part "            " Nothing

abbrev pub part_at : List Part → ℕ → Part
part_at form k = get_or form k (record { 0 = []; 1 = Nothing })

-- what a part holds: a number, or a list and how many words it has
pub record Held : Type 0 where
  pub number : ℕ
  pub words : List ℕ

abbrev pub held_of : ℕ → List ℕ → Held
held_of number words = record { number = number; words = words }

abbrev pub held_in : List Held → ℕ → Held
held_in parts k = get_or parts k (held_of 0 [])

-- the greatest number that a part takes
abbrev pub bound_by : Kind → ℕ
bound_by Nothing = 0
bound_by (Number most) = most
bound_by (Words longest most) = longest
bound_by (Signed longest) = longest
bound_by (Length longest) = longest

abbrev pub bound_of : Part → ℕ
bound_of part = bound_by part.1

-- how many words a part of a number has: a list as many as its number, the other parts none
abbrev pub count_by : Kind → ℕ → ℕ
count_by Nothing number = 0
count_by (Number most) number = 0
count_by (Words longest most) number = number
count_by (Signed longest) number = number
count_by (Length longest) number = 0

abbrev pub count_of : Part → ℕ → ℕ
count_of part number = count_by part.1 number

-- how many it may have
abbrev pub room_of : Part → ℕ
room_of part = count_of part (bound_of part)

-- where the words of part k are read to: after the longest lists before it
unfoldable pub place_of : List Part → ℕ → ℕ
place_of form k = sum_below k (λ j. room_of (part_at form j))

-- what a text holds of a part from a place on, and how far it is read with it
abbrev pub number_part : Reading ℕ → Reading Held
number_part reading = map_read (λ number. held_of number []) reading

abbrev pub list_part : Reading (List ℕ) → Reading Held
list_part reading = map_read (λ words. held_of (length words) words) reading

abbrev pub part_by : Kind → List ℕ → List ℕ → ℕ → Reading Held
part_by Nothing name text at = Ok (read_of (held_of 0 []) at)
part_by (Number most) name text at = number_part (number_after text at false most)
part_by (Words longest most) name text at = list_part (list_after text at name longest false most)
part_by (Signed longest) name text at = list_part (list_after text at name longest true most_word)
part_by (Length longest) name text at = number_part (count_after text at name longest)

unfoldable pub part_after : Part → List ℕ → ℕ → Reading Held
part_after part text at = part_by part.1 (name_text part.0) text at

-- of the first k parts
unfoldable pub parts_after : ℕ → List Part → List ℕ → ℕ → Reading (List Held)
parts_after k form text at = reads_below k (λ j from. part_after (part_at form j) text from) at

-- of all parts
unfoldable pub form_after : List Part → List ℕ → ℕ → Reading (List Held)
form_after form text at = parts_after part_count form text at

-- the number of part k, and where its words start and end in the lent ones
abbrev pub placed : ℕ → ℕ → ℕ → Placed
placed number start end = record { number = number; start = start; end = end }

abbrev pub placed_none : Placed
placed_none = placed 0 0 0

abbrev pub placed_at : Parts → ℕ → Placed
placed_at parts k = get_or parts.0 k placed_none

abbrev pub number_of : Parts → ℕ → ℕ
number_of parts k = (placed_at parts k).number

abbrev pub start_of : Parts → ℕ → ℕ
start_of parts k = (placed_at parts k).start

abbrev pub end_of : Parts → ℕ → ℕ
end_of parts k = (placed_at parts k).end

abbrev pub words_in : Parts → List ℕ → ℕ → List ℕ
words_in parts words k = take (end_of parts k - start_of parts k) (drop (start_of parts k) words)

-- what the first k parts hold, and all of them
unfoldable pub parts_below : ℕ → Parts → List ℕ → List Held
parts_below k parts words = list_below k (λ j. held_of (number_of parts j) (words_in parts words j))

unfoldable pub parts_in : Parts → List ℕ → List Held
parts_in parts words = parts_below part_count parts words

-- parts as a form has them: numbers that it takes, and as many words as they say, within the lent ones
pub record FormHeld (form : List Part) (parts : Parts) (size : ℕ) : Type 0 where
  pub bounded : (k : ℕ) → k < part_count → number_of parts k ≤ bound_of (part_at form k)
  pub counted : (k : ℕ) → k < part_count →
      end_of parts k ≡ start_of parts k + count_of (part_at form k) (number_of parts k)
  pub within : (k : ℕ) → k < part_count → end_of parts k ≤ size

-- the greatest word of a part's list
abbrev pub greatest_by : Kind → ℕ
greatest_by Nothing = 0
greatest_by (Number most) = 0
greatest_by (Words longest most) = most
greatest_by (Signed longest) = most_word
greatest_by (Length longest) = 0

-- what a part takes: a number up to its bound, and as many words as it says, each up to the greatest, all of 64 bits
pub record Takes (part : Part) (held : Held) : Type 0 where
  pub number : held.number ≤ bound_of part
  pub short : held.number ≤ most_word
  pub counted : length held.words ≡ count_of part held.number
  pub words : (i : ℕ) → i < length held.words → get_or held.words i 0 ≤ greatest_by part.1
  pub small : (i : ℕ) → i < length held.words → get_or held.words i 0 ≤ most_word

-- a part that was read: its number, and its words first in the lent ones
pub record PartFollows (part : Part) (text : List ℕ) (at : ℕ) (read : Read ℕ) (found left : List ℕ) : Type 0 where
  pub words : List ℕ
  pub after : part_after part text at ≡ Ok (read_of (held_of read.value words) read.next)
  pub lent : left ≡ words ++ drop (count_of part read.value) found

-- what a broken part leaves in lent words: a list as it does, the other parts what was found
abbrev pub left_by : Kind → List ℕ → List ℕ → ℕ → List ℕ → List ℕ
left_by Nothing name text at found = found
left_by (Number most) name text at found = found
left_by (Words longest most) name text at found = list_left text at name longest false most found
left_by (Signed longest) name text at found = list_left text at name longest true most_word found
left_by (Length longest) name text at found = found

unfoldable pub part_left : Part → List ℕ → ℕ → List ℕ → List ℕ
part_left part text at found = left_by part.1 (name_text part.0) text at found

-- the number of a broken part: of a list its count where that was read, of the others none
abbrev pub number_by : Kind → List ℕ → List ℕ → ℕ → ℕ
number_by Nothing name text at = 0
number_by (Number most) name text at = 0
number_by (Words longest most) name text at = value_or_zero (count_after text at name longest)
number_by (Signed longest) name text at = value_or_zero (count_after text at name longest)
number_by (Length longest) name text at = 0

unfoldable pub number_left : Part → List ℕ → ℕ → ℕ
number_left part text at = number_by part.1 (name_text part.0) text at

-- a reading of a number alone, as that of a part
abbrev pub numberless : Reading ℕ → Result (Read ℕ) BrokenPart
numberless (Ok read) = Ok read
numberless (Err broken) = Err (record { broken = broken; number = 0 })

-- a part that is broken
pub record PartBroken (part : Part) (text : List ℕ) (at : ℕ) (left_part : BrokenPart) (found left : List ℕ) : Type 0
  where
    pub after : part_after part text at ≡ Err left_part.broken
    pub number : left_part.number ≡ number_left part text at
    pub lent : left ≡ part_left part text at found

-- a form that was read: its parts, and how far the text is read
pub record FormFollows (form : List Part) (text : List ℕ) (at : ℕ) (read : Read Parts) (words : List ℕ) : Type 0 where
  pub after : form_after form text at ≡ Ok (read_of (parts_in read.value words) read.next)
  pub held : FormHeld form read.value (length words)

-- a form that is broken: the parts before the broken one were read, and their words stand in the lent ones; from the
-- broken one's place on stands what it leaves of the words that were lent; the parts after it hold nothing
pub record FormBroken (form : List Part) (text : List ℕ) (at : ℕ) (broken : BrokenForm) (found words : List ℕ) : Type 0
  where
    pub after : form_after form text at ≡ Err broken.broken
    pub k : ℕ
    pub next : ℕ
    pub before : parts_after k form text at ≡ Ok (read_of (parts_below k broken.parts words) next)
    pub held : FormHeld form broken.parts (length words)
    pub placed : (j : ℕ) → j ≤ k → start_of broken.parts j ≡ place_of form j
    pub here : PartBroken (part_at form k) text next
        (record { broken = broken.broken; number = number_of broken.parts k }) (drop (place_of form k) found)
        (drop (place_of form k) words)
    pub rest : (j : ℕ) → k < j → placed_at broken.parts j ≡ placed_none

-- a form that is read from where a reading ended: after a broken one nothing is read, and the lent words stay
abbrev pub FormRead : List Part → List ℕ → Result ℕ Unreadable → Result (Read Parts) BrokenForm → List ℕ → List ℕ →
    Type 0
FormRead form text (Ok at) result found words =
    MatchResult result (λ read. FormFollows form text at read words)
    (λ broken. FormBroken form text at broken found words)
FormRead form text (Err broken) result found words =
    (result ≡ Err (record { broken = broken; parts = record { 0 = replicate part_count placed_none } }))
    × (words ≡ found)

-- a list or a length on a line of its own
unfoldable pub list_text : List ℕ → Bool → ℕ → List ℕ → List ℕ
list_text name signed number words = line_end ∷ name_text name ++ word number ++ words_by signed words

-- the text of a part
abbrev pub part_text_by : Kind → List ℕ → Held → List ℕ
part_text_by Nothing name held = []
part_text_by (Number most) name held = word held.number
part_text_by (Words longest most) name held = list_text name false held.number held.words
part_text_by (Signed longest) name held = list_text name true held.number held.words
part_text_by (Length longest) name held = list_text name false held.number held.words

unfoldable pub part_text : Part → Held → List ℕ
part_text part held = part_text_by part.1 part.0 held

-- "N LAST FIXED MONTH DAY OLDER on the first line, then a line each": the text of a command by its name
unfoldable pub form_text : List ℕ → List Part → List Held → List ℕ
form_text name form parts =
    name_text name ++ text_below part_count (λ k. part_text (part_at form k) (held_in parts k)) ++ line_end ∷ []
