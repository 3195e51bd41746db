-- One law over all forms: what is written of any parts that a form takes is read back as these parts.
-- Assumes nothing.
use mathlib.Core.Path.{◌≡◌, refl, sym, ◌∙◌, ap, ap₂}
use mathlib.Core.Bool.{Bool, true, false, not, ◌&&◌}
use mathlib.Core.List.{List, [], ◌∷◌, ◌++◌, append_assoc}
use Prim.Native.Nat.{ℕ, ◌≤◌, ◌<◌}
use native.Mathlib.Omega.{arith}
use lib.Dec.{ltb}
use Rattle.std.specs.Prelude.{Ok}
use lib.ListN.{length, get_or, drop}
use borrow.Author.Tests.{ltb-true, not-true}
use Rattle.numbers.specs.Bounded.{all_below, list_below}
use Rattle.numbers.proofs.BoolLaws.{and_left, and_right}
use Rattle.numbers.proofs.TestLaws.{all_at}
use Rattle.text.specs.Text.{line_end, word, word_by, words_by, text_below, name_text}
use Rattle.journal.specs.Token.{byte_at, ends_token}
use Rattle.journal.specs.Cursor.{read_of, most_word}
use Rattle.journal.specs.List.{list_after}
use Rattle.journal.specs.Form.{part_count, part_at, Held, held_of, held_in, bound_by, count_by, greatest_by, part_by}
use Rattle.journal.specs.Form.{list_part, part_after, parts_after, form_after, Takes, list_text, part_text_by}
use Rattle.journal.specs.Form.{part_text}
use Rattle.journal.specs.declared.form.Kind.{Kind}
use Rattle.journal.specs.declared.form.Kind.TheVariants.{Nothing, Number, List as Words, Signed, Length}
use Rattle.journal.specs.declared.form.Part.{Part}
use Rattle.journal.proofs.TextLaws.{line_gap, Ends, gap_ends, Plain}
use Rattle.journal.proofs.StandsLaws.{ReadStands, word_ends, number_stands, count_stands, list_stands, texts_stand}

-- whether a name is one token
unfoldable pub plain_test : List ℕ → Bool
plain_test name = ltb 0 (length name) && all_below (length name) (λ i. not (ends_token (byte_at name i)))

-- whether the names that a form shows are one token each
abbrev shown_test : Kind → List ℕ → Bool
shown_test Nothing name = true
shown_test (Number most) name = true
shown_test (Words longest most) name = plain_test (name_text name)
shown_test (Signed longest) name = plain_test (name_text name)
shown_test (Length longest) name = plain_test (name_text name)

unfoldable pub names_plain : List Part → Bool
names_plain form = all_below part_count (λ k. shown_test (part_at form k).1 (part_at form k).0)

pub plain_of : (name : List ℕ) → plain_test name ≡ true → Plain name
unfolding plain_test
plain_of name h =
    record {
      some = ltb-true 0 (length name) (and_left (ltb 0 (length name)) _ h);
      plain = λ i p. not-true _
          (all_at (length name) (λ j. not (ends_token (byte_at name j))) (and_right (ltb 0 (length name)) _ h) i p);
    }

no_words : (words : List ℕ) → length words ≡ 0 → words ≡ []
no_words [] e = refl
no_words (x ∷ words) e = absurd (omega arith)

-- a list's text with what stands after it
list_tail : (name : List ℕ) (signed : Bool) (number : ℕ) (words tail : List ℕ) →
    list_text name signed number words ++ tail ≡ line_end ∷ (name_text name ++ (word_by false number
    ++ (words_by signed words ++ tail)))
unfolding list_text word_by
list_tail name signed number words tail =
    ap (λ (text : List ℕ). line_end ∷ text)
    (append_assoc (name_text name ++ word number) (words_by signed words) tail
    ∙ append_assoc (name_text name) (word number) (words_by signed words ++ tail))

-- a part's text ends the token before it, where what stands after it does
pub part_ends : (part : Part) (held : Held) (tail : List ℕ) → Ends tail → Ends (part_text part held ++ tail)
unfolding part_text word_by
part_ends part held tail e = go part.1
  where
    line : (signed : Bool) → Ends (list_text part.0 signed held.number held.words ++ tail)
    line signed = rw (list_tail part.0 signed held.number held.words tail) (gap_ends line_end _ line_gap)

    go : (kind : Kind) → Ends (part_text_by kind part.0 held ++ tail)
    go Nothing = e
    go (Number most) = word_ends false held.number tail
    go (Words longest most) = line false
    go (Signed longest) = line true
    go (Length longest) = line false

none_tail : {words tail : List ℕ} → words ≡ [] → words_by false words ++ tail ≡ tail
unfolding words_by text_below
none_tail e = rw e refl

-- a part that stands in a text is read as what it holds
module _ (held : Held) (name text : List ℕ) (at : ℕ) (tail : List ℕ) (e : Ends tail)
    (short : held.number ≤ most_word)
    (small : (i : ℕ) → i < length held.words → get_or held.words i 0 ≤ most_word) where
  list_back : (longest : ℕ) (signed : Bool) (most : ℕ) → plain_test (name_text name) ≡ true → held.number ≤ longest →
      length held.words ≡ held.number →
      ((i : ℕ) → i < length held.words → get_or held.words i 0 ≤ most) →
      drop at text ≡ list_text name signed held.number held.words ++ tail →
      ReadStands text (list_part (list_after text at (name_text name) longest signed most)) held tail
  list_back longest signed most s b count w a =
      let read = list_stands text at (name_text name) (plain_of (name_text name) s) longest signed most held.words
      tail (rw count b) (rw count short) w small e
      (rw count (a ∙ list_tail name signed held.number held.words tail)) in
      record { next = read.next; read = rw (read.read, count) refl; after = read.after }

  part_back : (kind : Kind) → shown_test kind name ≡ true → held.number ≤ bound_by kind →
      length held.words ≡ count_by kind held.number →
      ((i : ℕ) → i < length held.words → get_or held.words i 0 ≤ greatest_by kind) →
      drop at text ≡ part_text_by kind name held ++ tail →
      ReadStands text (part_by kind (name_text name) text at) held tail
  unfolding word_by
  part_back Nothing s b c w a =
      let none : held_of 0 [] ≡ held = ap₂ held_of (omega (arith, b)) (sym (no_words held.words c)) in
      record { next = at; read = ap (λ h. Ok (read_of h at)) none; after = a }
  part_back (Number most) s b c w a =
      let read = number_stands text at false held.number most tail b short e a in
      record { next = read.next; read = rw (read.read, no_words held.words c) refl; after = read.after }
  part_back (Words longest most) s b c w a = list_back longest false most s b c w a
  part_back (Signed longest) s b c w a = list_back longest true most_word s b c w a
  part_back (Length longest) s b c w a =
      let none : held.words ≡ [] = no_words held.words c in
      let read = count_stands text at (name_text name) (plain_of (name_text name) s) longest held.number tail b
      short e
      (a ∙ list_tail name false held.number held.words tail
      ∙ ap (λ (rest : List ℕ). line_end ∷ (name_text name ++ (word held.number ++ rest))) (none_tail none)) in
      record {
        next = read.next;
        read = rw read.read (ap (λ words. Ok (read_of (held_of held.number words) read.next)) (sym none));
        after = read.after;
      }

-- the parts of a form that stand in a text are read as what they hold
module _ (form : List Part) (parts : List Held) (text : List ℕ) (at : ℕ) (tail : List ℕ) where
  pub form_back : names_plain form ≡ true → ((k : ℕ) → k < part_count → Takes (part_at form k) (held_in parts k)) →
      Ends tail →
      drop at text ≡ text_below part_count (λ k. part_text (part_at form k) (held_in parts k)) ++ tail →
      ReadStands text (form_after form text at) (list_below part_count (held_in parts)) tail
  unfolding form_after parts_after part_after part_text names_plain
  form_back shows takes e s =
      texts_stand (λ k. part_text (part_at form k) (held_in parts k))
      (λ k rest b. part_ends (part_at form k) (held_in parts k) rest b) text at
      (λ k from. part_after (part_at form k) text from) (held_in parts) part_count tail
      (λ k p from rest b a. let t = takes k p in part_back (held_in parts k) (part_at form k).0 text from rest b t.short
      t.small (part_at form k).1 (all_at part_count (λ j. shown_test (part_at form j).1 (part_at form j).0) shows k p)
      t.number t.counted t.words a) e s
