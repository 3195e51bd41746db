-- Laws of a form's reading: part by part, how far it reaches, what each part takes, and where its words stand.
-- Assumes nothing.
use mathlib.Core.Path.{◌≡◌, refl, sym, ◌∙◌, ap, ap₂}
use mathlib.Core.Bool.{Bool, true, false}
use mathlib.Core.List.{List, [], ◌∷◌, ◌++◌, append_assoc, append-nil}
use Prim.Native.Nat.{ℕ, zero, suc, ◌+◌, ◌-◌, ◌≤◌, ◌<◌}
use native.Mathlib.Numerals.{add-one}
use native.Mathlib.Omega.{arith}
use native.Mathlib.Nat.{add-zero}
use native.Mathlib.Decide.{dec_lt}
use lib.ListN.{length, get_or, take, drop, set, replicate, length-append, length-drop, length-set, take-append-drop}
use lib.ListN.{get_or-replicate, get_or-eq_default}
use lib.Seq.{length-take-le, drop-drop, drop-append-le, take-append-le, take-append_seam, drop_at, get_or-set_same}
use lib.Seq.{get_or-set_other}
use borrow.Rule.Slice.PartMut.{put_mid, mid_len}
use Rattle.std.specs.Prelude.{Result, Ok, Err, IfOk, MatchResult}
use Rattle.std.proofs.lemmas.Slice.{drop-put_mid}
use Rattle.std.proofs.lemmas.Result.{IfOk-at_ok}
use Rattle.numbers.proofs.BoolLaws.{by_last}
use Rattle.numbers.proofs.SumLaws.{sum_step, sum_mono}
use Rattle.numbers.proofs.ListLaws.{list_at, list_same}
use Rattle.numbers.specs.Bounded.{sum_below, list_below}
use Rattle.text.specs.Text.{name_text, text_below}
use Rattle.journal.specs.Cursor.{read_of, Reading, reads_below, most_word}
use Rattle.journal.specs.List.{value_or_zero, count_after, list_after, list_left, ListFollows, ListBroken}
use Rattle.journal.specs.Form.{part_count, part_at, Held, held_of, held_in, bound_by, bound_of, count_by, count_of}
use Rattle.journal.specs.Form.{room_of, place_of, number_part, list_part, part_by, part_after, parts_after, form_after}
use Rattle.journal.specs.Form.{placed, placed_none, number_of, start_of, end_of, words_in, parts_below, parts_in}
use Rattle.journal.specs.Form.{FormHeld, left_by, part_left, number_by, number_left, numberless}
use Rattle.journal.specs.Form.{PartFollows, PartBroken, FormFollows, FormBroken}
use Rattle.journal.specs.Form.{part_text}
use Rattle.journal.specs.declared.cursor.Read.{Read}
use Rattle.journal.specs.declared.list.BrokenPart.{BrokenPart}
use Rattle.journal.specs.declared.form.Kind.{Kind}
use Rattle.journal.specs.declared.form.Kind.TheVariants.{Nothing, Number, List as Words, Signed, Length}
use Rattle.journal.specs.declared.form.Part.{Part}
use Rattle.journal.specs.declared.form.Parts.{Parts}
use Rattle.journal.specs.declared.form.Placed.{Placed}
use Rattle.journal.proofs.CursorLaws.{ReadWithin, reads_more, reads_broken, reads_keep, Past, then_number}
use Rattle.journal.proofs.CursorLaws.{number_most}
use Rattle.journal.proofs.ListLaws.{count_most, list_most, then_count, then_list, list_left_on, list_left_length}

-- of a part without words no count is left
no_count : (kind : Kind) (name text : List ℕ) (at : ℕ) → ((number : ℕ) → count_by kind number ≡ 0) →
    0 ≡ number_by kind name text at
no_count Nothing name text at none = refl
no_count (Number most) name text at none = refl
no_count (Words longest most) name text at none = absurd (omega (arith, none 1))
no_count (Signed longest) name text at none = absurd (omega (arith, none 1))
no_count (Length longest) name text at none = refl

-- a part by its kind, as the code reads it
module _ (part : Part) (text : List ℕ) (at : ℕ) (kind : Kind) (k : part.1 ≡ kind) where
  pub follows : (found : List ℕ) (reading : Reading ℕ) → number_part reading ≡ part_by kind (name_text part.0) text at →
      ((number : ℕ) → count_by kind number ≡ 0) → found ≡ left_by kind (name_text part.0) text at found →
      MatchResult (numberless reading) (λ read. PartFollows part text at read found found)
      (λ broken. PartBroken part text at broken found found)
  unfolding part_after part_left number_left
  follows found (Ok read) e none left =
      record { words = []; after = rw (k, ← e) refl; lent = rw (k, none read.value) refl }
  follows found (Err broken) e none left = record {
    after = rw (k, ← e) refl;
    number = rw k (no_count kind (name_text part.0) text at none);
    lent = rw k left;
  }

  -- a list into as many places as it may have words: where it is broken, with the number that the part leaves
  pub follows_list_left : (signed : Bool) (most : ℕ) (found left : List ℕ) (result : Result (Read ℕ) BrokenPart) →
      list_part (list_after text at (name_text part.0) (length found) signed most)
      ≡ part_by kind (name_text part.0) text at → ((number : ℕ) → count_by kind number ≡ number) →
      list_left text at (name_text part.0) (length found) signed most found
      ≡ left_by kind (name_text part.0) text at found →
      MatchResult result (λ read. ListFollows text at (name_text part.0) (length found) signed most read found left)
      (λ broken. ListBroken text at (name_text part.0) (length found) signed most broken found left) →
      MatchResult result (λ read. PartFollows part text at read found left)
      (λ broken. PartBroken part text at (record { broken = broken.broken; number = number_left part text at }) found left)
  unfolding part_after part_left
  follows_list_left signed most found left (Ok read) e whole same f =
      record {
        words = f.words;
        after = rw (k, ← e, f.after, f.counted) refl;
        lent = rw (k, whole read.value) f.lent;
      }
  follows_list_left signed most found left (Err broken) e whole same f =
      record { after = rw (k, ← e, f.after) refl; number = refl; lent = rw k (f.lent ∙ same) }

  -- with the count that the list leaves, where that is the part's number
  pub follows_list : (signed : Bool) (most : ℕ) (found left : List ℕ) (result : Result (Read ℕ) BrokenPart) →
      list_part (list_after text at (name_text part.0) (length found) signed most)
      ≡ part_by kind (name_text part.0) text at → ((number : ℕ) → count_by kind number ≡ number) →
      value_or_zero (count_after text at (name_text part.0) (length found)) ≡ number_by kind (name_text part.0) text at →
      list_left text at (name_text part.0) (length found) signed most found
      ≡ left_by kind (name_text part.0) text at found →
      MatchResult result (λ read. ListFollows text at (name_text part.0) (length found) signed most read found left)
      (λ broken. ListBroken text at (name_text part.0) (length found) signed most broken found left) →
      MatchResult result (λ read. PartFollows part text at read found left)
      (λ broken. PartBroken part text at broken found left)
  unfolding number_left
  follows_list signed most found left (Ok read) e whole count same f =
      follows_list_left signed most found left (Ok read) e whole same f
  follows_list signed most found left (Err broken) e whole count same f =
      let unread = follows_list_left signed most found left (Err broken) e whole same f in
      record { after = unread.after; number = rw k (f.counted ∙ count); lent = unread.lent }

-- past a place still by a part
then_part : {text : List ℕ} {place at : ℕ} → Past text place at → (part : Part) →
    ReadWithin text (part_after part text at) (λ read. Past text place read.next)
unfolding part_after
then_part {text} {place} {at} o part = go part.1
  where
    number : (reading : Reading ℕ) → ReadWithin text reading (λ read. Past text place read.next) →
        ReadWithin text (number_part reading) (λ read. Past text place read.next)
    number (Ok read) h = h
    number (Err broken) h = h

    list : (reading : Reading (List ℕ)) → ReadWithin text reading (λ read. Past text place read.next) →
        ReadWithin text (list_part reading) (λ read. Past text place read.next)
    list (Ok read) h = h
    list (Err broken) h = h

    go : (kind : Kind) → ReadWithin text (part_by kind (name_text part.0) text at) (λ read. Past text place read.next)
    go Nothing = o
    go (Number most) = number _ (then_number o false most)
    go (Words longest most) = list _ (then_list o (name_text part.0) longest false most)
    go (Signed longest) = list _ (then_list o (name_text part.0) longest true most_word)
    go (Length longest) = number _ (then_count o (name_text part.0) longest)

-- by the first k parts of a form
pub then_form : {text : List ℕ} {place at : ℕ} → Past text place at → (form : List Part) (k : ℕ) →
    ReadWithin text (parts_after k form text at) (λ read. Past text place read.next)
unfolding parts_after
then_form {text} {place} {at} o form k =
    reads_keep text (Past text place) k _ (λ j from p. then_part p (part_at form j)) at o

-- a part's number is one that it takes, and it has as many words as its number says
record Sized (part : Part) (held : Held) : Type 0 where
  bounded : held.number ≤ bound_of part
  counted : length held.words ≡ count_of part held.number

part_sized : (part : Part) (text : List ℕ) (at : ℕ) → IfOk (part_after part text at) (λ read. Sized part read.value)
unfolding part_after
part_sized part text at = go part.1 refl
  where
    number : (most : ℕ) (reading : Reading ℕ) → bound_of part ≡ most → ((n : ℕ) → count_of part n ≡ 0) →
        IfOk reading (λ read. read.value ≤ most) → IfOk (number_part reading) (λ read. Sized part read.value)
    number most (Ok read) b none h = record { bounded = rw b h; counted = sym (none read.value) }
    number most (Err broken) b none h = tt

    list : (longest : ℕ) (reading : Reading (List ℕ)) → bound_of part ≡ longest → ((n : ℕ) → count_of part n ≡ n) →
        IfOk reading (λ read. length read.value ≤ longest) → IfOk (list_part reading) (λ read. Sized part read.value)
    list longest (Ok read) b whole h = record { bounded = rw b h; counted = sym (whole _) }
    list longest (Err broken) b whole h = tt

    go : (kind : Kind) → part.1 ≡ kind →
        IfOk (part_by kind (name_text part.0) text at) (λ read. Sized part read.value)
    go Nothing k = record { bounded = omega arith; counted = rw k refl }
    go (Number most) k =
        number most _ (ap bound_by k) (λ n. ap (λ kind. count_by kind n) k) (number_most text at false most)
    go (Words longest most) k =
        list longest _ (ap bound_by k) (λ n. ap (λ kind. count_by kind n) k)
        (list_most text at (name_text part.0) longest false most)
    go (Signed longest) k =
        list longest _ (ap bound_by k) (λ n. ap (λ kind. count_by kind n) k)
        (list_most text at (name_text part.0) longest true most_word)
    go (Length longest) k =
        number longest _ (ap bound_by k) (λ n. ap (λ kind. count_by kind n) k)
        (count_most text at (name_text part.0) longest)

-- the number of a broken part is one that it takes
number_left_most : (part : Part) (text : List ℕ) (at : ℕ) → number_left part text at ≤ bound_of part
unfolding number_left
number_left_most part text at = go part.1
  where
    count : (longest : ℕ) (reading : Reading ℕ) → IfOk reading (λ read. read.value ≤ longest) →
        value_or_zero reading ≤ longest
    count longest (Ok read) h = h
    count longest (Err broken) h = omega arith

    go : (kind : Kind) → number_by kind (name_text part.0) text at ≤ bound_by kind
    go Nothing = omega arith
    go (Number most) = omega arith
    go (Words longest most) = count longest _ (count_most text at (name_text part.0) longest)
    go (Signed longest) = count longest _ (count_most text at (name_text part.0) longest)
    go (Length longest) = omega arith

-- a number that a part takes gives no more words than there is room for
count_room : (part : Part) (number : ℕ) → number ≤ bound_of part → count_of part number ≤ room_of part
count_room part number = go part.1
  where
    go : (kind : Kind) → number ≤ bound_by kind → count_by kind number ≤ count_by kind (bound_by kind)
    go Nothing p = omega arith
    go (Number most) p = omega arith
    go (Words longest most) p = p
    go (Signed longest) p = p
    go (Length longest) p = omega arith

-- the room of part k ends within that of the whole form
pub place_none : (form : List Part) → 0 ≡ place_of form 0
unfolding place_of sum_below
place_none form = refl

pub place_next : (form : List Part) (k : ℕ) → place_of form (k + 1) ≡ place_of form k + room_of (part_at form k)
unfolding place_of
place_next form k = sum_step k (λ j. room_of (part_at form j))

place_within : (form : List Part) (j k : ℕ) → j < k → place_of form j + room_of (part_at form j) ≤ place_of form k
unfolding place_of
place_within form j k p =
    rw (← sum_step j (λ i. room_of (part_at form i))) (sum_mono (j + 1) k (λ i. room_of (part_at form i)) (omega arith))

-- words of a list that starts with p: those within p, and those after it
within_first : (n s : ℕ) (p r : List ℕ) → s + n ≤ length p → take n (drop s (p ++ r)) ≡ take n (drop s p)
within_first n s p r h =
    ap (take n) (drop-append-le s p r (omega arith))
    ∙ take-append-le n (drop s p) r (rw length-drop (omega arith))

within_kept : (n s at : ℕ) (words r : List ℕ) → s + n ≤ at → at ≤ length words →
    take n (drop s (take at words ++ r)) ≡ take n (drop s words)
within_kept n s at words r h p =
    let long : s + n ≤ length (take at words) = rw (length-take-le at words p) h in
    within_first n s (take at words) r long
    ∙ sym (within_first n s (take at words) (drop at words) long)
    ∙ ap (λ l. take n (drop s l)) (take-append-drop at words)

after_first : (at : ℕ) (words w r z : List ℕ) → at ≤ length words →
    take (length w) (drop at (take at words ++ ((w ++ r) ++ z))) ≡ w
after_first at words w r z p =
    ap (take (length w)) (drop_at (take at words) ((w ++ r) ++ z) at (length-take-le at words p) ∙ append_assoc w r z)
    ∙ take-append_seam w (r ++ z)

abbrev pub parts_of : List Placed → Parts
parts_of list = record { 0 = list }

-- what stands there in lent words
abbrev held_by : Placed → List ℕ → Held
held_by p words = held_of p.number (take (p.end - p.start) (drop p.start words))

-- a part lies up to a place: a number that it takes, and as many words as it says
record Lies (part : Part) (p : Placed) (limit : ℕ) : Type 0 where
  bounded : p.number ≤ bound_of part
  counted : p.end ≡ p.start + count_of part p.number
  within : p.end ≤ limit

lies_on : {part : Part} {p : Placed} {limit : ℕ} → Lies part p limit → (more : ℕ) → limit ≤ more → Lies part p more
lies_on l more h = record { bounded = l.bounded; counted = l.counted; within = omega (arith, l.within) }

lies_none : (part : Part) (limit : ℕ) → Lies part placed_none limit
lies_none part limit = record { bounded = omega arith; counted = go part.1; within = omega arith }
  where
    go : (kind : Kind) → 0 ≡ 0 + count_by kind 0
    go Nothing = refl
    go (Number most) = refl
    go (Words longest most) = refl
    go (Signed longest) = refl
    go (Length longest) = refl

-- two lists that are the same from a place on are so from a later one on
drop_later : (place more : ℕ) (words found : List ℕ) → drop place words ≡ drop place found →
    drop (place + more) words ≡ drop (place + more) found
drop_later place more words found e =
    sym (drop-drop more place words) ∙ ap (drop more) e ∙ drop-drop more place found

-- what a broken part leaves of its room, with what stands after the room
part_left_on : (part : Part) (text : List ℕ) (at n : ℕ) (found : List ℕ) → room_of part ≤ n → n ≤ length found →
    part_left part text at (take n found) ++ drop n found ≡ part_left part text at found
unfolding part_left
part_left_on part text at n found p q = go part.1 p
  where
    go : (kind : Kind) → count_by kind (bound_by kind) ≤ n →
        left_by kind (name_text part.0) text at (take n found) ++ drop n found
        ≡ left_by kind (name_text part.0) text at found
    go Nothing r = take-append-drop n found
    go (Number most) r = take-append-drop n found
    go (Words longest most) r = list_left_on text at (name_text part.0) longest false most n found r q
    go (Signed longest) r = list_left_on text at (name_text part.0) longest true most_word n found r q
    go (Length longest) r = take-append-drop n found

-- and it leaves as many words as were lent
part_left_length : (part : Part) (text : List ℕ) (at : ℕ) (found : List ℕ) → room_of part ≤ length found →
    length (part_left part text at found) ≡ length found
unfolding part_left
part_left_length part text at found p = go part.1 p
  where
    go : (kind : Kind) → count_by kind (bound_by kind) ≤ length found →
        length (left_by kind (name_text part.0) text at found) ≡ length found
    go Nothing q = refl
    go (Number most) q = refl
    go (Words longest most) q = list_left_length text at (name_text part.0) longest false most found q
    go (Signed longest) q = list_left_length text at (name_text part.0) longest true most_word found q
    go (Length longest) q = refl

-- the first k parts are read, each list where the longest before it would end, and the other parts hold nothing; the
-- words from there on are as they were found
pub record FormSoFar (form : List Part) (text : List ℕ) (from : ℕ) (found : List ℕ) (parts : List Placed)
    (words : List ℕ) (at place k : ℕ) : Type 0 where
  pub long : length parts ≡ part_count
  pub standing : place ≡ place_of form k
  pub after : parts_after k form text from ≡ Ok (read_of (parts_below k (parts_of parts) words) at)
  past : drop place words ≡ drop place found
  lies : (j : ℕ) → j < k → Lies (part_at form j) (get_or parts j placed_none) place
  starts : (j : ℕ) → j < k → j < length form → (get_or parts j placed_none).start ≡ place_of form j
  rest : (j : ℕ) → k ≤ j → get_or parts j placed_none ≡ placed_none

module _ (form : List Part) (text : List ℕ) (from : ℕ) (found : List ℕ) where
  pub form_none : FormSoFar form text from found (replicate part_count placed_none) found from 0 0
  unfolding place_of sum_below parts_after reads_below parts_below list_below
  form_none = record {
    long = refl;
    standing = refl;
    after = refl;
    past = refl;
    lies = λ j p. absurd (omega arith);
    starts = λ j p q. absurd (omega arith);
    rest = λ j p. nothing_at j (dec_lt j part_count);
  }
    where
      nothing_at : (j : ℕ) → Dec (j < part_count) →
          get_or (replicate part_count placed_none) j placed_none ≡ placed_none
      nothing_at j (yes p) = get_or-replicate part_count j placed_none placed_none p
      nothing_at j (no p) = get_or-eq_default (replicate part_count placed_none) placed_none {n = j} (omega arith)

  module _ {parts : List Placed} {words : List ℕ} {at place k : ℕ}
      (f : FormSoFar form text from found parts words at place k) where
    pub form_fits : place_of form part_count ≤ length words → k < part_count →
        place + room_of (part_at form k) ≤ length words
    form_fits room p = omega (arith, f.standing, place_within form k part_count p)

    -- the words of these parts stand before the place, whatever is written after it
    below_same : (after : List Placed) (n : ℕ) (left : List ℕ) → place ≤ length words →
        ((j : ℕ) → j < k → get_or after j placed_none ≡ get_or parts j placed_none) →
        parts_below k (parts_of parts) words ≡ parts_below k (parts_of after) (put_mid place n words left)
    unfolding parts_below
    below_same after n left here same =
        list_same k _ _ (λ j r. let p : Placed = get_or parts j placed_none in let l = f.lies j r in
        ap (held_of p.number)
        (sym (within_kept (p.end - p.start) p.start place words (left ++ drop n (drop place words))
        (omega (arith, l.within, l.counted)) here))
        ∙ ap (λ q. held_by q (put_mid place n words left)) (sym (same j r)))

    module _ (p : k < part_count) (end : ℕ) (e : end ≡ place + room_of (part_at form k)) (fits : end ≤ length words)
        (left : List ℕ) where
      here : place ≤ length words
      here = omega (arith, fits, e)

      abbrev pub new : List ℕ
      new = put_mid place (end - place) words left

      -- the list of the parts when part k is placed
      module _ (number close : ℕ) where
        abbrev pub parts_with : List Placed
        parts_with = set parts k (placed number place close)

        same_before : (j : ℕ) → j < k → get_or parts_with j placed_none ≡ get_or parts j placed_none
        same_before j r = get_or-set_other parts k j (placed number place close) placed_none (λ t. absurd (omega arith))

        same_last : get_or parts_with k placed_none ≡ placed number place close
        same_last = get_or-set_same parts k (placed number place close) placed_none (omega (arith, f.long))

        same_after : (j : ℕ) → k < j → get_or parts_with j placed_none ≡ placed_none
        same_after j r =
            get_or-set_other parts k j (placed number place close) placed_none (λ t. absurd (omega arith))
            ∙ f.rest j (omega arith)

      -- a part that is broken breaks the form
      module _ {broken : BrokenPart}
          (b : PartBroken (part_at form k) text at broken (take (end - place) (drop place words)) left) where
        broken_most : broken.number ≤ bound_of (part_at form k)
        broken_most = rw b.number (number_left_most (part_at form k) text at)

        pub few_broken : place + count_of (part_at form k) broken.number ≤ end
        few_broken = omega (arith, e, count_room (part_at form k) broken.number broken_most)

      pub form_broken : {broken : BrokenPart} →
          PartBroken (part_at form k) text at broken (take (end - place) (drop place words)) left → k < length form →
          (close : ℕ) → close ≡ place + count_of (part_at form k) broken.number →
          FormBroken form text from
          (record { broken = broken.broken; parts = parts_of (parts_with broken.number close) }) found new
      unfolding form_after parts_after
      form_broken {broken} b more close c = record {
        after = reads_broken _ from f.after b.after part_count p;
        k = k;
        next = at;
        before = f.after
            ∙ ap (λ list. Ok (read_of list at))
            (below_same (parts_with broken.number close) (end - place) left here (same_before broken.number close));
        held = record {
          bounded = λ j r. (lies_still j (dec_lt j k) (dec_lt k j)).bounded;
          counted = λ j r. (lies_still j (dec_lt j k) (dec_lt k j)).counted;
          within = λ j r. (lies_still j (dec_lt j k) (dec_lt k j)).within;
        };
        placed = λ j r. starts_still j r (dec_lt j k);
        here = rw (← f.standing) (record {
          after = b.after;
          number = ap (λ (q : Placed). q.number) (same_last broken.number close) ∙ b.number;
          lent = left_here;
        });
        rest = same_after broken.number close;
      }
        where
          room : length (take (end - place) (drop place words)) ≡ end - place
          room = length-take-le (end - place) (drop place words) (rw length-drop (omega (arith, fits)))

          kept : length left ≡ end - place
          kept =
              ap length b.lent
              ∙ part_left_length (part_at form k) text at (take (end - place) (drop place words)) (omega (arith, e, room))
              ∙ room

          whole : length new ≡ length words
          whole =
              simp (length-append, length-drop)
              (omega (arith, length-take-le place words here, kept, e, fits, here))

          lies_last : Lies (part_at form k) (placed broken.number place close) (length new)
          lies_last = record {
            bounded = broken_most b;
            counted = c;
            within = omega (arith, c, few_broken b, whole, fits);
          }

          lies_still : (j : ℕ) → Dec (j < k) → Dec (k < j) →
              Lies (part_at form j) (get_or (parts_with broken.number close) j placed_none) (length new)
          lies_still j (yes r) q = rw (same_before broken.number close j r) (lies_on (f.lies j r) (length new) (omega (arith, whole, here)))
          lies_still j (no r) (yes q) =
              rw (same_after broken.number close j q) (lies_none (part_at form j) (length new))
          lies_still j (no r) (no q) =
              let last : j ≡ k = omega arith in
              rw (last, same_last broken.number close) lies_last

          starts_still : (j : ℕ) → j ≤ k → Dec (j < k) →
              (get_or (parts_with broken.number close) j placed_none).start ≡ place_of form j
          starts_still j r (yes q) = rw (same_before broken.number close j q) (f.starts j q (omega arith))
          starts_still j r (no q) =
              let last : j ≡ k = omega arith in
              rw (last, same_last broken.number close) f.standing

          left_here : drop place new ≡ part_left (part_at form k) text at (drop place found)
          left_here =
              drop_at (take place words) _ place (length-take-le place words here)
              ∙ ap (λ l. l ++ drop (end - place) (drop place words)) b.lent
              ∙ part_left_on (part_at form k) text at (end - place) (drop place words) (omega (arith, e))
              (rw length-drop (omega (arith, fits)))
              ∙ ap (part_left (part_at form k) text at) f.past

      module _ (read : Read ℕ)
          (q : PartFollows (part_at form k) text at read (take (end - place) (drop place words)) left) where
        sized : Sized (part_at form k) (held_of read.value q.words)
        sized = IfOk-at_ok (λ r. Sized (part_at form k) r.value) q.after (part_sized (part_at form k) text at)

        -- it has no more words than there is room for
        pub few_words : place + count_of (part_at form k) read.value ≤ end
        few_words = omega (arith, e, count_room (part_at form k) read.value sized.bounded)

        -- it leaves as many as its room
        filled : length left ≡ end - place
        filled =
            rw (
              q.lent,
              length-append,
              length-drop,
              length-take-le (end - place) (drop place words)
                  (rw length-drop (omega (arith, fits))),
            )
            (omega (arith, sized.counted, few_words))

        pub form_more : (close : ℕ) → close ≡ place + count_of (part_at form k) read.value →
            FormSoFar form text from found (set parts k (placed read.value place close)) new read.next end (k + 1)
        unfolding parts_after parts_below list_below
        form_more close c =
            let after : List Placed = set parts k (placed read.value place close) in
            let same : (j : ℕ) → j < k → get_or after j placed_none ≡ get_or parts j placed_none =
            λ j r. get_or-set_other parts k j (placed read.value place close) placed_none (λ t. absurd (omega arith)) in
            let last : get_or after k placed_none ≡ placed read.value place close =
            get_or-set_same parts k (placed read.value place close) placed_none (omega (arith, f.long)) in
            let size : close - place ≡ length q.words = omega (arith, c, sized.counted) in
            record {
              long = length-set parts k _ ∙ f.long;
              standing = e ∙ ap (λ a. a + room_of (part_at form k)) f.standing ∙ sym (place_next form k);
              after =
                  reads_more _ from f.after q.after
                  ∙ ap (λ list. Ok (read_of list read.next))
                  (rw add-one (ap₂ (λ first held. first ++ (held ∷ [])) (below_same after (end - place) left here same)
                  (sym (ap (λ p. held_by p new) last
                  ∙ ap (held_of read.value) (rw (size, q.lent)
                  (after_first place words q.words
                  (drop (count_of (part_at form k) read.value) (take (end - place) (drop place words)))
                  (drop (end - place) (drop place words)) here))))));
              past =
                  drop-put_mid place (end - place) words left end (omega (arith, e)) here filled
                  ∙ rw e (drop_later place _ words found f.past);
              lies = λ j r. by_last k (λ i. Lies (part_at form i) (get_or after i placed_none) end)
                  (λ i s. rw (same i s) (lies_on (f.lies i s) end (omega (arith, e))))
                  (rw last (record { bounded = sized.bounded; counted = c; within = omega (arith, c, few_words) })) j
                  (omega arith);
              starts = λ j r.
                  by_last k (λ i. i < length form → (get_or after i placed_none).start ≡ place_of form i)
                  (λ i s. rw (same i s) (f.starts i s)) (λ _. rw last f.standing) j (omega arith);
              rest = λ j r.
                  get_or-set_other parts k j _ placed_none (λ t. absurd (omega arith)) ∙ f.rest j (omega arith);
            }

    -- past the last part there is nothing
    form_past : length form ≤ k → FormSoFar form text from found parts words at place (k + 1)
    unfolding parts_after part_after parts_below list_below
    form_past p =
        let nothing : part_at form k ≡ record { 0 = []; 1 = Nothing } = get_or-eq_default form _ {n = k} p in
        let none : get_or parts k placed_none ≡ placed_none = f.rest k (omega arith) in
        record {
          long = f.long;
          standing = f.standing ∙ sym (place_next form k ∙ rw nothing (add-zero (place_of form k)));
          after =
              reads_more _ from f.after {value = held_of 0 []} {last = at} (rw nothing refl)
              ∙ ap (λ list. Ok (read_of list at)) (rw (add-one, none) refl);
          past = f.past;
          starts = λ j r q. f.starts j (omega arith) q;
          lies = λ j r. by_last k (λ i. Lies (part_at form i) (get_or parts i placed_none) place) f.lies
              (rw none (lies_none (part_at form k) place)) j (omega arith);
          rest = λ j r. f.rest j (omega arith);
        }

  form_ends : (n k : ℕ) → k + n ≡ part_count → {parts : List Placed} {words : List ℕ} {at place : ℕ} →
      FormSoFar form text from found parts words at place k → length form ≤ k →
      FormSoFar form text from found parts words at place part_count
  form_ends zero k e f p = rw (← e, add-zero) f
  form_ends (suc n) k e f p = form_ends n (k + 1) (omega arith) (form_past f p) (omega arith)

  pub form_whole : {parts : List Placed} {words : List ℕ} {at place : ℕ} →
      FormSoFar form text from found parts words at place (length form) → length form ≤ part_count →
      place_of form part_count ≤ length words →
      FormFollows form text from (read_of (parts_of parts) at) words
  unfolding form_after parts_in
  form_whole f few room =
      let whole = form_ends (part_count - length form) (length form) (omega arith) f (omega arith) in
      record {
        after = whole.after;
        held = record {
          bounded = λ j p. (whole.lies j p).bounded;
          counted = λ j p. (whole.lies j p).counted;
          within = λ j p. omega (arith, (whole.lies j p).within, whole.standing);
        };
      }

-- what parts hold of part k
module _ (parts : Parts) (words : List ℕ) (k : ℕ) (p : k < part_count) where
  pub part_held : held_in (parts_in parts words) k ≡ held_of (number_of parts k) (words_in parts words k)
  unfolding parts_in parts_below
  part_held = list_at (λ j. held_of (number_of parts j) (words_in parts words j)) part_count (held_of 0 []) k p

-- a part of a form has no more words than there is room for
pub part_few : {form : List Part} {parts : Parts} (words : List ℕ) → FormHeld form parts (length words) → (k : ℕ) →
    k < part_count → length (words_in parts words k) ≤ room_of (part_at form k)
part_few {form} {parts} words h k p =
    rw (mid_len (start_of parts k) (end_of parts k) words (h.within k p))
    (omega (arith, h.counted k p, count_room (part_at form k) (number_of parts k) (h.bounded k p)))

-- a part without room has no words
pub part_none : {form : List Part} {parts : Parts} (words : List ℕ) → FormHeld form parts (length words) → (k : ℕ) →
    k < part_count → room_of (part_at form k) ≡ 0 → words_in parts words k ≡ []
part_none {form} {parts} words h k p e = go (words_in parts words k) (rw e at (part_few words h k p))
  where
    go : (l : List ℕ) → length l ≤ 0 → l ≡ []
    go [] q = refl
    go (x ∷ l) q = absurd (omega arith)

-- past the last part of a form there is no text
module _ (form : List Part) (parts : List Held) where
  text_ends : (n k : ℕ) → k + n ≡ part_count → length form ≤ k →
      text_below k (λ j. part_text (part_at form j) (held_in parts j))
      ≡ text_below part_count (λ j. part_text (part_at form j) (held_in parts j))
  unfolding text_below part_text
  text_ends zero k e p =
      ap (λ n. text_below n (λ j. part_text (part_at form j) (held_in parts j))) (sym (add-zero k) ∙ e)
  text_ends (suc n) k e p =
      let nothing : part_at form k ≡ record { 0 = []; 1 = Nothing } = get_or-eq_default form _ {n = k} p in
      let text : ℕ → List ℕ = λ j. part_text (part_at form j) (held_in parts j) in
      sym (ap (λ part. text_below k text ++ part_text part (held_in parts k)) nothing ∙ append-nil (text_below k text))
      ∙ text_ends n (suc k) (omega arith) (omega arith)

  pub text_whole : length form ≤ part_count →
      text_below (length form) (λ j. part_text (part_at form j) (held_in parts j))
      ≡ text_below part_count (λ j. part_text (part_at form j) (held_in parts j))
  text_whole few = text_ends (part_count - length form) (length form) (omega arith) (omega arith)

-- what is said of each of the twelve parts
pub each_part : (P : ℕ → Type 0) → P 0 → P 1 → P 2 → P 3 → P 4 → P 5 → P 6 → P 7 → P 8 → P 9 → P 10 → P 11 →
    (k : ℕ) → k < part_count → P k
each_part P a b c d e f g h i j k l =
    by_last 11 P (by_last 10 P (by_last 9 P (by_last 8 P (by_last 7 P (by_last 6 P (by_last 5 P (by_last 4 P
    (by_last 3 P (by_last 2 P (by_last 1 P (by_last 0 P (λ m p. absurd (omega arith)) a) b) c) d) e) f) g) h) i) j) k) l
