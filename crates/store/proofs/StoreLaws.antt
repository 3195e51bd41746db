-- A ledger that is saved and loaded again is the same ledger, sound or not. Assumes nothing.
use mathlib.Core.Path.{◌≡◌, refl, sym, ◌∙◌, ap, subst}
use mathlib.Core.Bool.{Bool, true, false, cond, ◌&&◌, ◌||◌}
use mathlib.Core.List.{List, [], ◌∷◌, map}
use Prim.Native.Nat.{ℕ, zero, suc, ◌+◌, ◌-◌, ◌*◌, ◌/◌, ◌%◌, ◌^◌, ◌<◌, ◌≤◌}
use native.Mathlib.Omega.{arith}
use native.Mathlib.Decide.{dec_lt}
use lib.Dec.{leb, ltb, eqb}
use lib.ListN.{length, get_or, take, drop, length-map, length-drop, get_or-eq_default}
use lib.Seq.{ext_get_or, get_or-take, get_or-drop, length-take-le}
use lib.IntN.{ℤ, pos}
use denote.Param.Members.{Mut}
use native.Mathlib.Nat.{add-zero, zero-add}
use Rattle.std.specs.Array.{IsFromFnResult, IsFromFnResultFrom}
use Rattle.std.specs.Fn.{Called}
use mir.Syntax.{w64}
use mir.Val.{SFits, bool_byte}
use borrow.Author.Tests.{le-ltb, lt-ltb, leb-true, eqb-true}
use Rattle.numbers.specs.Bounded.{list_below, filled_below}
use Rattle.numbers.specs.Units.{no_money}
use Rattle.numbers.specs.declared.units.Pesos.{Pesos}
use Rattle.numbers.specs.Signed.{word_of, signed_of}
use Rattle.numbers.specs.Sizes.{most_distributors, sector_count, sector_places}
use Rattle.numbers.proofs.BoolLaws.{by_last, and_left, and_right, or_else}
use Rattle.numbers.proofs.SignedLaws.{word_signed, word_fits}
use Rattle.numbers.proofs.TestLaws.{all_at}
use Rattle.numbers.proofs.ListLaws.{list_length, list_at, list_same}
use Rattle.fixing.specs.Sector.{filled_places}
use Rattle.fixing.specs.declared.sector.SectorCharges.{SectorCharges}
use Rattle.settlement.specs.Month.{money_at, money_below}
use Rattle.ledger.specs.Ledger.{present_in, charge_in, count_at}
use Rattle.ledger.specs.declared.ledger.Ledger.{Ledger}
use Rattle.journal.specs.Cursor.{most_word}
use Rattle.journal.specs.Form.{part_count, part_at, bound_of, count_of, held_of, held_in}
use Rattle.journal.specs.Form.{placed, number_of, start_of, end_of, parts_below, parts_in, FormHeld, greatest_by, Takes}
use Rattle.journal.specs.declared.form.Part.{Part}
use Rattle.journal.specs.Command.{load_form}
use Rattle.journal.specs.declared.form.Parts.{Parts}
use Rattle.journal.proofs.FormLaws.{each_part}
use Rattle.store.specs.Store.{truth_word, word_truth, older_from, balances_from, counts_from, kept_words}
use Rattle.store.specs.Store.{charges_word, ledger_word, ledger_words, word_owner, zero_past, kept_among, kept_count}
use Rattle.store.specs.Store.{ledger_parts, Saved, word_at, loaded_charges, loaded_ledger}

-- a list that a call for each index made, where no call changes what the calls hold
module _ {F B : Type 0} (g : Mut F (ℕ × Unit {0}) B) (f : F) (h : ℕ → B)
    (told : (i : ℕ) (y : B) (q : F) → Called g f (i, tt) y q → (y ≡ h i) × (q ≡ f)) where
  made_at : (ys : List B) (n i : ℕ) (p : F) → p ≡ f → IsFromFnResultFrom g p ys i n → (k : ℕ) (d : B) → k < n →
      get_or ys (i + k) d ≡ h (i + k)
  made_at ys zero i p e r k d less = absurd (omega arith)
  made_at ys (suc n) i p e r zero d less =
      let answer = told i r.1 r.0 (subst (λ (x : F). Called g x (i, tt) r.1 r.0) e r.3) in
      rw add-zero (r.2.1 d ∙ answer.0)
  made_at ys (suc n) i p e r (suc k) d less =
      let answer = told i r.1 r.0 (subst (λ (x : F). Called g x (i, tt) r.1 r.0) e r.3) in
      let next : i + 1 + k ≡ i + suc k = omega arith in
      rw next at (made_at ys n (i + 1) r.0 answer.1 r.4 k d (omega arith))

  pub made : (ys : List B) (n : ℕ) (d : B) → IsFromFnResult g f ys n → ys ≡ list_below n h
  made ys n d r =
      ext_get_or d _ _ (r.long ∙ sym (list_length h n))
      (λ k p. let less : k < n = omega (arith, r.long) in
      rw zero-add at (made_at ys n 0 f refl r.each k d less) ∙ sym (list_at h n d k less))

  -- the same as a list with room for no more
  pub made_filled : (ys : List B) (n : ℕ) (d : B) → IsFromFnResult g f ys n → ys ≡ filled_below n d n h
  unfolding filled_below
  made_filled ys n d r = made ys n d r ∙ list_same n h _ (λ j p. sym (rw (lt-ltb j n p) refl))

-- a truth as a word
pub truth_byte : (truth : Bool) → bool_byte truth ≡ truth_word truth
truth_byte true = refl
truth_byte false = refl

-- a list is as long as its image
pub mapped : (A B : Type 0) (f : A → B) (l : List A) (n : ℕ) → length (map f l) ≡ n → length l ≡ n
mapped A B f l n e = sym (length-map l f) ∙ e

-- a truth is its word's
truth_back : (b : Bool) → word_truth (truth_word b) ≡ b
truth_back true = refl
truth_back false = refl

truth_small : (b : Bool) → truth_word b ≤ 1
truth_small true = omega arith
truth_small false = omega arith

-- a number, and words that are kept, as parts take them
takes_number : (part : Part) (number : ℕ) → count_of part number ≡ 0 → number ≤ bound_of part →
    bound_of part ≤ most_word → Takes part (held_of number [])
takes_number part number none p q = record {
  number = p;
  short = omega arith;
  counted = sym none;
  words = λ i r. absurd (omega arith);
  small = λ i r. absurd (omega arith);
}

-- a list among words: so many from a place on, which they are, and that those past the first k are zero
record Listed (words : List ℕ) (from size k : ℕ) (word : ℕ → ℕ) : Type 0 where
  fits : from + size ≤ length words
  few : k ≤ size
  at : (j : ℕ) → j < size → get_or words (from + j) 0 ≡ word j
  zeros : (j : ℕ) → k ≤ j → j < size → get_or words (from + j) 0 ≡ 0

-- its first k words
module _ {words : List ℕ} {from size k : ℕ} {word : ℕ → ℕ} (listed : Listed words from size k word) where
  abbrev kept : List ℕ
  kept = take k (drop from words)

  kept_length : length kept ≡ k
  kept_length = length-take-le k (drop from words) (rw length-drop (omega (arith, listed.fits, listed.few)))

  kept_at : (j : ℕ) → j < k → get_or kept j 0 ≡ word j
  kept_at j p =
      get_or-take k (drop from words) j 0 p ∙ get_or-drop from words j 0 ∙ listed.at j (omega (arith, listed.few))

  -- past them it has none, and its words are zero
  kept_word : (j : ℕ) → j < size → word_at kept j ≡ word j
  kept_word j q = go (dec_lt j k)
    where
      go : Dec (j < k) → word_at kept j ≡ word j
      go (yes p) = kept_at j p
      go (no p) =
          get_or-eq_default kept 0 (omega (arith, kept_length)) ∙ sym (listed.zeros j (omega arith) q)
          ∙ listed.at j q

  -- a list whose values have these words is loaded again
  module _ {A : Type 0} (value : ℕ → A) (empty : A) (l : List A) (e : length l ≡ size)
      (h : (j : ℕ) → j < size → value (word j) ≡ get_or l j empty) where
    list_back : list_below size (λ j. value (word_at kept j)) ≡ l
    list_back =
        let long : length (list_below size (λ j. value (word_at kept j))) ≡ size = list_length _ size in
        ext_get_or empty _ l (long ∙ sym e)
        (λ j p. let q : j < size = omega (arith, long) in
        list_at _ size empty j q ∙ ap value (kept_word j q) ∙ h j q)

    filled_back : filled_below size empty size (λ j. value (word_at kept j)) ≡ l
    unfolding filled_below
    filled_back = list_same size _ _ (λ j p. rw (lt-ltb j size p)) ∙ list_back

  -- a part takes them
  takes_words : (part : Part) → count_of part k ≡ k → bound_of part ≡ size → size ≤ most_word →
      greatest_by part.1 ≤ most_word → ((j : ℕ) → j < size → word j ≤ greatest_by part.1) →
      Takes part (held_of k kept)
  takes_words part count bound short greatest h =
      let at : (i : ℕ) → i < length kept → get_or kept i 0 ≤ greatest_by part.1 =
      λ i p. rw (kept_at i (omega (arith, kept_length))) (h i (omega (arith, kept_length, listed.few))) in
      record {
        number = rw bound listed.few;
        short = omega (arith, listed.few, short);
        counted = kept_length ∙ sym count;
        words = at;
        small = λ i p. omega (arith, at i p, greatest);
      }

-- the six lists of a ledger's words, one after the other: where list s starts, how many words it has of n
-- distributors, and whose word j of it is
abbrev list_from : ℕ → ℕ
list_from zero = 0
list_from (suc zero) = sector_places
list_from (suc (suc zero)) = older_from
list_from (suc (suc (suc zero))) = older_from + sector_places
list_from (suc (suc (suc (suc zero)))) = balances_from
list_from (suc (suc (suc (suc (suc s))))) = counts_from

-- the first four have a word for each place
abbrev by_places : {A : Type 0} → ℕ → A → A → A
by_places zero a b = a
by_places (suc zero) a b = a
by_places (suc (suc zero)) a b = a
by_places (suc (suc (suc zero))) a b = a
by_places (suc (suc (suc (suc s)))) a b = b

abbrev list_size : ℕ → ℕ → ℕ
list_size s n = by_places s (n * sector_count) n

abbrev list_owner : ℕ → ℕ → ℕ
list_owner s j = by_places s (j / sector_count) j

-- what is said of each of them
each_list : (P : ℕ → Type 0) → P 0 → P 1 → P 2 → P 3 → P 4 → P 5 → (s : ℕ) → s < 6 → P s
each_list P a b c d e f =
    by_last 5 P (by_last 4 P (by_last 3 P (by_last 2 P (by_last 1 P (by_last 0 P (λ s p. absurd (omega arith)) a) b) c)
    d) e) f

list_fits : (s : ℕ) → s < 6 → list_from s + list_size s most_distributors ≤ kept_words
list_fits =
    each_list (λ s. list_from s + list_size s most_distributors ≤ kept_words) (omega arith) (omega arith) (omega arith)
    (omega arith) (omega arith) (omega arith)

list_few : (n : ℕ) → n ≤ most_distributors → (s : ℕ) → s < 6 → list_size s n ≤ list_size s most_distributors
list_few n p =
    each_list (λ s. list_size s n ≤ list_size s most_distributors) (omega arith) (omega arith) (omega arith) (omega arith)
    p p

-- the words past those of n distributors are another's
owner_past : (n j s : ℕ) → s < 6 → list_size s n ≤ j → n ≤ list_owner s j
owner_past n j =
    each_list (λ s. list_size s n ≤ j → n ≤ list_owner s j) (λ p. omega arith) (λ p. omega arith) (λ p. omega arith)
    (λ p. omega arith) (λ p. p) (λ p. p)

owner_before : (n j s : ℕ) → s < 6 → j < list_size s n → list_owner s j < n
owner_before n j =
    each_list (λ s. j < list_size s n → list_owner s j < n) (λ p. omega arith) (λ p. omega arith) (λ p. omega arith)
    (λ p. omega arith) (λ p. p) (λ p. p)

-- whose word stands at a place of the six lists
owner_places : (from j : ℕ) → from % sector_places ≡ 0 → from + sector_places ≤ balances_from → j < sector_places →
    word_owner (from + j) ≡ j / sector_count
unfolding word_owner
owner_places from j e h p =
    let place : (from + j) % sector_places ≡ j = omega arith in
    rw (lt-ltb (from + j) balances_from (omega arith), place)

owner_single : (from j : ℕ) → balances_from ≤ from → (from - balances_from) % most_distributors ≡ 0 →
    j < most_distributors → word_owner (from + j) ≡ j
unfolding word_owner
owner_single from j h e p = rw (le-ltb (from + j) balances_from (omega arith)) (omega arith)

owner_at : (j s : ℕ) → s < 6 → j < list_size s most_distributors → word_owner (list_from s + j) ≡ list_owner s j
owner_at j =
    each_list (λ s. j < list_size s most_distributors → word_owner (list_from s + j) ≡ list_owner s j)
    (owner_places 0 j refl (omega arith)) (owner_places sector_places j refl (omega arith))
    (owner_places older_from j refl (omega arith)) (owner_places (older_from + sector_places) j refl (omega arith))
    (owner_single balances_from j (omega arith) refl) (owner_single counts_from j (omega arith) refl)

-- what stands there: two fixings of two lists each, and two lists more
abbrev pair : (ℕ → ℕ) → (ℕ → ℕ) → ℕ → ℕ
pair first second k = cond (ltb k sector_places) (first k) (second (k - sector_places))

abbrev across : (ℕ → ℕ → ℕ) → ℕ → ℕ
across lists k =
    cond (ltb k older_from) (pair (lists 0) (lists 1) k)
    (cond (ltb k balances_from) (pair (lists 2) (lists 3) (k - older_from))
    (cond (ltb k counts_from) (lists 4 (k - balances_from)) (lists 5 (k - counts_from))))

pair_first : (first second : ℕ → ℕ) (j : ℕ) → j < sector_places → pair first second j ≡ first j
pair_first first second j p = rw (lt-ltb j sector_places p)

pair_second : (first second : ℕ → ℕ) (j : ℕ) → pair first second (sector_places + j) ≡ second j
pair_second first second j =
    let place : sector_places + j - sector_places ≡ j = omega arith in
    rw (le-ltb (sector_places + j) sector_places (omega arith), place)

across_at : (lists : ℕ → ℕ → ℕ) (j s : ℕ) → s < 6 → j < list_size s most_distributors →
    across lists (list_from s + j) ≡ lists s j
across_at lists j =
    each_list (λ s. j < list_size s most_distributors → across lists (list_from s + j) ≡ lists s j)
    (λ p. let place : 0 + j ≡ j = omega arith in
    rw (place, lt-ltb j older_from (omega arith)) (pair_first (lists 0) (lists 1) j p))
    (λ p. rw (lt-ltb (sector_places + j) older_from (omega arith)) (pair_second (lists 0) (lists 1) j))
    (λ p. let place : older_from + j - older_from ≡ j = omega arith in
    rw (
      le-ltb (older_from + j) older_from (omega arith),
      lt-ltb (older_from + j) balances_from (omega arith),
      place,
    )
    (pair_first (lists 2) (lists 3) j p))
    (λ p. let place : older_from + sector_places + j - older_from ≡ sector_places + j = omega arith in
    rw (
      le-ltb (older_from + sector_places + j) older_from (omega arith),
      lt-ltb (older_from + sector_places + j) balances_from (omega arith),
      place,
    )
    (pair_second (lists 2) (lists 3) j))
    (λ p. let place : balances_from + j - balances_from ≡ j = omega arith in
    rw (
      le-ltb (balances_from + j) older_from (omega arith),
      le-ltb (balances_from + j) balances_from (omega arith),
      lt-ltb (balances_from + j) counts_from (omega arith),
      place,
    ))
    (λ p. let place : counts_from + j - counts_from ≡ j = omega arith in
    rw (
      le-ltb (counts_from + j) older_from (omega arith),
      le-ltb (counts_from + j) balances_from (omega arith),
      le-ltb (counts_from + j) counts_from (omega arith),
      place,
    ))

-- the test of one word
abbrev pub zero_or_before : ℕ → List ℕ → ℕ → Bool
zero_or_before n words k = ltb (word_owner k) n || eqb (get_or words k 0) 0

-- how many distributors' words are kept: at most all, and past fewer the words are zero
record Kept (words : List ℕ) (count : ℕ) : Type 0 where
  most : count ≤ most_distributors
  zeros : count < most_distributors → (k : ℕ) → k < kept_words → count ≤ word_owner k → get_or words k 0 ≡ 0

kept_among_lem : (n : ℕ) (words : List ℕ) → Kept words (kept_among n words)
unfolding kept_among zero_past
kept_among_lem n words = go (leb n most_distributors && zero_past n words) refl
  where
    go : (b : Bool) → (leb n most_distributors && zero_past n words) ≡ b → Kept words (cond b n most_distributors)
    go true e = record {
      most = leb-true n most_distributors (and_left (leb n most_distributors) _ e);
      zeros = λ p k q r.
          eqb-true _ _ (or_else (ltb (word_owner k) n) _
          (all_at kept_words (zero_or_before n words) (and_right (leb n most_distributors) _ e) k q) (le-ltb _ n r));
    }
    go false e = record { most = omega arith; zeros = λ p. absurd (omega arith) }

-- what every fixing and every ledger of the machine meets: numbers fit 64 bits, and lists have their lengths
pub record MachineCharges (fixing : SectorCharges) : Type 0 where
  pub presences : length fixing.present ≡ sector_places
  pub charged : length fixing.charges ≡ sector_places
  pub charges : (k : ℕ) → k < sector_places → SFits w64 (charge_in fixing k)

pub record MachineLedger (ledger : Ledger) : Type 0 where
  pub n : ledger.n < 2 ^ 64
  pub last : ledger.last < 2 ^ 64
  pub month : ledger.month < 2 ^ 64
  pub day : ledger.day < 2 ^ 64
  pub force : MachineCharges ledger.force
  pub older : MachineCharges ledger.older
  pub balanced : length ledger.balances ≡ most_distributors
  pub counted : length ledger.counts ≡ most_distributors
  pub balances : (i : ℕ) → i < most_distributors → SFits w64 (money_at ledger.balances i)
  pub counts : (i : ℕ) → i < most_distributors → count_at ledger.counts i < 2 ^ 64

-- a fixing's words
abbrev presence_word : SectorCharges → ℕ → ℕ
presence_word fixing j = truth_word (present_in fixing j)

abbrev charge_word : SectorCharges → ℕ → ℕ
charge_word fixing j = word_of (charge_in fixing j)

module _ (fixing : SectorCharges) (m : MachineCharges fixing) {words : List ℕ} {first second k : ℕ}
    (presences : Listed words first sector_places k (presence_word fixing))
    (charges : Listed words second sector_places k (charge_word fixing)) where
  charges_back : loaded_charges (kept presences) (kept charges) ≡ fixing
  unfolding loaded_charges filled_places
  charges_back =
      rw (
        filled_back presences word_truth false fixing.present m.presences (λ j h. truth_back (present_in fixing j)),
        filled_back charges signed_of (pos 0) fixing.charges m.charged (λ j h. word_signed _ (m.charges j h)),
      )

module _ (ledger : Ledger) where
  abbrev words : List ℕ
  words = ledger_words ledger

  abbrev places : ℕ
  places = kept_count ledger * sector_count

  among : Kept words (kept_count ledger)
  unfolding kept_count
  among = kept_among_lem ledger.n words

  pub kept_most : kept_count ledger ≤ most_distributors
  kept_most = among.most

  words_long : length words ≡ kept_words
  unfolding ledger_words
  words_long = list_length (ledger_word ledger) kept_words

  -- its lists
  abbrev list_word : ℕ → ℕ → ℕ
  list_word zero = presence_word ledger.force
  list_word (suc zero) = charge_word ledger.force
  list_word (suc (suc zero)) = presence_word ledger.older
  list_word (suc (suc (suc zero))) = charge_word ledger.older
  list_word (suc (suc (suc (suc zero)))) = λ j. word_of (money_at ledger.balances j)
  list_word (suc (suc (suc (suc (suc s))))) = count_at ledger.counts

  listed : (s : ℕ) → s < 6 →
      Listed words (list_from s) (list_size s most_distributors) (list_size s (kept_count ledger)) (list_word s)
  unfolding ledger_words ledger_word charges_word
  listed s r = record {
    fits = rw words_long (list_fits s r);
    few = list_few (kept_count ledger) kept_most s r;
    at = λ j p.
        list_at (ledger_word ledger) kept_words 0 (list_from s + j) (omega (arith, list_fits s r))
        ∙ across_at list_word j s r p;
    zeros = λ j p q.
        let past : kept_count ledger ≤ list_owner s j = owner_past (kept_count ledger) j s r p in
        among.zeros (omega (arith, past, owner_before most_distributors j s r q)) (list_from s + j)
        (omega (arith, list_fits s r)) (rw (owner_at j s r q) past);
  }

  presences : Listed words 0 sector_places places (list_word 0)
  presences = listed 0 (omega arith)

  charges : Listed words sector_places sector_places places (list_word 1)
  charges = listed 1 (omega arith)

  older_presences : Listed words older_from sector_places places (list_word 2)
  older_presences = listed 2 (omega arith)

  older_charges : Listed words (older_from + sector_places) sector_places places (list_word 3)
  older_charges = listed 3 (omega arith)

  balances : Listed words balances_from most_distributors (kept_count ledger) (list_word 4)
  balances = listed 4 (omega arith)

  counts : Listed words counts_from most_distributors (kept_count ledger) (list_word 5)
  counts = listed 5 (omega arith)

  -- the parts are twelve
  pub parts_whole : list_below part_count (held_in (ledger_parts ledger)) ≡ ledger_parts ledger
  unfolding list_below ledger_parts
  parts_whole = refl

  -- its parts by their places; with all words they are the ledger's parts
  abbrev pub placed_parts : ℕ → ℕ → ℕ → Parts
  placed_parts count fixed older =
      let size = count * sector_count in
      record {
        0 = placed ledger.n 0 0 ∷ placed ledger.last 0 0 ∷ placed fixed 0 0 ∷ placed ledger.month 0 0
            ∷ placed ledger.day 0 0 ∷ placed older 0 0 ∷ placed size 0 (0 + size) ∷ placed size 320 (320 + size)
            ∷ placed size 640 (640 + size) ∷ placed size 960 (960 + size) ∷ placed count 1280 (1280 + count)
            ∷ placed count 1320 (1320 + count) ∷ [];
      }

  abbrev saved_parts : Parts
  saved_parts = placed_parts (kept_count ledger) (truth_word ledger.fixed) (truth_word ledger.has_older)

  parts_saved : parts_in saved_parts words ≡ ledger_parts ledger
  unfolding parts_in parts_below list_below ledger_parts
  parts_saved =
      let size : (from n : ℕ) → from + n - from ≡ n = λ from n. omega arith in
      rw (
        size 0 places,
        size 320 places,
        size 640 places,
        size 960 places,
        size 1280 (kept_count ledger),
        size 1320 (kept_count ledger),
      )

  -- "what `save` prints, `load` takes back as the same ledger"
  pub loaded_back : MachineLedger ledger → loaded_ledger (ledger_parts ledger) ≡ ledger
  unfolding loaded_ledger ledger_parts money_below
  loaded_back m =
      rw (
        truth_back ledger.fixed,
        truth_back ledger.has_older,
        charges_back ledger.force m.force presences charges,
        charges_back ledger.older m.older older_presences older_charges,
        filled_back balances money no_money ledger.balances m.balanced
            (λ i h. ap amount (word_signed _ (m.balances i h))),
        list_back counts (λ word. word) 0 ledger.counts m.counted (λ i h. refl),
      )
    where
      amount : ℤ → Pesos
      amount z = record { 0 = z }

      money : ℕ → Pesos
      money word = amount (signed_of word)

  -- numbers of 64 bits are such as the parts take
  module _ (n : ledger.n < 2 ^ 64) (last : ledger.last < 2 ^ 64) (month : ledger.month < 2 ^ 64)
      (day : ledger.day < 2 ^ 64) where
    parts_held : FormHeld load_form saved_parts kept_words
    parts_held =
        let none : 0 ≤ kept_words = omega arith in
        let few : kept_count ledger ≤ most_distributors = kept_most in
        record {
          bounded = each_part (λ k. number_of saved_parts k ≤ bound_of (part_at load_form k))
              (omega (arith, n)) (omega (arith, last)) (truth_small ledger.fixed) (omega (arith, month))
              (omega (arith, day)) (truth_small ledger.has_older) (omega arith) (omega arith) (omega arith)
              (omega arith) few few;
          counted = each_part
              (λ k. end_of saved_parts k ≡ start_of saved_parts k + count_of (part_at load_form k) (number_of saved_parts k))
              refl refl refl refl refl refl refl refl refl refl refl refl;
          within = each_part (λ k. end_of saved_parts k ≤ kept_words) none none none none none none (omega arith)
              (omega arith) (omega arith) (omega arith) (omega arith) (omega arith);
        }

    pub saved : (count fixed older : ℕ) (left : List ℕ) → left ≡ words → count ≡ kept_count ledger →
        fixed ≡ truth_word ledger.fixed → older ≡ truth_word ledger.has_older →
        Saved ledger (placed_parts count fixed older) left
    saved count fixed older left e f g h =
        rw (e, f, g, h) (record { parts = parts_saved; held = rw words_long parts_held })

  -- and the form takes what its parts hold
  pub parts_taken : MachineLedger ledger →
      (k : ℕ) → k < part_count → Takes (part_at load_form k) (held_in (ledger_parts ledger) k)
  unfolding ledger_parts
  parts_taken m =
      each_part (λ k. Takes (part_at load_form k) (held_in (ledger_parts ledger) k))
      (takes_number (part_at load_form 0) ledger.n refl (omega (arith, m.n)) (omega arith))
      (takes_number (part_at load_form 1) ledger.last refl (omega (arith, m.last)) (omega arith))
      (takes_number (part_at load_form 2) (truth_word ledger.fixed) refl (truth_small ledger.fixed) (omega arith))
      (takes_number (part_at load_form 3) ledger.month refl (omega (arith, m.month)) (omega arith))
      (takes_number (part_at load_form 4) ledger.day refl (omega (arith, m.day)) (omega arith))
      (takes_number (part_at load_form 5) (truth_word ledger.has_older) refl (truth_small ledger.has_older)
      (omega arith))
      (takes_words presences (part_at load_form 6) refl refl (omega arith) (omega arith)
      (λ j p. truth_small (present_in ledger.force j)))
      (takes_words charges (part_at load_form 7) refl refl (omega arith) (omega arith)
      (λ j p. omega (arith, word_fits _ (m.force.charges j p))))
      (takes_words older_presences (part_at load_form 8) refl refl (omega arith) (omega arith)
      (λ j p. truth_small (present_in ledger.older j)))
      (takes_words older_charges (part_at load_form 9) refl refl (omega arith) (omega arith)
      (λ j p. omega (arith, word_fits _ (m.older.charges j p))))
      (takes_words balances (part_at load_form 10) refl refl (omega arith) (omega arith)
      (λ i p. omega (arith, word_fits _ (m.balances i p))))
      (takes_words counts (part_at load_form 11) refl refl (omega arith) (omega arith)
      (λ i p. omega (arith, m.counts i p)))
