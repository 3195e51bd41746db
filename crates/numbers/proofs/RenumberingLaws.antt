-- Laws of a renumbering: a sum, an all and an any below n of a renumbered function are those of the function, and so
-- over the places of a list that has some for each distributor. A function is renumbered if it has at each number what
-- the other has at the old one. Assumes nothing.
use mathlib.Core.Path.{◌≡◌, sym, ◌∙◌, ap}
use mathlib.Core.Bool.{Bool, cond, not}
use mathlib.Core.List.{List}
use Prim.Native.Nat.{ℕ, zero, suc, ◌+◌, ◌*◌, ◌/◌, ◌%◌, ◌≤◌, ◌<◌}
use native.Mathlib.Omega.{arith}
use native.Mathlib.Decide.{ℕ_discrete, dec_lt}
use native.Mathlib.Nat.{mod-lt, div-add-mod, mul-add-div_right, mul-add-mod_self_right, div-eq_of_lt, mod-eq_of_lt}
use native.Mathlib.Nat.{div-lt_iff_lt-mul, le-div_iff_mul-le, mul-le-mul_right, div-one, mod-one}
use lib.Dec.{eqb, ltb}
use lib.ListN.{get_or, length}
use lib.Seq.{ext_get_or}
use borrow.Author.Tests.{eq-eqb, ne_eqb, lt-ltb, le-ltb}
use Rattle.numbers.specs.Bounded.{sum_below, all_below, any_below, list_below, filled_below}
use Rattle.numbers.specs.Renumbering.{Renumbering, number_by, place_by, moved_along, StandUnder}
use Rattle.numbers.proofs.BoolLaws.{same_tests}
use Rattle.numbers.proofs.SumLaws.{sum_same, sum_exchange}
use Rattle.numbers.proofs.SearchLaws.{sum_single}
use Rattle.numbers.proofs.TestLaws.{all_at, all_of, any_unless}
use Rattle.numbers.proofs.ListLaws.{list_length, list_at, filled_length, filled_at, filled_past}

-- the same, the other way
abbrev pub turned : {n : ℕ} → Renumbering n → Renumbering n
turned r =
    record {
      new = r.old;
      old = r.new;
      new_below = r.old_below;
      old_below = r.new_below;
      old_new = r.new_old;
      new_old = r.old_new;
    }

equal_turned : (i j : ℕ) → eqb i j ≡ eqb j i
equal_turned i j = go (ℕ_discrete i j)
  where
    go : Dec (i ≡ j) → eqb i j ≡ eqb j i
    go (yes e) = eq-eqb i j e ∙ sym (eq-eqb j i (sym e))
    go (no e) = ne_eqb i j e ∙ sym (ne_eqb j i (λ f. e (sym f)))

module _ {n : ℕ} (r : Renumbering n) where
  -- a number below n, and one that stays
  pub number_is : (number : ℕ → ℕ) (i : ℕ) → i < n → number_by n number i ≡ number i
  unfolding number_by
  number_is number i p = rw (lt-ltb i n p)

  number_stays : (number : ℕ → ℕ) (i : ℕ) → n ≤ i → number_by n number i ≡ i
  unfolding number_by
  number_stays number i p = rw (le-ltb i n p)

  -- below n exactly if it was before, and below any greater bound if it was
  pub number_test : (i : ℕ) → ltb (number_by n r.new i) n ≡ ltb i n
  number_test i = go (dec_lt i n)
    where
      go : Dec (i < n) → ltb (number_by n r.new i) n ≡ ltb i n
      go (yes p) = lt-ltb _ n (rw (number_is r.new i p) (r.new_below i p)) ∙ sym (lt-ltb i n p)
      go (no p) = ap (λ x. ltb x n) (number_stays r.new i (omega arith))

  pub number_below : (size : ℕ) → n ≤ size → (i : ℕ) → i < size → number_by n r.new i < size
  number_below size few i q = go (dec_lt i n)
    where
      go : Dec (i < n) → number_by n r.new i < size
      go (yes p) = rw (number_is r.new i p) (omega (arith, r.new_below i p))
      go (no p) = rw (number_stays r.new i (omega arith)) q

  -- and back
  pub number_back : (i : ℕ) → number_by n r.old (number_by n r.new i) ≡ i
  number_back i = go (dec_lt i n)
    where
      go : Dec (i < n) → number_by n r.old (number_by n r.new i) ≡ i
      go (yes p) = rw (number_is r.new i p) (number_is r.old (r.new i) (r.new_below i p) ∙ r.old_new i p)
      go (no p) = rw (number_stays r.new i (omega arith)) (number_stays r.old i (omega arith))

  -- whoever is named i now was named by i's old number
  pub named : (d i : ℕ) → i < n → eqb (number_by n r.new d) i ≡ eqb d (r.old i)
  named d i p = go (ℕ_discrete d (r.old i))
    where
      go : Dec (d ≡ r.old i) → eqb (number_by n r.new d) i ≡ eqb d (r.old i)
      go (yes e) =
          eq-eqb _ i (ap (number_by n r.new) e ∙ number_is r.new (r.old i) (r.old_below i p) ∙ r.new_old i p)
          ∙ sym (eq-eqb d (r.old i) e)
      go (no e) =
          ne_eqb _ i (λ f. e (sym (number_back d) ∙ ap (number_by n r.old) f ∙ number_is r.old i p))
          ∙ sym (ne_eqb d (r.old i) e)

  pub sum_renumbered : (f g : ℕ → ℕ) → ((i : ℕ) → i < n → g i ≡ f (r.old i)) → sum_below n g ≡ sum_below n f
  sum_renumbered f g h =
      sum_same n g _ (λ i p. h i p ∙ sym (sum_single n (r.old i) f (r.old_below i p)))
      ∙ sum_exchange n n (λ i j. cond (eqb j (r.old i)) (f j) 0)
      ∙ sum_same n _ f (λ j q.
      sum_same n _ _ (λ i p. ap (λ b. cond b (f j) 0) (sym (named j i p) ∙ equal_turned _ i))
      ∙ sum_single n (number_by n r.new j) (λ i. f j) (number_below n (omega arith) j q))

  pub all_renumbered : (s t : ℕ → Bool) → ((i : ℕ) → i < n → t i ≡ s (r.old i)) → all_below n t ≡ all_below n s
  all_renumbered s t h =
      same_tests (all_below n t) (all_below n s)
      (λ e. all_of n s (λ j q.
      ap s (sym (r.old_new j q)) ∙ sym (h (r.new j) (r.new_below j q)) ∙ all_at n t e (r.new j) (r.new_below j q)))
      (λ e. all_of n t (λ i p. h i p ∙ all_at n s e (r.old i) (r.old_below i p)))

  pub any_renumbered : (s t : ℕ → Bool) → ((i : ℕ) → i < n → t i ≡ s (r.old i)) → any_below n t ≡ any_below n s
  any_renumbered s t h =
      any_unless n t
      ∙ ap not (all_renumbered (λ i. not (s i)) (λ i. not (t i)) (λ i p. ap not (h i p)))
      ∙ sym (any_unless n s)

-- the parts of a place: whose it is, and which of the `width` places of that distributor
pub place_of : (width i k : ℕ) → k < width → (i * width + k) / width ≡ i
place_of width i k p =
    mul-add-div_right {m = width} (omega arith) i k
    ∙ ap (λ x. i + x) (div-eq_of_lt p) ∙ omega arith

pub place_in : (width i k : ℕ) → k < width → (i * width + k) % width ≡ k
place_in width i k p = mul-add-mod_self_right i width k ∙ mod-eq_of_lt p

some_width : (size width k : ℕ) → k < size * width → 0 < width
some_width size zero k p = absurd (omega arith)
some_width size (suc width) k p = omega arith

-- the places of `size` distributors, `width` of each, by a renumbering of the first n
module _ {n : ℕ} (width : ℕ) where
  pub place_below : (r : Renumbering n) (size : ℕ) → n ≤ size → (k : ℕ) → k < size * width →
      place_by n r.new width k < size * width
  unfolding place_by
  place_below r size few k p =
      let some : 0 < width = some_width size width k p in
      let whose : k / width < size = (div-lt_iff_lt-mul some).1 p in
      omega (
        arith,
        mod-lt k some,
        mul-le-mul_right width (number_below r size few (k / width) whose),
      )

  pub place_back : (r : Renumbering n) (size k : ℕ) → k < size * width →
      place_by n r.old width (place_by n r.new width k) ≡ k
  unfolding place_by
  place_back r size k p =
      let some : 0 < width = some_width size width k p in
      let rest : k % width < width = mod-lt k some in
      rw (
        place_of width (number_by n r.new (k / width)) (k % width) rest,
        place_in width (number_by n r.new (k / width)) (k % width) rest,
        number_back r (k / width),
      )
      (omega (arith, div-add-mod k width))

  abbrev pub places : Renumbering n → (size : ℕ) → n ≤ size → Renumbering (size * width)
  places r size few =
      record {
        new = place_by n r.new width;
        old = place_by n r.old width;
        new_below = place_below r size few;
        old_below = place_below (turned r) size few;
        old_new = place_back r size;
        new_old = place_back (turned r) size;
      }

-- a place of one of the n distributors, and one past them all
module _ {n : ℕ} (r : Renumbering n) (width : ℕ) where
  pub place_at : (number : ℕ → ℕ) (i k : ℕ) → i < n → k < width →
      place_by n number width (i * width + k) ≡ number i * width + k
  unfolding place_by
  place_at number i k p q = rw (place_of width i k q, place_in width i k q, number_is r number i p)

  -- whose it is then
  pub place_whose : (number : ℕ → ℕ) (k : ℕ) → k < n * width →
      place_by n number width k / width ≡ number (k / width)
  unfolding place_by
  place_whose number k p =
      let some : 0 < width = some_width n width k p in
      place_of width (number_by n number (k / width)) (k % width) (mod-lt k some)
      ∙ number_is r number (k / width) ((div-lt_iff_lt-mul some).1 p)

  place_stays : (k : ℕ) → 0 < width → n * width ≤ k → place_by n r.old width k ≡ k
  unfolding place_by
  place_stays k some p =
      rw (number_stays r r.old (k / width) ((le-div_iff_mul-le some).1 p)) (omega (arith, div-add-mod k width))

  -- it is among the first n distributors' places exactly if it was
  pub place_test_lem : (k : ℕ) → 0 < width → ltb (place_by n r.old width k) (n * width) ≡ ltb k (n * width)
  place_test_lem k some = go (dec_lt k (n * width))
    where
      go : Dec (k < n * width) → ltb (place_by n r.old width k) (n * width) ≡ ltb k (n * width)
      go (yes p) =
          lt-ltb _ _ (place_below width (turned r) n (omega arith) k p) ∙ sym (lt-ltb k (n * width) p)
      go (no p) = ap (λ x. ltb x (n * width)) (place_stays k some (omega arith))

-- what stands at a place of a list that was moved along
module _ {A : Type 0} {n : ℕ} (r : Renumbering n) (width : ℕ) (empty : A) (size : ℕ) (list : List A) where
  pub moved_length : length (moved_along r width empty size list) ≡ size
  unfolding moved_along
  moved_length = list_length _ size

  pub moved_at : (k : ℕ) → k < size →
      get_or (moved_along r width empty size list) k empty ≡ get_or list (place_by n r.old width k) empty
  unfolding moved_along
  moved_at k p = list_at (λ j. get_or list (place_by n r.old width j) empty) size empty k p

  pub moved_stands : n * width ≤ size → StandUnder r width empty list (moved_along r width empty size list)
  moved_stands few i k p q =
      moved_at (r.new i * width + k) (omega (arith, mul-le-mul_right width (r.new_below i p)))
      ∙ ap (λ x. get_or list x empty) (place_at r width r.old (r.new i) k (r.new_below i p) q
      ∙ ap (λ x. x * width + k) (r.old_new i p))

-- a list filled for n distributors, and one filled with what each has at its old place
pub filled_moved : {A : Type 0} {n : ℕ} (r : Renumbering n) (width : ℕ) (empty : A) (size : ℕ) (f g : ℕ → A) →
    0 < width → n * width ≤ size → ((k : ℕ) → k < n * width → g k ≡ f (place_by n r.old width k)) →
    filled_below size empty (n * width) g ≡ moved_along r width empty size (filled_below size empty (n * width) f)
unfolding moved_along
filled_moved {n = n} r width empty size f g some few h =
    ext_get_or empty _ _ (filled_length size empty g (n * width) ∙ sym (list_length _ size))
    (λ k p. at k (omega (arith, filled_length size empty g (n * width))) (dec_lt k (n * width)))
  where
    at : (k : ℕ) → k < size → Dec (k < n * width) →
        get_or (filled_below size empty (n * width) g) k empty ≡ get_or
        (list_below size (λ j. get_or (filled_below size empty (n * width) f) (place_by n r.old width j) empty)) k empty
    at k p (yes q) =
        filled_at size empty g (n * width) k q p ∙ h k q
        ∙ sym (list_at _ size empty k p
        ∙ filled_at size empty f (n * width) (place_by n r.old width k)
        (place_below width (turned r) n (omega arith) k q)
        (omega (arith, place_below width (turned r) n (omega arith) k q)))
    at k p (no q) =
        filled_past size empty g (n * width) k (omega arith) p
        ∙ sym (list_at _ size empty k p
        ∙ ap (λ x. get_or (filled_below size empty (n * width) f) x empty) (place_stays r width k some (omega arith))
        ∙ filled_past size empty f (n * width) k (omega arith) p)

-- a list filled for n distributors: what stands at a number, and at the old one of another list
pub filled_old : {A : Type 0} {n : ℕ} (r : Renumbering n) (size : ℕ) (empty : A) (f g : ℕ → A) → n ≤ size →
    ((i : ℕ) → i < n → g i ≡ f (r.old i)) → (i : ℕ) → i < n →
    get_or (filled_below size empty n g) i empty ≡ get_or (filled_below size empty n f) (r.old i) empty
filled_old {n = n} r size empty f g few h i p =
    filled_at size empty g n i p (omega arith) ∙ h i p
    ∙ sym (filled_at size empty f n (r.old i) (r.old_below i p) (omega (arith, r.old_below i p)))

-- an empty list moved along
pub empty_moved : {A : Type 0} {n : ℕ} (r : Renumbering n) (width : ℕ) (empty : A) (size : ℕ) (f : ℕ → A) →
    n ≤ size →
    moved_along r width empty (size * width) (filled_below (size * width) empty 0 f) ≡ filled_below (size * width) empty 0
    f
unfolding moved_along
empty_moved {n = n} r width empty size f few =
    ext_get_or empty _ _ (list_length _ (size * width) ∙ sym (filled_length (size * width) empty f 0))
    (λ k p. let q : k < size * width = omega (
      arith,
      list_length (λ j. get_or (filled_below (size * width) empty 0 f)
          (place_by n r.old width j) empty) (size * width),
    ) in
    list_at _ (size * width) empty k q
    ∙ filled_past (size * width) empty f 0 (place_by n r.old width k) (omega arith)
    (place_below width (turned r) size few k q)
    ∙ sym (filled_past (size * width) empty f 0 k (omega arith) q))

-- a list of one place for each
pub place_one : (n : ℕ) (number : ℕ → ℕ) (k : ℕ) → place_by n number 1 k ≡ number_by n number k
unfolding place_by
place_one n number k = rw (div-one, mod-one) (omega arith)
