-- Laws of the list of a function's values below a bound, and of a loop that writes it from the front.
-- Assumes nothing.
use mathlib.Core.Path.{◌≡◌, refl, sym, ◌∙◌, ap, ap₂}
use mathlib.Core.Bool.{Bool, true, false, cond}
use mathlib.Core.List.{List, [], ◌∷◌, ◌++◌}
use Prim.Native.Nat.{ℕ, zero, suc, ◌+◌, ◌<◌, ◌≤◌}
use native.Mathlib.Numerals.{add-one}
use native.Mathlib.Omega.{arith}
use native.Mathlib.Decide.{ℕ_discrete, dec_lt}
use lib.Dec.{ltb}
use lib.ListN.{length, get_or, take, set, replicate, length-append, length-set, length-replicate, get_or-replicate}
use lib.ListN.{get_or-append}
use lib.Seq.{take-suc-set, take_all, take_at, get_or_at, ext_get_or, get_or-set_same, get_or-set_other}
use borrow.Author.Tests.{lt-ltb, le-ltb, ltb-true}
use Rattle.numbers.specs.Bounded.{list_below, filled_below}
use Rattle.numbers.proofs.BoolLaws.{by_last}

module _ {A : Type 0} (f : ℕ → A) where
  pub list_length : (k : ℕ) → length (list_below k f) ≡ k
  unfolding list_below
  list_length zero = refl
  list_length (suc k) = rw length-append (omega (arith, list_length k))

  pub list_at : (k : ℕ) (d : A) (j : ℕ) → j < k → get_or (list_below k f) j d ≡ f j
  unfolding list_below
  list_at zero d j p = absurd (omega arith)
  list_at (suc k) d j p =
      by_last k (λ i. get_or (list_below k f ++ (f k ∷ [])) i d ≡ f i)
      (λ i q. get_or-append (list_below k f) (f k ∷ []) d i (omega (arith, list_length k)) ∙ list_at k d i q)
      (get_or_at (list_below k f) (f k) [] d k (list_length k))
      j p

  -- a loop that stores f k at k: nothing, one more, all
  pub list_none : (l : List A) → take 0 l ≡ list_below 0 f
  unfolding list_below
  list_none l = refl

  pub list_more : (l : List A) (k : ℕ) (v : A) → k < length l → take k l ≡ list_below k f → v ≡ f k →
      take (k + 1) (set l k v) ≡ list_below (k + 1) f
  unfolding list_below
  list_more l k v p h e = rw (add-one, take-suc-set l k v p, h, e)

  pub list_done : (l : List A) (k : ℕ) → length l ≡ k → take k l ≡ list_below k f → l ≡ list_below k f
  list_done l k p h = sym (take_all k l (omega arith)) ∙ h

-- the same loop over a list of `size` places: what holds where it comes to place k
pub record Written {A : Type 0} (f : ℕ → A) (size : ℕ) (l : List A) (k : ℕ) : Type 0 where
  pub most : k ≤ size
  pub long : length l ≡ size
  pub first : take k l ≡ list_below k f

pub written_none : {A : Type 0} (f : ℕ → A) (size : ℕ) (l : List A) → length l ≡ size → Written f size l 0
written_none f size l e = record { most = omega arith; long = e; first = list_none f l }

module _ {A : Type 0} {f : ℕ → A} {size : ℕ} {l : List A} {k : ℕ} (h : Written f size l k) where
  pub written_more : {v : A} → k < size → v ≡ f k → Written f size (set l k v) (k + 1)
  written_more {v} p e =
      record {
        most = omega arith;
        long = length-set l k v ∙ h.long;
        first = list_more f l k v (omega (arith, h.long)) h.first e;
      }

  pub written_all : size ≤ k → l ≡ list_below size f
  written_all p =
      let e : k ≡ size = omega arith in
      list_done f l size h.long (rw e at h.first)

-- setting a place to what stands there changes nothing
pub set_held : {A : Type 0} (l : List A) (k : ℕ) (d : A) → get_or l k d ≡ d → set l k d ≡ l
set_held [] k d h = refl
set_held (a ∷ l) zero d h = ap (λ x. x ∷ l) (sym h)
set_held (a ∷ l) (suc k) d h = ap (λ r. a ∷ r) (set_held l k d h)

-- two functions that agree below the bound have one list
pub list_same : {A : Type 0} (k : ℕ) (f g : ℕ → A) → ((j : ℕ) → j < k → f j ≡ g j) → list_below k f ≡ list_below k g
unfolding list_below
list_same zero f g h = refl
list_same (suc k) f g h = rw (list_same k f g (λ j p. h j (omega arith)), h k (omega arith))

-- a list that is filled from the front and empty behind
module _ {A : Type 0} (size : ℕ) (empty : A) (f : ℕ → A) where
  pub filled_length : (k : ℕ) → length (filled_below size empty k f) ≡ size
  unfolding filled_below
  filled_length k = list_length (λ j. cond (ltb j k) (f j) empty) size

  pub filled_at : (k j : ℕ) → j < k → j < size → get_or (filled_below size empty k f) j empty ≡ f j
  unfolding filled_below
  filled_at k j p q = list_at (λ i. cond (ltb i k) (f i) empty) size empty j q ∙ rw (lt-ltb j k p)

  pub filled_past : (k j : ℕ) → k ≤ j → j < size → get_or (filled_below size empty k f) j empty ≡ empty
  unfolding filled_below
  filled_past k j p q = list_at (λ i. cond (ltb i k) (f i) empty) size empty j q ∙ rw (le-ltb j k p)

  pub filled_none : replicate size empty ≡ filled_below size empty 0 f
  filled_none =
      ext_get_or empty _ _ (length-replicate size empty ∙ sym (filled_length 0))
      (λ j p. let q : j < size = omega (arith, length-replicate size empty) in
      get_or-replicate size j empty empty q ∙ sym (filled_past 0 j (omega arith) q))

  -- one place more
  pub filled_more : (k : ℕ) → k < size → set (filled_below size empty k f) k (f k) ≡ filled_below size empty (k + 1) f
  filled_more k p =
      ext_get_or empty _ _ (length-set (filled_below size empty k f) k (f k) ∙ filled_length k ∙ sym
      (filled_length (k + 1)))
      (λ j q. at j (omega (arith, length-set (filled_below size empty k f) k (f k), filled_length k)) (ℕ_discrete j k))
    where
      beside : (j : ℕ) → j < size → Dec (j < k) → (j ≡ k → ⊥) →
          get_or (filled_below size empty k f) j empty ≡ get_or (filled_below size empty (k + 1) f) j empty
      beside j q (yes h) e = filled_at k j h q ∙ sym (filled_at (k + 1) j (omega arith) q)
      beside j q (no h) e = filled_past k j (omega arith) q ∙ sym (filled_past (k + 1) j (omega arith) q)

      at : (j : ℕ) → j < size → Dec (j ≡ k) →
          get_or (set (filled_below size empty k f) k (f k)) j empty ≡ get_or (filled_below size empty (k + 1) f) j empty
      at j q (yes e) =
          rw e (get_or-set_same (filled_below size empty k f) k (f k) empty (omega (arith, filled_length k)) ∙ sym
          (filled_at (k + 1) k (omega arith) p))
      at j q (no e) = get_or-set_other (filled_below size empty k f) k j (f k) empty e ∙ beside j q (dec_lt j k) e

-- two functions that agree below k fill alike
pub filled_same : {A : Type 0} (size : ℕ) (empty : A) (k : ℕ) (f g : ℕ → A) → ((j : ℕ) → j < k → f j ≡ g j) →
    filled_below size empty k f ≡ filled_below size empty k g
unfolding filled_below
filled_same {A = A} size empty k f g h =
    list_same size (λ j. cond (ltb j k) (f j) empty) (λ j. cond (ltb j k) (g j) empty) (λ j p. pick j (ltb j k) refl)
  where
    pick : (j : ℕ) (b : Bool) → ltb j k ≡ b → cond b (f j) empty ≡ cond b (g j) empty
    pick j true e = h j (ltb-true j k e)
    pick j false e = refl

-- filled lists: one whose values are all empty, one that a loop fills or leaves
module _ {A : Type 0} (size : ℕ) (empty : A) (k : ℕ) (f : ℕ → A) where
  pub filled_empty : ((j : ℕ) → j < k → f j ≡ empty) → replicate size empty ≡ filled_below size empty k f
  unfolding filled_below
  filled_empty h = filled_none size empty f ∙ list_same size _ _ (λ j p. go j (dec_lt j k))
    where
      go : (j : ℕ) → Dec (j < k) → cond (ltb j 0) (f j) empty ≡ cond (ltb j k) (f j) empty
      go j (yes q) = rw (le-ltb j 0 (omega arith), lt-ltb j k q) (sym (h j q))
      go j (no q) = rw (le-ltb j 0 (omega arith), le-ltb j k (omega arith))

  pub filled_next : (l : List A) (v : A) → k < size → l ≡ filled_below size empty k f → v ≡ f k →
      set l k v ≡ filled_below size empty (k + 1) f
  filled_next l v p h e = ap₂ (λ m w. set m k w) h e ∙ filled_more size empty f k p

  pub filled_skip : f k ≡ empty → filled_below size empty k f ≡ filled_below size empty (k + 1) f
  unfolding filled_below
  filled_skip e = list_same size _ _ (λ j p. go j (dec_lt j k) (dec_lt k j))
    where
      go : (j : ℕ) → Dec (j < k) → Dec (k < j) → cond (ltb j k) (f j) empty ≡ cond (ltb j (k + 1)) (f j) empty
      go j (yes q) r = rw (lt-ltb j k q, lt-ltb j (k + 1) (omega arith))
      go j (no q) (yes r) = rw (le-ltb j k (omega arith), le-ltb j (k + 1) (omega arith))
      go j (no q) (no r) =
          let h : j ≡ k = omega arith in
          rw (le-ltb j k (omega arith), lt-ltb j (k + 1) (omega arith)) (sym (ap f h ∙ e))

-- what stands first in a list
pub record Front {A : Type 0} (k : ℕ) (words list : List A) : Type 0 where
  pub long : k ≤ length list
  pub first : take k list ≡ words

pub front : {A : Type 0} (k : ℕ) (words rest list : List A) → length words ≡ k → list ≡ words ++ rest →
    Front k words list
front k words rest list e h =
    record {
      long = rw (h, length-append) (omega (arith, e));
      first = ap (take k) h ∙ take_at words rest k e;
    }
