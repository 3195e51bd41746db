-- What stands at a place of a list: a list from its parts and its parts from it, one after another. Assumes nothing.
use mathlib.Core.Path.{◌≡◌, refl, sym, ◌∙◌, ap}
use mathlib.Core.List.{List, [], ◌++◌, append_assoc, append-nil}
use Prim.Native.Nat.{ℕ, zero, suc, ◌+◌, ◌*◌, ◌<◌, ◌≤◌}
use native.Mathlib.Omega.{arith}
use native.Mathlib.Nat.{zero-mul, suc-mul}
use lib.ListN.{length, take, drop, length-append, length-drop}
use lib.Seq.{drop-drop, drop_at, take_at, take-add, take_all}
use Rattle.numbers.specs.Bounded.{join_below}
use Rattle.numbers.proofs.BoolLaws.{by_last}
use Rattle.numbers.proofs.JoinLaws.{join_length}

-- a part of a list: from a place on there are its words, and then others
pub record Stands (list : List ℕ) (place : ℕ) (part : List ℕ) : Type 0 where
  pub rest : List ℕ
  pub here : drop place list ≡ part ++ rest

-- a list stands first in itself, and no words stand anywhere
pub stands_whole : (list : List ℕ) → Stands list 0 list
stands_whole list = record { rest = []; here = sym (append-nil list) }

pub stands_nothing : (list : List ℕ) (place : ℕ) → Stands list place []
stands_nothing list place = record { rest = drop place list; here = refl }

-- the same place by another name
pub stands_at : {list : List ℕ} {place other : ℕ} {part : List ℕ} → place ≡ other → Stands list place part →
    Stands list other part
stands_at {list} e s = record { rest = s.rest; here = ap (λ m. drop m list) (sym e) ∙ s.here }

-- its words are on the list
pub stands_long : {list : List ℕ} {place : ℕ} {part : List ℕ} → Stands list place part → 0 < length part →
    place + length part ≤ length list
stands_long {list} {place} {part} s p =
    omega (arith, ap length s.here, length-append part s.rest, length-drop place list)

-- two parts, one after the other
module _ {list : List ℕ} {place : ℕ} (first second : List ℕ) where
  pub stands_first : Stands list place (first ++ second) → Stands list place first
  stands_first s = record { rest = second ++ s.rest; here = s.here ∙ append_assoc first second s.rest }

  pub stands_second : Stands list place (first ++ second) → Stands list (place + length first) second
  stands_second s =
      record {
        rest = s.rest;
        here =
            sym (drop-drop (length first) place list)
            ∙ ap (drop (length first)) (s.here ∙ append_assoc first second s.rest)
            ∙ drop_at first (second ++ s.rest) (length first) refl;
      }

  pub stands_both : Stands list place first → Stands list (place + length first) second →
      Stands list place (first ++ second)
  stands_both s t =
      let after : s.rest ≡ second ++ t.rest =
      sym (drop_at first s.rest (length first) refl) ∙ ap (drop (length first)) (sym s.here)
      ∙ drop-drop (length first) place list ∙ t.here in
      record {
        rest = t.rest;
        here = s.here ∙ ap (λ r. first ++ r) after ∙ sym (append_assoc first second t.rest);
      }

-- many parts, one after another
module _ {list : List ℕ} {place : ℕ} (f : ℕ → List ℕ) where
  pub stands_part : (k : ℕ) → Stands list place (join_below k f) → (i : ℕ) → i < k →
      Stands list (place + length (join_below i f)) (f i)
  unfolding join_below
  stands_part zero s i p = absurd (omega arith)
  stands_part (suc k) s i p =
      by_last k (λ j. Stands list (place + length (join_below j f)) (f j))
      (stands_part k (stands_first (join_below k f) (f k) s))
      (stands_second (join_below k f) (f k) s) i p

  pub stands_join : (k : ℕ) → ((i : ℕ) → i < k → Stands list (place + length (join_below i f)) (f i)) →
      Stands list place (join_below k f)
  unfolding join_below
  stands_join zero h = stands_nothing list place
  stands_join (suc k) h =
      stands_both (join_below k f) (f k) (stands_join k (λ i p. h i (omega arith))) (h k (omega arith))

-- what stands first and reaches the end is the list
pub stands_all : {list part : List ℕ} → Stands list 0 part → length list ≤ length part → list ≡ part
stands_all {list} {part} s p =
    sym (take_all (length part) list p) ∙ ap (take (length part)) s.here
    ∙ take_at part s.rest (length part) refl

-- list i of lists of one width
pub part_of_join : (f : ℕ → List ℕ) (k width : ℕ) → ((i : ℕ) → i < k → length (f i) ≡ width) → (i : ℕ) → i < k →
    take width (drop (i * width) (join_below k f)) ≡ f i
part_of_join f k width h i p =
    let s : Stands (join_below k f) (0 + length (join_below i f)) (f i) =
    stands_part f k (stands_whole (join_below k f)) i p in
    let e : 0 + length (join_below i f) ≡ i * width =
    omega (arith, join_length f i width (λ j q. h j (omega arith))) in
    ap (take width) (ap (λ m. drop m (join_below k f)) (sym e) ∙ s.here) ∙ take_at (f i) s.rest width (h i p)

-- the parts of one width make the list
pub join_of_parts : (list : List ℕ) (k width : ℕ) →
    join_below k (λ i. take width (drop (i * width) list)) ≡ take (k * width) list
unfolding join_below
join_of_parts list zero width = ap (λ m. take m list) (sym (zero-mul width))
join_of_parts list (suc k) width =
    ap (λ l. l ++ take width (drop (k * width) list)) (join_of_parts list k width)
    ∙ sym (take-add (k * width) width list) ∙ ap (λ m. take m list) (sym (suc-mul k width))
