-- Laws of a list that is filled from the front, part after part: what was filled, and from there on the list as it was.
-- Assumes nothing.
use mathlib.Core.Path.{◌≡◌, refl, sym, ◌∙◌, ap, ap₂}
use mathlib.Core.List.{List, [], ◌++◌, append_assoc, append-nil}
use Prim.Native.Nat.{ℕ, ◌+◌, ◌-◌, ◌≤◌}
use native.Mathlib.Omega.{arith}
use lib.ListN.{length, take, drop, length-append, length-drop}
use lib.Seq.{drop-drop, drop_at, drop-length, take_at, take_all}
use borrow.Rule.Slice.PartMut.{put_mid}

module _ {A : Type 0} (done found : List A) {now : List A} (e : now ≡ done ++ drop (length done) found) where
  -- what is done, and what is not
  pub front_done : take (length done) now ≡ done
  front_done = ap (take (length done)) e ∙ take_at done (drop (length done) found) (length done) refl

  pub front_rest : drop (length done) now ≡ drop (length done) found
  front_rest = ap (drop (length done)) e ∙ drop_at done (drop (length done) found) (length done) refl

  pub front_long : length done ≤ length found → length now ≡ length found
  front_long p =
      omega (arith, ap length e, length-append done (drop (length done) found), length-drop (length done) found)

  -- all is done
  pub front_all : length done ≡ length found → now ≡ done
  front_all p = sym (take_all (length done) now (omega (arith, front_long (omega arith)))) ∙ front_done

  -- one part more, put in the place of as many
  pub front_more : (part : List A) (at size : ℕ) → at ≡ length done → size ≡ length part →
      put_mid at size now part ≡ (done ++ part) ++ drop (length (done ++ part)) found
  front_more part at size a s =
      rw (a, s)
      (ap₂ (λ first rest. first ++ (part ++ rest)) front_done
      (ap (drop (length part)) front_rest ∙ drop-drop (length part) (length done) found)
      ∙ sym (append_assoc done part (drop (length done + length part) found))
      ∙ ap (λ size. (done ++ part) ++ drop size found) (sym (length-append done part)))

  -- the same, written first in what is not done
  pub front_onto : (part : List A) (at size : ℕ) → at ≡ length done → size ≡ length now - at →
      put_mid at size now (part ++ drop (length part) (take size (drop at now)))
      ≡ (done ++ part) ++ drop (length (done ++ part)) found
  front_onto part at size a s =
      let long : size ≡ length (drop at now) = omega (arith, s, length-drop at now) in
      let rest = drop at now in
      let whole : take size rest ≡ rest = take_all size rest (omega arith) in
      let none : drop size rest ≡ [] = ap (λ k. drop k rest) long ∙ drop-length rest in
      ap₂ (λ part' past. take at now ++ (part ++ drop (length part) part' ++ past)) whole none
      ∙ ap (λ more. take at now ++ more) (append-nil (part ++ drop (length part) rest))
      ∙ front_first part at a
    where
      front_first : (part : List A) (at : ℕ) → at ≡ length done →
          take at now ++ (part ++ drop (length part) (drop at now))
          ≡ (done ++ part) ++ drop (length (done ++ part)) found
      front_first part at a = front_more part at (length part) a refl
