-- Laws of what is written to: two texts one after another are one; and a text for which there is room stands in a text of
-- its own whole. Assumes nothing.
use mathlib.Core.Path.{◌≡◌, refl, sym, ◌∙◌, ap}
use mathlib.Core.List.{List, [], ◌++◌, append-nil}
use Prim.Native.Nat.{ℕ, ◌+◌, ◌-◌, ◌≤◌, ◌<◌}
use native.Mathlib.Numerals.{add-one}
use native.Mathlib.Omega.{arith}
use lib.ListN.{length, get_or, drop}
use lib.Seq.{take_all}
use Rattle.std.proofs.lemmas.List.{drop_more, drop_all}
use Rattle.std.specs.List.{flat_map}
use Rattle.text.specs.Buffer.{written}
use Rattle.text.specs.Text.{text_below}

module _ {H : Type 0} (after : List ℕ → H → H)
    (both : (a b : List ℕ) (held next last : H) → next ≡ after a held → last ≡ after b next → last ≡ after (a ++ b) held)
  where
    -- what is left of a list, each of whose items is written as a text, when one more is written
    pub items_more : {A : Type 0} (f : A → List ℕ) (items : List A) (i : ℕ) (d : A) (held next : H) → i < length items →
        next ≡ after (f (get_or items i d)) held →
        after (flat_map f (drop (i + 1) items)) next ≡ after (flat_map f (drop i items)) held
    items_more f items i d held next p e =
        both (f (get_or items i d)) (flat_map f (drop (i + 1) items)) held next _ e refl
        ∙ ap (λ rest. after (flat_map f rest) held) (sym (drop_more items i d p))

    -- a loop that writes text after text: one more of them
    pub texts_more : (f : ℕ → List ℕ) (held : H) (k : ℕ) (next last : H) → next ≡ after (text_below k f) held →
        last ≡ after (f k) next → last ≡ after (text_below (k + 1) f) held
    unfolding text_below
    texts_more f held k next last p q = rw add-one (both (text_below k f) (f k) held next last p q)

module _ {H : Type 0} (after : List ℕ → H → H) (none : (held : H) → after [] held ≡ held) where
  -- no item is left
  pub items_all : {A : Type 0} (f : A → List ℕ) (items : List A) (i : ℕ) (held : H) → length items ≤ i →
      after (flat_map f (drop i items)) held ≡ held
  items_all f items i held p = ap (λ rest. after (flat_map f rest) held) (drop_all i items p) ∙ none held

  -- none of the texts of a loop
  pub texts_none : (f : ℕ → List ℕ) (held : H) → held ≡ after (text_below 0 f) held
  unfolding text_below
  texts_none f held = sym (none held)

module _ (size : ℕ) where
  -- a text for which there is room stands whole after what was written before
  pub text_stands : (text held : List ℕ) → length held + length text ≤ size → written size text held ≡ held ++ text
  unfolding written
  text_stands text held room = rw (take_all (size - length held) text (omega (arith, room)))

  -- a full buffer stays as it is
  pub text_full : (text held : List ℕ) → size ≤ length held → written size text held ≡ held
  unfolding written
  text_full text held full =
      let none : size - length held ≡ 0 = omega (arith, full) in
      rw none (append-nil held)
