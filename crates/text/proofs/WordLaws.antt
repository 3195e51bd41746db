-- Numbers that are held as words of 64 bits, by how they are shown. Assumes nothing.
use mathlib.Core.Path.{◌≡◌, refl, sym, ◌∙◌, ap}
use mathlib.Core.Bool.{false}
use mathlib.Core.List.{List, [], ◌∷◌, ◌++◌}
use Prim.Native.Nat.{ℕ, zero, suc, ◌-◌, ◌^◌, ◌<◌, ◌≤◌}
use native.Mathlib.Decide.{dec_lt}
use native.Mathlib.Numerals.{add-one}
use native.Mathlib.Omega.{arith}
use lib.ListN.{length, get_or, take}
use lib.Seq.{take_all}
use borrow.Author.Tests.{lt-ltb, le-ltb}
use Rattle.std.specs.List.{flat_map}
use Rattle.std.proofs.lemmas.List.{take_more, flat_map_more}
use Rattle.numbers.specs.Signed.{signed_of}
use Rattle.text.specs.Text.{blank, decimal, integer, signed_decimal, word, word_by, words_text, text_below, words_by}

-- texts of a list's items, up to the k-th
texts_items : {A : Type 0} (f : A → List ℕ) (items : List A) (d : A) (k : ℕ) → k ≤ length items →
    text_below k (λ j. f (get_or items j d)) ≡ flat_map f (take k items)
unfolding text_below
texts_items f items d zero p = refl
texts_items f items d (suc k) p =
    ap (λ text. text ++ f (get_or items k d)) (texts_items f items d k (omega arith))
    ∙ flat_map_more f [] (take k items) (get_or items k d)
    ∙ ap (flat_map f) (sym (take_more items k d (omega arith)) ∙ ap (λ (n : ℕ). take n items) (add-one k))

-- words without a sign
pub words_plain : (words : List ℕ) → words_text decimal words ≡ words_by false words
unfolding words_text words_by word_by word
words_plain words =
    sym
    (texts_items (λ x. blank ∷ decimal x) words 0 (length words) (omega arith)
    ∙ ap (flat_map (λ x. blank ∷ decimal x)) (take_all (length words) words (omega arith)))

-- a word that holds a number of either sign
pub signed_plain : (x : ℕ) → x < 2 ^ 64 → integer (signed_of x) ≡ signed_decimal x
unfolding integer signed_of signed_decimal
signed_plain x p = go (dec_lt x (2 ^ 63))
  where
    go : Dec (x < 2 ^ 63) → integer (signed_of x) ≡ signed_decimal x
    go (yes q) = rw (lt-ltb x (2 ^ 63) q) refl
    go (no q) =
        let size : suc (2 ^ 64 - 1 - x) ≡ 2 ^ 64 - x = omega arith in
        rw (le-ltb x (2 ^ 63) (omega arith), size) refl
