-- A number of the sheet from its bytes and its bytes from it. Assumes nothing.
use mathlib.Core.Path.{◌≡◌, refl, sym, ◌∙◌, ap}
use mathlib.Core.List.{List, [], ◌∷◌, ◌++◌}
use Prim.Native.Nat.{ℕ, zero, suc, ◌+◌, ◌%◌, ◌^◌, ◌<◌, ◌≤◌}
use native.Mathlib.Omega.{arith}
use native.Mathlib.Numerals.{add-one, add-two, add-three, add-four}
use native.Mathlib.Nat.{add-zero}
use lib.ListN.{length, get_or, drop}
use lib.Seq.{get_or-drop, drop-cons}
use Rattle.std.proofs.lemmas.Nat.{le_bytes_4, from_le_bytes-to_le_bytes_4}
use Rattle.numbers.specs.Required.{ValuesWithin}
use Rattle.sheet.specs.Number.{number_size, number_bytes, number_at}
use Rattle.sheet.proofs.StandLaws.{Stands}

pub number_size_lem : (number : ℕ) → length (number_bytes number) ≡ number_size
unfolding number_bytes
number_size_lem number = refl

-- a number whose bytes stand at a place is read there
pub number_back : (sheet : List ℕ) (place number : ℕ) → number < 2 ^ 32 → Stands sheet place (number_bytes number) →
    number_at sheet place ≡ number
unfolding number_bytes number_at
number_back sheet place number p s =
    let at : (j : ℕ) → get_or sheet (place + j) 0 ≡ get_or (number_bytes number ++ s.rest) j 0 =
    λ j. sym (get_or-drop place sheet j 0) ∙ ap (λ l. get_or l j 0) s.here in
    let low : get_or sheet place 0 ≡ number % 256 = ap (λ m. get_or sheet m 0) (sym (add-zero place)) ∙ at 0 in
    rw (low, at 1, at 2, at 3) (from_le_bytes-to_le_bytes_4 number p)

-- the four words at a place
four_words : (list : List ℕ) (place : ℕ) → place + 4 ≤ length list →
    drop place list
    ≡ get_or list place 0 ∷ get_or list (place + 1) 0 ∷ get_or list (place + 2) 0 ∷ get_or list (place + 3) 0
    ∷ drop (place + 4) list
four_words list place p =
    rw (add-one, add-two, add-three, add-four)
    (drop-cons list place 0 (omega arith) ∙ ap (λ l. get_or list place 0 ∷ l)
    (drop-cons list (suc place) 0 (omega arith) ∙ ap (λ l. get_or list (suc place) 0 ∷ l)
    (drop-cons list (suc (suc place)) 0 (omega arith) ∙ ap (λ l. get_or list (suc (suc place)) 0 ∷ l)
    (drop-cons list (suc (suc (suc place))) 0 (omega arith)))))

module _ (sheet : List ℕ) (bytes : ValuesWithin 255 sheet) (place : ℕ) where
  pub number_below : number_at sheet place < 2 ^ 32
  unfolding number_at
  number_below =
      omega (
        arith,
        bytes.most place,
        bytes.most (place + 1),
        bytes.most (place + 2),
        bytes.most (place + 3),
      )

  abbrev words : List ℕ
  words =
      get_or sheet place 0 ∷ get_or sheet (place + 1) 0 ∷ get_or sheet (place + 2) 0 ∷ get_or sheet (place + 3) 0 ∷ []

  words_within : (j : ℕ) → get_or words j 0 < 256
  words_within zero = omega (arith, bytes.most place)
  words_within (suc zero) = omega (arith, bytes.most (place + 1))
  words_within (suc (suc zero)) = omega (arith, bytes.most (place + 2))
  words_within (suc (suc (suc zero))) = omega (arith, bytes.most (place + 3))
  words_within (suc (suc (suc (suc j)))) = omega arith

  words_back : number_bytes (number_at sheet place) ≡ words
  unfolding number_bytes number_at
  words_back = le_bytes_4 words (number_at sheet place) refl words_within refl

  -- the bytes of the number that is read at a place stand there
  pub bytes_back : place + number_size ≤ length sheet → Stands sheet place (number_bytes (number_at sheet place))
  bytes_back p =
      record {
        rest = drop (place + 4) sheet;
        here = four_words sheet place p ∙ ap (λ l. l ++ drop (place + 4) sheet) (sym words_back);
      }
