-- Laws of names: a name is what stands before the first blank of its twelve bytes. Assumes nothing.
use mathlib.Core.Path.{◌≡◌, refl, ap}
use mathlib.Core.Bool.{Bool, true, false, cond}
use mathlib.Core.List.{List, [], ◌∷◌}
use mathlib.Core.Logic.{inl, inr}
use Prim.Native.Nat.{ℕ, suc, ◌+◌, ◌≤◌, ◌<◌}
use native.Mathlib.Numerals.{add-one}
use native.Mathlib.Omega.{arith}
use lib.Dec.{eqb, ltb}
use lib.ListN.{length, get_or, take, drop, length-take, drop_of_length-le}
use lib.Seq.{take_all, drop-cons}
use Rattle.std.specs.List.{position_or_len}
use Rattle.std.specs.Prelude.{Some, None}
use Rattle.std.specs.Option.{unwrap_or}
use Rattle.std.proofs.lemmas.Bool.{cases_lt}
use borrow.Author.Tests.{lt-ltb, le-ltb, eq-eqb, ne_eqb}
use Rattle.std.proofs.lemmas.List.Recursion.{is_position_or_len}
use Rattle.text.specs.Text.{blank, before_blank, name_text}

-- it stands first in its bytes, and has no more
before_first : (bytes : List ℕ) → take (length (before_blank bytes)) bytes ≡ before_blank bytes
unfolding before_blank
before_first [] = refl
before_first (byte ∷ rest) = go (eqb byte blank) (before_first rest)
  where
    go : (b : Bool) → take (length (before_blank rest)) rest ≡ before_blank rest →
        take (length (cond b [] (byte ∷ before_blank rest))) (byte ∷ rest) ≡ cond b [] (byte ∷ before_blank rest)
    go true h = refl
    go false h = ap (λ (text : List ℕ). byte ∷ text) h

pub name_size : (name : List ℕ) → length (name_text name) ≤ 12
unfolding name_text
name_size name =
    let first = ap length (before_first (take 12 name)) in
    omega (arith, rw (length-take, length-take) at first)

-- as many as stand before the first blank
before_size : (bytes : List ℕ) → length (before_blank bytes) ≡ position_or_len (λ byte. eqb byte blank) bytes
unfolding before_blank
before_size bytes =
    is_position_or_len (λ (l : List ℕ). length (before_blank l)) (λ byte. eqb byte blank) refl step bytes
  where
    step : (byte : ℕ) (rest : List ℕ) →
        length (before_blank (byte ∷ rest)) ≡ cond (eqb byte blank) 0 (1 + length (before_blank rest))
    step byte rest = go (eqb byte blank)
      where
        go : (b : Bool) → length (cond b [] (byte ∷ before_blank rest)) ≡ cond b 0 (1 + length (before_blank rest))
        go true = refl
        go false = omega arith

pub name_first : (name : List ℕ) → length name ≡ 12 →
    take (position_or_len (λ byte. eqb byte blank) name) name ≡ name_text name
unfolding name_text
name_first name whole =
    rw (take_all 12 name (omega (arith, whole)), ← before_size name) (before_first name)

-- the size of a name, which is 12 where it has no blank
pub place_or : (name : List ℕ) → length name ≡ 12 →
    let place = position_or_len (λ byte. eqb byte blank) name in
    unwrap_or (cond (ltb place (length name)) (Some place) None) 12 ≡ place
place_or name whole =
    go (position_or_len (λ byte. eqb byte blank) name)
    (omega (arith, ap length (before_first name), before_size name, length-take (length (before_blank name)) name))
  where
    go : (place : ℕ) → place ≤ length name → unwrap_or (cond (ltb place (length name)) (Some place) None) 12 ≡ place
    go place p = elim (cases_lt place (length name)) [
      | inl q ↦ rw (lt-ltb place (length name) q) refl
      | inr q ↦ rw (le-ltb place (length name) q) (omega arith)
    ]

-- a name of 12 bytes is what stands before its first blank
pub name_whole : (name : List ℕ) → length name ≡ 12 → name_text name ≡ before_blank name
unfolding name_text
name_whole name whole = ap before_blank (take_all 12 name (omega (arith, whole)))

-- the first blank: it stands at k, not there, nowhere
module _ (name : List ℕ) (k : ℕ) where
  pub name_ends : k < length name → get_or name k 0 ≡ blank → length (before_blank (drop k name)) ≡ 0
  unfolding before_blank
  name_ends p e = rw (drop-cons name k 0 p, eq-eqb (get_or name k 0) blank e)

  pub name_goes : k < length name → (get_or name k 0 ≡ blank → ⊥) →
      length (before_blank (drop k name)) ≡ suc (length (before_blank (drop (k + 1) name)))
  unfolding before_blank
  name_goes p e = rw (add-one, drop-cons name k 0 p, ne_eqb (get_or name k 0) blank e)

  pub name_over : length name ≤ k → length (before_blank (drop k name)) ≡ 0
  unfolding before_blank
  name_over p = rw (drop_of_length-le name p)
