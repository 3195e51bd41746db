-- Text after text in a buffer of fixed size. Assumes nothing.
use Rattle.std.specs.Prelude.{◌≡◌, List, [], ◌∷◌, ◌++◌, ℕ, zero, suc, ◌-◌, length, take}
use mathlib.Core.Path.{◌∙◌, ap}
use mathlib.Core.List.{append_assoc, append-nil}
use native.Mathlib.Omega.{arith}
use lib.ListN.{length-append, length-take}
use lib.Seq.{take_all}

-- a text after those that are held, as many of its bytes as fit
unfoldable pub written : ℕ → List ℕ → List ℕ → List ℕ
written size text held = held ++ take (size - length held) text

-- Two laws of it, which say that it may be written to: no text changes nothing, and two texts one after another are one.

-- a part of two texts
take_both : (n : ℕ) (a b : List ℕ) → take n (a ++ b) ≡ take n a ++ take (n - length a) b
take_both zero a b = grind arith
take_both (suc n) [] b =
    let left : suc n - 0 ≡ suc n = omega arith in
    rw left
take_both (suc n) (byte ∷ a) b =
    let left : suc n - suc (length a) ≡ n - length a = omega arith in
    rw left (ap (λ (text : List ℕ). byte ∷ text) (take_both n a b))

module _ (size : ℕ) where
  pub written_none : (held : List ℕ) → written size [] held ≡ held
  unfolding written
  written_none held =
      let none : take {A = ℕ} (size - length held) [] ≡ [] = take_all (size - length held) [] (omega arith) in
      rw none (append-nil held)

  pub written_more : (a b held : List ℕ) → written size b (written size a held) ≡ written size (a ++ b) held
  unfolding written
  written_more a b held =
      let part = take (size - length held) a in
      let room : size - length (held ++ part) ≡ size - length held - length a =
      simp (length-append, length-take) (omega arith) in
      rw (room, take_both (size - length held) a b) (append_assoc held part (take (size - length held - length a) b))

  pub written_after : (a b held next last : List ℕ) → next ≡ written size a held → last ≡ written size b next →
      last ≡ written size (a ++ b) held
  written_after a b held next last p q = q ∙ ap (written size b) p ∙ written_more a b held
