-- The word of 64 bits that holds a number at most zero. Assumes nothing.
use mathlib.Core.Path.{◌≡◌, refl, sym}
use mathlib.Core.Bool.{true, true≢false}
use mathlib.Core.List.{List, [], ◌∷◌}
use Prim.Native.Nat.{ℕ, zero, suc, ◌+◌, ◌-◌, ◌%◌, ◌^◌, ◌≤◌, ◌<◌}
use native.Mathlib.Omega.{arith}
use lib.IntN.{sub_ℕ}
use lib.ListN.{length}
use Rattle.numbers.specs.Signed.{word_of}
use Rattle.journal.specs.Number.{is_minus}
use Rattle.numbers.proofs.SignedLaws.{sub_lt}

-- a size as the word of 64 bits that holds the number below zero
pub word_below : (size : ℕ) → 0 < size → word_of (sub_ℕ 0 size) ≡ 2 ^ 64 - 1 - (size - 1)
unfolding word_of
word_below size p = rw (sub_lt 0 size p) refl

pub word_least : (word size : ℕ) → word < 2 ^ 64 → size ≤ 2 ^ 63 → (word + size) % 2 ^ 64 ≡ 0 →
    word ≡ word_of (sub_ℕ 0 size)
unfolding word_of
word_least word zero p q e = omega arith
word_least word (suc size) p q e = rw (word_below (suc size) (omega arith)) (omega arith)

-- where a minus sign stands first there is a byte
pub minus_some : (bytes : List ℕ) → is_minus bytes ≡ true → 1 ≤ length bytes
unfolding is_minus
minus_some [] h = absurd (true≢false (sym h))
minus_some (byte ∷ bytes) h = omega arith
