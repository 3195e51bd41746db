-- Laws of the number that digits write. Assumes nothing.
use mathlib.Core.Path.{◌≡◌, refl}
use mathlib.Core.Bool.{true}
use mathlib.Core.List.{List}
use Prim.Native.Nat.{ℕ, zero, suc, ◌+◌, ◌≤◌}
use native.Mathlib.Numerals.{add-one}
use native.Mathlib.Omega.{arith}
use native.Mathlib.Decide.{ℕ_discrete}
use lib.Dec.{leb}
use borrow.Author.Tests.{leb-true}
use Rattle.std.specs.Prelude.{Option, None, option_and_then}
use Rattle.numbers.proofs.BoolLaws.{and_left, and_right}
use Rattle.journal.specs.Token.{byte_at}
use Rattle.journal.specs.Number.{is_digit, digit_taken, digits_read}

pub digit_least : (byte : ℕ) → is_digit byte ≡ true → 48 ≤ byte
digit_least byte h = leb-true 48 byte (and_left (leb 48 byte) (leb byte 57) h)

-- where so many bytes are no number, more are none
pub digits_none : (bytes : List ℕ) (k j : ℕ) → k ≤ j → digits_read k bytes ≡ None → digits_read j bytes ≡ None
unfolding digits_read
digits_none bytes zero zero p h = h
digits_none bytes (suc k) zero p h = absurd (omega arith)
digits_none bytes k (suc j) p h = go (λ q. digits_none bytes k j q h) (ℕ_discrete k (suc j))
  where
    go : (k ≤ j → digits_read j bytes ≡ None) → Dec (k ≡ suc j) → digits_read (suc j) bytes ≡ None
    go before (yes e) = rw e at h
    go before (no n) = rw (before (omega arith))

pub digit_most : (byte : ℕ) → is_digit byte ≡ true → byte ≤ 57
digit_most byte h = leb-true byte 57 (and_right (leb 48 byte) (leb byte 57) h)

-- one more digit is read
pub read_next : (bytes : List ℕ) (k : ℕ) (reading : Option ℕ) → reading ≡ digits_read k bytes →
    option_and_then (digit_taken (byte_at bytes k)) reading ≡ digits_read (k + 1) bytes
unfolding digits_read
read_next bytes k reading e = rw (add-one, e) refl
