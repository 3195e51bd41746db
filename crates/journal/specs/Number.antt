-- The number that a token's digits write. Assumes nothing.
use Rattle.std.specs.Prelude.{Bool, cond, ◌&&◌, List, [], ◌∷◌, ℕ, zero, suc, ◌+◌, ◌*◌, ◌-◌, ◌^◌, leb, ltb, eqb, length}
use Rattle.std.specs.Prelude.{take, drop}
use Rattle.std.specs.Prelude.{Option, Some, None, option_and_then, bytes_eq}
use Rattle.std.proofs.Math.IntN.{sub_ℕ}
use Rattle.numbers.specs.Signed.{word_of}
use Rattle.text.specs.Text.{minus}
use Rattle.journal.specs.Token.{byte_at}

abbrev pub is_digit : ℕ → Bool
is_digit byte = leb 48 byte && leb byte 57

-- "A number is decimal digits": a number with one more digit, where it is one and the number fits 64 bits
abbrev pub digit_taken : ℕ → ℕ → Option ℕ
digit_taken byte value =
    cond (is_digit byte && ltb (value * 10 + (byte - 48)) (2 ^ 64)) (Some (value * 10 + (byte - 48))) None

-- the first so many digits
unfoldable pub digits_read : ℕ → List ℕ → Option ℕ
digits_read zero bytes = Some 0
digits_read (suc k) bytes = option_and_then (digit_taken (byte_at bytes k)) (digits_read k bytes)

-- the number of the bytes, which are some
unfoldable pub number_in : List ℕ → Option ℕ
number_in bytes = cond (eqb (length bytes) 0) None (digits_read (length bytes) bytes)

-- "with `-` in front where it is signed"
unfoldable pub is_minus : List ℕ → Bool
is_minus bytes = bytes_eq (take 1 bytes) (minus ∷ [])

-- a signed number fits 64 bits with its sign, and is read as the word that holds it
abbrev pub above_zero : ℕ → Option ℕ
above_zero size = cond (ltb size (2 ^ 63)) (Some size) None

abbrev pub below_zero : ℕ → Option ℕ
below_zero size = cond (leb size (2 ^ 63)) (Some (word_of (sub_ℕ 0 size))) None

-- the signed number of the bytes
unfoldable pub signed_in : List ℕ → Option ℕ
signed_in bytes =
    cond (is_minus bytes) (option_and_then below_zero (number_in (drop 1 bytes)))
    (option_and_then above_zero (number_in bytes))

-- the number of the bytes, signed or not
unfoldable pub reading_in : Bool → List ℕ → Option ℕ
reading_in signed bytes = cond signed (signed_in bytes) (number_in bytes)
