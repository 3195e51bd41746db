-- A number that stands in a text as its decimal digits is read as that number. Assumes nothing.
use mathlib.Core.Path.{◌≡◌, refl, ◌∙◌, ap, ap₂}
use mathlib.Core.Bool.{Bool, true, false, cond}
use mathlib.Core.List.{List, [], ◌∷◌, ◌++◌}
use Prim.Native.Nat.{ℕ, zero, suc, ◌+◌, ◌*◌, ◌-◌, ◌/◌, ◌%◌, ◌^◌, ◌<◌, ◌≤◌}
use native.Mathlib.Nat.{pow-suc}
use native.Mathlib.Omega.{arith}
use native.Mathlib.Decide.{dec_lt}
use lib.Dec.{ltb}
use lib.ListN.{length, take, length-append, get_or-append}
use lib.Seq.{get_or-append_seam}
use borrow.Author.Tests.{le-leb, lt-ltb, le-ltb, ne_eqb}
use Rattle.numbers.proofs.BoolLaws.{by_last}
use Rattle.text.specs.Text.{digit, minus, decimal_within, decimal, signed_decimal}
use Rattle.journal.specs.Token.{byte_at, ends_token}
use Rattle.journal.specs.Number.{is_digit, digit_taken, digits_read, number_in, is_minus, signed_in, reading_in}
use Rattle.std.specs.Prelude.{Some, option_and_then, bytes_eq}
use Rattle.journal.proofs.NumberLaws.{digit_least}
use Rattle.journal.proofs.SignedLaws.{word_below}
use Rattle.journal.proofs.TextLaws.{Plain}

-- a token of digits, and the number that they write
pub record Digits (token : List ℕ) (x : ℕ) : Type 0 where
  pub some : 0 < length token
  pub each : (i : ℕ) → i < length token → is_digit (byte_at token i) ≡ true
  pub read : digits_read (length token) token ≡ Some x

-- the first digits are read alike whatever follows
read_first : (a b : List ℕ) (k : ℕ) → k ≤ length a → digits_read k (a ++ b) ≡ digits_read k a
unfolding digits_read
read_first a b zero p = refl
read_first a b (suc k) p =
    ap₂ (λ read byte. option_and_then (digit_taken byte) read) (read_first a b k (omega arith))
    (get_or-append a b 0 k p)

digit_is : (d : ℕ) → d < 10 → is_digit (digit d) ≡ true
digit_is d p = rw (le-leb 48 (48 + d) (omega arith), le-leb (48 + d) 57 (omega arith))

digit_taken_lem : (y d : ℕ) → d < 10 → y * 10 + d < 2 ^ 64 → digit_taken (digit d) y ≡ Some (y * 10 + d)
digit_taken_lem y d p q =
    let value : 48 + d - 48 ≡ d = omega arith in
    rw (digit_is d p, value, lt-ltb (y * 10 + d) (2 ^ 64) q) refl

one_digit : (d : ℕ) → d < 10 → Digits (digit d ∷ []) d
unfolding digits_read
one_digit d p =
    record { some = omega arith; each = each; read = digit_taken_lem 0 d p (omega arith) ∙ ap Some (omega arith) }
  where
    each : (i : ℕ) → i < 1 → is_digit (byte_at (digit d ∷ []) i) ≡ true
    each zero q = digit_is d p
    each (suc i) q = absurd (omega arith)

more_digits : (a : List ℕ) (y d : ℕ) → Digits a y → d < 10 → y * 10 + d < 2 ^ 64 →
    Digits (a ++ digit d ∷ []) (y * 10 + d)
unfolding digits_read
more_digits a y d t p q =
    let more : List ℕ = a ++ digit d ∷ [] in
    let size : length more ≡ suc (length a) = length-append a (digit d ∷ []) ∙ omega arith in
    let last : byte_at more (length a) ≡ digit d = get_or-append_seam a (digit d) [] 0 in
    record {
      some = omega (arith, size);
      each = λ i r. by_last (length a) (λ (j : ℕ). is_digit (byte_at more j) ≡ true)
          (λ j s. ap is_digit (get_or-append a (digit d ∷ []) 0 j s) ∙ t.each j s)
          (ap is_digit (get_or-append_seam a (digit d) [] 0) ∙ digit_is d p)
          i (omega (arith, size));
      read =
          ap (λ (n : ℕ). digits_read n more) size
          ∙ ap₂ (λ read byte. option_and_then (digit_taken byte) read)
          (read_first a (digit d ∷ []) (length a) (omega arith) ∙ t.read) last
          ∙ digit_taken_lem y d p q;
    }

within_digits : (k x : ℕ) → x < 10 ^ suc k → x < 2 ^ 64 → Digits (decimal_within (suc k) x) x
unfolding decimal_within
within_digits zero x p q =
    let few : x < 10 = omega (arith, p) in
    rw (lt-ltb x 10 few) (one_digit x few)
within_digits (suc k) x p q =
    go (within_digits k (x / 10) (omega (arith, p, pow-suc 10 (suc k))) (omega arith)) (dec_lt x 10)
  where
    go : Digits (decimal_within (suc k) (x / 10)) (x / 10) → Dec (x < 10) → Digits (decimal_within (suc (suc k)) x) x
    go rest (yes few) = rw (lt-ltb x 10 few) (one_digit x few)
    go rest (no many) =
        let whole : x / 10 * 10 + x % 10 ≡ x = omega arith in
        rw (le-ltb x 10 (omega arith))
        (rw whole at (more_digits (decimal_within (suc k) (x / 10)) (x / 10) (x % 10) rest (omega arith) (omega arith)))

pub decimal_digits : (x : ℕ) → x < 2 ^ 64 → Digits (decimal x) x
unfolding decimal
decimal_digits x p = within_digits 19 x (omega (arith, p)) p

-- a digit ends no token
digit_plain : (byte : ℕ) → is_digit byte ≡ true → ends_token byte ≡ false
digit_plain byte h =
    let least : 48 ≤ byte = digit_least byte h in
    rw (
      ne_eqb byte 32 (λ e. omega arith),
      ne_eqb byte 9 (λ e. omega arith),
      ne_eqb byte 10 (λ e. omega arith),
      ne_eqb
          byte 13 (λ e. omega arith),
      ne_eqb byte 35 (λ e. omega arith),
    )

pub digits_plain : (token : List ℕ) (x : ℕ) → Digits token x → Plain token
digits_plain token x t = record { some = t.some; plain = λ i p. digit_plain (byte_at token i) (t.each i p) }

-- digits are read as their number
module _ (token : List ℕ) (x : ℕ) (t : Digits token x) where
  pub number_in_lem : number_in token ≡ Some x
  unfolding number_in
  number_in_lem = rw (ne_eqb (length token) 0 (λ q. omega (arith, t.some))) t.read

  not_minus : is_minus token ≡ false
  unfolding is_minus
  not_minus = go token (digit_least (byte_at token 0) (t.each 0 t.some))
    where
      go : (bytes : List ℕ) → 48 ≤ byte_at bytes 0 → bytes_eq (take 1 bytes) (minus ∷ []) ≡ false
      go [] least = refl
      go (byte ∷ bytes) least = rw (ne_eqb byte minus (λ q. omega arith)) refl

  above_in : x < 2 ^ 63 → signed_in token ≡ Some x
  unfolding signed_in
  above_in p = rw (not_minus, number_in_lem, lt-ltb x (2 ^ 63) p) refl

  -- and with a minus in front as the word of the number below zero
  is_minus_lem : is_minus (minus ∷ token) ≡ true
  unfolding is_minus
  is_minus_lem = refl

  below_in : 0 < x → x ≤ 2 ^ 63 → signed_in (minus ∷ token) ≡ Some (2 ^ 64 - 1 - (x - 1))
  unfolding signed_in
  below_in p q = rw (is_minus_lem, number_in_lem, le-leb x (2 ^ 63) q, word_below x p) refl

minus_plain : (token : List ℕ) → Plain token → Plain (minus ∷ token)
minus_plain token t = record { some = omega arith; plain = byte }
  where
    byte : (i : ℕ) → i < suc (length token) → ends_token (byte_at (minus ∷ token) i) ≡ false
    byte zero p = refl
    byte (suc i) p = t.plain i (omega arith)

-- a number's text is one token, signed or not
module _ (x : ℕ) (p : x < 2 ^ 64) where
  large : 2 ^ 63 ≤ x → Digits (decimal (2 ^ 64 - x)) (2 ^ 64 - x)
  large q = decimal_digits (2 ^ 64 - x) (omega arith)

  pub text_token : (signed : Bool) → Plain (cond signed (signed_decimal x) (decimal x))
  unfolding signed_decimal
  text_token false = digits_plain (decimal x) x (decimal_digits x p)
  text_token true = go (dec_lt x (2 ^ 63))
    where
      go : Dec (x < 2 ^ 63) → Plain (cond (ltb x (2 ^ 63)) (decimal x) (minus ∷ decimal (2 ^ 64 - x)))
      go (yes q) = rw (lt-ltb x (2 ^ 63) q) (digits_plain (decimal x) x (decimal_digits x p))
      go (no q) =
          rw (le-ltb x (2 ^ 63) (omega arith))
          (minus_plain (decimal (2 ^ 64 - x)) (digits_plain _ _ (large (omega arith))))

  -- and is read as that number
  pub text_in : (signed : Bool) → reading_in signed (cond signed (signed_decimal x) (decimal x)) ≡ Some x
  unfolding reading_in signed_decimal
  text_in false = number_in_lem (decimal x) x (decimal_digits x p)
  text_in true = go (dec_lt x (2 ^ 63))
    where
      go : Dec (x < 2 ^ 63) → signed_in (cond (ltb x (2 ^ 63)) (decimal x) (minus ∷ decimal (2 ^ 64 - x))) ≡ Some x
      go (yes q) = rw (lt-ltb x (2 ^ 63) q) (above_in (decimal x) x (decimal_digits x p) q)
      go (no q) =
          let many : 2 ^ 63 ≤ x = omega arith in
          rw (le-ltb x (2 ^ 63) many)
          (below_in (decimal (2 ^ 64 - x)) (2 ^ 64 - x) (large many) (omega arith) (omega arith)
          ∙ ap Some (omega arith))
