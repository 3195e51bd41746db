-- Laws of a lent buffer: a byte where there is room and where there is none, byte after byte, and a text for which there
-- is room stands in it whole. Assumes nothing.
use mathlib.Core.Path.{◌≡◌, sym, ◌∙◌, ap}
use mathlib.Core.List.{List, [], ◌∷◌, ◌++◌, append_assoc, append-nil}
use Prim.Native.Nat.{ℕ, suc, ◌+◌, ◌≤◌, ◌<◌}
use native.Mathlib.Numerals.{add-one}
use native.Mathlib.Omega.{arith}
use lib.ListN.{length, get_or, take, drop, set, length-set, drop_of_length-le}
use lib.Seq.{take-suc-set, drop-cons}
use borrow.Author.Tests.{lt-ltb, le-ltb}
use Rattle.text.specs.Lent.{Buffer, buffer_of, written_byte, filled, filled_more}

-- what two calls have written, and a byte before a text and after one
pub filled_after : (a b : List ℕ) (buffer next last : Buffer) → next ≡ filled a buffer → last ≡ filled b next →
    last ≡ filled (a ++ b) buffer
filled_after a b buffer next last p q = q ∙ ap (filled b) p ∙ filled_more a b buffer

pub byte_after : (byte : ℕ) (b : List ℕ) (buffer next last : Buffer) → next ≡ written_byte byte buffer →
    last ≡ filled b next → last ≡ filled (byte ∷ b) buffer
unfolding filled
byte_after byte b buffer next last p q = q ∙ ap (filled b) p

pub after_byte : (a : List ℕ) (byte : ℕ) (buffer next last : Buffer) → next ≡ filled a buffer →
    last ≡ written_byte byte next → last ≡ filled (a ++ byte ∷ []) buffer
unfolding filled
after_byte a byte buffer next last p q = q ∙ ap (written_byte byte) p ∙ filled_more a (byte ∷ []) buffer

-- a byte where there is room, and where there is none
pub byte_room : (byte : ℕ) (bytes : List ℕ) (count : ℕ) → count < length bytes →
    written_byte byte (buffer_of bytes count) ≡ buffer_of (set bytes count byte) (suc count)
unfolding written_byte
byte_room byte bytes count p = rw (lt-ltb count (length bytes) p)

pub byte_full : (byte : ℕ) (bytes : List ℕ) (count : ℕ) → length bytes ≤ count →
    written_byte byte (buffer_of bytes count) ≡ buffer_of bytes count
unfolding written_byte
byte_full byte bytes count p = rw (le-ltb count (length bytes) p)

-- what is left of a text, when one more of its bytes is written; and nothing is left
pub filled_next : (text : List ℕ) (k : ℕ) (buffer next : Buffer) → k < length text →
    next ≡ written_byte (get_or text k 0) buffer → filled (drop (k + 1) text) next ≡ filled (drop k text) buffer
unfolding filled
filled_next text k buffer next p e = rw (e, add-one, drop-cons text k 0 p)

pub filled_all : (text : List ℕ) (k : ℕ) (buffer : Buffer) → length text ≤ k → filled (drop k text) buffer ≡ buffer
unfolding filled
filled_all text k buffer p = rw (drop_of_length-le text p)

-- a text for which there is room stands whole after what was written before
pub record Stands (before text : List ℕ) (buffer : Buffer) : Type 0 where
  pub within : buffer.count ≤ length buffer.bytes
  pub whole : take buffer.count buffer.bytes ≡ before ++ text

pub lent_stands : (text bytes : List ℕ) (count : ℕ) → count + length text ≤ length bytes →
    Stands (take count bytes) text (filled text (buffer_of bytes count))
unfolding filled
lent_stands [] bytes count room = record { within = omega (arith, room); whole = sym (append-nil (take count bytes)) }
lent_stands (byte ∷ text) bytes count room =
    let here : count < length bytes = omega (arith, room) in
    let rest = lent_stands text (set bytes count byte) (suc count) (rw length-set (omega (arith, room))) in
    rw (byte_room byte bytes count here)
    (record {
      within = rest.within;
      whole =
          rest.whole ∙ ap (λ first. first ++ text) (take-suc-set bytes count byte here) ∙ append_assoc
          (take count bytes) (byte ∷ []) text;
    })
