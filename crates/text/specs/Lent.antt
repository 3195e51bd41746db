-- Text written into a lent buffer, byte after byte. Assumes nothing.
use Rattle.std.specs.Prelude.{◌≡◌, cond, List, [], ◌∷◌, ◌++◌, ℕ, suc, ltb, length, slice_set}
use mathlib.Core.Path.{refl}

-- a lent buffer, and how many of its bytes are written
pub record Buffer : Type 0 where
  pub bytes : List ℕ
  pub count : ℕ

abbrev pub buffer_of : List ℕ → ℕ → Buffer
buffer_of bytes count = record { bytes = bytes; count = count }

-- a byte after those that are written; a full buffer stays as it is
unfoldable pub written_byte : ℕ → Buffer → Buffer
written_byte byte buffer =
    cond (ltb buffer.count (length buffer.bytes))
    (buffer_of (slice_set buffer.bytes buffer.count byte) (suc buffer.count))
    buffer

-- a text after what is written
unfoldable pub filled : List ℕ → Buffer → Buffer
filled [] buffer = buffer
filled (byte ∷ text) buffer = filled text (written_byte byte buffer)

pub filled_more : (a b : List ℕ) (buffer : Buffer) → filled b (filled a buffer) ≡ filled (a ++ b) buffer
unfolding filled
filled_more [] b buffer = refl
filled_more (byte ∷ a) b buffer = filled_more a b (written_byte byte buffer)
