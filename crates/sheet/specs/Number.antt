-- The numbers of a month sheet (W-209 of document 02): "4 bytes each, low byte first". Assumes nothing.
use Rattle.std.specs.Prelude.{List, [], ◌∷◌, ℕ, ◌+◌, ◌*◌, ◌/◌, ◌%◌, get_or}

-- the bytes of a number
abbrev pub number_size : ℕ
number_size = 4

-- a number below 2^32 as bytes
unfoldable pub number_bytes : ℕ → List ℕ
number_bytes number =
    number % 256 ∷ number / 256 % 256 ∷ number / 65536 % 256 ∷ number / 16777216 % 256 ∷ []

-- the number whose bytes stand at a place
unfoldable pub number_at : List ℕ → ℕ → ℕ
number_at sheet place =
    get_or sheet place 0 + get_or sheet (place + 1) 0 * 256 + get_or sheet (place + 2) 0 * 65536
    + get_or sheet (place + 3) 0 * 16777216
