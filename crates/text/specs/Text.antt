-- Names and numbers as text, byte by byte. Assumes nothing.
use Rattle.std.specs.Prelude.{Bool, cond, List, [], ◌∷◌, ◌++◌, ℕ, zero, suc, ◌+◌, ◌-◌, ◌/◌, ◌%◌, ◌^◌, ltb, eqb}
use Rattle.std.specs.Prelude.{length, get_or, take, ℤ, pos, negsuc}
use Rattle.std.specs.List.{flat_map}
use Prim.Native.Char.{code}
use Prim.Native.String.{String}
use Prim.Native.String.{[] as String·[], ◌∷◌ as ◌String·∷◌}

abbrev pub blank : ℕ
blank = 32

abbrev pub line_end : ℕ
line_end = 10

abbrev pub minus : ℕ
minus = 45

-- the bytes of a text in ASCII
abbrev pub bytes : String → List ℕ
bytes String·[] = []
bytes (first String·∷ rest) = code first ∷ bytes rest

-- a digit below 10
abbrev pub digit : ℕ → ℕ
digit d = 48 + d

-- a number in decimal without leading zeros, among so many digits at most
unfoldable pub decimal_within : ℕ → ℕ → List ℕ
decimal_within zero x = []
decimal_within (suc k) x = cond (ltb x 10) (digit x ∷ []) (decimal_within k (x / 10) ++ (digit (x % 10) ∷ []))

-- a number of 64 bits has at most 20 digits
unfoldable pub decimal : ℕ → List ℕ
decimal x = decimal_within 20 x

-- a number of either sign, held as a word of 64 bits: "decimal digits, with `-` in front where it is signed"
unfoldable pub signed_decimal : ℕ → List ℕ
signed_decimal x = cond (ltb x (2 ^ 63)) (decimal x) (minus ∷ decimal (2 ^ 64 - x))

-- a number of either sign
unfoldable pub integer : ℤ → List ℕ
integer (pos n) = decimal n
integer (negsuc n) = minus ∷ decimal (suc n)

-- numbers, each after a blank, by how one is shown
unfoldable pub words_text : {A : Type 0} → (A → List ℕ) → List A → List ℕ
words_text shown numbers = flat_map (λ x. blank ∷ shown x) numbers

-- a number after a blank
unfoldable pub word : ℕ → List ℕ
word x = blank ∷ decimal x

-- the same, of either sign where it is signed
unfoldable pub word_by : Bool → ℕ → List ℕ
word_by signed x = cond signed (blank ∷ signed_decimal x) (word x)

-- text 0, text 1, .. up to below the bound, one after another
unfoldable pub text_below : ℕ → (ℕ → List ℕ) → List ℕ
text_below zero f = []
text_below (suc k) f = text_below k f ++ f k

-- numbers, each after a blank
unfoldable pub words_by : Bool → List ℕ → List ℕ
words_by signed words = text_below (length words) (λ k. word_by signed (get_or words k 0))

-- what stands before the first blank
unfoldable pub before_blank : List ℕ → List ℕ
before_blank [] = []
before_blank (byte ∷ rest) = cond (eqb byte blank) [] (byte ∷ before_blank rest)

-- a name of 12 bytes, the last of them blank where it is shorter
unfoldable pub name_text : List ℕ → List ℕ
name_text name = before_blank (take 12 name)
