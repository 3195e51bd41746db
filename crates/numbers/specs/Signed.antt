-- Signed numbers: sign, the two parts, a bound on the size, sums. An i64 of the code is a ℤ of these definitions;
-- the size of z is nat_abs z, the difference of two unsigned numbers is subℕ, both of the kit. Assumes nothing.
use Rattle.std.specs.Prelude.{Bool, true, false, cond, ℕ, zero, suc, ◌-◌, ◌^◌, leb, ltb, ℤ, pos, negsuc, nat_abs, ◌+ℤ◌}

-- whether z is below zero
unfoldable pub is_negative : ℤ → Bool
is_negative (pos n) = false
is_negative (negsuc n) = true

-- the size of z where it is above zero, and 0 else
abbrev pub positive_part : ℤ → ℕ
positive_part (pos n) = n
positive_part (negsuc n) = 0

-- the size of z where it is below zero, and 0 else
abbrev pub negative_part : ℤ → ℕ
negative_part (pos n) = 0
negative_part (negsuc n) = suc n

-- whether z lies in -bound to bound
unfoldable pub within_size : ℕ → ℤ → Bool
within_size bound z = leb (nat_abs z) bound

-- f 0 + f 1 + .. up to below the bound
unfoldable pub signed_sum_below : ℕ → (ℕ → ℤ) → ℤ
signed_sum_below zero f = pos 0
signed_sum_below (suc k) f = signed_sum_below k f +ℤ f k

-- the word of 64 bits that holds z: z itself, or 2^64 more where it is below zero
unfoldable pub word_of : ℤ → ℕ
word_of (pos n) = n
word_of (negsuc n) = 2 ^ 64 - 1 - n

-- the number of either sign that a word of 64 bits holds
unfoldable pub signed_of : ℕ → ℤ
signed_of word = cond (ltb word (2 ^ 63)) (pos word) (negsuc (2 ^ 64 - 1 - word))
