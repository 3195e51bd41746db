-- The roundings of document 01, first section. Assumes nothing: every use shows that its divisor is not 0.
use Rattle.std.specs.Prelude.{ℕ, suc, ◌+◌, ◌-◌, ◌*◌, ◌/◌, ℤ, pos, negsuc, neg_ℤ}

-- "Half up" (a term of 01): a / b to the nearest whole number, a half upwards
unfoldable pub half_up : ℕ → ℕ → ℕ
half_up a b = (2 * a + b) / (2 * b)

-- "Half away" (a term of 01): z / b to the nearest whole number, a half away from zero
unfoldable pub half_away : ℤ → ℕ → ℤ
half_away (pos n) b = pos (half_up n b)
half_away (negsuc n) b = neg_ℤ (pos (half_up (suc n) b))

-- a / b rounded up, as the surcharge is
unfoldable pub divide_up : ℕ → ℕ → ℕ
divide_up a b = (a + (b - 1)) / b
