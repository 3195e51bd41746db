-- What document 01 says of lists of prices beside the final ones, for demand 3.
-- Assumes nothing.
use Rattle.std.specs.Prelude.{cond, ℕ, zero, suc, ◌+◌, ◌-◌, ◌*◌, min, ℤ, pos, ◌-ℤ◌, ◌*ℤ◌}
use Rattle.std.specs.Int.Signed.{le_z}
use Rattle.numbers.specs.Signed.{signed_sum_below}
use Rattle.numbers.specs.Bounded.{sum_below}
use Rattle.fixing.specs.Limit.{Distributors, limit}

-- the greater of two signed numbers
unfoldable pub greater : ℤ → ℤ → ℤ
greater a b = cond (le_z a b) b a

-- the greatest of f 0 .. f k
unfoldable pub greatest_up_to : ℕ → (ℕ → ℤ) → ℤ
greatest_up_to zero f = f 0
greatest_up_to (suc k) f = greater (greatest_up_to k f) (f (suc k))

-- "A list of prices collects the sum of price * E_i"; whole prices may have either sign
unfoldable pub prices_collect : Distributors → (ℕ → ℤ) → ℤ
prices_collect d price = signed_sum_below d.count (λ i. price i *ℤ pos (d.energy i))

-- the "largest charge" (a term of 01) of a list of prices: the greatest price less p_i
unfoldable pub largest_charge : Distributors → (ℕ → ℤ) → ℤ
largest_charge d price = greatest_up_to (d.count - 1) (λ i. price i -ℤ pos (d.average i))

-- what the prices collect that raise every average by s, but to the limit at most
unfoldable pub collected_at : Distributors → ℕ → ℕ
collected_at d s = sum_below d.count (λ i. min (limit d) (d.average i + s) * d.energy i)
