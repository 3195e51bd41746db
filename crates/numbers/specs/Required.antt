-- What functions require of a list, as a plain fact. Assumes nothing.
use Rattle.std.specs.Prelude.{List, ℕ, ◌≤◌, get_or}

-- no value of a list is above a bound
pub record ValuesWithin (bound : ℕ) (values : List ℕ) : Type 0 where
  pub most : (k : ℕ) → get_or values k 0 ≤ bound
