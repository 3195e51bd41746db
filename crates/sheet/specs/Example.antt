-- A month sheet of two distributors, worked by hand: the first has 5 kWh billed AT in sector 0 (bit 0) and 258 kWh
-- injected BT in sector 1 (bit 7), the second 2,000,000,000 kWh injected BT in sector 7 (bit 31). Assumes nothing.
use Rattle.std.specs.Prelude.{List, [], ◌∷◌, ◌++◌, ℕ, replicate}

abbrev pub example_readings : List ℕ
example_readings = 5 ∷ replicate 6 0 ++ 258 ∷ replicate 24 0 ++ replicate 31 0 ++ 2000000000 ∷ []

abbrev pub example_sheet : List ℕ
example_sheet = 129 ∷ 0 ∷ 0 ∷ 0 ∷ 5 ∷ 0 ∷ 0 ∷ 0 ∷ 2 ∷ 1 ∷ 0 ∷ 0 ∷ 0 ∷ 0 ∷ 0 ∷ 128 ∷ 0 ∷ 148 ∷ 53 ∷ 119 ∷ []

-- bits 0 and 1 are set; the first reading is zero, the second is cut off
abbrev pub zero_then_short : List ℕ
zero_then_short = 3 ∷ 0 ∷ 0 ∷ 0 ∷ 0 ∷ 0 ∷ 0 ∷ 0 ∷ 1 ∷ []

-- the same with the zero reading cut off
abbrev pub short_before_zero : List ℕ
short_before_zero = 3 ∷ 0 ∷ 0 ∷ 0 ∷ 0 ∷ 0 ∷ 0 ∷ []
