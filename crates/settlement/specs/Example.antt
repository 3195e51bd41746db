-- The readings and loss factors of class examples 9 and 10 of document 01: three distributors, sector 0 alone present,
-- all of it billed at high voltage, loss factors 10,000. Assumes nothing.
use Rattle.std.specs.Prelude.{List, ◌∷◌, ◌++◌, ℕ, replicate}

-- a value for each of three distributors in sector 0, another in all other sectors
unfoldable pub in_sector_zero : {A : Type 0} → A → A → A → A → List A
in_sector_zero other a b c = (a ∷ replicate 7 other) ++ ((b ∷ replicate 7 other) ++ (c ∷ replicate 7 other))

-- a distributor's readings, of which the first of sector 0 alone is not zero
unfoldable pub billed : ℕ → List ℕ
billed reading = reading ∷ replicate 31 0

unfoldable pub billed_readings : ℕ → ℕ → ℕ → List ℕ
billed_readings a b c = billed a ++ (billed b ++ billed c)

unfoldable pub even_losses : List ℕ
even_losses = replicate 6 10000
