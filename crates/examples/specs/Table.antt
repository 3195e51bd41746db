-- A table of worked examples: what a definition computes beside what document 01 prints, and the one test over it.
-- Assumes nothing.
use Rattle.std.specs.Prelude.{Bool, true, false, ◌&&◌, List, [], ◌∷◌, ℕ, ◌+◌, eqb, ℤ, pos, negsuc}

-- an example: its number in 01, the values that the definitions give, and the values that 01 prints
pub record Example : Type 0 where
  pub number : ℕ
  pub computed : List ℤ
  pub printed : List ℤ

unfoldable pub same_number : ℤ → ℤ → Bool
same_number (pos a) (pos b) = eqb a b
same_number (pos a) (negsuc b) = false
same_number (negsuc a) (pos b) = false
same_number (negsuc a) (negsuc b) = eqb a b

unfoldable pub same_numbers : List ℤ → List ℤ → Bool
same_numbers [] [] = true
same_numbers [] (b ∷ rest) = false
same_numbers (a ∷ more) [] = false
same_numbers (a ∷ more) (b ∷ rest) = same_number a b && same_numbers more rest

-- whether these are 01's examples from number k to the twelfth, in their order, each with the values that are printed
unfoldable pub hold_from : ℕ → List Example → Bool
hold_from k [] = eqb k 13
hold_from k (e ∷ es) = eqb e.number k && (same_numbers e.computed e.printed && hold_from (k + 1) es)

-- unsigned numbers among the values
unfoldable pub whole : List ℕ → List ℤ
whole [] = []
whole (n ∷ ns) = pos n ∷ whole ns
