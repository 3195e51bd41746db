-- An example of power prices worked by hand, which holds the definitions by computation: one distributor of two lines,
-- CPI 10,500 in the month before, the dollar 850.00 $. Assumes nothing.
--
-- Line 0, power base price 9,001 over 10,000: ratio 1,050,000; indexed 9,451.05, so 9,451; by 11,000 over 10,000
-- purchase 10,396.1, so 10,396; at 850 $ 8,836,600. Line 1, 7,777 over 9,999: ratio 1,050,105; indexed 8,166.7, so
-- 8,167; by 10,000 over 8,000 purchase 10,208.75, so 10,209; at 850 $ 8,677,650. Energies 1 and 2: 26,191,900 / 3, so
-- 8,730,633.
use mathlib.Core.Path.{◌≡◌, refl}
use mathlib.Core.List.{List, [], ◌∷◌, ◌++◌}
use Prim.Native.Nat.{ℕ}
use lib.ListN.{replicate}
use Rattle.fixing.specs.Input.{FixingInput, input_of, input_power_average}
use Rattle.fixing.proofs.Computed.{fixing_computed}

-- a line of no terms: offer and purchase factor, energy, then power base price and base value, lag and window 1
abbrev power_line : ℕ → ℕ → ℕ → ℕ → ℕ → List ℕ
power_line offer purchase energy base value =
    (0 ∷ 50000 ∷ offer ∷ purchase ∷ energy ∷ []) ++ (replicate 21 0 ++ (base ∷ 1 ∷ 1 ∷ value ∷ []))

abbrev power_input : FixingInput
power_input =
    input_of (record { month = 1; day = 1; dollar = 85000; reference_factor = 10000; first_month = 0 })
    (replicate 144 0 ++ (10500 ∷ replicate 95 0))
    (power_line 10000 11000 1 9001 10000 ++ power_line 8000 10000 2 7777 9999) (10000 ∷ replicate 7 0) []

example_power : input_power_average power_input 0 ≡ 8730633
unfolding fixing_computed
example_power = refl
