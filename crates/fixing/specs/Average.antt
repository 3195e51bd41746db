-- Energy and average of each distributor ("The limit and the charges" of document 01), from its lines.
-- Assumes nothing.
use Rattle.std.specs.Prelude.{Bool, cond, not, List, ℕ, ◌*◌, get_or, eqb}
use Rattle.numbers.specs.Bounded.{sum_below, all_below, any_below, list_below, filled_below}
use Rattle.numbers.specs.Rounding.{half_up}
use Rattle.numbers.specs.Units.{no_price, no_energy}
use Rattle.numbers.specs.Sizes.{most_distributors}
use Rattle.numbers.specs.declared.units.PesoPrice.{PesoPrice}
use Rattle.numbers.specs.declared.units.Energy.{Energy}
use Rattle.supply.specs.Line.{line_count, line_of}

-- what line j adds to a sum of distributor i: f j of its own lines, 0 of the others'
unfoldable pub own_part : List ℕ → (ℕ → ℕ) → ℕ → ℕ → ℕ
own_part lines f i j = cond (eqb (line_of lines j).distributor i) (f j) 0

-- the sum of f over the lines of distributor i
unfoldable pub own_sum : List ℕ → (ℕ → ℕ) → ℕ → ℕ
own_sum lines f i = sum_below (line_count lines) (own_part lines f i)

-- E_i, the energy of distributor i
unfoldable pub supplied_energy : List ℕ → ℕ → ℕ
supplied_energy lines i = own_sum lines (λ j. (line_of lines j).energy) i

-- the sum of price * energy over the lines of distributor i
unfoldable pub lines_amount : (ℕ → ℕ) → List ℕ → ℕ → ℕ
lines_amount price lines i = own_sum lines (λ j. price j * (line_of lines j).energy) i

-- p_i, "the sum of reference * energy over its lines, divided by E_i, half up"
unfoldable pub average_price : (ℕ → ℕ) → List ℕ → ℕ → ℕ
average_price reference lines i = half_up (lines_amount reference lines i) (supplied_energy lines i)

-- whether distributor i has a line
unfoldable pub has_line : List ℕ → ℕ → Bool
has_line lines i = any_below (line_count lines) (λ j. eqb (line_of lines j).distributor i)

-- every distributor has a line; cause 9 is met where this is false
unfoldable pub everyone_supplied : ℕ → List ℕ → Bool
everyone_supplied n lines = all_below n (has_line lines)

-- the same by energies: proofs/AverageLaws shows that who has no energy has no line
unfoldable pub every_energy : ℕ → List Energy → Bool
every_energy n energies = all_below n (λ i. not (eqb (get_or energies i no_energy).0 0))

-- the energies as a list: 0 for who has no line
unfoldable pub energy_list : List ℕ → List Energy
energy_list lines = list_below most_distributors (λ i. record { 0 = supplied_energy lines i })

-- the averages of n distributors as a list; the places past n are empty
unfoldable pub average_list : ℕ → List PesoPrice → List ℕ → List PesoPrice
average_list n references lines =
    filled_below most_distributors no_price n
    (λ i. record { 0 = average_price (λ j. (get_or references j no_price).0) lines i })
