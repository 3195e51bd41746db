-- The units of document 01: "Peso price, energy and money are kept apart as units", and the bounds that "belong to
-- the peso price itself"; and the power price, "thousandths of $/kW/month" (W-204 of document 02). Assumes nothing.
use Rattle.std.specs.Prelude.{Bool, cond, ◌&&◌, List, [], ◌∷◌, ℕ, leb, length, get_or, pos, Option, Some, None}
use Rattle.numbers.specs.Bounded.{all_below}
use Rattle.numbers.specs.Refusal.{Answered, accepted, without_values}
use Rattle.numbers.specs.declared.units.PesoPrice.{PesoPrice}
use Rattle.numbers.specs.declared.units.PowerPrice.{PowerPrice}
use Rattle.numbers.specs.declared.units.Energy.{Energy}
use Rattle.numbers.specs.declared.units.Pesos.{Pesos}
use Rattle.numbers.specs.declared.units.UnsignedPesos.{UnsignedPesos}

-- an empty place of a list of prices, of power prices, and of energies
abbrev pub no_price : PesoPrice
no_price = record { 0 = 0 }

abbrev pub no_power : PowerPrice
no_power = record { 0 = 0 }

abbrev pub no_energy : Energy
no_energy = record { 0 = 0 }

-- no money
abbrev pub no_money : Pesos
no_money = record { 0 = pos 0 }

abbrev pub no_total : UnsignedPesos
no_total = record { 0 = 0 }

-- the ends that a reference, and so an average, must keep, in 0.001 $/kWh
abbrev pub least_price : ℕ
least_price = 1000

abbrev pub most_price : ℕ
most_price = 2000000

-- whether low <= x <= high
unfoldable pub between : ℕ → ℕ → ℕ → Bool
between low high x = leb low x && leb x high

-- so for every word of a list
unfoldable pub all_between : ℕ → ℕ → List ℕ → Bool
all_between low high words = all_below (length words) (λ j. between low high (get_or words j 0))

-- the bound where a test holds; where it does not, nothing but 0 may stand
unfoldable pub bound_where : Bool → ℕ → ℕ
bound_where held bound = cond held bound 0

-- the price of a word, where it keeps the bounds
unfoldable pub checked_price : ℕ → Option PesoPrice
checked_price word = cond (between least_price most_price word) (Some (record { 0 = word })) None

-- the number of each answer (0: accepted), and the values returned with it
abbrev pub price_answered : Option PesoPrice → Answered
price_answered (Some p) = accepted (p.0 ∷ [])
price_answered None = without_values 11
