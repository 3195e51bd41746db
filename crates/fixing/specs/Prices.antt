-- The call on averages and energies alone: what it answers, by the definitions of the limit. Assumes nothing.
use Rattle.std.specs.Prelude.{◌≡◌, Bool, List, [], ◌∷◌, ℕ, ◌*◌, ◌<◌, ℤ, pos}
use Rattle.numbers.specs.Bounded.{filled_below}
use Rattle.numbers.specs.Units.{no_price}
use Rattle.numbers.specs.Sizes.{most_distributors}
use Rattle.numbers.specs.declared.units.PesoPrice.{PesoPrice}
use Rattle.fixing.specs.Limit.{Distributors, sum_inside, sum_outside, limit, rounds, surcharge, residue, final_price}
use Rattle.fixing.specs.Limit.{distributors, charge}
use Rattle.fixing.specs.declared.distributors.PricedDistributors.{PricedDistributors}
use Rattle.fixing.specs.declared.prices.FixedPrices.{FixedPrices}
use Rattle.fixing.specs.declared.prices.RoundSums.{RoundSums}
use Rattle.fixing.specs.declared.prices.LastRound.{LastRound}

-- those of the code
abbrev pub distributors_of : PricedDistributors → Distributors
distributors_of d = distributors d.n d.averages d.energies

-- what a round sums of its set: what the set pays at the averages, its energy, and the energy outside it
abbrev pub round_sums : Distributors → (ℕ → Bool) → RoundSums
round_sums d set =
    record {
      paid = record { 0 = sum_inside d set (λ i. d.average i * d.energy i) };
      inside = record { 0 = sum_inside d set d.energy };
      outside = record { 0 = sum_outside d set d.energy };
    }

-- what the rounds come to
abbrev pub last_round : Distributors → LastRound
last_round d = record { surcharge = record { 0 = surcharge d }; rounds = rounds d }

-- the final prices, distributor by distributor; the places past n are empty
unfoldable pub final_prices : Distributors → List PesoPrice
final_prices d = filled_below most_distributors no_price d.count (λ i. record { 0 = final_price d i })

-- the charges, distributor by distributor; the places past n are empty
unfoldable pub charge_list : Distributors → List ℤ
charge_list d = filled_below most_distributors (pos 0) d.count (charge d)

-- "Fixing .. returns L, r (0 if none), rounds, residue"
unfoldable pub returned_values : Distributors → List ℕ
returned_values d = limit d ∷ surcharge d ∷ rounds d ∷ residue d ∷ []

-- the same in their units, beside the final prices
unfoldable pub fixed_prices : Distributors → FixedPrices
fixed_prices d =
    record {
      limit = record { 0 = limit d };
      surcharge = record { 0 = surcharge d };
      rounds = rounds d;
      residue = record { 0 = residue d };
      finals = final_prices d;
    }

-- what the call promises: the answer is the definitions', and the rounds made are fewer than the distributors
pub record PricesPromise (d : Distributors) (answer : FixedPrices) : Type 0 where
  pub answered : answer ≡ fixed_prices d
  pub few : answer.rounds < d.count
