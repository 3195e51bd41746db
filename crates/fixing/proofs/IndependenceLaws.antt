-- What is worked from energy does not depend on power (W-204 of document 02): inputs that agree in all but the lines'
-- power words have the same averages and energies, and so the same prices, charges and sector
-- charges. Assumes nothing.
use mathlib.Core.Path.{◌≡◌, ap, ap₂}
use mathlib.Core.List.{List}
use Prim.Native.Nat.{ℕ, ◌*◌}
use lib.ListN.{get_or}
use Rattle.numbers.specs.Rounding.{half_up}
use Rattle.numbers.specs.Units.{no_price}
use Rattle.numbers.specs.Sizes.{most_distributors}
use Rattle.numbers.specs.declared.units.PesoPrice.{PesoPrice}
use Rattle.numbers.specs.declared.units.Energy.{Energy}
use Rattle.numbers.proofs.SumLaws.{sum_same}
use Rattle.numbers.proofs.ListLaws.{list_same, filled_same}
use Rattle.supply.specs.Line.{SameEnergyWords, line_count}
use Rattle.supply.proofs.EnergyLaws.{count_same, distributor_same, energy_same, references_same}
use Rattle.fixing.specs.Average.{own_part, own_sum, supplied_energy, lines_amount, average_price, energy_list}
use Rattle.fixing.specs.Average.{average_list}
use Rattle.fixing.specs.Limit.{charge, distributors}
use Rattle.fixing.specs.Prices.{fixed_prices, charge_list}
use Rattle.fixing.specs.Sector.{sector_charges}
use Rattle.fixing.specs.Input.{FixingInput, SameButPower, input_mean, input_references, input_averages}
use Rattle.fixing.specs.Input.{input_energies, input_distributors}
use Rattle.fixing.specs.Fixing.{accepted_fixing, worked_fixing}
use Rattle.fixing.specs.declared.fix.Fixing.{Fixing}
use Rattle.fixing.proofs.VerdictLaws.{passed_fixing}

-- fixings that agree in all that is worked from energy
pub record SameEnergyParts (one other : Fixing) : Type 0 where
  pub averages : one.averages ≡ other.averages
  pub prices : one.prices ≡ other.prices
  pub charges : one.charges ≡ other.charges
  pub sectors : one.sectors ≡ other.sectors

-- sums over the lines of a distributor
module _ (one other : List ℕ) (same : SameEnergyWords one other) where
  own_same : (f g : ℕ → ℕ) → ((j : ℕ) → f j ≡ g j) → (i : ℕ) → own_sum one f i ≡ own_sum other g i
  unfolding own_sum own_part
  own_same f g h i =
      rw (count_same one other same)
      (sum_same (line_count other) _ _ (λ j p. rw (distributor_same one other same j, h j)))

  supplied_same : (i : ℕ) → supplied_energy one i ≡ supplied_energy other i
  unfolding supplied_energy
  supplied_same = own_same _ _ (energy_same one other same)

  average_same : (price : ℕ → ℕ) (i : ℕ) → average_price price one i ≡ average_price price other i
  unfolding average_price lines_amount
  average_same price i =
      ap₂ half_up (own_same _ _ (λ j. ap (λ e. price j * e) (energy_same one other same j)) i) (supplied_same i)

module _ (n : ℕ) (one other : FixingInput) (same : SameButPower one other) where
  reference_list_same : input_references one ≡ input_references other
  unfolding input_references
  reference_list_same =
      rw (same.numbers, same.series, same.in_force)
      (references_same one.lines other.lines same.lines (input_mean other) other.numbers other.in_force)

  averages_same : input_averages n one ≡ input_averages n other
  unfolding input_averages average_list
  averages_same =
      rw reference_list_same
      (filled_same most_distributors no_price n _ _
      (λ i p. ap {B = PesoPrice} (λ x. record { 0 = x })
      (average_same one.lines other.lines same.lines (λ j. (get_or (input_references other) j no_price).0) i)))

  energies_same : input_energies one ≡ input_energies other
  unfolding input_energies energy_list
  energies_same =
      list_same most_distributors _ _
      (λ i p. ap {B = Energy} (λ x. record { 0 = x }) (supplied_same one.lines other.lines same.lines i))

  pub distributors_same : input_distributors n one ≡ input_distributors n other
  unfolding input_distributors
  distributors_same = ap₂ (distributors n) averages_same energies_same

  pub fixing_same : SameEnergyParts (worked_fixing n one) (worked_fixing n other)
  unfolding accepted_fixing input_distributors
  fixing_same =
      rw (passed_fixing n one, passed_fixing n other)
      (record {
        averages = averages_same;
        prices = ap fixed_prices distributors_same;
        charges = ap charge_list distributors_same;
        sectors = ap₂ (λ d s. sector_charges n (charge d) s) distributors_same same.sectors;
      })
