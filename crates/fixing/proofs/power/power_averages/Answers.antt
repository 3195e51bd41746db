-- The invariant: the averages passed are filled in; amounts and energies are those of the definition.
use mathlib.Core.Path.{◌≡◌, ◌∙◌, ap, ap₂}
use mathlib.Core.List.{List}
use Prim.Native.Nat.{ℕ, ◌<◌}
use native.Mathlib.Omega.{arith}
use lib.ListN.{get_or}
use Rattle.numbers.specs.Rounding.{half_up}
use Rattle.numbers.specs.Sizes.{most_distributors}
use Rattle.numbers.specs.Units.{no_power, no_energy}
use Rattle.numbers.specs.declared.units.PowerPrice.{PowerPrice}
use Rattle.numbers.specs.declared.units.Energy.{Energy}
use Rattle.numbers.proofs.ListLaws.{list_at, filled_none, filled_next, filled_same}
use Rattle.fixing.specs.Average.{lines_amount, supplied_energy, average_price}
use Rattle.fixing.specs.Power.{power_of, power_averages}
use Rattle.fixing.specs.Required.{PowerWithin}
use Rattle.fixing.proofs.AverageLaws.{energy_at, supplied_some}
use Rattle.fixing.proofs.PowerLaws.{power_amount_within}
use Rattle.fixing.proofs.power.power_averages.Goals as goal
use Rattle.fixing.proofs.power.power_averages.Invariants.{average_in}
use Rattle.fixing.proofs.power.power_averages.Goals.{After-power_amounts-amounts}

-- the amount of distributor i, and its energy
module _ (c : After-power_amounts-amounts) (i : ℕ) (p : i < c.args.n) where
  few : i < most_distributors
  few = omega (arith, c.requires.few)

  amount : get_or c.power_amounts-amounts.result i 0 ≡ lines_amount (power_of c.args.prices) c.args.lines.now i
  amount =
      ap (λ (amounts : List ℕ). get_or amounts i 0) c.power_amounts-amounts.ensures
      ∙ list_at (lines_amount (power_of c.args.prices) c.args.lines.now) most_distributors 0 i few

  energy : (get_or c.args.energies i no_energy).0 ≡ supplied_energy c.args.lines.now i
  energy = ap (λ (xs : List Energy). (get_or xs i no_energy).0) c.requires.supplied ∙ energy_at c.args.lines.now i few

  within : PowerWithin (get_or c.power_amounts-amounts.result i 0) (get_or c.args.energies i no_energy).0
  within =
      rw (amount, energy)
      (power_amount_within c.args.prices c.args.lines.now c.requires.priced i
      (supplied_some c.args.n c.args.lines.now c.requires.priced.own c.requires.everyone i p))

  -- their average is the definition's
  average : average_in c.power_amounts-amounts.result c.args.energies i ≡ record
      { 0 = average_price (power_of c.args.prices) c.args.lines.now i }
  unfolding average_price
  average = ap₂ {C = PowerPrice} (λ x y. record { 0 = half_up x y }) amount energy

pub loop-i-init : goal.loop-i-init
loop-i-init c = filled_none most_distributors no_power _

pub power_average-requires : goal.power_average-requires
power_average-requires c =
    within (goal.at.power_average-requires c).After-power_amounts-amounts c.loop-i.i (omega arith)

pub loop-i-preserved : goal.loop-i-preserved
loop-i-preserved c =
    filled_next most_distributors no_power c.loop-i.i (average_in c.power_amounts-amounts.result c.args.energies)
    c.loop-i.averages _ (omega (arith, c.requires.few)) c.loop-i.invariant c.power_average.ensures

pub returns : goal.returns
unfolding power_averages
returns c =
    let e : c.loop-i.i ≡ c.args.n = omega arith in
    (rw e at c.loop-i.invariant)
    ∙ filled_same most_distributors no_power c.args.n _ _ (average (goal.at.returns c).After-power_amounts-amounts)
