-- Each call answers a definition, and together they are the answer.
use mathlib.Core.Path.{◌≡◌, ap, ap₂}
use Prim.Native.Nat.{◌*◌, ◌/◌, ◌-◌, ◌≤◌}
use native.Mathlib.Omega.{arith}
use Rattle.numbers.specs.declared.units.Energy.{Energy}
use Rattle.numbers.specs.declared.units.UnsignedPesos.{UnsignedPesos}
use Rattle.fixing.specs.Limit.{InRange, contract_total, total_energy, limit, distributors}
use Rattle.fixing.specs.Prices.{distributors_of}
use Rattle.fixing.proofs.LimitLaws.{energy_some}
use Rattle.fixing.proofs.PassLaws.{total_fits}
use Rattle.fixing.proofs.AnswerLaws.{limit_is, last_most_lem, finals_range, finals_over, prices_promised}
use Rattle.fixing.proofs.distributors.PricedDistributors.fix_prices.Goals as goal
use Rattle.fixing.proofs.distributors.PricedDistributors.fix_prices.Goals.{After-collected-collected, After-energy-energy}
use Rattle.fixing.proofs.distributors.PricedDistributors.fix_prices.Goals.{After-final_prices-finals}

-- contract total and energy
module _ (c : After-energy-energy) where
  total_is : c.collected-total.result.0 ≡ contract_total (distributors_of c.args.self)
  total_is = ap (λ (x : UnsignedPesos). x.0) c.collected-total.ensures

  energy_is : c.energy-energy.result.0 ≡ total_energy (distributors_of c.args.self)
  unfolding total_energy
  energy_is = ap (λ (x : Energy). x.0) c.energy-energy.ensures

  topped : 105 * c.collected-total.result.0 / (100 * c.energy-energy.result.0) ≡ limit (distributors_of c.args.self)
  topped = limit_is (distributors_of c.args.self) _ _ total_is energy_is

pub overflow_mul-floor : goal.overflow_mul-floor
overflow_mul-floor c = omega (
  arith,
  total_is (goal.at.overflow_mul-floor c).After-energy-energy,
  total_fits
      (distributors_of c.args.self) c.args.self.range,
)

pub nonzero_div-floor : goal.nonzero_div-floor
nonzero_div-floor c = omega (
  arith,
  energy_is (goal.at.nonzero_div-floor c).After-energy-energy,
  energy_some
      (distributors_of c.args.self) c.args.self.range,
)

pub last_round-last-requires : goal.last_round-last-requires
last_round-last-requires c = topped (goal.at.last_round-last-requires c).After-energy-energy

pub final_prices-finals-requires : goal.final_prices-finals-requires
final_prices-finals-requires c =
    last_most_lem (distributors_of c.args.self) c.args.self.range _ c.last_round-last.ensures

-- the final prices are in range, and collect the contract total
module _ (c : After-final_prices-finals) where
  ranged : InRange (distributors c.args.self.n c.final_prices-finals.result c.args.self.energies)
  ranged =
      finals_range c.args.self.n c.args.self.averages c.args.self.energies c.args.self.range _ (topped
      (goal.at.collected-collected-requires c).After-energy-energy) _
      c.last_round-last.ensures _ c.final_prices-finals.ensures

  over : contract_total (distributors_of c.args.self) ≤ contract_total
      (distributors c.args.self.n c.final_prices-finals.result c.args.self.energies)
  over =
      finals_over c.args.self.n c.args.self.averages c.args.self.energies c.args.self.range _ (topped
      (goal.at.collected-collected-requires c).After-energy-energy) _
      c.last_round-last.ensures _ c.final_prices-finals.ensures

pub collected-collected-requires : goal.collected-collected-requires
collected-collected-requires c = ranged c

collected_is : (c : After-collected-collected) →
    c.collected-collected.result.0 ≡ contract_total
    (distributors c.args.self.n c.final_prices-finals.result
    c.args.self.energies)
collected_is c = ap (λ (x : UnsignedPesos). x.0) c.collected-collected.ensures

pub overflow_sub-residue : goal.overflow_sub-residue
overflow_sub-residue c = omega (
  arith,
  collected_is (goal.at.overflow_sub-residue c).After-collected-collected,
  total_is (goal.at.overflow_sub-residue c).After-energy-energy,
  over (goal.at.overflow_sub-residue
      c).After-final_prices-finals,
)

pub returns : goal.returns
returns c =
    prices_promised c.args.self.n c.args.self.averages c.args.self.energies c.args.self.range
    _ (topped (goal.at.returns c).After-energy-energy) _ c.last_round-last.ensures _ c.final_prices-finals.ensures
    _ (ap₂ ◌-◌ (collected_is (goal.at.returns c).After-collected-collected) (total_is (goal.at.returns
    c).After-energy-energy))
