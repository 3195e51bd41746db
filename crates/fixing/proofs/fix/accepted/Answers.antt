-- Averages and energies are in the limit's range, and the parts are the definition's.
use Rattle.fixing.specs.Limit.{InRange, distributors}
use Rattle.fixing.proofs.InputLaws.{listed_range}
use Rattle.fixing.proofs.FixingLaws.{finals_most, fixing_charged, fixing_is}
use Rattle.fixing.proofs.fix.accepted.Goals as goal
use Rattle.fixing.proofs.fix.accepted.Goals.{After-averages-averages}

module _ (c : After-averages-averages) where
  range : InRange (distributors c.args.n c.averages-averages.result c.args.energies)
  range =
      listed_range c.args.n c.args.priced.references c.args.lines.now c.requires.checked _ _
      c.averages-averages.ensures c.requires.supplied

pub invariant_of-distributors : goal.invariant_of-distributors
invariant_of-distributors c =
    record { range = range (goal.at.invariant_of-distributors c).After-averages-averages }

pub charges-charges-requires : goal.charges-charges-requires
charges-charges-requires c =
    let r = range (goal.at.charges-charges-requires c).After-averages-averages in
    finals_most c.args.n c.averages-averages.result c.args.energies r _ c.fix_prices-prices.ensures.answered

pub sector_charges-sectors-requires : goal.sector_charges-sectors-requires
sector_charges-sectors-requires c =
    fixing_charged c.args.n c.averages-averages.result c.args.energies (range
    (goal.at.sector_charges-sectors-requires c).After-averages-averages) _
    c.fix_prices-prices.ensures.answered _ c.charges-charges.ensures
    c.args.sectors.now c.requires.lent c.requires.allowed

pub returns : goal.returns
returns c =
    rw (← c.averages-averages.ensures, ← c.power_averages-power.ensures, ← c.requires.supplied)
    (fixing_is c.args.n c.averages-averages.result c.args.energies (range (goal.at.returns
    c).After-averages-averages) _ c.fix_prices-prices.ensures.answered _
    c.charges-charges.ensures
    c.power_averages-power.result c.args.sectors.now _ c.sector_charges-sectors.ensures)
