-- Each way out is the definition at the test that led there.
use mathlib.Core.Path.{◌≡◌, ◌∙◌}
use Prim.Native.Nat.{◌*◌}
use lib.Dec.{leb}
use Rattle.numbers.specs.Bounded.{all_below}
use Rattle.numbers.specs.Sizes.{sector_count}
use Rattle.numbers.proofs.UnitLaws.{between_zero}
use Rattle.fixing.specs.Sector.{most_factor, factor_at, sectors_allowed}
use Rattle.fixing.proofs.sector.sectors_allowed.Goals as goal
use Rattle.fixing.proofs.sector.sectors_allowed.Goals.{After-all_between}

small : (c : After-all_between) →
    c.all_between.result ≡ all_below (c.args.n * sector_count)
    (λ k. leb (factor_at c.args.sectors.now k) most_factor)
small c =
    c.all_between.ensures ∙ between_zero most_factor c.args.sectors.now _ c.requires.lent

pub returns-then-all_between : goal.returns-then-all_between
unfolding sectors_allowed
returns-then-all_between c = rw (
  ← small (goal.at.returns-then-all_between c).After-all_between,
  c.if-all_between.true,
) c.all_have_sectors.ensures

pub returns-else-all_between : goal.returns-else-all_between
unfolding sectors_allowed
returns-else-all_between c = rw (← small (goal.at.returns-else-all_between c).After-all_between, c.if-all_between.false)
