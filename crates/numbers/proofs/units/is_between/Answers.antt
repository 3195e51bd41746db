use Rattle.std.proofs.Common.{rules}
use Rattle.numbers.specs.Units.{between}
use Rattle.numbers.proofs.units.is_between.Goals as goal

pub returns : goal.returns
unfolding between
returns c = search rules
