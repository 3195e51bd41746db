use mathlib.Core.Path.{◌∙◌}
use Rattle.numbers.proofs.RoundingLaws.{divide_up_is}
use Rattle.numbers.proofs.rounding.divide_up.Goals as goal

pub returns : goal.returns
returns c = c.div_ceil.ensures ∙ divide_up_is c.args.a c.args.b c.requires.fact_1
