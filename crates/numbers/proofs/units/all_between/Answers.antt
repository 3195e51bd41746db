-- The chain's answer is the definition's, index by index.
use Rattle.std.proofs.Common.{rules}
use borrow.Author.Tests.{tests}
use mathlib.Core.Path.{◌∙◌}
use Rattle.std.proofs.lemmas.Iterator.{YieldsList-from_slice}
use Rattle.std.proofs.lemmas.Iterator.Search.{all_from_yields_List}
use Rattle.numbers.specs.Units.{between, all_between}
use Rattle.numbers.proofs.ChainLaws.{all_listed}
use Rattle.numbers.proofs.units.all_between.Goals as goal

pub returns : goal.returns
unfolding all_between
returns c =
    all_from_yields_List (between c.args.low c.args.high) _ _ _ c.all.ensures.ran (YieldsList-from_slice c.args.words.now cc)
    (λ x b q k. search (rules, tests))
    ∙ all_listed (between c.args.low c.args.high) c.args.words.now 0
