-- The chain's answer is the definition's, distributor by distributor.
use mathlib.Core.Path.{◌∙◌}
use native.Mathlib.Omega.{arith}
use Rattle.std.proofs.Common.{rules}
use borrow.Author.Tests.{tests}
use Rattle.std.proofs.lemmas.Iterator.{YieldsList-from_range}
use Rattle.std.proofs.lemmas.Iterator.Search.{all_from_yields_List}
use Rattle.numbers.proofs.ChainLaws.{all_ranged}
use Rattle.fixing.specs.Sector.{has_sector}
use Rattle.fixing.proofs.sector.all_have_sectors.Goals as goal

pub returns : goal.returns
returns c =
    all_from_yields_List (has_sector c.args.sectors.now) _ _ _ c.all.ensures.ran (YieldsList-from_range 0 c.args.n
    c.args.n (cc) (omega arith))
    (λ x b q k. search (rules, tests))
    ∙ all_ranged c.args.n (has_sector c.args.sectors.now)
