-- The chain's answer is the definition's, sector by sector.
use mathlib.Core.Path.{◌∙◌}
use native.Mathlib.Omega.{arith}
use Prim.Native.Nat.{◌+◌, ◌*◌}
use Rattle.std.proofs.Common.{rules}
use borrow.Author.Tests.{tests}
use Rattle.std.proofs.lemmas.Iterator.{YieldsList-from_range}
use Rattle.std.proofs.lemmas.Iterator.Search.{any_from_yields_List}
use Rattle.numbers.proofs.ChainLaws.{any_ranged}
use Rattle.fixing.specs.Sector.{sector_present, has_sector}
use Rattle.fixing.proofs.sector.has_sector.Goals as goal

pub returns : goal.returns
unfolding has_sector sector_present
returns c =
    any_from_yields_List (λ s. sector_present c.args.sectors.now (c.args.i * 8 + s)) _ _ _ c.any.ensures.ran
    (YieldsList-from_range 0 8 8 (cc) (omega arith))
    (λ x b q k. search (rules, tests))
    ∙ any_ranged 8 _
