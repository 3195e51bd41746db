-- The chain's answer is the definition's, distributor by distributor.
use mathlib.Core.Path.{◌∙◌}
use mathlib.Core.Bool.{not}
use native.Mathlib.Omega.{arith}
use lib.Dec.{eqb}
use lib.ListN.{get_or}
use Rattle.std.proofs.Common.{rules}
use borrow.Author.Tests.{tests}
use Rattle.std.proofs.lemmas.Iterator.{YieldsList-from_range}
use Rattle.std.proofs.lemmas.Iterator.Search.{all_from_yields_List}
use Rattle.numbers.specs.Units.{no_energy}
use Rattle.numbers.proofs.ChainLaws.{all_ranged}
use Rattle.fixing.specs.Average.{every_energy}
use Rattle.fixing.proofs.average.every_energy.Goals as goal

pub returns : goal.returns
unfolding every_energy
returns c =
    all_from_yields_List (λ i. not (eqb (get_or c.args.energies i no_energy).0 0)) _ _ _ c.all.ensures.ran
    (YieldsList-from_range 0 c.args.n c.args.n (cc) (omega arith))
    (λ x b q k. search (rules, tests))
    ∙ all_ranged c.args.n _
