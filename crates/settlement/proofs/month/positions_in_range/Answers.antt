-- The first n positions are tested, each as it is read back from its bits.
use mathlib.Core.Path.{◌∙◌}
use native.Mathlib.Omega.{arith}
use borrow.Author.Tests.{tests}
use lib.ListN.{take}
use Rattle.std.proofs.Common.{rules}
use Rattle.std.proofs.lemmas.Iterator.{YieldsList-from_slice}
use Rattle.std.proofs.lemmas.Iterator.Search.{all_from_yields_List}
use Rattle.numbers.specs.Signed.{within_size}
use Rattle.numbers.specs.Units.{no_money}
use Rattle.numbers.specs.declared.units.Pesos.{Pesos}
use Rattle.settlement.specs.Settlement.{most_position, positions_in_range}
use Rattle.settlement.proofs.MonthLaws.{all_taken}
use Rattle.settlement.proofs.month.positions_in_range.Goals as goal

pub returns : goal.returns
unfolding positions_in_range
returns c =
    all_from_yields_List (λ (p : Pesos). within_size most_position p.0) _ _ _ c.all.ensures.ran
    (YieldsList-from_slice (take c.args.n c.args.positions) cc)
    (λ x b q k. search (rules, tests))
    ∙ all_taken (λ (p : Pesos). within_size most_position p.0) c.args.positions c.args.n no_money (omega arith)
