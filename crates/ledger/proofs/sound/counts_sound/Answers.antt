-- The chain's answer is the definition's, distributor by distributor.
use Rattle.std.proofs.Common.{rules}
use borrow.Author.Tests.{tests}
use mathlib.Core.Path.{refl, ◌∙◌}
use Rattle.numbers.specs.Sizes.{most_distributors}
use Rattle.std.proofs.lemmas.Iterator.{YieldsList-from_range}
use Rattle.std.proofs.lemmas.Iterator.Search.{all_from_yields_List}
use Rattle.numbers.proofs.ChainLaws.{all_ranged}
use Rattle.ledger.specs.Ledger.{count_at}
use Rattle.ledger.specs.Sound.{count_test, counts_sound}
use Rattle.ledger.proofs.sound.counts_sound.Goals as goal

pub returns : goal.returns
unfolding counts_sound count_test
returns c =
    all_from_yields_List (λ i. count_test c.args.n c.args.last (count_at c.args.counts i) i) _ _ _ c.all.ensures.ran
    (YieldsList-from_range 0 most_distributors most_distributors (cc) refl)
    (λ x b q k. search (rules, tests))
    ∙ all_ranged most_distributors (λ i. count_test c.args.n c.args.last (count_at c.args.counts i) i)
