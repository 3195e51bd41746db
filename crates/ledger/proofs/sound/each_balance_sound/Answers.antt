-- The chain's answer is the definition's, distributor by distributor.
use Rattle.std.proofs.Common.{rules}
use borrow.Author.Tests.{tests}
use mathlib.Core.Path.{refl, ◌∙◌}
use Rattle.numbers.specs.Sizes.{most_distributors}
use Rattle.std.proofs.lemmas.Iterator.{YieldsList-from_range}
use Rattle.std.proofs.lemmas.Iterator.Search.{all_from_yields_List}
use Rattle.numbers.proofs.ChainLaws.{all_ranged}
use Rattle.ledger.specs.Sound.{balance_sound, each_balance}
use Rattle.ledger.proofs.sound.each_balance_sound.Goals as goal

pub returns : goal.returns
unfolding each_balance balance_sound
returns c =
    all_from_yields_List (balance_sound c.args.counts c.args.balances) _ _ _ c.all.ensures.ran
    (YieldsList-from_range 0 most_distributors most_distributors (cc) refl)
    (λ x b q k. search (rules, tests))
    ∙ all_ranged most_distributors (balance_sound c.args.counts c.args.balances)
