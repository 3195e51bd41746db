-- Each word is that of a distributor below n, or zero.
use Rattle.std.proofs.Common.{rules}
use borrow.Author.Tests.{tests}
use mathlib.Core.Path.{◌∙◌}
use native.Mathlib.Omega.{arith}
use Rattle.std.proofs.lemmas.Iterator.{YieldsList-from_range}
use Rattle.std.proofs.lemmas.Iterator.Search.{all_from_yields_List}
use Rattle.numbers.proofs.ChainLaws.{all_ranged}
use Rattle.store.specs.Store.{kept_words, zero_past}
use Rattle.store.proofs.StoreLaws.{zero_or_before}
use Rattle.store.proofs.save.zero_past.Goals as goal

pub returns : goal.returns
unfolding zero_past
returns c =
    all_from_yields_List (zero_or_before c.args.n c.args.words.now) _ _ _ c.all.ensures.ran
    (YieldsList-from_range 0 kept_words kept_words (cc) (omega arith))
    (λ x b q k. search (rules, tests))
    ∙ all_ranged kept_words (zero_or_before c.args.n c.args.words.now)
