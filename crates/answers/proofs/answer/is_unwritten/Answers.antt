-- By the chain over the list.
use Rattle.std.proofs.Common.{rules, tests}
use Rattle.std.proofs.lemmas.Iterator.{YieldsList-from_slice}
use Rattle.std.proofs.lemmas.Iterator.Search.{all_from_yields_List}
use Rattle.answers.specs.Answer.{all_unwritten}
use Rattle.answers.proofs.answer.is_unwritten.Goals as goal

pub returns : goal.returns
unfolding all_unwritten
returns g c =
    all_from_yields_List (λ x. g.T.PartialEq.eq x c.args.unwritten) _ _ _ c.all.ensures.ran
    (YieldsList-from_slice c.args.list.now c.iter.ensures.rest) (λ x b q k. search (rules, tests))
