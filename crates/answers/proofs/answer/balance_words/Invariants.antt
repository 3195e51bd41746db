-- The invariant: the first i words are those of the balances.
use Rattle.numbers.specs.Signed.{word_of}
use Rattle.numbers.specs.Sizes.{most_distributors}
use Rattle.numbers.proofs.ListLaws.{Written}
use Rattle.settlement.specs.Month.{money_at}
use Rattle.answers.proofs.answer.balance_words.Given as goal

abbrev pub invariant-loop-i : goal.invariant-loop-i
invariant-loop-i l = Written (λ j. word_of (money_at l.balances j)) most_distributors l.words l.i
