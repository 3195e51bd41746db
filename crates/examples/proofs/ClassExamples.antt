-- The one statement about the table of class examples: it has the twelve, each with the values printed, by computation.
-- Assumes nothing.
use mathlib.Core.Path.{◌≡◌, refl}
use mathlib.Core.Bool.{true}
use Rattle.ledger.proofs.Computed.{ledger_computed}
use Rattle.examples.specs.ClassExamples.{month_value, row_of, lent_words, indexed_numbers, indexed_line, plain_number}
use Rattle.examples.specs.ClassExamples.{pair, print_answered, settled_number, first_money, class_examples}
use Rattle.examples.specs.Table.{same_number, same_numbers, hold_from, whole}

pub class_examples_lem : hold_from 1 class_examples ≡ true
unfolding ledger_computed month_value row_of lent_words indexed_numbers indexed_line plain_number pair print_answered
    settled_number first_money class_examples same_number same_numbers hold_from whole
class_examples_lem = refl
