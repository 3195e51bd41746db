-- Each way out is the definition at the test that led there.
use Rattle.supply.specs.Range.{input_in_range}
use Rattle.numbers.proofs.BoolLaws.{told_true, told_false}
use Rattle.supply.proofs.range.input_in_range.Goals as goal

pub returns-then-not-numbers_in_range : goal.returns-then-not-numbers_in_range
unfolding input_in_range
returns-then-not-numbers_in_range c = rw (told_false c.numbers_in_range.ensures c.if-not-numbers_in_range.true-raw)

pub returns-then-not-lines_in_range : goal.returns-then-not-lines_in_range
unfolding input_in_range
returns-then-not-lines_in_range c =
    rw (
      told_true c.numbers_in_range.ensures c.if-not-numbers_in_range.false-raw,
      told_false c.lines_in_range.ensures c.if-not-lines_in_range.true-raw,
    )

pub returns : goal.returns
unfolding input_in_range
returns c =
    rw (
      told_true c.numbers_in_range.ensures c.if-not-numbers_in_range.false-raw,
      told_true c.lines_in_range.ensures c.if-not-lines_in_range.false-raw,
    )
    c.all_between.ensures
