-- The invariant: each line passed is in range.
use mathlib.Core.Path.{◌≡◌, ◌∙◌, ap}
use native.Mathlib.Omega.{arith}
use Rattle.numbers.proofs.BoolLaws.{told_true, told_false}
use Rattle.numbers.proofs.TestLaws.{tested_none, tested_more, tested_fails, tested_all}
use Rattle.supply.specs.Line.{line_of}
use Rattle.supply.specs.Range.{line_in_range, lines_in_range}
use Rattle.supply.proofs.range.lines_in_range.Goals as goal
use Rattle.supply.proofs.range.lines_in_range.Goals.{After-line_in_range}

pub loop-j-init : goal.loop-j-init
loop-j-init c = tested_none _ _

-- what the test says of the line
tested : (c : After-line_in_range) →
    c.line_in_range.result ≡ line_in_range c.args.n
    (line_of c.args.lines.now c.loop-j.j)
tested c = c.line_in_range.ensures ∙ ap (line_in_range _) c.line_at.ensures

pub returns-then-not-line_in_range : goal.returns-then-not-line_in_range
unfolding lines_in_range
returns-then-not-line_in_range c =
    tested_fails c.loop-j.invariant (omega (arith, c.line_count-j-end.ensures))
    (told_false (tested (goal.at.returns-then-not-line_in_range c).After-line_in_range) c.if-not-line_in_range.true-raw)

pub loop-j-preserved : goal.loop-j-preserved
loop-j-preserved c =
    tested_more c.loop-j.invariant (omega (arith, c.line_count-j-end.ensures))
    (told_true (tested (goal.at.loop-j-preserved c).After-line_in_range) c.if-not-line_in_range.false-raw)

pub returns : goal.returns
unfolding lines_in_range
returns c = tested_all c.loop-j.invariant (omega (arith, c.line_count-j-end.ensures))
