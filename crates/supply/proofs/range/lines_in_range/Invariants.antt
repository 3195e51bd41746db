-- The invariant: each line passed is in range.
use Rattle.numbers.proofs.TestLaws.{Tested}
use Rattle.supply.specs.Line.{line_count, line_of}
use Rattle.supply.specs.Range.{line_in_range}
use Rattle.supply.proofs.range.lines_in_range.Given as goal

abbrev pub invariant-loop-j : goal.invariant-loop-j
invariant-loop-j l = Tested (line_count l.lines) (λ i. line_in_range l.n (line_of l.lines i)) l.j
