-- The invariant: the sum of the weights passed, each at most 10,000.
use Rattle.numbers.proofs.SumLaws.{Summed}
use Rattle.supply.specs.Line.{term_of}
use Rattle.supply.proofs.range.weight_total.Given as goal

abbrev pub invariant-loop-k : goal.invariant-loop-k
invariant-loop-k l = Summed 4 (λ i. (term_of l.line i).weight) l.total l.k
