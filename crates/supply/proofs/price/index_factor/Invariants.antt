-- The invariant: the sum of what the terms passed add; each adds less than 10^18.
use lib.Dec.{ltb}
use Rattle.numbers.proofs.SumLaws.{Summed}
use Rattle.supply.specs.Line.{term_of}
use Rattle.supply.specs.Listed.{listed_mean}
use Rattle.supply.specs.Price.{weighted_ratio}
use Rattle.supply.proofs.price.index_factor.Given as goal

abbrev pub invariant-loop-k : goal.invariant-loop-k
invariant-loop-k l =
    Summed 4 (λ i. weighted_ratio (listed_mean l.means.values) (term_of l.line i) (ltb i l.line.term_count)) l.sum l.k
