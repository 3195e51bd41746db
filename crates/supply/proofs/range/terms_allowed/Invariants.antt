-- The invariant: each term passed is allowed.
use lib.Dec.{ltb}
use Rattle.numbers.proofs.TestLaws.{Tested}
use Rattle.supply.specs.Line.{term_of}
use Rattle.supply.specs.Range.{term_allowed}
use Rattle.supply.proofs.range.terms_allowed.Given as goal

abbrev pub invariant-loop-k : goal.invariant-loop-k
invariant-loop-k l = Tested 4 (λ i. term_allowed (term_of l.line i) (ltb i l.line.term_count)) l.k
