-- The invariant: what is known before a round. Somebody joins in each round but the last, so that the rounds stay fewer
-- than the distributors.
use Prim.Native.Nat.{◌-◌}
use Rattle.fixing.specs.Prices.{distributors_of}
use Rattle.fixing.proofs.LoopLaws.{Round}
use Rattle.fixing.proofs.distributors.PricedDistributors.last_round.Given as goal

abbrev pub invariant-loop-sums : goal.invariant-loop-sums
invariant-loop-sums l =
    Round (distributors_of l.self) l.limit.0 l.sums l.rounds

abbrev pub decreases-loop-sums : goal.decreases-loop-sums
decreases-loop-sums l = l.self.n - l.rounds
