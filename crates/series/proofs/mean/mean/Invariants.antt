-- The window lies in the row; the invariant: no month passed is missing, and the sum is that of the months passed.
use mathlib.Core.Path.{◌≡◌}
use mathlib.Core.Bool.{false}
use lib.Dec.{eqb}
use Rattle.numbers.specs.Bounded.{sum_below, any_below}
use Rattle.series.specs.Series.{term_value}
use Rattle.series.proofs.mean.mean.Given as goal

abbrev pub invariant-loop-k : goal.invariant-loop-k
invariant-loop-k l =
    (any_below l.k (λ i. eqb (term_value l.row l.first l.month l.lag i) 0) ≡ false)
    × (l.sum ≡ sum_below l.k (term_value l.row l.first l.month l.lag))
