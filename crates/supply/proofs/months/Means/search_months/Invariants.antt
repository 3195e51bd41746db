-- Where no mean is 0 nothing is missing. The walk's invariants: nothing is missing in the lines passed, nor in the
-- terms passed of the line at hand.
use mathlib.Core.Path.{◌≡◌}
use Rattle.std.specs.Prelude.{None}
use Rattle.numbers.specs.Bounded.{first_below}
use Rattle.supply.specs.Line.{line_of}
use Rattle.supply.specs.Listed.{listed_lacks}
use Rattle.supply.specs.Months.{missing_term, missing_in_line}
use Rattle.supply.proofs.months.Means.search_months.Given as goal

abbrev pub invariant-loop-k : goal.invariant-loop-k
invariant-loop-k l = first_below l.k (missing_term (listed_lacks l.self.values) l.line.line l.j) ≡ None

abbrev pub invariant-loop-j : goal.invariant-loop-j
invariant-loop-j l = first_below l.j (λ i. missing_in_line (listed_lacks l.self.values) (line_of l.lines i) i) ≡ None
