-- The invariant: the counts passed are raised.
use mathlib.Core.Path.{◌≡◌}
use Prim.Native.Nat.{◌+◌}
use Rattle.numbers.specs.Bounded.{filled_below}
use Rattle.numbers.specs.Sizes.{most_distributors}
use Rattle.ledger.specs.Ledger.{count_at}
use Rattle.ledger.proofs.settle.raise_counts.Given as goal

abbrev pub invariant-loop-i : goal.invariant-loop-i
invariant-loop-i l =
    l.raised ≡ filled_below most_distributors 0 l.i (λ j. count_at l.counts j + 1)
