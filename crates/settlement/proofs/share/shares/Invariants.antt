-- A side that is transferred whole has its sizes for shares. The invariant of any other: the shares of those passed are
-- written.
use mathlib.Core.Path.{◌≡◌}
use lib.ListN.{get_or}
use Rattle.numbers.specs.Sizes.{most_distributors}
use Rattle.numbers.specs.Bounded.{filled_below}
use Rattle.settlement.specs.Share.{share}
use Rattle.settlement.proofs.share.shares.Given as goal

abbrev pub invariant-loop-i : goal.invariant-loop-i
invariant-loop-i l =
    (l.shares ≡ filled_below most_distributors 0 l.i (share l.n (λ j. get_or l.sizes j 0) l.transferred))
