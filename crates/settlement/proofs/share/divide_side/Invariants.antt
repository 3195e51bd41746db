-- The invariant: the divisions of those passed are written; left is the transferred total less their floors.
use mathlib.Core.Path.{◌≡◌}
use Prim.Native.Nat.{◌-◌}
use lib.ListN.{get_or}
use Rattle.numbers.specs.Sizes.{most_distributors}
use Rattle.numbers.specs.Bounded.{sum_below, filled_below}
use Rattle.settlement.specs.Share.{share_floor}
use Rattle.settlement.specs.Month.{no_division, share_division}
use Rattle.settlement.proofs.share.divide_side.Given as goal

abbrev pub invariant-loop-i : goal.invariant-loop-i
invariant-loop-i l =
    (l.divisions
    ≡ filled_below most_distributors no_division l.i (share_division l.n (λ j. get_or l.sizes j 0) l.transferred))
    × (l.left ≡ l.transferred - sum_below l.i (share_floor l.n (λ j. get_or l.sizes j 0) l.transferred))
