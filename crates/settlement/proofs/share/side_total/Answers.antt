-- The sum of the first n sizes, which are small and few.
use mathlib.Core.Path.{◌≡◌}
use Prim.Native.Nat.{◌<◌}
use native.Mathlib.Omega.{arith}
use lib.ListN.{get_or, take}
use Rattle.std.proofs.Common.{rules}
use Rattle.std.specs.Prelude.{sum}
use Rattle.settlement.specs.Share.{side_total}
use Rattle.settlement.proofs.MonthLaws.{sum_taken, running_most}
use Rattle.settlement.proofs.share.side_total.Goals as goal

pub sum-requires-clause-fits : goal.sum-requires-clause-fits
sum-requires-clause-fits c =
    let fits : sum (take c.args.n c.args.sizes.now) < 18446744073709551616 =
    omega (
      arith,
      sum_taken c.args.sizes.now c.args.n (omega arith),
      running_most c.args.n c.args.sizes.now c.requires c.args.n (omega arith),
    ) in
    search rules

pub returns : goal.returns
unfolding side_total
returns c =
    let total : sum (take c.args.n c.args.sizes.now) ≡ side_total c.args.n (λ i. get_or c.args.sizes.now i 0) =
    sum_taken c.args.sizes.now c.args.n (omega arith) in
    search rules
