-- The invariant: the counts passed are raised.
use mathlib.Core.Path.{◌≡◌, refl}
use native.Mathlib.Omega.{arith}
use Rattle.numbers.specs.Sizes.{most_distributors}
use Rattle.numbers.proofs.ListLaws.{filled_none, filled_next}
use Rattle.ledger.specs.Ledger.{raised_counts}
use Rattle.ledger.proofs.settle.raise_counts.Goals as goal

pub loop-i-init : goal.loop-i-init
loop-i-init c = filled_none most_distributors 0 _

pub loop-i-preserved : goal.loop-i-preserved
loop-i-preserved c =
    filled_next most_distributors 0 c.loop-i.i _ c.loop-i.raised _ (omega (arith, c.requires.few))
    c.loop-i.invariant refl

pub returns : goal.returns
unfolding raised_counts
returns c =
    let e : c.loop-i.i ≡ c.args.n = omega arith in rw e at c.loop-i.invariant
