-- The invariant: the first places hold the charges, the others are empty.
use mathlib.Core.Path.{◌∙◌}
use lib.IntN.{pos}
use mir.Facts.{to_z-of_z}
use borrow.Author.Rules.{sfits_of}
use Rattle.numbers.specs.Sizes.{most_distributors}
use Rattle.numbers.proofs.ListLaws.{filled_none, filled_next}
use native.Mathlib.Omega.{arith}
use mir.Syntax.{w64}
use Rattle.fixing.proofs.distributors.PricedDistributors.charges.Goals as goal
use Rattle.fixing.proofs.distributors.PricedDistributors.charges.Invariants.{charge_of}

pub loop-i-init : goal.loop-i-init
loop-i-init c = filled_none most_distributors (pos 0) _

pub loop-i-preserved : goal.loop-i-preserved
loop-i-preserved c =
    filled_next most_distributors (pos 0) c.loop-i.i (charge_of c.args.self.averages c.args.finals) _ _ (omega arith)
    c.loop-i.invariant (to_z-of_z {w = w64} (sfits_of c.difference.type_inv) ∙ c.difference.ensures)
