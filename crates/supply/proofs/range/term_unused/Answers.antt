-- The term of zeros, field by field.
use mathlib.Core.Path.{◌∙◌}
use Rattle.std.proofs.Math.Bool.{and_assoc}
use Rattle.supply.specs.Range.{term_unused}
use Rattle.supply.proofs.range.term_unused.Goals as goal

pub returns : goal.returns
unfolding term_unused
returns c =
    let zero = c.default.ensures in
    c.eq.ensures ∙ rw (zero.0, zero.1.0, zero.1.1.0, zero.1.1.1.0, zero.1.1.1.1) (simp and_assoc)
