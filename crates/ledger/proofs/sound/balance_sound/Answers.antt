-- The test of the size is the definition's.
use native.Mathlib.Omega.{arith}
use mathlib.Core.Bool.{not}
use lib.Dec.{eqb}
use mir.Facts.{to_z-of_z}
use borrow.Author.Rules.{sfits_of}
use Rattle.settlement.specs.Settlement.{most_position}
use Rattle.numbers.proofs.UnitLaws.{bound_most}
use Rattle.ledger.specs.Sound.{balance_test}
use Rattle.ledger.proofs.sound.balance_sound.Goals as goal

pub within_size-requires : goal.within_size-requires
within_size-requires c =
    let a = c.args in
    omega (arith, c.bound_where.ensures, bound_most (not (eqb a.count 0)) most_position)

pub returns : goal.returns
unfolding balance_test
returns c =
    rw (
      c.within_size.ensures,
      c.bound_where.ensures,
      to_z-of_z
          (sfits_of c.struct_told-1.given.0.1),
    )
