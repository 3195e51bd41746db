-- Where the count and the months are in their ranges, the tests are the clauses of soundness.
use mathlib.Core.Path.{sym}
use mathlib.Core.Bool.{and-true, and-false}
use Rattle.numbers.specs.Sizes.{most_distributors}
use Rattle.numbers.proofs.UnitLaws.{between_high}
use Rattle.ledger.specs.Sound.{balances_sound, sound}
use Rattle.ledger.proofs.SoundFacts.{month_facts}
use Rattle.ledger.proofs.sound.is_sound.Goals as goal

pub returns-then-not-is_between : goal.returns-then-not-is_between
unfolding sound
returns-then-not-is_between c = rw (← c.if-not-is_between.ensures)

pub returns-then-not-months_sound : goal.returns-then-not-months_sound
unfolding sound
returns-then-not-months_sound c =
    rw (← c.any_settled-settled.ensures, ← c.if-not-months_sound.ensures, and-false)

pub fixings_sound-requires : goal.fixings_sound-requires
fixings_sound-requires c = between_high 1 most_distributors _ (sym c.if-not-is_between.ensures)

pub counts_sound-requires : goal.counts_sound-requires
counts_sound-requires c = (month_facts _ _ c.args.ledger.month (sym c.if-not-months_sound.ensures)).last_most

pub returns : goal.returns
unfolding sound balances_sound
returns c =
    rw (
      ← c.any_settled-settled.ensures,
      ← c.if-not-is_between.ensures,
      ← c.if-not-months_sound.ensures,
      and-true,
      c.fixings_sound.ensures,
      c.unset_zero.ensures,
      c.counts_sound.ensures,
      c.each_balance_sound.ensures,
      c.one_sign.ensures,
    )
