-- The checks in their order, those of the input last.
use Rattle.std.proofs.Common.{Bor, List, [], ℕ}
use Rattle.std.specs.Prelude.{Option, Some, None, unwrap_or, option_copied}
use mathlib.Core.Path.{◌≡◌, refl, sym, ◌∙◌, ap}
use Rattle.numbers.specs.Checks.{verdict_of}
use Rattle.ledger.specs.Fix.{FixingCall, lent_call, fixing_checks, fixing_verdict, worked_answer}
use Rattle.ledger.proofs.SoundLaws.{sound_some, sound_few, sound_last}
use Rattle.ledger.proofs.CallLaws.{right_lengths}
use Rattle.ledger.proofs.fix.worked_fixing.Goals as goal
use Rattle.ledger.proofs.fix.worked_fixing.Goals.{Start}

abbrev call : Start → FixingCall
call s =
    lent_call s.args.input.numbers s.args.input.series.now s.args.input.lines.now s.args.input.sectors.now
    (option_copied s.args.input.in_force) s.args.prices.now s.args.power.now

pub returns-then-not-is_sound : goal.returns-then-not-is_sound
unfolding worked_answer fixing_verdict fixing_checks verdict_of
returns-then-not-is_sound c = rw (sym c.is_sound.ensures ∙ c.if-not-is_sound.true)

pub lengths_right-requires : goal.lengths_right-requires
lengths_right-requires c = sound_few _ (sym c.is_sound.ensures ∙ c.if-not-is_sound.false)

pub returns-then-not-lengths_right : goal.returns-then-not-lengths_right
unfolding worked_answer fixing_verdict fixing_checks verdict_of
returns-then-not-lengths_right c =
    rw (sym c.is_sound.ensures ∙ c.if-not-is_sound.false, ← c.if-not-lengths_right.ensures)

pub in_turn-requires : goal.in_turn-requires
in_turn-requires c = sound_last _ (sym c.is_sound.ensures ∙ c.if-not-is_sound.false)

pub returns-then-not-in_turn : goal.returns-then-not-in_turn
unfolding worked_answer fixing_verdict fixing_checks verdict_of
returns-then-not-in_turn c =
    rw (sym c.is_sound.ensures ∙ c.if-not-is_sound.false, ← c.if-not-lengths_right.ensures, ← c.if-not-in_turn.ensures)

pub returns-then-not-day_allowed : goal.returns-then-not-day_allowed
unfolding worked_answer fixing_verdict fixing_checks verdict_of
returns-then-not-day_allowed c =
    rw (
      sym c.is_sound.ensures ∙ c.if-not-is_sound.false,
      ← c.if-not-lengths_right.ensures,
      ← c.if-not-in_turn.ensures,
      ← c.older_stands-stands.ensures,
      ← c.if-not-day_allowed.ensures,
    )

-- the prices in force as they are lent to the fixing
copied : {lent : Bor (List ℕ)} (o : Option (Bor (List ℕ))) (none : Bor (List ℕ)) → lent ≡ unwrap_or o none →
    none.now ≡ [] → lent.now ≡ unwrap_or (option_copied o) []
copied (Some words) none e n = ap (λ (r : Bor (List ℕ)). r.now) e
copied None none e n = ap (λ (r : Bor (List ℕ)). r.now) e ∙ n

pub fix_input-requires : goal.fix_input-requires
fix_input-requires c =
    let whole = sym c.is_sound.ensures ∙ c.if-not-is_sound.false in
    rw (copied c.args.input.in_force _ c.unwrap_or-in_force.ensures refl)
    (right_lengths _ (call (goal.at.fix_input-requires c).Start) (sound_some _ whole) (sound_few _ whole)
    (sym c.if-not-lengths_right.ensures))

pub returns : goal.returns
unfolding worked_answer fixing_verdict fixing_checks verdict_of
returns c =
    rw (
      sym c.is_sound.ensures ∙ c.if-not-is_sound.false,
      ← c.if-not-lengths_right.ensures,
      ← c.if-not-in_turn.ensures,
      ← c.older_stands-stands.ensures,
      ← c.if-not-day_allowed.ensures,
      ← copied c.args.input.in_force _ c.unwrap_or-in_force.ensures refl,
    )
    c.fix_input.ensures.answered
