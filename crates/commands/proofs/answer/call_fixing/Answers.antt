-- The call is that of the parts; a regular fixing has no part of prices in force.
use mathlib.Core.Path.{ap}
use native.Mathlib.Omega.{arith}
use Rattle.numbers.specs.Bounded.{list_below}
use Rattle.journal.specs.Form.{part_at, room_of, parts_in, parts_below}
use Rattle.journal.specs.Command.{fixing_form}
use Rattle.journal.proofs.FormLaws.{part_none}
use Rattle.commands.specs.Replay.{fixing_call}
use Rattle.commands.proofs.answer.call_fixing.Goals as goal

pub returns-then-is_interim : goal.returns-then-is_interim
unfolding fixing_call parts_in parts_below list_below
returns-then-is_interim c =
    rw (
      c.if-is_interim.true,
      ← c.words_of-series.ensures,
      ← c.words_of-lines.ensures,
      ← c.words_of-sectors.ensures,
      ← c.words_of-in_force.ensures,
      ← c.requires.prices,
      ← c.requires.power,
    )
    (rw (c.number_of.ensures, c.number_of-2.ensures, c.number_of-3.ensures, c.number_of-4.ensures, c.number_of-5.ensures) at c.interim.ensures)

pub returns : goal.returns
unfolding fixing_call parts_in parts_below list_below
returns c =
    rw (
      c.if-is_interim.false,
      part_none c.args.words.now c.requires.held 8 (omega arith)
          (ap (λ b. room_of (part_at (fixing_form b) 8)) c.if-is_interim.false),
      ← c.words_of-series.ensures,
      ← c.words_of-lines.ensures,
      ← c.words_of-sectors.ensures,
      ← c.requires.prices,
      ← c.requires.power,
    )
    (rw (c.number_of.ensures, c.number_of-2.ensures, c.number_of-3.ensures, c.number_of-4.ensures, c.number_of-5.ensures) at c.fix.ensures)
