-- The form of the command that was read is read, and the command is made of its parts.
use mathlib.Core.Path.{◌≡◌, sym, ◌∙◌, ap}
use mathlib.Core.List.{[]}
use native.Mathlib.Omega.{arith}
use Rattle.std.specs.Prelude.{Ok, Err}
use Rattle.std.proofs.lemmas.Result.{err_from_is_err_and}
use Rattle.commands.proofs.AnswerLaws.{form_room, next_broken, next_none, form_broken, form_made}
use Rattle.journal.specs.Cursor.{read_of}
use Rattle.commands.specs.Replay.{ledger_after, answer_after}
use Rattle.commands.proofs.run.run_command.Goals as goal
use Rattle.commands.proofs.run.run_command.Goals.{In-Err, After-make_command-after}

pub returns-in_err-command-clause-booked : goal.returns-in_err-command-clause-booked
returns-in_err-command-clause-booked c =
    let p = err_from_is_err_and c.from_residual.result c.from_residual.ensures.1 in
    rw (p.1, p.2) (next_broken c.args.text.now c.args.at c.args.ledger (sym c.in_err-command.ensures)).0

pub returns-in_err-command-clause-answered : goal.returns-in_err-command-clause-answered
returns-in_err-command-clause-answered c =
    c.requires ∙ (next_broken c.args.text.now c.args.at c.args.ledger (sym c.in_err-command.ensures)).1

pub returns-in_default-clause-booked : goal.returns-in_default-clause-booked
returns-in_default-clause-booked c =
    (next_none c.args.text.now c.args.at c.args.ledger (sym c.in_ok-command.ensures ∙ ap Ok c.in_default.is)).0

pub returns-in_default-clause-answered : goal.returns-in_default-clause-answered
returns-in_default-clause-answered c =
    c.requires
    ∙ (next_none c.args.text.now c.args.at c.args.ledger (sym c.in_ok-command.ensures ∙ ap Ok c.in_default.is)).1

pub read_form-requires-clause-room : goal.read_form-requires-clause-room
read_form-requires-clause-room c =
    rw c.form_of-form.ensures (omega (arith, form_room c.in-Some.command.value, c.word_buffer-words.ensures))

-- a form that cannot be read
broken : (s : In-Err) →
    (Err s.in-Err.broken.broken ≡ ledger_after s.args.text.now s.args.at s.args.ledger)
    × ([] ≡ answer_after s.args.text.now s.args.at s.args.ledger)
broken s =
    let read = rw (s.in-Err.is, s.form_of-form.ensures) at s.read_form.ensures in
    form_broken s.args.text.now s.args.at s.args.ledger s.in-Some.command
    (sym s.in_ok-command.ensures ∙ ap Ok s.in-Some.is) read.after

pub returns-in-Err-clause-booked : goal.returns-in-Err-clause-booked
returns-in-Err-clause-booked c = (broken (goal.at.returns-in-Err-clause-booked c).In-Err).0

pub returns-in-Err-clause-answered : goal.returns-in-Err-clause-answered
returns-in-Err-clause-answered c = c.requires ∙ (broken (goal.at.returns-in-Err-clause-answered c).In-Err).1

-- a command that was made
made : (s : After-make_command-after) →
    (Ok (read_of s.make_command-after.result s.in-Ok.form.next)
    ≡ ledger_after s.args.text.now s.args.at s.args.ledger)
    × (s.make_command-after.new.answer ≡ answer_after s.args.text.now s.args.at s.args.ledger)
made s =
    let follows = rw (s.in-Ok.is, s.form_of-form.ensures) at s.read_form.ensures in
    form_made s.args.text.now s.args.at s.args.ledger s.in-Some.command (sym s.in_ok-command.ensures ∙ ap Ok s.in-Some.is) _ _ follows.after _
    s.make_command-after.ensures.booked _ (rw s.requires at s.make_command-after.ensures.answered)

pub make_command-after-requires : goal.make_command-after-requires
make_command-after-requires c = (rw (c.in-Ok.is, c.form_of-form.ensures) at c.read_form.ensures).held

pub returns-clause-booked : goal.returns-clause-booked
returns-clause-booked c = (made c).0

pub returns-clause-answered : goal.returns-clause-answered
returns-clause-answered c = (made (goal.at.returns-clause-answered c).After-make_command-after).1
