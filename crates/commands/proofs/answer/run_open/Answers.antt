-- The answer is that of what the opening hands back.
use mathlib.Core.Path.{◌∙◌, ap}
use Rattle.text.specs.Text.{bytes}
use Rattle.text.specs.Buffer.{written}
use Rattle.answers.specs.Answer.{outcome_line}
use Rattle.ledger.specs.Ledger.{opening_verdict}
use Rattle.commands.specs.Replay.{opening_text, longest_answer}
use Rattle.commands.proofs.answer.run_open.Goals as goal

pub returns-clause-answered : goal.returns-clause-answered
unfolding opening_text opening_verdict
returns-clause-answered c =
    c.write_outcome.ensures
    ∙ ap (λ given. written longest_answer (outcome_line (bytes "open") given) c.args.answer.now)
    c.open-opened.ensures.judged.answered
