-- The answer is that of what the join hands back.
use mathlib.Core.Path.{◌∙◌, ap}
use Rattle.text.specs.Text.{bytes}
use Rattle.text.specs.Buffer.{written}
use Rattle.answers.specs.Answer.{outcome_line}
use Rattle.ledger.specs.Join.{join_verdict}
use Rattle.commands.specs.Replay.{joining_text, longest_answer}
use Rattle.commands.proofs.answer.run_join.Goals as goal

pub returns-clause-answered : goal.returns-clause-answered
unfolding joining_text join_verdict
returns-clause-answered c =
    c.write_outcome.ensures
    ∙ ap (λ given. written longest_answer (outcome_line (bytes "join") given) c.args.answer.now)
    c.join-joined.ensures.judged.answered
