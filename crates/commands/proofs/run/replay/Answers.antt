-- Of a text too long only its length is told; another is run.
use mathlib.Core.Path.{◌≡◌, ◌∙◌}
use Rattle.commands.specs.Replay.{replayed}
use Rattle.commands.proofs.ReplayLaws.{opened_none, long}
use Rattle.commands.proofs.run.replay.Goals as goal
use Rattle.commands.proofs.run.replay.Goals.{Joined-text-gt-LONGEST_TEXT, then-text-gt-LONGEST_TEXT, else-text-gt-LONGEST_TEXT}

told : (j : Joined-text-gt-LONGEST_TEXT) → j.if-text-gt-LONGEST_TEXT.step ≡ replayed j.args.text.now
told j =
    elim j.if-text-gt-LONGEST_TEXT.branch [
      | then-text-gt-LONGEST_TEXT w ↦ w.step-is ∙ long j.args.text.now w.if-text-gt-LONGEST_TEXT.true _
          (w.«open».ensures.opened ∙ opened_none)
      | else-text-gt-LONGEST_TEXT w ↦ w.step-is ∙ w.run_commands-step.ensures
    ]

pub returns-in-Err : goal.returns-in-Err
returns-in-Err c = told (goal.at.returns-in-Err c).Joined-text-gt-LONGEST_TEXT
