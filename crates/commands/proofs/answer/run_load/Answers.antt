-- A loading is never refused.
use Rattle.commands.specs.Replay.{loading_text}
use Rattle.commands.proofs.answer.run_load.Goals as goal

pub returns-clause-answered : goal.returns-clause-answered
unfolding loading_text
returns-clause-answered c = c.write_outcome.ensures
