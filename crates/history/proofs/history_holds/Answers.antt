use Rattle.history.proofs.HistoryLaws.{history}
use Rattle.history.proofs.history_holds.Goals as goal

pub returns : goal.returns
returns c = history
