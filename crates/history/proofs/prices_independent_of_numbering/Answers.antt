use Rattle.history.proofs.RenumberedLaws.{same_under}
use Rattle.history.proofs.prices_independent_of_numbering.Goals as goal

pub returns : goal.returns
returns c = same_under
