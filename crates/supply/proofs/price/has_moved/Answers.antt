-- By whether one is in force, as in the definition.
use borrow.Author.Rules.{rules}
use Rattle.supply.specs.Price.{moved}
use Rattle.supply.proofs.price.has_moved.Goals as goal

pub returns-in-None : goal.returns-in-None
unfolding moved
returns-in-None c = search rules

pub returns-in-Some : goal.returns-in-Some
unfolding moved
returns-in-Some c = search rules
