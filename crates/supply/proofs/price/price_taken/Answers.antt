-- By whether one is in force, and whether it moved, as in the definition.
use mathlib.Core.Path.{refl}
use borrow.Author.Rules.{rules}
use Rattle.supply.specs.Price.{price_taken}
use Rattle.supply.proofs.price.price_taken.Goals as goal

pub returns-in-None : goal.returns-in-None
unfolding price_taken
returns-in-None c = search rules

pub returns-then-has_moved : goal.returns-then-has_moved
unfolding price_taken
returns-then-has_moved c = rw (c.in-Some.is, ← c.has_moved.ensures, c.if-has_moved.true) refl

pub returns-else-has_moved : goal.returns-else-has_moved
unfolding price_taken
returns-else-has_moved c = rw (c.in-Some.is, ← c.has_moved.ensures, c.if-has_moved.false) refl
