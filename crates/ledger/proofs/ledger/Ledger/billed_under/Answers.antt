-- By whether the month is split: then both fixings are divided by days.
use mathlib.Core.Path.{◌≡◌}
use mathlib.Core.Bool.{true}
use Prim.Native.Nat.{◌<◌}
use Rattle.ledger.specs.Billed.{is_split, charges_for, billed_under}
use Rattle.ledger.proofs.BilledLaws.{split_after, sound_divided}
use Rattle.ledger.proofs.ledger.Ledger.billed_under.Goals as goal
use Rattle.ledger.proofs.ledger.Ledger.billed_under.Goals.{Then-month-self}

module _ (c : Then-month-self) where
  split : is_split c.args.self.month c.args.self.day c.args.month ≡ true
  unfolding is_split
  split = c.if-month-self.true

  later : 1 < c.args.self.day
  later = split_after c.args.self.month c.args.self.day c.args.month split

pub split_charges-requires : goal.split_charges-requires
split_charges-requires c =
    rw c.days_of.ensures
    (sound_divided c.args.self c.requires (later (goal.at.split_charges-requires c).Then-month-self))

pub returns-then-month-self : goal.returns-then-month-self
unfolding billed_under charges_for
returns-then-month-self c =
    rw (split (goal.at.returns-then-month-self c).Then-month-self) (rw c.days_of.ensures at c.split_charges.ensures)

pub returns : goal.returns
unfolding billed_under charges_for is_split
returns c = rw c.if-month-self.false
