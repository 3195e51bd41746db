-- By which of the two tests holds first.
use mathlib.Core.Path.{◌≡◌, sym, ◌∙◌}
use mathlib.Core.Bool.{false}
use Rattle.ledger.specs.Ledger.{makes_older, older_beside}
use Rattle.ledger.proofs.ledger.Ledger.older_beside.Goals as goal
use Rattle.ledger.proofs.ledger.Ledger.older_beside.Goals.{Else-makes_older}

-- where the one in force is not made the older
unmade : (c : Else-makes_older) → makes_older c.args.self c.args.month ≡ false
unmade c = sym c.makes_older.ensures ∙ c.if-makes_older.false

pub returns-then-makes_older : goal.returns-then-makes_older
unfolding older_beside
returns-then-makes_older c = rw (sym c.makes_older.ensures ∙ c.if-makes_older.true)

pub returns-then-stays_older : goal.returns-then-stays_older
unfolding older_beside
returns-then-stays_older c =
    rw (unmade (goal.at.returns-then-stays_older c).Else-makes_older, sym c.stays_older.ensures ∙ c.if-stays_older.true)

pub returns : goal.returns
unfolding older_beside
returns c =
    rw (unmade (goal.at.returns c).Else-makes_older, sym c.stays_older.ensures ∙ c.if-stays_older.false)
    c.no_charges.ensures
