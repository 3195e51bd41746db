-- Causes 2 and 15 in their order; what passes them is booked.
use borrow.Author.Tests.{lt-ltb, le-ltb}
use Rattle.numbers.specs.Checks.{verdict_of}
use Rattle.ledger.specs.Join.{join_checks, join_verdict, joined_answer}
use Rattle.ledger.proofs.join.joined.Goals as goal

pub returns-then-not-is_sound : goal.returns-then-not-is_sound
unfolding joined_answer join_verdict join_checks verdict_of
returns-then-not-is_sound c = rw (← c.if-not-is_sound.ensures)

pub returns-then-ledger-ge-MOST_DISTRIBUTORS : goal.returns-then-ledger-ge-MOST_DISTRIBUTORS
unfolding joined_answer join_verdict join_checks verdict_of
returns-then-ledger-ge-MOST_DISTRIBUTORS c =
    rw (← c.if-not-is_sound.ensures, le-ltb _ _ c.if-ledger-ge-MOST_DISTRIBUTORS.true)

pub returns : goal.returns
unfolding joined_answer join_verdict join_checks verdict_of
returns c = rw (← c.if-not-is_sound.ensures, lt-ltb _ _ c.if-ledger-ge-MOST_DISTRIBUTORS.false, c.book_join.ensures)
