-- By the next token.
use Rattle.journal.specs.Cursor.{number_after}
use Rattle.journal.proofs.cursor.number_after.Goals as goal

pub returns : goal.returns
unfolding number_after
returns c =
    rw (
      c.read.ensures,
      c.at_most.ensures,
      c.read_digits-number.ensures,
      c.bytes.ensures,
      c.next_token-token.ensures.value,
    )
