-- By where the word stands.
use native.Mathlib.Omega.{arith}
use mir.Facts.{to_z-of_z}
use borrow.Author.Tests.{lt-ltb, le-ltb}
use borrow.Author.Rules.{sfits_of}
use Rattle.store.specs.Store.{older_from, balances_from, counts_from, ledger_word}
use mir.Syntax.{w64}
use Rattle.store.proofs.save.ledger_word.Goals as goal

pub returns-then-k-lt-OLDER : goal.returns-then-k-lt-OLDER
unfolding ledger_word
returns-then-k-lt-OLDER c = rw (lt-ltb _ older_from c.if-k-lt-OLDER.true) c.charges_word.ensures

pub returns-then-k-lt-BALANCES : goal.returns-then-k-lt-BALANCES
unfolding ledger_word
returns-then-k-lt-BALANCES c =
    let k = c.args.k in
    rw (le-ltb k older_from (omega (arith, c.if-k-lt-OLDER.false)), lt-ltb k balances_from c.if-k-lt-BALANCES.true)
    c.charges_word-then-k-lt-BALANCES.ensures

pub returns-then-k-lt-COUNTS : goal.returns-then-k-lt-COUNTS
unfolding ledger_word
returns-then-k-lt-COUNTS c =
    let k = c.args.k in
    rw (
      le-ltb k older_from (omega (arith, c.if-k-lt-OLDER.false)),
      le-ltb k balances_from (omega (arith, c.if-k-lt-BALANCES.false)),
      lt-ltb k counts_from c.if-k-lt-COUNTS.true,
    )
    (rw (to_z-of_z {w = w64} (sfits_of c.struct_told-1.given.0.1)) at c.word_of.ensures)

pub returns : goal.returns
unfolding ledger_word
returns c =
    let k = c.args.k in
    rw (
      le-ltb k older_from (omega (arith, c.if-k-lt-OLDER.false)),
      le-ltb k balances_from (omega (arith, c.if-k-lt-BALANCES.false)),
      le-ltb k counts_from (omega (arith, c.if-k-lt-COUNTS.false)),
    )
