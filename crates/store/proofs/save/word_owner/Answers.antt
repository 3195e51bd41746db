-- By where the word stands.
use native.Mathlib.Omega.{arith}
use borrow.Author.Tests.{lt-ltb, le-ltb}
use Rattle.store.specs.Store.{balances_from, word_owner}
use Rattle.store.proofs.save.word_owner.Goals as goal

pub returns-then-k-lt-BALANCES : goal.returns-then-k-lt-BALANCES
unfolding word_owner
returns-then-k-lt-BALANCES c = rw (lt-ltb _ balances_from c.if-k-lt-BALANCES.true)

pub returns : goal.returns
unfolding word_owner
returns c = rw (le-ltb c.args.k balances_from (omega (arith, c.if-k-lt-BALANCES.false)))
