-- By where the word stands.
use mathlib.Core.Path.{◌∙◌}
use native.Mathlib.Omega.{arith}
use mir.Facts.{to_z-of_z}
use borrow.Author.Tests.{lt-ltb, le-ltb}
use borrow.Author.Rules.{sfits_of}
use Rattle.store.specs.Store.{charges_word}
use Rattle.store.proofs.StoreLaws.{truth_byte}
use mir.Syntax.{w64}
use Rattle.store.proofs.save.charges_word.Goals as goal

pub returns-then-k-lt-PLACES : goal.returns-then-k-lt-PLACES
unfolding charges_word
returns-then-k-lt-PLACES c = rw (lt-ltb _ 320 c.if-k-lt-PLACES.true) (c.from.ensures ∙ truth_byte _)

pub returns : goal.returns
unfolding charges_word
returns c =
    rw (le-ltb c.args.k 320 (omega (arith, c.if-k-lt-PLACES.false)))
    (rw (to_z-of_z {w = w64} (sfits_of c.word_of-arg-1.given)) at c.word_of.ensures)
