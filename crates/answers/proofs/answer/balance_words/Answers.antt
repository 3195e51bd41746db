-- The invariant: the first i words are those of the balances.
use mathlib.Core.Path.{refl}
use native.Mathlib.Omega.{arith}
use mir.Facts.{to_z-of_z}
use mir.Syntax.{w64}
use borrow.Author.Rules.{sfits_of}
use Rattle.numbers.proofs.ListLaws.{written_none, written_more, written_all}
use Rattle.answers.proofs.answer.balance_words.Goals as goal

pub loop-i-init : goal.loop-i-init
loop-i-init c = written_none _ _ _ refl

pub loop-i-preserved : goal.loop-i-preserved
loop-i-preserved c = written_more c.loop-i.invariant (omega arith)
    (rw (to_z-of_z {w = w64} (sfits_of c.struct_told-1.given.0.1)) at c.word_of.ensures)

pub returns : goal.returns
returns c = written_all c.loop-i.invariant (omega arith)
