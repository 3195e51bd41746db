-- The invariant: the words passed are written.
use mathlib.Core.Path.{◌≡◌, ◌∙◌, ap}
use mathlib.Core.List.{◌∷◌}
use native.Mathlib.Omega.{arith}
use mir.Syntax.{w64}
use mir.Facts.{to_z-of_z}
use borrow.Author.Rules.{sfits_of}
use lib.ListN.{length, get_or}
use Rattle.text.specs.Text.{blank, integer, word_by, words_by}
use Rattle.text.proofs.BufferLaws.{texts_none, texts_more}
use Rattle.text.proofs.WordLaws.{words_plain, signed_plain}
use Rattle.journal.proofs.form.write_words_by.Goals as goal

pub returns-then-not-signed : goal.returns-then-not-signed
returns-then-not-signed g c = rw (c.if-not-signed.true, ← words_plain c.args.words.now) c.write_words.ensures

pub loop-word-init : goal.loop-word-init
loop-word-init g c = texts_none g.T.Writable.after g.met.T.Writable.after_none _ _

pub loop-word-preserved : goal.loop-word-preserved
unfolding word_by
loop-word-preserved g c =
    let x = get_or c.args.words.now c.loop-word.word-index 0 in
    texts_more g.T.Writable.after g.met.T.Writable.after_both _ _ c.loop-word.word-index _ _ c.loop-word.invariant
    (c.write_word.ensures
    ∙ ap (λ text. g.T.Writable.after (blank ∷ text) c.loop-word.text)
    (ap integer (to_z-of_z {w = w64} (sfits_of c.signed_of.type_inv) ∙ c.signed_of.ensures)
    ∙ signed_plain x (c.type_inv.words c.loop-word.word-index).fits))

pub returns : goal.returns
unfolding words_by
returns g c =
    let last : c.loop-word.word-index ≡ length c.args.words.now = omega arith in
    rw c.if-not-signed.false (rw last at c.loop-word.invariant)
