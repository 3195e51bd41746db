-- The invariant: what is left of the numbers, written now, makes what all of them made at first.
use Rattle.std.proofs.Common.{◌∷◌, ap, sym, ◌∙◌}
use Rattle.text.specs.Text.{blank, words_text}
use Rattle.text.proofs.BufferLaws.{items_more, items_all}
use Rattle.text.proofs.number.write_words.Goals as goal

pub loop-number-preserved : goal.loop-number-preserved
unfolding words_text
loop-number-preserved g c =
    let shown = g.N.Decimal.shown in
    let numbers = c.args.numbers.now in
    let i = c.loop-number.number-index in
    let number = c.number-item.result in
    items_more g.T.Writable.after g.met.T.Writable.after_both (λ x. blank ∷ shown x) numbers i number _ _ c.loop-number-test.true
    (c.write_word.ensures ∙ ap (λ x. g.T.Writable.after (blank ∷ shown x) c.loop-number.text) c.number-item.is)
    ∙ c.loop-number.invariant

pub returns : goal.returns
unfolding words_text
returns g c =
    sym (items_all g.T.Writable.after g.met.T.Writable.after_none (λ x. blank ∷ g.N.Decimal.shown x) c.args.numbers.now _ _ c.loop-number-test.false)
    ∙ c.loop-number.invariant
