-- The invariant: what is left of the numbers, written now, makes what all of them made at first.
use Rattle.std.proofs.Common.{◌≡◌, drop}
use Rattle.text.specs.Text.{words_text}
use Rattle.text.proofs.number.write_words.Given as goal

abbrev pub invariant-loop-number : goal.invariant-loop-number
invariant-loop-number g l =
    g.T.Writable.after (words_text g.N.Decimal.shown (drop l.number-index l.numbers)) l.text
    ≡ g.T.Writable.after (words_text g.N.Decimal.shown l.numbers) l.initial.text
