-- The invariant: the words passed are written.
use mathlib.Core.Path.{◌≡◌}
use mathlib.Core.Bool.{true}
use lib.ListN.{get_or}
use Rattle.text.specs.Text.{word_by, text_below}
use Rattle.journal.proofs.form.write_words_by.Given as goal

abbrev pub invariant-loop-word : goal.invariant-loop-word
invariant-loop-word g l =
    l.text ≡ g.T.Writable.after (text_below l.word-index (λ k. word_by true (get_or l.words k 0))) l.initial.text
