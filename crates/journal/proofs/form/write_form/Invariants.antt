-- The invariant: the name and the first k parts are written.
use mathlib.Core.Path.{◌≡◌}
use Rattle.text.specs.Text.{text_below}
use Rattle.journal.specs.Form.{part_at, held_in, parts_in, part_text}
use Rattle.journal.proofs.form.write_form.Given as goal

abbrev pub invariant-loop-k : goal.invariant-loop-k
invariant-loop-k g l =
    l.text ≡ g.T.Writable.after
    (text_below l.k (λ j. part_text (part_at l.form j) (held_in (parts_in l.parts l.words) j))) l.initial.text
