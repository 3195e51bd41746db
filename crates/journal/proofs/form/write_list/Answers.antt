-- A line end, the name, the number, then the words.
use Rattle.journal.specs.Form.{list_text}
use Rattle.text.specs.Text.{word}
use Rattle.journal.proofs.form.write_list.Goals as goal

pub returns : goal.returns
unfolding list_text word
returns g c =
    g.met.T.Writable.after_both _ _ _ _ _
    (g.met.T.Writable.after_both _ _ _ _ _
    (g.met.T.Writable.after_both _ _ _ _ _ c.push.ensures c.write_name.ensures) c.write_word.ensures)
    c.write_words_by.ensures
