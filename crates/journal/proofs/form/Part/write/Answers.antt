-- By the kind of the part.
use mathlib.Core.Path.{sym}
use mathlib.Core.Logic.{inl, inr}
use Rattle.text.specs.Text.{word}
use Rattle.journal.specs.Form.{part_text}
use Rattle.journal.proofs.form.Part.write.Goals as goal

pub returns-in-Nothing : goal.returns-in-Nothing
unfolding part_text
returns-in-Nothing g c = rw c.in-Nothing.is (sym (g.met.T.Writable.after_none c.args.text.now))

pub returns-in-Number : goal.returns-in-Number
unfolding part_text word
returns-in-Number g c = rw c.in-Number.is c.write_word.ensures

pub returns-in-Signed : goal.returns-in-Signed
unfolding part_text
returns-in-Signed g c = rw c.in-Signed.is c.write_list.ensures

pub returns-in-List : goal.returns-in-List
unfolding part_text
returns-in-List g c =
    elim c.in-List.is [
      | inl list ↦ rw list.2 c.write_list-in-List.ensures
      | inr length ↦ rw length.1 c.write_list-in-List.ensures
    ]
