-- By the kind of the part.
use mathlib.Core.Path.{refl}
use mathlib.Core.Bool.{true, false}
use mathlib.Core.List.{[]}
use Rattle.journal.specs.Cursor.{most_word}
use Rattle.journal.specs.Form.{part_after}
use Rattle.journal.specs.declared.form.Kind.TheVariants.{Number, List as Words, Signed, Length}
use Rattle.journal.proofs.FormLaws.{follows, follows_list}
use Rattle.journal.proofs.form.Part.read.Goals as goal

pub returns-in-Nothing : goal.returns-in-Nothing
unfolding part_after
returns-in-Nothing c = record { words = []; after = rw c.in-Nothing.is refl; lent = rw c.in-Nothing.is refl }

pub returns-in-Number : goal.returns-in-Number
returns-in-Number c =
    rw (c.of_number.ensures, c.number_after.ensures)
    (follows _ _ _ (Number c.in-Number.most) c.in-Number.is _ _ refl (λ number. refl) refl)

pub returns-in-List : goal.returns-in-List
returns-in-List c =
    follows_list _ _ _ (Words c.in-List.field-0 c.in-List.most) c.in-List.is false c.in-List.most _ _ _
    (rw (rw c.in-List.is at c.requires) refl) (λ number. refl) (rw (rw c.in-List.is at c.requires) refl)
    (rw (rw c.in-List.is at c.requires) refl)
    c.read_list.ensures

pub returns-in-Signed : goal.returns-in-Signed
returns-in-Signed c =
    follows_list _ _ _ (Signed c.in-Signed.field-0) c.in-Signed.is true most_word _ _ _
    (rw (rw c.in-Signed.is at c.requires) refl) (λ number. refl) (rw (rw c.in-Signed.is at c.requires) refl)
    (rw (rw c.in-Signed.is at c.requires) refl)
    c.read_list-in-Signed.ensures

pub returns-in-Length : goal.returns-in-Length
returns-in-Length c =
    rw (c.of_number-in-Length.ensures, c.read_count.ensures)
    (follows _ _ _ (Length c.in-Length.longest) c.in-Length.is _ _ refl (λ number. refl) refl)
