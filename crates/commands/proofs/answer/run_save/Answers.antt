-- The text is that of the form, of the parts that were saved.
use mathlib.Core.Path.{◌∙◌, refl}
use Rattle.commands.specs.Replay.{saving_text}
use Rattle.commands.proofs.answer.run_save.Goals as goal

pub returns-clause-answered : goal.returns-clause-answered
unfolding saving_text
returns-clause-answered c = c.write_form.ensures ∙ rw (c.load_form.ensures, c.save-parts.ensures.parts) refl
