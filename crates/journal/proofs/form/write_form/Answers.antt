-- The invariant: the name and the first k parts are written.
use mathlib.Core.Path.{◌≡◌, sym, ◌∙◌, ap, ap₂}
use native.Mathlib.Omega.{arith}
use lib.ListN.{length}
use Rattle.text.proofs.BufferLaws.{texts_none, texts_more}
use Rattle.journal.specs.Form.{part_at, held_of, parts_in, part_text, form_text}
use Rattle.journal.proofs.FormLaws.{part_held, text_whole}
use Rattle.journal.proofs.form.write_form.Goals as goal

pub loop-k-init : goal.loop-k-init
loop-k-init g c = texts_none g.T.Writable.after g.met.T.Writable.after_none _ _

pub loop-k-preserved : goal.loop-k-preserved
loop-k-preserved g c =
    texts_more g.T.Writable.after g.met.T.Writable.after_both _ _ c.loop-k.k _ _ c.loop-k.invariant
    (c.write.ensures
    ∙ ap (λ held. g.T.Writable.after (part_text (part_at c.args.form.now c.loop-k.k) held) c.loop-k.text)
    (ap₂ held_of c.number_of.ensures c.words_of.ensures
    ∙ sym (part_held c.args.parts.now c.args.words.now c.loop-k.k (omega (arith, c.requires.few)))))

pub returns : goal.returns
unfolding form_text
returns g c =
    let last : c.loop-k.k ≡ length c.args.form.now = omega arith in
    g.met.T.Writable.after_both _ _ _ _ _
    (g.met.T.Writable.after_both _ _ _ _ _ c.write_name.ensures
    (rw (text_whole c.args.form.now (parts_in c.args.parts.now c.args.words.now) c.requires.few) at
    (rw last at c.loop-k.invariant)))
    c.push.ensures
