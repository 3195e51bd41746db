-- The buffer ends as the lent text left it, which still held it.
use Rattle.std.proofs.Common.{sym, ap, ◌∙◌}
use Rattle.text.specs.Lent.{buffer_of}
use Rattle.text.specs.LentText.{lent_after, held_of}
use Rattle.text.specs.declared.lent.LentText.{LentText}
use Rattle.text.proofs.lent.write_lent.Goals as goal

pub returns : goal.returns
unfolding lent_after
returns c =
    let same = sym (ap (λ (lent : LentText). lent.buffer.ghost_name) c.push_all.ensures) in
    ap (λ bytes. buffer_of bytes c.push_all.new.self.count) (c.buffer-1.given.1.1 same)
    ∙ ap held_of c.push_all.ensures
