-- The name, then the number after a blank.
use Rattle.text.proofs.number.write_item.Goals as goal

pub returns : goal.returns
returns g c = g.met.T.Writable.after_both _ _ _ _ _ c.push_all.ensures c.write_word.ensures
