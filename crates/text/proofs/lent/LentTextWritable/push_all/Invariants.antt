-- The invariant: what is left of the bytes, written now, makes what all of them made at first.
use Rattle.std.proofs.Common.{◌≡◌, drop}
use Rattle.text.specs.LentText.{lent_after}
use Rattle.text.proofs.lent.LentTextWritable.push_all.Given as goal

abbrev pub invariant-loop-byte : goal.invariant-loop-byte
invariant-loop-byte l =
    lent_after (drop l.byte-index l.bytes) (record l.self { count = l.count }) ≡ lent_after l.bytes l.initial.self
