-- The invariant: the bits of the readings passed are added, each at its power of two.
use Rattle.sheet.proofs.WriteLaws.{BitsAdded}
use Rattle.sheet.proofs.write.bit_map.Given as goal

abbrev pub invariant-loop-reading : goal.invariant-loop-reading
invariant-loop-reading l = BitsAdded l.readings l.map l.power l.reading-index
