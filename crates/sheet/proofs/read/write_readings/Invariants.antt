-- The invariant: the walk comes to reading b, and those before it are written.
use Rattle.numbers.specs.Sizes.{distributor_readings}
use Rattle.numbers.proofs.ListLaws.{Written}
use Rattle.sheet.specs.Sheet.{reading_at}
use Rattle.sheet.proofs.PlaceLaws.{Walked}
use Rattle.sheet.proofs.read.write_readings.Given as goal

abbrev pub invariant-loop-reading : goal.invariant-loop-reading
invariant-loop-reading l = record {
  walked : Walked l.sheet l.place l.bits l.at l.reading-index;
  written : Written (reading_at l.sheet l.place) distributor_readings l.readings l.reading-index;
}
