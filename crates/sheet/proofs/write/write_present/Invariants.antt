-- The invariant: the readings passed are written, where they are present, and the rest is as it was.
use mathlib.Core.Path.{◌≡◌}
use mathlib.Core.List.{◌++◌}
use lib.ListN.{length, drop}
use Rattle.sheet.proofs.WriteLaws.{bytes_before}
use Rattle.sheet.proofs.write.write_present.Given as goal

abbrev pub invariant-loop-reading : goal.invariant-loop-reading
invariant-loop-reading l = record {
  used : l.at ≡ length (bytes_before l.readings l.reading-index);
  written : l.into
      ≡ bytes_before l.readings l.reading-index
      ++ drop (length (bytes_before l.readings l.reading-index)) l.initial.into;
}
