-- The invariant: the bytes of the distributors passed are written, and the rest is as it was.
use mathlib.Core.Path.{◌≡◌}
use mathlib.Core.List.{◌++◌}
use Prim.Native.Nat.{◌*◌, ◌≤◌}
use lib.ListN.{length, drop}
use Rattle.numbers.specs.Sizes.{distributor_readings}
use Rattle.sheet.specs.Sheet.{sheet_bytes}
use Rattle.sheet.proofs.write.write_distributors.Given as goal

abbrev pub invariant-loop-own : goal.invariant-loop-own
invariant-loop-own l = record {
  width : l.own-iterator.size ≡ distributor_readings;
  most : length l.yielded * distributor_readings ≤ length l.readings;
  rest : l.own-iterator.rest.now ≡ drop (length l.yielded * distributor_readings) l.readings;
  used : l.at ≡ length (sheet_bytes (length l.yielded) l.readings);
  written : l.buffer
      ≡ sheet_bytes (length l.yielded) l.readings
      ++ drop (length (sheet_bytes (length l.yielded) l.readings)) l.initial.buffer;
}
