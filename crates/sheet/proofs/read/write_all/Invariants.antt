-- The invariant: the readings of the distributors passed are written, and the map of the next stands at the place.
use mathlib.Core.Path.{◌≡◌}
use mathlib.Core.List.{List, ◌++◌}
use Prim.Native.Nat.{ℕ}
use lib.ListN.{length, drop}
use Rattle.numbers.specs.Bounded.{list_below, join_below}
use Rattle.numbers.specs.Sizes.{distributor_readings}
use Rattle.sheet.specs.Sheet.{map_place, reading_at}
use Rattle.sheet.proofs.read.write_all.Given as goal

-- the readings of distributor i, and of those before it
abbrev pub own : List ℕ → ℕ → List ℕ
own sheet i = list_below distributor_readings (reading_at sheet (map_place sheet i))

abbrev pub invariant-loop-i : goal.invariant-loop-i
invariant-loop-i l = record {
  stands : l.at ≡ map_place l.sheet l.i;
  written : l.readings
      ≡ join_below l.i (own l.sheet) ++ drop (length (join_below l.i (own l.sheet))) l.initial.readings;
}
