-- The invariant: the places of the turns made hold their means.
use Prim.Native.Nat.{◌*◌}
use Rattle.numbers.proofs.ListLaws.{Written}
use Rattle.series.specs.Means.{mean_count, mean_worked}
use Rattle.series.proofs.mean.means.Given as goal

abbrev pub invariant-loop-turn : goal.invariant-loop-turn
invariant-loop-turn l = Written (mean_worked l.table l.first l.month) mean_count l.means (l.turn * 3)
