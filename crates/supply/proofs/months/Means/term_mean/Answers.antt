-- The place of a checked term is one of the list's.
use mathlib.Core.Path.{ap}
use Prim.Native.Nat.{◌<◌}
use lib.ListN.{get_or}
use Rattle.series.specs.Means.{mean_count, mean_at}
use Rattle.series.proofs.SeriesLaws.{window_size}
use Rattle.series.proofs.MeanLaws.{place_below}
use Rattle.supply.specs.Listed.{listed_mean}
use native.Mathlib.Omega.{arith}
use Rattle.supply.proofs.months.Means.term_mean.Goals as goal
use Rattle.supply.proofs.months.Means.term_mean.Goals.{After-mean_place-place}

placed : (c : After-mean_place-place) → c.mean_place-place.result < mean_count
placed c =
    let f = c.requires in
    rw c.mean_place-place.ensures (place_below _ _ _ f.series f.lag f.lag_most f.window)

pub mean_place-place-requires-clause-fact_4 : goal.mean_place-place-requires-clause-fact_4
mean_place-place-requires-clause-fact_4 c = (window_size _ c.requires.window).1

pub offset_bounds-self-place : goal.offset_bounds-self-place
offset_bounds-self-place c = omega (arith, placed c)

pub bounds-self-place : goal.bounds-self-place
bounds-self-place c = placed (goal.at.bounds-self-place c).After-mean_place-place

pub returns : goal.returns
unfolding listed_mean mean_at
returns c = ap (λ p. get_or c.args.self.now.values p 0) c.mean_place-place.ensures
