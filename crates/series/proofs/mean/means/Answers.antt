-- The invariant: the places of the turns made hold their means.
use mathlib.Core.Path.{◌≡◌, refl, ◌∙◌}
use Prim.Native.Nat.{◌+◌, ◌*◌}
use native.Mathlib.Omega.{arith}
use Rattle.numbers.proofs.ListLaws.{written_none, written_more, written_all}
use Rattle.series.specs.Means.{window_of, mean_list}
use Rattle.series.proofs.MeanLaws.{worked_at}
use Rattle.series.proofs.mean.means.Goals as goal

pub loop-turn-init : goal.loop-turn-init
loop-turn-init c = written_none _ _ _ refl

pub loop-turn-preserved : goal.loop-turn-preserved
unfolding window_of
loop-turn-preserved c =
    let a = c.args in
    let turn = c.loop-turn.turn in
    let worked = worked_at a.table a.first a.month turn in
    let second : turn * 3 + 1 + 1 ≡ turn * 3 + 2 = omega arith in
    let third : turn * 3 + 2 + 1 ≡ (turn + 1) * 3 = omega arith in
    let one = written_more c.loop-turn.invariant (omega arith)
    (c.mean.ensures ∙ worked 0 _ (omega arith) (omega arith)) in
    let two = rw second at
    (written_more one (omega arith) (c.mean-in-loop-turn.ensures ∙ worked 1 _ (omega arith) (omega arith))) in
    rw third at
    (written_more two (omega arith) (c.mean-in-loop-turn-2.ensures ∙ worked 2 _ (omega arith) (omega arith)))

pub returns : goal.returns
unfolding mean_list
returns c = written_all c.loop-turn.invariant (omega arith)
