-- The invariant: rank is the number of those passed who come before i.
use mathlib.Core.Path.{◌≡◌, ◌∙◌, ap}
use mathlib.Core.Bool.{Bool, cond}
use Prim.Native.Nat.{ℕ, ◌+◌, ◌≤◌}
use Rattle.numbers.proofs.SumLaws.{summed_none, summed_more, summed_all, sum_le}
use Rattle.settlement.specs.Share.{comes_before, rank}
use Rattle.settlement.specs.Month.{division_at}
use Rattle.settlement.proofs.RankLaws.{one_most}
use native.Mathlib.Omega.{arith}
use Rattle.settlement.proofs.share.rank_of.Goals as goal
use Rattle.settlement.proofs.share.rank_of.Invariants.{counted}
use Rattle.settlement.proofs.share.rank_of.Goals.{In-loop-j, then-own-other, else-own-other}

pub loop-j-init : goal.loop-j-init
loop-j-init c = summed_none _ _

-- a turn: i's own remainder was read before, and at most one comes to the rank
module _ (c : In-loop-j) where
  abbrev one : ℕ → ℕ
  one = counted (λ k. (division_at c.args.divisions.now k).remainder) c.args.i

  few : c.loop-j.rank ≤ c.loop-j.j
  few =
      omega (
        arith,
        c.loop-j.invariant.sum,
        sum_le c.loop-j.j 1 one
            (λ k p. one_most (comes_before (λ m. (division_at c.args.divisions.now m).remainder) k c.args.i)),
      )

pub overflow_add-rank : goal.overflow_add-rank
overflow_add-rank c =
    let o = (goal.at.overflow_add-rank c).In-loop-j in
    omega (arith, few o, c.loop-j.invariant.most, c.requires.few)

pub loop-j-preserved : goal.loop-j-preserved
unfolding comes_before
loop-j-preserved c =
    let more = summed_more c.loop-j.invariant (omega arith) in
    let counts : Bool → ℕ = λ b. c.loop-j.rank + cond b 1 0 in
    let o = (goal.at.loop-j-preserved c).In-loop-j in
    let grown : c.if-own-other.rank ≡ c.loop-j.rank + one o c.loop-j.j =
    elim c.if-own-other.branch [
      | then-own-other w ↦ omega (arith, w.rank-is, ap counts w.if-own-other.true)
      | else-own-other w ↦ omega (arith, w.rank-is, ap counts w.if-own-other.false)
    ] in
    record { most = more.most; sum = grown ∙ more.sum }

pub returns : goal.returns
unfolding rank
returns c = summed_all c.loop-j.invariant (omega arith)
