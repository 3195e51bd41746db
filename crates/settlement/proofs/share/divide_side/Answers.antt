-- The invariant: the divisions of those passed are written; left is the transferred total less their floors.
use mathlib.Core.Path.{◌≡◌, ◌∙◌, ap}
use Prim.Native.Nat.{ℕ, ◌≤◌, ◌<◌, ◌+◌, ◌*◌, ◌/◌, ◌%◌}
use native.Mathlib.Omega.{arith}
use lib.ListN.{get_or}
use Rattle.numbers.specs.Sizes.{most_distributors}
use Rattle.numbers.specs.Bounded.{sum_below}
use Rattle.numbers.specs.declared.division.Division.{Division}
use Rattle.numbers.proofs.SumLaws.{sum_step}
use Rattle.numbers.proofs.ListLaws.{filled_none, filled_next}
use Rattle.settlement.specs.Share.{side_total, share_floor, share_remainder, pesos_left}
use Rattle.settlement.specs.Month.{no_division, share_division, divided_side}
use Rattle.settlement.proofs.ShareLaws.{floors_most}
use Rattle.settlement.proofs.MonthLaws.{running_most}
use Rattle.settlement.proofs.share.divide_side.Goals as goal
use Rattle.settlement.proofs.share.divide_side.Goals.{After-multiply_divide-division, Start}

-- the side: its sizes and total, and that no more is transferred
module _ (s : Start) where
  abbrev size : ℕ → ℕ
  size j = get_or s.args.sizes.now j 0

  less : s.args.transferred < side_total s.args.n size
  less = omega (arith, s.requires.whole)

  whole : side_total s.args.n size ≤ 40000000000000000
  unfolding side_total
  whole = running_most s.args.n s.args.sizes.now s.requires.side s.args.n (omega arith)

-- a division: the share's, whose floor is there to be taken
module _ (c : After-multiply_divide-division) where
  abbrev start : Start
  start = (goal.at.offset_bounds-divisions-i c).Start

  abbrev floors : ℕ → ℕ
  floors = share_floor c.args.n (size start) c.args.transferred

  division : c.multiply_divide-division.result ≡ share_division c.args.n (size start) c.args.transferred c.loop-i.i
  unfolding share_division share_floor share_remainder
  division =
      c.multiply_divide-division.ensures
      ∙ ap {B = Division}
      (λ y. let product : ℕ = c.args.transferred * size start c.loop-i.i in
      record { quotient = product / y; remainder = product % y })
      c.requires.whole

  floor : c.multiply_divide-division.result.quotient ≡ floors c.loop-i.i
  unfolding share_division
  floor = ap (λ (d : Division). d.quotient) division

  enough : sum_below c.loop-i.i floors + floors c.loop-i.i ≤ c.args.transferred
  enough =
      omega (
        arith,
        sum_step c.loop-i.i floors,
        floors_most c.args.n (size start) c.args.transferred (omega (arith, less start)) (omega (arith, less start))
            (c.loop-i.i + 1) (omega arith),
      )

pub loop-i-init : goal.loop-i-init
unfolding sum_below
loop-i-init s =
    (filled_none most_distributors no_division (share_division s.args.n (size s) s.args.transferred), omega arith)

pub multiply_divide-division-requires : goal.multiply_divide-division-requires
multiply_divide-division-requires c =
    let s = (goal.at.multiply_divide-division-requires c).Start in
    omega (arith, c.requires.whole, less s, whole s, c.requires.side.within c.loop-i.i (omega arith))

pub overflow_sub-left : goal.overflow_sub-left
overflow_sub-left c =
    let d = (goal.at.overflow_sub-left c).After-multiply_divide-division in
    omega (arith, floor d, enough d, c.loop-i.invariant.1)

pub loop-i-preserved : goal.loop-i-preserved
loop-i-preserved c =
    let i = c.loop-i.i in
    let d = (goal.at.loop-i-preserved c).After-multiply_divide-division in (
      filled_next most_distributors no_division i (share_division c.args.n (size (start d)) c.args.transferred)
          c.loop-i.divisions _ (omega arith) c.loop-i.invariant.0 (division d),
      omega (arith, floor d, enough d, c.loop-i.invariant.1, sum_step i (floors d)),
    )

pub offset_bounds-divisions-i : goal.offset_bounds-divisions-i
offset_bounds-divisions-i c = omega arith

pub returns : goal.returns
unfolding divided_side pesos_left
returns c =
    let e : c.loop-i.i ≡ c.args.n = omega arith in
    rw (rw e at c.loop-i.invariant.0, rw e at c.loop-i.invariant.1)
