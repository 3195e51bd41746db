-- A side that is transferred whole has its sizes for shares. The invariant of any other: the shares of those passed are
-- written.
use mathlib.Core.Path.{◌≡◌, ◌∙◌, ap}
use mathlib.Core.Bool.{Bool, true, false, cond}
use Prim.Native.Nat.{ℕ, ◌≤◌, ◌<◌, ◌+◌}
use lib.Dec.{ltb}
use lib.ListN.{get_or}
use Rattle.numbers.specs.Sizes.{most_distributors}
use Rattle.numbers.proofs.ListLaws.{filled_none, filled_at, filled_next}
use Rattle.settlement.specs.Share.{side_total, share_floor, share_remainder, pesos_left, rank, odd_peso, share}
use Rattle.settlement.specs.Settlement.{most_position}
use Rattle.numbers.specs.declared.division.Division.{Division}
use Rattle.settlement.specs.Month.{no_division, division_at, share_division, share_list, divided_side}
use Rattle.settlement.specs.declared.share.DividedSide.{DividedSide}
use Rattle.settlement.proofs.RankLaws.{rank_same}
use Rattle.settlement.proofs.ShareLaws.{share_is, floor_most}
use Rattle.settlement.proofs.MonthLaws.{shares_whole}
use native.Mathlib.Omega.{arith}
use borrow.Author.Tests.{lt-ltb, le-ltb}
use Rattle.settlement.proofs.share.shares.Goals as goal
use Rattle.settlement.proofs.share.shares.Goals.{After-rank_of, then-rank_of-divided, else-rank_of-divided}

pub returns-then-transferred-total : goal.returns-then-transferred-total
returns-then-transferred-total c =
    shares_whole c.args.n c.args.sizes.now c.args.transferred c.requires.side (omega (arith, c.requires.whole))

pub loop-i-init : goal.loop-i-init
loop-i-init c = filled_none most_distributors 0 _

-- a turn: the floor and the rank at hand, and the pesos left
module _ (r : After-rank_of) where
  abbrev n : ℕ
  n = r.args.n

  abbrev i : ℕ
  i = r.loop-i.i

  abbrev size : ℕ → ℕ
  size j = get_or r.args.sizes.now j 0

  abbrev remainder : ℕ → ℕ
  remainder = share_remainder n size r.args.transferred

  enough : r.args.transferred ≤ side_total n size
  enough = omega (arith, r.requires.whole, r.requires.most)

  inside : i < most_distributors
  inside = omega (arith, r.requires.side.few)

  divided : (j : ℕ) → j < n →
      division_at r.divide_side-divided.result.divisions j ≡ share_division n size r.args.transferred j
  unfolding divided_side
  divided j p =
      ap (λ (d : DividedSide). division_at d.divisions j) r.divide_side-divided.ensures
      ∙ filled_at most_distributors no_division (share_division n size r.args.transferred) n j p
      (omega (arith, r.requires.side.few))

  floor : (division_at r.divide_side-divided.result.divisions i).quotient ≡ share_floor n size r.args.transferred i
  unfolding share_division
  floor = ap (λ (d : Division). d.quotient) (divided i (omega arith))

  ranked : r.rank_of.result ≡ rank n remainder i
  unfolding share_division
  ranked =
      r.rank_of.ensures
      ∙ rank_same n (λ j. (division_at r.divide_side-divided.result.divisions j).remainder) remainder
      (λ j p. ap (λ (d : Division). d.remainder) (divided j p))
      i (omega arith)

  left : r.divide_side-divided.result.left ≡ pesos_left n size r.args.transferred
  unfolding divided_side
  left = ap (λ (p : DividedSide). p.left) r.divide_side-divided.ensures

  few : share_floor n size r.args.transferred i ≤ most_position
  few =
      let most = floor_most n size r.args.transferred enough (omega (arith, r.requires.whole)) i in
      omega (arith, most, r.requires.side.within i (omega arith))

  -- the share is the floor with the odd peso
  shared : (b : Bool) → ltb (rank n remainder i) (pesos_left n size r.args.transferred) ≡ b →
      (division_at r.divide_side-divided.result.divisions i).quotient + cond b 1 0 ≡ share n size r.args.transferred i
  unfolding odd_peso
  shared b e =
      let odd : odd_peso n size r.args.transferred i ≡ cond b 1 0 = ap (λ x. cond x 1 0) e in
      omega (arith, floor, odd, share_is n size r.args.transferred enough (omega (arith, r.requires.whole)) i)

pub overflow_add-share : goal.overflow_add-share
overflow_add-share c =
    omega (arith, floor (goal.at.overflow_add-share c).After-rank_of, few (goal.at.overflow_add-share c).After-rank_of)

pub loop-i-preserved : goal.loop-i-preserved
loop-i-preserved c =
    let r = (goal.at.loop-i-preserved c).After-rank_of in
    let ranks = rank (n r) (remainder r) (i r) in
    let pesos = pesos_left (n r) (size r) c.args.transferred in
    let written : c.if-rank_of-divided.share ≡ share (n r) (size r) c.args.transferred (i r) =
    elim c.if-rank_of-divided.branch [
      | then-rank_of-divided w ↦
          w.share-is
          ∙ shared r true (lt-ltb ranks pesos (omega (arith, ranked r, left r, w.if-rank_of-divided.true)))
      | else-rank_of-divided w ↦
          omega (
            arith,
            w.share-is,
            shared r false (le-ltb ranks pesos (omega (arith, ranked r, left r, w.if-rank_of-divided.false))),
          )
    ] in
    filled_next most_distributors 0 (i r) (share (n r) (size r) c.args.transferred) c.loop-i.shares _ (inside r)
    c.loop-i.invariant written

pub returns : goal.returns
unfolding share_list
returns c =
    let e : c.loop-i.i ≡ c.args.n = omega arith in
    rw e at c.loop-i.invariant
