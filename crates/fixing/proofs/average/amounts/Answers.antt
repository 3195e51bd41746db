-- The invariant: each place holds what the lines passed come to for its distributor.
use mathlib.Core.Path.{◌≡◌, refl, ap}
use Prim.Native.Nat.{◌*◌, ◌<◌}
use native.Mathlib.Omega.{arith}
use lib.ListN.{get_or}
use Rattle.numbers.specs.Units.{no_price}
use Rattle.supply.specs.Line.{line_count}
use Rattle.fixing.specs.Average.{lines_amount}
use Rattle.fixing.proofs.AverageLaws.{as_total, amount_of, held_none, place_fits, place_more, held_done}
use Rattle.fixing.proofs.AverageLaws.{product_most}
use Rattle.fixing.proofs.average.amounts.Goals as goal
use Rattle.fixing.proofs.average.amounts.Goals.{After-line_at-line}

module _ (c : After-line_at-line) where
  below : c.loop-j.j < line_count c.args.lines.now
  below = omega (arith, c.line_count-j-end.ensures)

  product : (get_or c.args.prices c.loop-j.j no_price).0 * c.line_at-line.result.energy ≡ amount_of c.args.prices
      c.args.lines.now c.loop-j.j
  product = ap (λ line. (get_or c.args.prices c.loop-j.j no_price).0 * line.energy) c.line_at-line.ensures

pub loop-j-init : goal.loop-j-init
loop-j-init c =
    held_none as_total (λ e. e.0) (λ x. refl) (λ e. refl) c.args.lines.now (amount_of c.args.prices c.args.lines.now)

pub overflow_add-amounts : goal.overflow_add-amounts
overflow_add-amounts c =
    let l = (goal.at.overflow_add-amounts c).After-line_at-line in
    omega (
      arith,
      product l,
      place_fits as_total (λ e. e.0) (λ x. refl) (λ e. refl) c.requires.own
          (product_most c.args.prices c.args.lines.now c.requires) (below l) c.line_at-line.ensures c.loop-j.invariant,
    )

pub loop-j-preserved : goal.loop-j-preserved
loop-j-preserved c =
    let l = (goal.at.loop-j-preserved c).After-line_at-line in
    place_more as_total (λ e. e.0) (λ x. refl) (λ e. refl) c.requires.own
    (product_most c.args.prices c.args.lines.now c.requires) (below l) c.line_at-line.ensures c.loop-j.invariant _
    (omega (arith, product l))

pub returns : goal.returns
unfolding lines_amount
returns c =
    let a = c.args in
    let e : c.loop-j.j ≡ line_count a.lines.now = omega (arith, c.line_count-j-end.ensures) in
    held_done as_total (λ x. x.0) (λ x. refl) (λ x. refl) a.lines.now (amount_of a.prices a.lines.now)
    c.loop-j.amounts (rw e at c.loop-j.invariant)
