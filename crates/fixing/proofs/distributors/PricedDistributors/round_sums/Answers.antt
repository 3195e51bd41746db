-- The invariant: the three sums of the distributors passed.
use mathlib.Core.Path.{◌≡◌}
use mathlib.Core.Bool.{Bool, true, false}
use Prim.Native.Nat.{ℕ, ◌≤◌, ◌+◌, ◌*◌}
use lib.ListN.{get_or}
use borrow.Author.Tests.{lt-ltb, le-ltb}
use Rattle.numbers.specs.Units.{no_price, no_energy}
use Rattle.fixing.specs.Limit.{Distributors}
use Rattle.fixing.specs.Prices.{distributors_of}
use Rattle.fixing.proofs.LimitLaws.{limit_most}
use Rattle.fixing.proofs.PassLaws.{Sums, sums_none, sums_more, paid_fits, energy_fits, sums_all}
use native.Mathlib.Omega.{arith}
use Rattle.fixing.proofs.distributors.PricedDistributors.round_sums.Goals as goal
use Rattle.fixing.proofs.distributors.PricedDistributors.round_sums.Invariants.{above}
use Rattle.fixing.proofs.distributors.PricedDistributors.round_sums.Goals.{After-loop-i, In-loop-i, then-limit-average}
use Rattle.fixing.proofs.distributors.PricedDistributors.round_sums.Goals.{else-limit-average}

pub loop-i-init : goal.loop-i-init
loop-i-init c = sums_none _ _ _

-- the distributor at hand, and the sums so far with it
module _ (c : In-loop-i) where
  abbrev d : Distributors
  d = distributors_of c.args.self

  abbrev set : ℕ → Bool
  set = above c.args.self.averages c.args.limit.0 c.args.raise.0

  raised : d.average c.loop-i.i + c.args.raise.0 ≤ 4100000
  raised = omega (arith, c.args.self.range.most c.loop-i.i (omega arith), limit_most d c.args.self.range)

  paid : c.loop-i.paid + d.average c.loop-i.i * d.energy c.loop-i.i ≤ 5120000000000000
  paid = paid_fits set d c.args.self.range _ _ _ _ (omega arith) c.loop-i.invariant

  energy : c.loop-i.inside + c.loop-i.outside + d.energy c.loop-i.i ≤ 2560000000
  energy = energy_fits set d c.args.self.range _ _ _ _ (omega arith) c.loop-i.invariant

pub overflow_add-average : goal.overflow_add-average
overflow_add-average c = omega (arith, raised (goal.at.overflow_add-average c).In-loop-i)

pub overflow_mul-paid : goal.overflow_mul-paid
overflow_mul-paid c = omega (arith, paid (goal.at.overflow_mul-paid c).In-loop-i)

pub overflow_add-paid : goal.overflow_add-paid
overflow_add-paid c = omega (arith, paid (goal.at.overflow_add-paid c).In-loop-i)

pub overflow_add-inside : goal.overflow_add-inside
overflow_add-inside c = omega (arith, energy (goal.at.overflow_add-inside c).In-loop-i)

pub overflow_add-outside : goal.overflow_add-outside
overflow_add-outside c = omega (arith, energy (goal.at.overflow_add-outside c).In-loop-i)

pub loop-i-preserved : goal.loop-i-preserved
loop-i-preserved c =
    let raised = (get_or c.args.self.averages c.loop-i.i no_price).0 + c.args.raise.0 in
    elim c.if-limit-average.branch [
      | then-limit-average w ↦ sums_more _ _ _ _ _ _ _ c.loop-i.invariant true
          (lt-ltb c.args.limit.0 raised (omega arith)) _ _ _ w.paid-is w.inside-is (omega arith)
      | else-limit-average w ↦ sums_more _ _ _ _ _ _ _ c.loop-i.invariant false
          (le-ltb c.args.limit.0 raised (omega arith)) _ _ _ (omega arith) (omega arith) w.outside-is
    ]

-- all distributors are passed
whole : (c : After-loop-i) →
    Sums (above c.args.self.averages c.args.limit.0 c.args.raise.0)
    (λ j. (get_or c.args.self.averages j no_price).0) (λ j. (get_or c.args.self.energies j no_energy).0)
    c.args.self.n c.loop-i.paid c.loop-i.inside c.loop-i.outside
whole c =
    let e : c.loop-i.i ≡ c.args.self.n = omega arith in
    rw e at c.loop-i.invariant

pub returns : goal.returns
returns c =
    sums_all (distributors_of c.args.self) _ _ _ _ _ c.requires.limited (whole c)
