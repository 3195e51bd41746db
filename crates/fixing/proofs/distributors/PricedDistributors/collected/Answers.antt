-- The invariant: what the distributors passed pay.
use mathlib.Core.Path.{◌≡◌, refl, ap}
use Prim.Native.Nat.{ℕ, ◌≤◌, ◌+◌, ◌*◌}
use lib.ListN.{get_or}
use Rattle.numbers.specs.Bounded.{sum_below}
use Rattle.numbers.specs.Units.{no_price, no_energy}
use Rattle.numbers.proofs.SumLaws.{sum_step}
use Rattle.fixing.specs.Limit.{contract_total, distributors}
use Rattle.fixing.proofs.PassLaws.{paid_most}
use native.Mathlib.Omega.{arith}
use Rattle.fixing.proofs.distributors.PricedDistributors.collected.Goals as goal
use Rattle.fixing.proofs.distributors.PricedDistributors.collected.Goals.{After-loop-i, In-loop-i}

pub loop-i-init : goal.loop-i-init
unfolding sum_below
loop-i-init c = refl

-- what is paid so far, with the distributor at hand
module _ (c : In-loop-i) where
  paid : c.loop-i.total + (get_or c.args.prices c.loop-i.i no_price).0 * (get_or c.args.self.energies c.loop-i.i
      no_energy).0 ≤ 5120000000000000
  paid =
      omega (
        arith,
        paid_most (distributors c.args.self.n c.args.prices c.args.self.energies) c.requires c.loop-i.i
            (omega arith),
      )

pub overflow_mul-total : goal.overflow_mul-total
overflow_mul-total c = omega (arith, paid c)

pub overflow_add-total : goal.overflow_add-total
overflow_add-total c = omega (arith, paid c)

pub loop-i-preserved : goal.loop-i-preserved
loop-i-preserved c = rw sum_step (omega arith)

-- all distributors are passed
whole : (c : After-loop-i) →
    c.loop-i.total ≡ contract_total
    (distributors c.args.self.n c.args.prices c.args.self.energies)
unfolding contract_total
whole c =
    let e : c.loop-i.i ≡ c.args.self.n = omega arith in
    rw (← e) c.loop-i.invariant

pub returns : goal.returns
returns c = ap (λ (x : ℕ). record { 0 = x }) (whole c)
