-- What a pass of the code over the distributors keeps: its sums stay small, and a round's three sums grow by one
-- distributor. Assumes nothing.
use mathlib.Core.Path.{◌≡◌, refl}
use mathlib.Core.Bool.{Bool, cond}
use Prim.Native.Nat.{ℕ, ◌+◌, ◌*◌, ◌≤◌, ◌<◌}
use native.Mathlib.Omega.{arith}
use lib.Dec.{ltb}
use Rattle.numbers.specs.Bounded.{sum_below}
use Rattle.numbers.proofs.SumLaws.{sum_step, sum_same}
use Rattle.fixing.specs.Limit.{Distributors, InRange, contract_total, total_energy, limit, sum_inside, sum_outside}
use Rattle.fixing.specs.Limit.{above_limit}
use Rattle.fixing.specs.Prices.{round_sums}
use Rattle.numbers.proofs.SearchLaws.{sum_next}
use Rattle.fixing.proofs.PriceLaws.{inside_outside}
use Rattle.fixing.proofs.LimitLaws.{total_most}

pub total_fits : (d : Distributors) → InRange d → contract_total d ≤ 5120000000000000
total_fits d r = omega (arith, total_most d r, r.total)

-- those passed, with the one at hand, pay no more than all
pub paid_most : (d : Distributors) → InRange d → (k : ℕ) → k < d.count →
    sum_below k (λ j. d.average j * d.energy j) + d.average k * d.energy k ≤ 5120000000000000
unfolding contract_total
paid_most d r k below = omega (arith, sum_next k d.count (λ j. d.average j * d.energy j) below, total_fits d r)

-- the three sums of a round over the first k distributors
pub record Sums (set : ℕ → Bool) (average energy : ℕ → ℕ) (k paid inside outside : ℕ) : Type 0 where
  pub pays : paid ≡ sum_below k (λ j. cond (set j) (average j * energy j) 0)
  pub holds : inside ≡ sum_below k (λ j. cond (set j) (energy j) 0)
  pub leaves : outside ≡ sum_below k (λ j. cond (set j) 0 (energy j))

module _ (set : ℕ → Bool) where
  pub sums_none : (average energy : ℕ → ℕ) → Sums set average energy 0 0 0 0
  unfolding sum_below
  sums_none average energy = record { pays = refl; holds = refl; leaves = refl }

  -- one distributor more, inside the set or outside it
  pub sums_more : (average energy : ℕ → ℕ) (k paid inside outside : ℕ) → Sums set average energy k paid inside outside →
      (c : Bool) → set k ≡ c → (paid' inside' outside' : ℕ) → paid' ≡ paid + cond c (average k * energy k) 0 →
      inside' ≡ inside + cond c (energy k) 0 → outside' ≡ outside + cond c 0 (energy k) →
      Sums set average energy (k + 1) paid' inside' outside'
  sums_more average energy k paid inside outside sums c e paid' inside' outside' p i o =
      record {
        pays = rw (sum_step k (λ j. cond (set j) (average j * energy j) 0), e) (omega (arith, sums.pays));
        holds = rw (sum_step k (λ j. cond (set j) (energy j) 0), e) (omega (arith, sums.holds));
        leaves = rw (sum_step k (λ j. cond (set j) 0 (energy j)), e) (omega (arith, sums.leaves));
      }

  sides : (f : ℕ → ℕ) (k : ℕ) →
      sum_below k (λ j. cond (set j) (f j) 0) + sum_below k (λ j. cond (set j) 0 (f j)) ≡ sum_below k f
  unfolding sum_inside sum_outside
  sides f k = inside_outside (record { count = k; average = f; energy = f }) set f

  -- the sums with the distributor at hand are at most the whole
  module _ (d : Distributors) (r : InRange d) (k paid inside outside : ℕ) (below : k < d.count)
      (sums : Sums set d.average d.energy k paid inside outside) where
    pub paid_fits : paid + d.average k * d.energy k ≤ 5120000000000000
    paid_fits = omega (arith, sums.pays, sides (λ j. d.average j * d.energy j) k, paid_most d r k below)

    pub energy_fits : inside + outside + d.energy k ≤ 2560000000
    unfolding total_energy
    energy_fits =
        omega
        (arith, sums.holds, sums.leaves, sides d.energy k, sum_next k d.count d.energy below, r.total)

-- two sets that agree on the distributors have the same sums
pub sums_same : (d : Distributors) (set other : ℕ → Bool) → ((i : ℕ) → i < d.count → set i ≡ other i) →
    round_sums d set ≡ round_sums d other
unfolding sum_inside sum_outside
sums_same d set other told =
    rw (
      part (λ i c. cond c (d.average i * d.energy i) 0),
      part (λ i c. cond c (d.energy i) 0),
      part
          (λ i c. cond c 0 (d.energy i)),
    )
  where
    part : (f : ℕ → Bool → ℕ) → sum_below d.count (λ i. f i (set i)) ≡ sum_below d.count (λ i. f i (other i))
    part f = sum_same d.count _ _ (λ i p. rw (told i p))

-- all distributors passed: the sums of the round whose set `raise` tells
pub sums_all : (d : Distributors) (top raise paid inside outside : ℕ) → top ≡ limit d →
    Sums (λ j. ltb top (d.average j + raise)) d.average d.energy d.count paid inside outside →
    record { paid = record { 0 = paid }; inside = record { 0 = inside }; outside = record { 0 = outside } } ≡ round_sums
    d (above_limit d raise)
unfolding sum_inside sum_outside above_limit
sums_all d top raise paid inside outside e sums = rw (sums.pays, sums.holds, sums.leaves, e)
