-- "The limit and the charges" of document 01: contract total, limit, rounds, final prices, charges, residue.
-- Distributors are counted from 0. A set of distributors is a test of the number; the rounds are a sequence, so that
-- the set before each round and the surcharge of each round have a name of their own.
-- A difference below is never cut off at 0 and no divisor is 0: proofs/LimitLaws shows it for every input in range.
-- Assumes nothing.
use Rattle.std.specs.Prelude.{Bool, cond, not, ◌&&◌, ◌||◌, ℕ, zero, suc, ◌+◌, ◌-◌, ◌*◌, ◌/◌, ◌≤◌, ◌<◌, ltb, ℤ}
use Rattle.std.specs.Prelude.{Option, Some, None, List, get_or}
use Rattle.std.proofs.Math.IntN.{sub_ℕ}
use Rattle.numbers.specs.Bounded.{sum_below, any_below, first_below}
use Rattle.numbers.specs.Rounding.{divide_up}
use Rattle.numbers.specs.Sizes.{most_distributors}
use Rattle.numbers.specs.Units.{no_price, no_energy}
use Rattle.numbers.specs.declared.units.PesoPrice.{PesoPrice}
use Rattle.numbers.specs.declared.units.Energy.{Energy}

-- n distributors, the average p_i in 0.001 $/kWh and the energy E_i in MWh of each
pub record Distributors : Type 0 where
  pub count : ℕ
  pub average : ℕ → ℕ
  pub energy : ℕ → ℕ

-- the distributors of a list of averages and one of energies
abbrev pub distributors : ℕ → List PesoPrice → List Energy → Distributors
distributors n averages energies =
    record { count = n; average = λ i. (get_or averages i no_price).0; energy = λ i. (get_or energies i no_energy).0 }

-- R, the "contract total" (a term of 01): the sum of p_i * E_i, in $
unfoldable pub contract_total : Distributors → ℕ
contract_total d = sum_below d.count (λ i. d.average i * d.energy i)

-- E, the sum of E_i
unfoldable pub total_energy : Distributors → ℕ
total_energy d = sum_below d.count d.energy

-- L, the "limit" (a term of 01): the floor of 105 * R / (100 * E). It stays the same in all rounds
unfoldable pub limit : Distributors → ℕ
limit d = 105 * contract_total d / (100 * total_energy d)

-- sums over a set, and over those outside it
unfoldable pub sum_inside : Distributors → (ℕ → Bool) → (ℕ → ℕ) → ℕ
sum_inside d set f = sum_below d.count (λ i. cond (set i) (f i) 0)

unfoldable pub sum_outside : Distributors → (ℕ → Bool) → (ℕ → ℕ) → ℕ
sum_outside d set f = sum_below d.count (λ i. cond (set i) 0 (f i))

-- the surcharge that a round works from its set: the sum over the set of (p_i - L) * E_i, divided by the energy
-- outside it, rounded up. Those who joined have p_i below L, so the sum is taken as one difference of two sums
unfoldable pub round_surcharge : Distributors → (ℕ → Bool) → ℕ
round_surcharge d set =
    divide_up
    (sum_inside d set (λ i. d.average i * d.energy i) - limit d * sum_inside d set d.energy)
    (sum_outside d set d.energy)

-- whether p_i raised by the surcharge is above L
unfoldable pub above_limit : Distributors → ℕ → ℕ → Bool
above_limit d surcharge i = ltb (limit d) (d.average i + surcharge)

-- the capped set after k rounds: it "starts as those above L"; in a round all outside with p_i + r above L join
unfoldable pub capped_after : Distributors → ℕ → ℕ → Bool
capped_after d zero = λ i. above_limit d 0 i
capped_after d (suc k) =
    let set = capped_after d k in
    let surcharge = round_surcharge d set in
    λ i. set i || above_limit d surcharge i

-- whether i joins in the round that follows k rounds
unfoldable pub joins_after : Distributors → ℕ → ℕ → Bool
joins_after d k i = not (capped_after d k i) && above_limit d (round_surcharge d (capped_after d k)) i

-- whether anybody joins in that round
unfoldable pub any_joins_after : Distributors → ℕ → Bool
any_joins_after d k = any_below d.count (joins_after d k)

-- whether some p_i is above L
unfoldable pub any_above : Distributors → Bool
any_above d = any_below d.count (above_limit d 0)

abbrev pub or_zero : Option ℕ → ℕ
or_zero None = 0
or_zero (Some k) = k

-- how many rounds stand before the last one, "that in which nobody joins". The search below n never runs out
unfoldable pub rounds_before_last : Distributors → ℕ
rounds_before_last d = or_zero (first_below d.count (λ k. cond (any_joins_after d k) None (Some k)))

-- "the count of rounds made": 0 if no p_i is above L
unfoldable pub rounds : Distributors → ℕ
rounds d = cond (any_above d) (rounds_before_last d + 1) 0

-- the capped set at the end
unfoldable pub capped : Distributors → ℕ → Bool
capped d = capped_after d (rounds_before_last d)

-- r, the surcharge of the last round: 0 if no p_i is above L
unfoldable pub surcharge : Distributors → ℕ
surcharge d = cond (any_above d) (round_surcharge d (capped d)) 0

-- the "final price" (a term of 01): L for the capped, p_i + r for others
unfoldable pub final_price : Distributors → ℕ → ℕ
final_price d i = cond (capped d i) (limit d) (d.average i + surcharge d)

-- the "charge" (a term of 01): final - average, signed
unfoldable pub charge : Distributors → ℕ → ℤ
charge d i = sub_ℕ (final_price d i) (d.average i)

-- what the final prices collect, in $
unfoldable pub collected : Distributors → ℕ
collected d = sum_below d.count (λ i. final_price d i * d.energy i)

-- the "residue" (a term of 01): the sum of final * E_i, less R
unfoldable pub residue : Distributors → ℕ
residue d = collected d - contract_total d

-- the input that 01 lets reach the limit: 1 to 40 distributors, each average within the bounds of a peso price, each
-- energy at least 1, and at most 256 lines of 10,000,000 in all
pub record InRange (d : Distributors) : Type 0 where
  pub some : 1 ≤ d.count
  pub few : d.count ≤ most_distributors
  pub least : (i : ℕ) → i < d.count → 1000 ≤ d.average i
  pub most : (i : ℕ) → i < d.count → d.average i ≤ 2000000
  pub supplied : (i : ℕ) → i < d.count → 1 ≤ d.energy i
  pub total : total_energy d ≤ 2560000000
