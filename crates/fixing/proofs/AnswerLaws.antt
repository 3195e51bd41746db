-- What the call works is what the definitions say: the limit, the final prices as they are stored, what they collect,
-- and the whole answer. Assumes nothing.
use mathlib.Core.Path.{◌≡◌, ◌∙◌, ap}
use mathlib.Core.List.{List}
use Prim.Native.Nat.{ℕ, ◌+◌, ◌-◌, ◌*◌, ◌/◌, ◌≤◌, ◌<◌, min}
use native.Mathlib.Omega.{arith}
use lib.ListN.{get_or}
use Rattle.numbers.specs.Sizes.{most_distributors}
use Rattle.numbers.specs.Bounded.{filled_below}
use Rattle.numbers.specs.Units.{no_price}
use Rattle.numbers.specs.declared.units.PesoPrice.{PesoPrice}
use Rattle.numbers.specs.declared.units.Energy.{Energy}
use Rattle.numbers.proofs.SumLaws.{sum_same}
use Rattle.numbers.proofs.ListLaws.{filled_at, filled_same}
use Rattle.fixing.specs.Limit.{Distributors, InRange, contract_total, total_energy, limit, rounds, surcharge}
use Rattle.fixing.specs.Limit.{final_price, collected, residue, distributors}
use Rattle.fixing.specs.Prices.{last_round, final_prices, fixed_prices, PricesPromise}
use Rattle.fixing.specs.declared.prices.LastRound.{LastRound}
use Rattle.fixing.proofs.LimitLaws.{limit_most, surcharge_most, rounds_few, final_min, final_least, final_most}
use Rattle.fixing.proofs.LimitLaws.{collects}

pub limit_is : (d : Distributors) (total energy : ℕ) → total ≡ contract_total d → energy ≡ total_energy d →
    105 * total / (100 * energy) ≡ limit d
unfolding limit
limit_is d total energy e f = rw (e, f)

-- the surcharge of the last round
pub last_most_lem : (d : Distributors) → InRange d → (last : LastRound) → last ≡ last_round d → last.surcharge.0 ≤ 2100000
last_most_lem d r last h =
    omega (arith, ap (λ (x : LastRound). x.surcharge.0) h, surcharge_most d r, limit_most d r)

module _ (n : ℕ) (averages : List PesoPrice) (energies : List Energy) (r : InRange (distributors n averages energies))
  where
    abbrev d : Distributors
    d = distributors n averages energies

    module _ (top : ℕ) (topped : top ≡ limit d) (last : LastRound) (made : last ≡ last_round d) (finals : List PesoPrice)
        (stored : finals ≡ filled_below most_distributors no_price n
        (λ i. record { 0 = min top ((get_or averages i no_price).0 + last.surcharge.0) })) where
      surcharge_is : last.surcharge.0 ≡ surcharge d
      surcharge_is = ap (λ (x : LastRound). x.surcharge.0) made

      rounds_is : last.rounds ≡ rounds d
      rounds_is = ap (λ (x : LastRound). x.rounds) made

      finals_are : finals ≡ final_prices d
      unfolding final_prices
      finals_are =
          stored
          ∙ filled_same most_distributors no_price n _ _
          (λ i p. ap (λ (m : ℕ). record { 0 = m }) (omega (arith, final_min d r i p, topped, surcharge_is)))

      final_at : (i : ℕ) → i < n → (get_or finals i no_price).0 ≡ final_price d i
      unfolding final_prices
      final_at i p =
          ap (λ (l : List PesoPrice). (get_or l i no_price).0) finals_are
          ∙ ap (λ (x : PesoPrice). x.0) (filled_at most_distributors no_price _ n i p (omega (arith, r.few)))

      -- the final prices are in range too, so that what they collect is worked as the contract total is
      pub finals_range : InRange (distributors n finals energies)
      unfolding total_energy
      finals_range =
          record {
            some = r.some;
            few = r.few;
            least = λ i p. rw (final_at i p) (final_least d r i p);
            most = λ i p. rw (final_at i p) (final_most d r i p);
            supplied = r.supplied;
            total = r.total;
          }

      finals_collect : contract_total (distributors n finals energies) ≡ collected d
      unfolding contract_total collected
      finals_collect = sum_same n _ _ (λ i p. rw (final_at i p))

      -- they collect the contract total
      pub finals_over : contract_total d ≤ contract_total (distributors n finals energies)
      finals_over = omega (arith, finals_collect, collects d r)

      pub prices_promised : (rest : ℕ) → rest ≡ contract_total (distributors n finals energies) - contract_total d →
          PricesPromise d (record {
            limit = record { 0 = top };
            surcharge = last.surcharge;
            rounds = last.rounds;
            residue = record { 0 = rest };
            finals = finals;
          })
      unfolding fixed_prices residue
      prices_promised rest g =
          let rest-is : rest ≡ residue d = g ∙ ap (λ x. x - contract_total d) finals_collect in
          record { answered = rw (topped, made, rest-is, finals_are); few = rw rounds_is (rounds_few d r) }
