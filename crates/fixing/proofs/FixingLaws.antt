-- Laws of an accepted fixing: its sectors can be charged, and its parts are the definition's. Assumes nothing.
use mathlib.Core.Path.{◌≡◌, ◌∙◌, ap}
use mathlib.Core.Bool.{true}
use mathlib.Core.List.{List}
use Prim.Native.Nat.{ℕ, ◌*◌, ◌≤◌, ◌<◌}
use native.Mathlib.Omega.{arith}
use lib.ListN.{get_or, length}
use lib.IntN.{ℤ, pos, sub_ℕ}
use Rattle.numbers.specs.Bounded.{filled_below}
use Rattle.numbers.specs.Units.{no_price, most_price}
use Rattle.numbers.specs.Sizes.{most_distributors, sector_count}
use Rattle.numbers.specs.declared.units.PesoPrice.{PesoPrice}
use Rattle.numbers.specs.declared.units.PowerPrice.{PowerPrice}
use Rattle.numbers.specs.declared.units.Energy.{Energy}
use Rattle.numbers.proofs.ListLaws.{filled_at, filled_same}
use Rattle.fixing.specs.Limit.{InRange, final_price, charge, distributors}
use Rattle.fixing.specs.Prices.{final_prices, fixed_prices, charge_list}
use Rattle.fixing.specs.Sector.{sectors_allowed, sector_charges}
use Rattle.fixing.specs.Required.{ChargedSectors}
use Rattle.fixing.specs.Fixing.{accepted_fixing}
use Rattle.fixing.specs.declared.prices.FixedPrices.{FixedPrices}
use Rattle.fixing.specs.declared.sector.SectorCharges.{SectorCharges}
use Rattle.fixing.specs.declared.fix.Fixing.{Fixing}
use Rattle.fixing.proofs.LimitLaws.{final_most, charge_size}
use Rattle.fixing.proofs.SectorLaws.{allowed_factor, sectors_same}

module _ (n : ℕ) (averages : List PesoPrice) (energies : List Energy) (r : InRange (distributors n averages energies))
  where
    -- what stands at i of the final prices
    pub final_at : (i : ℕ) → i < n →
        (get_or (fixed_prices (distributors n averages energies)).finals i no_price).0 ≡ final_price
        (distributors n averages energies) i
    unfolding fixed_prices final_prices
    final_at i p =
        ap (λ x. x.0)
        (filled_at most_distributors no_price (λ k. record { 0 = final_price (distributors n averages energies) k }) n i p
        (omega (arith, r.few)))

    -- what stands at i of the charges
    pub charge_at_lem : (i : ℕ) → i < n →
        get_or (charge_list (distributors n averages energies)) i (pos 0) ≡ charge (distributors n averages energies) i
    unfolding charge_list
    charge_at_lem i p =
        filled_at most_distributors (pos 0) (charge (distributors n averages energies)) n i p (omega (arith, r.few))

    pub finals_most : (answer : FixedPrices) → answer ≡ fixed_prices (distributors n averages energies) → (i : ℕ) →
        i < n →
        (get_or answer.finals i no_price).0 ≤ most_price
    finals_most answer e i p =
        rw e (omega (arith, final_at i p, final_most (distributors n averages energies) r i p))

    -- final prices less averages are the charges of the definition
    module _ (answer : FixedPrices) (e : answer ≡ fixed_prices (distributors n averages energies)) (list : List ℤ)
        (l : list ≡ filled_below most_distributors (pos 0) n
        (λ i. sub_ℕ (get_or answer.finals i no_price).0 (get_or averages i no_price).0)) where
      charges_are : list ≡ charge_list (distributors n averages energies)
      unfolding charge_list charge
      charges_are =
          l
          ∙ filled_same most_distributors (pos 0) n _ _
          (λ i p. ap (λ x. sub_ℕ x (get_or averages i no_price).0)
          (ap (λ (a : FixedPrices). (get_or a.finals i no_price).0) e ∙ final_at i p))

      charges_at : (i : ℕ) → i < n → get_or list i (pos 0) ≡ charge (distributors n averages energies) i
      charges_at i p = ap (λ (m : List ℤ). get_or m i (pos 0)) charges_are ∙ charge_at_lem i p

      pub fixing_charged : (sectors : List ℕ) → length sectors ≡ n * sector_count → sectors_allowed n sectors ≡ true →
          ChargedSectors n list sectors
      fixing_charged sectors f h =
          record {
            few = r.few;
            lent = f;
            factors = allowed_factor n sectors h;
            charge = λ i p. rw (charges_at i p) (charge_size (distributors n averages energies) r i p);
          }

      pub fixing_is : (power : List PowerPrice) (sectors : List ℕ) (force : SectorCharges) →
          force ≡ sector_charges n (λ i. get_or list i (pos 0)) sectors →
          ◌≡◌ {A = Fixing} (record {
            averages = averages;
            power = power;
            prices = answer;
            charges = list;
            sectors = force;
          }) (accepted_fixing n averages power energies sectors)
      unfolding accepted_fixing
      fixing_is power sectors force f = rw (e, charges_are, f ∙ sectors_same n _ _ sectors charges_at)
