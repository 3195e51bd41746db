-- Laws of the sectors' presences and charges, and what an allowed factor is. Assumes nothing.
use mathlib.Core.Path.{◌≡◌, sym, ◌∙◌, ap, ap₂}
use native.Mathlib.Omega.{arith}
use mathlib.Core.Bool.{Bool, true, false}
use mathlib.Core.List.{List}
use Prim.Native.Nat.{ℕ, ◌+◌, ◌*◌, ◌/◌, ◌≤◌, ◌<◌}
use lib.Dec.{leb}
use lib.ListN.{set}
use lib.IntN.{ℤ, pos}
use borrow.Author.Tests.{leb-true}
use Rattle.numbers.specs.Bounded.{all_below, filled_below}
use Rattle.numbers.specs.Sizes.{sector_places, sector_count}
use Rattle.numbers.proofs.BoolLaws.{and_left}
use Rattle.numbers.proofs.TestLaws.{all_at}
use Rattle.numbers.proofs.ListLaws.{filled_none, filled_more, filled_same}
use Rattle.fixing.specs.Sector.{most_factor, factor_at, sector_present, has_sector, sectors_allowed, sector_charge}
use Rattle.fixing.specs.Sector.{filled_places, place_charge, sector_charges, no_charges}
use Rattle.fixing.specs.declared.sector.SectorCharges.{SectorCharges}

-- the places filled: none at first, and one place more, with its presence and its charge
module _ (present : ℕ → Bool) (charge : ℕ → ℤ) where
  pub places_none : no_charges ≡ filled_places 0 present charge
  unfolding no_charges filled_places
  places_none =
      ap₂ {C = SectorCharges} (λ p q. record { present = p; charges = q })
      (sym (filled_none sector_places false _) ∙ filled_none sector_places false _)
      (sym (filled_none sector_places (pos 0) _) ∙ filled_none sector_places (pos 0) _)

  pub places_more : (k : ℕ) (force : SectorCharges) (p : Bool) (z : ℤ) → k < sector_places →
      force ≡ filled_places k present charge → p ≡ present k → z ≡ charge k →
      ◌≡◌ {A = SectorCharges} (record { present = set force.present k p; charges = set force.charges k z })
      (filled_places (k + 1) present charge)
  unfolding filled_places
  places_more k force p z few e f g =
      ap₂ {C = SectorCharges} (λ x y. record { present = x; charges = y })
      (rw (e, f) (filled_more sector_places false present k few))
      (rw (e, g) (filled_more sector_places (pos 0) charge k few))

pub allowed_factor : (n : ℕ) (sectors : List ℕ) → sectors_allowed n sectors ≡ true → (k : ℕ) → k < n * sector_count →
    factor_at sectors k ≤ most_factor
unfolding sectors_allowed
allowed_factor n sectors h k p =
    leb-true _ _
    (all_at (n * sector_count) (λ i. leb (factor_at sectors i) most_factor)
    (and_left (all_below (n * sector_count) (λ i. leb (factor_at sectors i) most_factor)) (all_below n (has_sector sectors))
    h)
    k p)

-- charges that agree for the n distributors charge their sectors alike
pub sectors_same : (n : ℕ) (f g : ℕ → ℤ) (sectors : List ℕ) → ((i : ℕ) → i < n → f i ≡ g i) →
    sector_charges n f sectors ≡ sector_charges n g sectors
unfolding sector_charges filled_places place_charge
sectors_same n f g sectors h =
    ap {B = SectorCharges} (λ q. record
    { present = filled_below sector_places false (n * sector_count) (sector_present sectors); charges = q })
    (filled_same sector_places (pos 0) (n * sector_count) (place_charge f sectors) (place_charge g sectors)
    (λ k p. ap (λ z. sector_charge z (factor_at sectors k)) (h (k / sector_count) (omega arith))))
