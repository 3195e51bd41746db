-- Sector factors of document 01: "8n words, 0 (sector absent) or 1 to 50,000 ten-thousandths; each distributor has a
-- sector". Assumes nothing.
use Rattle.std.specs.Prelude.{Bool, false, not, ◌&&◌, List, ℕ, ◌+◌, ◌*◌, ◌/◌, leb, eqb, get_or, ℤ, pos, ◌*ℤ◌}
use Rattle.numbers.specs.Bounded.{all_below, any_below, filled_below}
use Rattle.numbers.specs.Sizes.{sector_count, sector_places}
use Rattle.numbers.specs.Renumbering.{Renumbering, moved_along}
use Rattle.numbers.specs.Rounding.{half_away}
use Rattle.fixing.specs.declared.sector.SectorCharges.{SectorCharges}

abbrev pub most_factor : ℕ
most_factor = 50000

-- the factor at place k, 8 places a distributor
abbrev pub factor_at : List ℕ → ℕ → ℕ
factor_at sectors k = get_or sectors k 0

-- whether the sector at place k is present
unfoldable pub sector_present : List ℕ → ℕ → Bool
sector_present sectors k = not (eqb (factor_at sectors k) 0)

-- whether distributor i has a sector
unfoldable pub has_sector : List ℕ → ℕ → Bool
has_sector sectors i = any_below sector_count (λ s. sector_present sectors (i * sector_count + s))

-- cause 8 is met where this is false
unfoldable pub sectors_allowed : ℕ → List ℕ → Bool
sectors_allowed n sectors =
    all_below (n * sector_count) (λ k. leb (factor_at sectors k) most_factor) && all_below n (has_sector sectors)

-- "Sector charge = charge * factor / 10,000, half away"
unfoldable pub sector_charge : ℤ → ℕ → ℤ
sector_charge charge factor = half_away (charge *ℤ pos factor) 10000

-- presence and charge of the first k places; the places past them are empty
unfoldable pub filled_places : ℕ → (ℕ → Bool) → (ℕ → ℤ) → SectorCharges
filled_places k present charge =
    record {
      present = filled_below sector_places false k present;
      charges = filled_below sector_places (pos 0) k charge;
    }

-- the charge of the sector at place k, the charge of each distributor being given
unfoldable pub place_charge : (ℕ → ℤ) → List ℕ → ℕ → ℤ
place_charge charge sectors k = sector_charge (charge (k / sector_count)) (factor_at sectors k)

-- those of the sectors of n distributors
unfoldable pub sector_charges : ℕ → (ℕ → ℤ) → List ℕ → SectorCharges
sector_charges n charge sectors =
    filled_places (n * sector_count) (sector_present sectors) (place_charge charge sectors)

-- nothing in force
unfoldable pub no_charges : SectorCharges
no_charges = filled_places 0 (λ k. false) (λ k. pos 0)

-- presences and charges moved along with their distributors to new numbers (W-207 of document 02)
unfoldable pub renumbered_charges : {n : ℕ} → Renumbering n → SectorCharges → SectorCharges
renumbered_charges r force =
    record {
      present = moved_along r sector_count false sector_places force.present;
      charges = moved_along r sector_count (pos 0) sector_places force.charges;
    }
