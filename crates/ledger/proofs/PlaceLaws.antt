-- Laws of the places of a fixing's sectors: the first k hold presence and charge, the others nothing. Assumes nothing.
use mathlib.Core.Path.{◌≡◌}
use mathlib.Core.Bool.{Bool, false}
use Prim.Native.Nat.{ℕ, ◌≤◌, ◌<◌}
use native.Mathlib.Omega.{arith}
use lib.IntN.{ℤ, pos}
use Rattle.numbers.specs.Sizes.{sector_places}
use Rattle.numbers.proofs.ListLaws.{filled_at, filled_past}
use Rattle.fixing.specs.Sector.{filled_places, no_charges}
use Rattle.ledger.specs.Ledger.{present_in, charge_in}

module _ (k : ℕ) (present : ℕ → Bool) (charge : ℕ → ℤ) (j : ℕ) (p : j < sector_places) where
  pub present_at_lem : j < k → present_in (filled_places k present charge) j ≡ present j
  unfolding filled_places
  present_at_lem q = filled_at sector_places false present k j q p

  pub charge_at_lem : j < k → charge_in (filled_places k present charge) j ≡ charge j
  unfolding filled_places
  charge_at_lem q = filled_at sector_places (pos 0) charge k j q p

  pub present_past : k ≤ j → present_in (filled_places k present charge) j ≡ false
  unfolding filled_places
  present_past q = filled_past sector_places false present k j q p

  pub charge_past : k ≤ j → charge_in (filled_places k present charge) j ≡ pos 0
  unfolding filled_places
  charge_past q = filled_past sector_places (pos 0) charge k j q p

pub nothing_at : (k : ℕ) → k < sector_places → (present_in no_charges k ≡ false) × (charge_in no_charges k ≡ pos 0)
unfolding no_charges
nothing_at k p = (present_past 0 _ _ k p (omega arith), charge_past 0 _ _ k p (omega arith))
