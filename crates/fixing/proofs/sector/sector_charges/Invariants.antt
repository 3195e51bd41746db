-- The invariant: the places passed are filled in.
use mathlib.Core.Path.{◌≡◌}
use mathlib.Core.List.{List}
use Prim.Native.Nat.{ℕ, ◌≤◌}
use lib.ListN.{length, get_or}
use lib.IntN.{ℤ, pos}
use Rattle.fixing.specs.Sector.{sector_present, filled_places, place_charge}
use Rattle.fixing.proofs.sector.sector_charges.Given as goal

-- the charge of distributor i
abbrev pub charge_in : List ℤ → ℕ → ℤ
charge_in charges i = get_or charges i (pos 0)

abbrev pub invariant-loop-k : goal.invariant-loop-k
invariant-loop-k l =
    (l.k ≤ length l.sectors) × (l.force ≡ filled_places l.k (sector_present l.sectors) (place_charge (charge_in
    l.charges) l.sectors))
