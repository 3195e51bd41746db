-- The invariant: the places passed are filled in.
use mathlib.Core.Path.{◌≡◌}
use Prim.Native.Nat.{ℕ}
use lib.IntN.{ℤ}
use Rattle.fixing.specs.Sector.{filled_places}
use Rattle.fixing.specs.declared.sector.SectorCharges.{SectorCharges}
use Rattle.ledger.specs.Ledger.{charge_in}
use Rattle.ledger.specs.Billed.{split_charge, either_present}
use Rattle.ledger.proofs.billed.split_charges.Given as goal

-- the charge at place k
abbrev pub divided : ℕ → ℕ → SectorCharges → SectorCharges → ℕ → ℤ
divided days before old new k = split_charge days before (charge_in old k) (charge_in new k)

abbrev pub invariant-loop-k : goal.invariant-loop-k
invariant-loop-k l =
    l.force ≡ filled_places l.k (either_present l.old l.new) (divided l.days l.before l.old l.new)
