-- Empty lists are filled with nothing.
use mathlib.Core.Path.{ap₂}
use mathlib.Core.Bool.{false}
use lib.IntN.{pos}
use Rattle.numbers.specs.Sizes.{sector_places}
use Rattle.numbers.proofs.ListLaws.{filled_none}
use Rattle.fixing.specs.Sector.{filled_places, no_charges}
use Rattle.fixing.specs.declared.sector.SectorCharges.{SectorCharges}
use Rattle.fixing.proofs.sector.no_charges.Goals as goal

pub returns : goal.returns
unfolding no_charges filled_places
returns c =
    ap₂ {C = SectorCharges} (λ p q. record { present = p; charges = q }) (filled_none sector_places false _)
    (filled_none sector_places (pos 0) _)
