-- Each presence and each charge is that of its words.
use mathlib.Core.Path.{ap₂}
use Rattle.std.proofs.Common.{rules}
use lib.IntN.{pos}
use mathlib.Core.Bool.{false}
use Rattle.numbers.specs.Signed.{signed_of}
use Rattle.numbers.specs.Sizes.{sector_places}
use Rattle.fixing.specs.Sector.{filled_places}
use Rattle.fixing.specs.declared.sector.SectorCharges.{SectorCharges}
use Rattle.store.specs.Store.{word_truth, word_at, loaded_charges}
use Rattle.store.proofs.StoreLaws.{made_filled}
use Rattle.store.proofs.load.load_charges.Goals as goal

pub returns : goal.returns
unfolding loaded_charges filled_places
returns c =
    ap₂ {C = SectorCharges} (λ p q. record { present = p; charges = q })
    (made_filled _ _ (λ k. word_truth (word_at c.args.present.now k)) (λ i y q k. search rules) _ sector_places
    false c.from_fn.ensures.items)
    (made_filled _ _ (λ k. signed_of (word_at c.args.charges.now k)) (λ i y q k. search rules) _ sector_places
    (pos 0) c.from_fn-2.ensures.items)
