-- The chain's answer is the definition's, place by place.
use Rattle.std.proofs.Common.{rules}
use borrow.Author.Tests.{tests}
use mathlib.Core.Path.{refl, ◌∙◌}
use Rattle.numbers.specs.Sizes.{sector_places}
use Rattle.std.proofs.lemmas.Iterator.{YieldsList-from_range}
use Rattle.std.proofs.lemmas.Iterator.Search.{all_from_yields_List}
use Rattle.numbers.proofs.ChainLaws.{all_ranged}
use Rattle.ledger.specs.Sound.{place_sound, force_sound}
use Rattle.ledger.proofs.sound.force_sound.Goals as goal

pub returns : goal.returns
unfolding force_sound place_sound
returns c =
    all_from_yields_List (place_sound c.args.held c.args.force) _ _ _ c.all.ensures.ran
    (YieldsList-from_range 0 sector_places sector_places (cc) refl)
    (λ x b q k. search (rules, tests))
    ∙ all_ranged sector_places (place_sound c.args.held c.args.force)
