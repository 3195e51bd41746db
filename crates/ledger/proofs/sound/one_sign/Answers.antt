-- The chains' answers are the definition's, distributor by distributor.
use Rattle.std.proofs.Common.{rules}
use borrow.Author.Tests.{tests}
use mathlib.Core.Path.{◌∙◌, ap, ap₂}
use mathlib.Core.Bool.{Bool, not, ◌&&◌}
use native.Mathlib.Omega.{arith}
use lib.IntN.{pos}
use lib.Signed.{lt_z}
use Rattle.std.proofs.lemmas.Iterator.{YieldsList-from_slice}
use Rattle.std.proofs.lemmas.Iterator.Search.{any_from_yields_List}
use Rattle.numbers.specs.Sizes.{most_distributors}
use Rattle.numbers.specs.Units.{no_money}
use Rattle.numbers.specs.declared.units.Pesos.{Pesos}
use Rattle.numbers.proofs.SignedLaws.{negative_is}
use Rattle.numbers.proofs.TestLaws.{any_same}
use Rattle.settlement.specs.Month.{money_at}
use Rattle.settlement.specs.Settlement.{one_sign}
use Rattle.ledger.proofs.SoundLaws.{any_of}
use Rattle.ledger.proofs.sound.one_sign.Goals as goal

is_above : Pesos → Bool
is_above balance = lt_z (pos 0) balance.0

is_below : Pesos → Bool
is_below balance = lt_z balance.0 (pos 0)

pub returns : goal.returns
unfolding one_sign is_above is_below
returns c =
    ap not (ap₂ ◌&&◌
    (any_from_yields_List is_above _ _ _ c.any-above.ensures.ran (YieldsList-from_slice c.args.balances cc)
    (λ x b q k. search (rules, tests))
    ∙ any_of is_above c.args.balances no_money most_distributors (omega arith))
    (any_from_yields_List is_below _ _ _ c.any-below.ensures.ran (YieldsList-from_slice c.args.balances cc)
    (λ x b q k. search (rules, tests))
    ∙ any_of is_below c.args.balances no_money most_distributors (omega arith)
    ∙ any_same most_distributors _ _ (λ i p. negative_is (money_at c.args.balances i))))
