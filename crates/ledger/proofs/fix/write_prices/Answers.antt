-- The invariant: the first k words are the definition's.
use mathlib.Core.Path.{refl, ◌≡◌, ◌∙◌, ap}
use Prim.Native.Nat.{◌/◌, ◌%◌}
use native.Mathlib.Omega.{arith}
use lib.ListN.{get_or}
use lib.IntN.{ℤ, pos}
use mir.Syntax.{w64}
use mir.Val.{to_z, of_z}
use mir.Facts.{to_z-of_z}
use borrow.Author.Rules.{rules, sfits_of}
use Rattle.numbers.specs.Units.{no_price}
use Rattle.numbers.proofs.ListLaws.{written_none, written_more}
use Rattle.ledger.specs.Fix.{price_part, price_word}
use Rattle.ledger.proofs.fix.write_prices.Goals as goal

pub loop-k-init : goal.loop-k-init
loop-k-init c = written_none _ _ _ refl

pub loop-k-preserved : goal.loop-k-preserved
unfolding price_word
loop-k-preserved c =
    let a = c.args in
    let i = c.loop-k.k / 3 in
    let unread : to_z w64 (of_z w64 (get_or a.charges i (pos 0))) ≡ get_or a.charges i (pos 0) = to_z-of_z {w = w64}
    (search rules) in
    written_more c.loop-k.invariant (omega arith)
    (to_z-of_z {w = w64} (sfits_of c.price_part.type_inv) ∙ c.price_part.ensures
    ∙ ap (λ (z : ℤ). price_part (get_or a.averages i no_price).0 (get_or a.finals i no_price).0 z (c.loop-k.k % 3))
    unread)
