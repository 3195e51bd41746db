-- The invariant: the places passed are filled in.
use mathlib.Core.Path.{◌≡◌, refl, ◌∙◌, ap₂}
use Prim.Native.Nat.{◌*◌, ◌≤◌}
use native.Mathlib.Omega.{arith}
use lib.IntN.{ℤ, nat_abs}
use mir.Syntax.{w64}
use mir.Val.{to_z, of_z}
use mir.Facts.{to_z-of_z}
use borrow.Author.Rules.{sfits_of}
use Rattle.numbers.specs.Sizes.{sector_count}
use Rattle.numbers.proofs.SignedLaws.{size_fits}
use Rattle.fixing.proofs.SectorLaws.{places_none, places_more}
use Rattle.settlement.specs.Amount.{most_charge}
use Rattle.ledger.specs.Billed.{split_charge, either_present, split_charges}
use Rattle.ledger.proofs.billed.split_charges.Goals as goal
use Rattle.ledger.proofs.billed.split_charges.Invariants.{divided}

pub loop-k-init : goal.loop-k-init
loop-k-init c =
    let a = c.args in
    c.no_charges-force.ensures ∙ places_none (either_present a.old a.new) (divided a.days a.before a.old a.new)

pub loop-k-preserved : goal.loop-k-preserved
unfolding either_present
loop-k-preserved c =
    let a = c.args in
    let k = c.loop-k.k in
    let back : (z : ℤ) → nat_abs z ≤ most_charge → to_z w64 (of_z w64 z) ≡ z =
    λ z h. to_z-of_z {w = w64} (size_fits z (omega arith)) in
    places_more (either_present a.old a.new) (divided a.days a.before a.old a.new) k c.loop-k.force _ _
    (omega (arith, c.requires.few)) c.loop-k.invariant refl
    (to_z-of_z {w = w64} (sfits_of c.split_charge.type_inv) ∙ c.split_charge.ensures
    ∙ ap₂ (split_charge a.days a.before) (back _ (c.requires.old_within k (omega arith)))
    (back _ (c.requires.new_within k (omega arith))))

pub returns : goal.returns
unfolding split_charges
returns c =
    let e : c.loop-k.k ≡ c.args.n * sector_count = omega arith in
    rw e at c.loop-k.invariant
