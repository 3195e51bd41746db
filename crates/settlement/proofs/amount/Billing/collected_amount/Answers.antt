-- The invariant: the sum's bits are those of the sum over the sectors passed.
use mathlib.Core.Path.{◌≡◌, refl, sym, ◌∙◌, ap}
use Prim.Native.Nat.{ℕ, ◌≤◌, ◌<◌, ◌+◌}
use lib.IntN.{ℤ, nat_abs, ◌+ℤ◌, ◌*ℤ◌}
use mir.Syntax.{w64}
use mir.Val.{SFits, to_z, of_z}
use mir.Facts.{to_z-of_z, of_z-to_z}
use Rattle.numbers.specs.Rounding.{half_away}
use Rattle.numbers.specs.Signed.{signed_sum_below}
use Rattle.numbers.specs.declared.units.Pesos.{Pesos}
use Rattle.numbers.proofs.SignedLaws.{size_fits, next_bits, product_bits}
use Rattle.settlement.specs.Amount.{charge_at, collected_amount}
use Rattle.settlement.proofs.AmountLaws.{sector_amount, sectors_amount}
use native.Mathlib.Omega.{arith}
use borrow.Author.Rules.{sfits_of}
use Rattle.settlement.proofs.amount.Billing.collected_amount.Goals as goal
use Rattle.settlement.proofs.amount.Billing.collected_amount.Invariants.{sector}
use Rattle.settlement.proofs.amount.Billing.collected_amount.Goals.{After-energy_with_losses, After-loop-s, Start}

-- the bounds of a distributor's sectors
module _ (d : Start) where
  abbrev f : ℕ → ℤ
  f = sector d.args.charges.now d.args.self.now.readings.now d.args.self.now.losses.now d.args.i

  one : (s : ℕ) → s < 8 → SFits w64 (f s)
  one s p =
      size_fits (f s)
      (omega (
        arith,
        sector_amount d.args.charges.now _ _ _ (d.requires.billed.billed.facts d.args.i d.requires.known)
            (λ k. d.requires.billed.bounded d.args.i k d.requires.known) s p,
      ))

  size : (s : ℕ) → s ≤ 8 → nat_abs (signed_sum_below s f) ≤ 1008000000000000000
  size =
      sectors_amount d.args.charges.now _ _ _ (d.requires.billed.billed.facts d.args.i d.requires.known)
      (λ k. d.requires.billed.bounded d.args.i k d.requires.known)

  all : (s : ℕ) → s ≤ 8 → SFits w64 (signed_sum_below s f)
  all s p = size_fits (signed_sum_below s f) (omega (arith, size s p))

-- one sector more
module _ (c : After-energy_with_losses) where
  abbrev d : Start
  d = (goal.at.overflow_mul-sum c).Start

  abbrev charge : ℤ
  charge = charge_at c.args.charges.now c.args.i c.loop-s.s

  under : c.loop-s.s < 8
  under = omega arith

  product : to_z w64 (of_z w64 charge) *ℤ to_z w64 (of_z w64 c.energy_with_losses.result)
      ≡ f d c.loop-s.s
  product =
      product_bits charge c.energy_with_losses.result charge _
      (size_fits charge (omega (arith, c.requires.billed.bounded c.args.i c.loop-s.s c.requires.known under)))
      (sfits_of c.energy_with_losses.type_inv) refl c.energy_with_losses.ensures

  kept : c.loop-s.sum-bits ≡ of_z w64 (signed_sum_below c.loop-s.s (f d))
  kept = sym (of_z-to_z c.loop-s.auto.sum) ∙ ap (of_z w64) c.loop-s.invariant

  next : to_z w64 c.loop-s.sum-bits +ℤ to_z w64
      (of_z w64 (to_z w64 (of_z w64 charge) *ℤ to_z w64 (of_z w64 c.energy_with_losses.result))) ≡ signed_sum_below
      (c.loop-s.s + 1) (f d)
  next =
      next_bits c.loop-s.sum-bits c.loop-s.s (f d) _ kept product (all d c.loop-s.s (omega arith))
      (one d c.loop-s.s under)

-- all sectors
module _ (c : After-loop-s) where
  abbrev e : Start
  e = (goal.at.half_away-requires c).Start

  whole : to_z w64 c.loop-s.sum-bits ≡ signed_sum_below 8 (f e)
  whole =
      let end : c.loop-s.s ≡ 8 = omega arith in
      c.loop-s.invariant ∙ ap (λ k. signed_sum_below k (f e)) end

pub loop-s-init : goal.loop-s-init
unfolding signed_sum_below
loop-s-init c = refl

pub overflow_mul-sum : goal.overflow_mul-sum
overflow_mul-sum c = rw (product c) (one (goal.at.overflow_mul-sum c).Start c.loop-s.s (under c))

pub overflow_add-sum : goal.overflow_add-sum
overflow_add-sum c = rw (next c) (all (goal.at.overflow_add-sum c).Start (c.loop-s.s + 1) (omega arith))

pub loop-s-preserved : goal.loop-s-preserved
loop-s-preserved c = to_z-of_z (overflow_add-sum c) ∙ next c

pub half_away-requires : goal.half_away-requires
half_away-requires c = omega (arith, ap nat_abs (whole c), size (goal.at.half_away-requires c).Start 8 (omega arith))

pub returns : goal.returns
unfolding collected_amount
returns c =
    let l = (goal.at.returns c).After-loop-s in
    ap {A = ℤ} {B = Pesos} (λ z. record { 0 = z })
    (to_z-of_z {w = w64} (sfits_of c.half_away.type_inv) ∙ c.half_away.ensures
    ∙ ap (λ z. half_away z 1000) (whole l))
