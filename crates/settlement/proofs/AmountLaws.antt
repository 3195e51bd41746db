-- Class example 9 passes cause 12; and bounds of everything on the way to a collected amount, where readings and loss
-- factors pass their test and each charge is within ±10,500,000. Assumes nothing.
use mathlib.Core.Path.{◌≡◌, refl}
use mathlib.Core.Bool.{Bool, true, false, ◌&&◌}
use mathlib.Core.List.{List}
use Prim.Native.Nat.{ℕ, ◌*◌, ◌≤◌, ◌<◌}
use native.Mathlib.Omega.{arith}
use native.Mathlib.Nat.{mul-le-mul, mul-le-mul_right}
use lib.IntN.{ℤ, pos, sub_ℕ, nat_abs, ◌+ℤ◌, ◌*ℤ◌}
use borrow.Author.Tests.{leb-true}
use Rattle.numbers.specs.Rounding.{half_up}
use Rattle.numbers.specs.Signed.{signed_sum_below}
use Rattle.numbers.specs.Units.{between, bound_where}
use Rattle.numbers.specs.Sizes.{sector_count}
use Rattle.numbers.proofs.BoolLaws.{and_left, and_right}
use Rattle.numbers.proofs.TestLaws.{all_at}
use Rattle.numbers.proofs.UnitLaws.{between_high, bound_most}
use Rattle.numbers.proofs.RoundingLaws.{half_up_le, away_size, away_le}
use Rattle.numbers.proofs.SignedLaws.{signed_sum_size, size_sub_le, size_add_le, size_mul_le}
use Rattle.settlement.specs.Amount.{most_reading, reading_of, present_at, charge_at, high_loss_of, low_loss_of}
use Rattle.settlement.specs.Amount.{reading_allowed, sector_allowed, readings_allowed, losses_allowed}
use Rattle.settlement.specs.Amount.{billing_in_range, high_net, low_net, energy_with_losses, collected_amount}
use Rattle.settlement.specs.Required.{BillingFacts}
use Rattle.settlement.specs.Example.{in_sector_zero, billed_readings, even_losses}
use Rattle.settlement.proofs.Computed.{settlement_computed}

-- the readings and loss factors of class example 9 pass cause 12, by computation
pub example_billed : billing_in_range 3 (in_sector_zero false true true true) (billed_readings 1000 1000 1000)
    even_losses ≡ true
unfolding settlement_computed
example_billed = refl

reading_most : (present : Bool) (reading : ℕ) → reading_allowed present reading ≡ true → reading ≤ most_reading
unfolding reading_allowed
reading_most present reading h =
    omega (arith, leb-true reading (bound_where present most_reading) h, bound_most present most_reading)

pub billing_facts : (n : ℕ) (present : List Bool) (readings losses : List ℕ) →
    billing_in_range n present readings losses ≡ true → (i : ℕ) → i < n → BillingFacts readings losses i
unfolding billing_in_range readings_allowed sector_allowed losses_allowed
billing_facts n present readings losses h i p =
    let both = all_at n (λ j. readings_allowed present readings j && losses_allowed losses j) h i p in
    let rows = and_left (readings_allowed present readings i) (losses_allowed losses i) both in
    let pair = and_right (readings_allowed present readings i) (losses_allowed losses i) both in
    let row = all_at sector_count (sector_allowed present readings i) rows in
    let high = and_left (between 10000 20000 (high_loss_of losses i)) (between 10000 20000 (low_loss_of losses i)) pair in
    let low = and_right (between 10000 20000 (high_loss_of losses i)) (between 10000 20000 (low_loss_of losses i)) pair in
    record {
      reading = λ s k q r.
          reading_most (present_at present i s) (reading_of readings i s k)
          (all_at 4 (λ l. reading_allowed (present_at present i s) (reading_of readings i s l)) (row s q) k r);
      high_most = between_high 10000 20000 (high_loss_of losses i) high;
      low_most = between_high 10000 20000 (low_loss_of losses i) low;
    }

-- the size of an amount is that of the sum over the sectors, rounded once
amount_once : (charges : List ℤ) (readings losses : List ℕ) (i : ℕ) →
    nat_abs (collected_amount charges readings losses i) ≡ half_up
    (nat_abs (signed_sum_below sector_count (λ s. charge_at charges i s *ℤ energy_with_losses readings losses i s))) 1000
unfolding collected_amount
amount_once charges readings losses i = away_size _ 1000

module _ (charges : List ℤ) (readings losses : List ℕ) (i : ℕ) (ok : BillingFacts readings losses i) where
  -- a difference of two readings of a sector
  net_size : (s k l : ℕ) → s < sector_count → k < 4 → l < 4 →
      nat_abs (sub_ℕ (reading_of readings i s k) (reading_of readings i s l)) ≤ most_reading
  net_size s k l p q r = size_sub_le _ _ most_reading (ok.reading s k p q) (ok.reading s l p r)

  pub high_size : (s : ℕ) → s < sector_count → nat_abs (high_net readings i s) ≤ 2000000000
  unfolding high_net
  high_size s p = net_size s 0 1 p (omega arith) (omega arith)

  pub low_size : (s : ℕ) → s < sector_count → nat_abs (low_net readings i s) ≤ 2000000000
  unfolding low_net
  low_size s p = net_size s 2 3 p (omega arith) (omega arith)

  pub high_product : (s : ℕ) → s < sector_count →
      nat_abs (high_net readings i s *ℤ pos (high_loss_of losses i * 10000)) ≤ 400000000000000000
  high_product s p =
      size_mul_le (high_net readings i s) (pos (high_loss_of losses i * 10000)) (high_size s p)
      (mul-le-mul_right 10000 ok.high_most)

  pub low_product : (s : ℕ) → s < sector_count →
      nat_abs (low_net readings i s *ℤ pos (high_loss_of losses i * low_loss_of losses i)) ≤ 800000000000000000
  low_product s p =
      size_mul_le (low_net readings i s) (pos (high_loss_of losses i * low_loss_of losses i)) (low_size s p)
      (mul-le-mul ok.high_most ok.low_most)

  pub products_size : (s : ℕ) → s < sector_count →
      nat_abs (high_net readings i s *ℤ pos (high_loss_of losses i * 10000) +ℤ low_net readings i s *ℤ pos
      (high_loss_of losses i * low_loss_of losses i)) ≤ 1200000000000000000
  products_size s p =
      size_add_le
      (high_net readings i s *ℤ pos (high_loss_of losses i * 10000))
      (low_net readings i s *ℤ pos (high_loss_of losses i * low_loss_of losses i))
      (high_product s p)
      (low_product s p)

  pub energy_size : (s : ℕ) → s < sector_count → nat_abs (energy_with_losses readings losses i s) ≤ 12000000000
  unfolding energy_with_losses
  energy_size s p = away_le _ 100000000 12000000000 (omega arith) (products_size s p)

  module _ (bounded : (s : ℕ) → s < sector_count → nat_abs (charge_at charges i s) ≤ 10500000) where
    pub sector_amount : (s : ℕ) → s < sector_count →
        nat_abs (charge_at charges i s *ℤ energy_with_losses readings losses i s) ≤ 126000000000000000
    sector_amount s p =
        size_mul_le (charge_at charges i s) (energy_with_losses readings losses i s) (bounded s p) (energy_size s p)

    pub sectors_amount : (k : ℕ) → k ≤ sector_count →
        nat_abs (signed_sum_below k (λ s. charge_at charges i s *ℤ energy_with_losses readings losses i s))
        ≤ 1008000000000000000
    sectors_amount k p =
        let sector : ℕ → ℤ = λ s. charge_at charges i s *ℤ energy_with_losses readings losses i s in
        omega (arith, signed_sum_size k 126000000000000000 sector (λ s q. sector_amount s (omega arith)))

    pub amount_size : nat_abs (collected_amount charges readings losses i) ≤ 1008000000000000
    amount_size =
        rw (amount_once charges readings losses i)
        (half_up_le _ 1000 (omega arith) 1008000000000000 (sectors_amount sector_count (omega arith)))
