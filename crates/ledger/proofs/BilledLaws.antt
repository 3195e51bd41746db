-- What a sound ledger bills a month under: no charge is beyond ±10,500,000. Assumes nothing.
use mathlib.Core.Path.{◌≡◌, refl}
use mathlib.Core.Bool.{Bool, true, false, cond}
use Prim.Native.Nat.{ℕ, ◌+◌, ◌-◌, ◌*◌, ◌≤◌, ◌<◌}
use native.Mathlib.Omega.{arith}
use lib.Dec.{ltb, eqb}
use lib.IntN.{ℤ, pos, nat_abs, ◌+ℤ◌, ◌*ℤ◌}
use borrow.Author.Tests.{ltb-true}
use Rattle.numbers.specs.Sizes.{sector_count}
use Rattle.numbers.proofs.BoolLaws.{and_right}
use Rattle.numbers.proofs.RoundingLaws.{away_le}
use Rattle.numbers.proofs.SignedLaws.{size_add_le, size_mul_le}
use Rattle.settlement.specs.Amount.{most_charge, charge_at}
use Rattle.ledger.specs.Calendar.{days_of}
use Rattle.ledger.specs.Ledger.{charge_in}
use Rattle.ledger.specs.Billed.{split_charge, either_present, split_charges, is_split, charges_for, billed_under}
use Rattle.ledger.specs.Required.{Divided}
use Rattle.ledger.specs.Sound.{sound}
use Rattle.ledger.specs.declared.ledger.Ledger.{Ledger}
use Rattle.ledger.proofs.CalendarLaws.{days_most}
use Rattle.ledger.proofs.PlaceLaws.{charge_at_lem}
use Rattle.ledger.proofs.SoundLaws.{sound_few, sound_day, force_within, older_within}

-- a charge divided by days is within the bound of both
module _ (days before : ℕ) (old new : ℤ) (some : before < days) (p : nat_abs old ≤ most_charge)
    (q : nat_abs new ≤ most_charge) where
  pub weighed_size : nat_abs (old *ℤ pos before +ℤ new *ℤ pos (days - before)) ≤ most_charge * days
  weighed_size =
      omega (
        arith,
        size_add_le (old *ℤ pos before) (new *ℤ pos (days - before))
            (size_mul_le old (pos before) {b = before} p (omega arith))
            (size_mul_le new (pos (days - before)) {b = days - before} q (omega arith)),
      )

  pub split_size : nat_abs (split_charge days before old new) ≤ most_charge
  unfolding split_charge
  split_size = away_le (old *ℤ pos before +ℤ new *ℤ pos (days - before)) days most_charge (omega arith) weighed_size

pub split_after : (fixing_month day month : ℕ) → is_split fixing_month day month ≡ true → 1 < day
unfolding is_split
split_after fixing_month day month h = ltb-true 1 day (and_right (eqb month fixing_month) (ltb 1 day) h)

-- the fixings of a sound ledger can be divided by days
module _ (ledger : Ledger) (h : sound ledger ≡ true) where
  pub sound_divided : 1 < ledger.day →
      Divided ledger.n (days_of ledger.month) (ledger.day - 1) ledger.older ledger.force
  sound_divided p =
      record {
        few = sound_few ledger h;
        short = days_most ledger.month;
        some = omega (arith, p, sound_day ledger h p);
        old_within = older_within ledger h;
        new_within = force_within ledger h;
      }

  pub sound_charges : (month i s : ℕ) → i < ledger.n → s < sector_count →
      nat_abs (charge_at (billed_under ledger month).charges i s) ≤ most_charge
  unfolding billed_under charges_for split_charges
  sound_charges month i s p q = go (is_split ledger.month ledger.day month) refl
    where
      k : ℕ
      k = i * sector_count + s

      go : (b : Bool) → is_split ledger.month ledger.day month ≡ b →
          nat_abs (charge_in
          (cond b
          (split_charges ledger.n (days_of ledger.month) (ledger.day - 1) ledger.older ledger.force)
          ledger.force) k) ≤ most_charge
      go true e =
          let d = sound_divided (split_after ledger.month ledger.day month e) in
          rw (charge_at_lem (ledger.n * sector_count) (either_present ledger.older ledger.force)
          (λ j. split_charge (days_of ledger.month) (ledger.day - 1) (charge_in ledger.older j)
          (charge_in ledger.force j)) k (omega (arith, d.few)) (omega arith))
          (split_size (days_of ledger.month) (ledger.day - 1) (charge_in ledger.older k)
          (charge_in ledger.force k) d.some (d.old_within k (omega arith)) (d.new_within k (omega arith)))
      go false e = force_within ledger h k (omega arith)
