-- Laws of money over all places where only the first n are filled: sums, signs; and that a month's balances depend on
-- the positions of the n distributors alone. Assumes nothing.
use mathlib.Core.Path.{◌≡◌, refl, ◌∙◌, ap, ap₂}
use mathlib.Core.Bool.{Bool, true, false, and-false}
use Prim.Native.Nat.{ℕ, ◌≤◌, ◌<◌, min}
use native.Mathlib.Omega.{arith}
use native.Mathlib.Decide.{dec_lt}
use lib.IntN.{ℤ, pos, sub_ℕ, ◌+ℤ◌}
use lib.Signed.{lt_z}
use Rattle.numbers.specs.Bounded.{any_below}
use Rattle.numbers.specs.Signed.{signed_sum_below, positive_part, negative_part, within_size, is_negative}
use Rattle.numbers.specs.Units.{no_money}
use Rattle.numbers.specs.Sizes.{most_distributors}
use Rattle.numbers.specs.declared.units.Pesos.{Pesos}
use Rattle.numbers.proofs.BoolLaws.{not_both}
use Rattle.numbers.proofs.TestLaws.{all_same, any_none, any_never}
use Rattle.numbers.proofs.SignedLaws.{signed_sum_same, sum_wide}
use Rattle.numbers.proofs.SumLaws.{sum_same}
use Rattle.numbers.proofs.ListLaws.{filled_past}
use Rattle.settlement.specs.Share.{side_total}
use Rattle.settlement.specs.Settlement.{most_position, positions_in_range, owing, owed, transferred, paid, received}
use Rattle.settlement.specs.Settlement.{transfer, new_balance, one_sign}
use Rattle.settlement.specs.Month.{money_at, money_below}
use Rattle.settlement.proofs.ShareLaws.{share_same}
use Rattle.settlement.proofs.MonthLaws.{money_at_lem}

-- what stands past the filled places
pub money_past : (f : ℕ → ℤ) (n i : ℕ) → n ≤ i → i < most_distributors → money_at (money_below n f) i ≡ pos 0
unfolding money_below
money_past f n i p q = ap (λ (m : Pesos). m.0) (filled_past most_distributors no_money (λ j. record { 0 = f j }) n i p q)

module _ (n : ℕ) (few : n ≤ most_distributors) (f : ℕ → ℤ) where
  pub money_sum : signed_sum_below most_distributors (money_at (money_below n f)) ≡ signed_sum_below n f
  money_sum =
      sum_wide n most_distributors (money_at (money_below n f)) few (money_past f n)
      ∙ signed_sum_same n (money_at (money_below n f)) f (λ i p. money_at_lem f n i p (omega arith))

  -- a test that 0 fails, and that no value passes, no place passes
  none_wide : (t : ℤ → Bool) → t (pos 0) ≡ false → any_below n (λ i. t (f i)) ≡ false →
      any_below most_distributors (λ i. t (money_at (money_below n f) i)) ≡ false
  none_wide t z h = any_never most_distributors (λ i. t (money_at (money_below n f) i)) (λ i p. go i p (dec_lt i n))
    where
      go : (i : ℕ) → i < most_distributors → Dec (i < n) → t (money_at (money_below n f) i) ≡ false
      go i p (yes q) = ap t (money_at_lem f n i q p) ∙ any_none n (λ j. t (f j)) h i q
      go i p (no q) = ap t (money_past f n i (omega arith) p) ∙ z

  pub money_sign : one_sign n f ≡ true → one_sign most_distributors (money_at (money_below n f)) ≡ true
  unfolding one_sign is_negative
  money_sign h = go (any_below n (λ i. lt_z (pos 0) (f i))) refl
    where
      go : (b : Bool) → any_below n (λ i. lt_z (pos 0) (f i)) ≡ b →
          one_sign most_distributors (money_at (money_below n f)) ≡ true
      go false e = rw (none_wide (λ z. lt_z (pos 0) z) refl e)
      go true e =
          rw (
            none_wide is_negative refl
                (not_both (any_below n (λ i. lt_z (pos 0) (f i))) (any_below n (λ i. is_negative (f i))) h e),
            and-false,
          )

-- positions that agree below n
module _ (n : ℕ) (f g : ℕ → ℤ) (h : (i : ℕ) → i < n → f i ≡ g i) where
  pub range_same : positions_in_range n f ≡ positions_in_range n g
  unfolding positions_in_range
  range_same =
      all_same n (λ i. within_size most_position (f i)) (λ i. within_size most_position (g i))
      (λ i p. ap (within_size most_position) (h i p))

  owing_same : (i : ℕ) → i < n → owing f i ≡ owing g i
  unfolding owing
  owing_same i p = ap positive_part (h i p)

  owed_same : (i : ℕ) → i < n → owed f i ≡ owed g i
  unfolding owed
  owed_same i p = ap negative_part (h i p)

  transferred_same : transferred n f ≡ transferred n g
  unfolding transferred side_total
  transferred_same = ap₂ min (sum_same n (owing f) (owing g) owing_same) (sum_same n (owed f) (owed g) owed_same)

  transfer_same : (i : ℕ) → i < n → transfer n f i ≡ transfer n g i
  unfolding transfer paid received
  transfer_same i p =
      rw transferred_same
      (ap₂ sub_ℕ
      (share_same n (owed f) (owed g) (transferred n g) i owed_same p)
      (share_same n (owing f) (owing g) (transferred n g) i owing_same p))

  pub balance_same : (i : ℕ) → i < n → new_balance n f i ≡ new_balance n g i
  unfolding new_balance
  balance_same i p = ap₂ (λ (y z : ℤ). y +ℤ z) (h i p) (transfer_same i p)
