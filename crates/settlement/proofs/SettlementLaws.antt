-- What follows for a month from the three laws of the shares alone: no sign turns, transfers add up to zero, balances
-- add up to the positions, the side with the smaller total clears, no balance is above zero beside one below, no size
-- grows. Assumes nothing.
use mathlib.Core.Path.{◌≡◌, refl, ◌∙◌, ap, ap₂}
use mathlib.Core.Bool.{Bool, true, false, not, beq, and-false}
use Prim.Native.Nat.{ℕ, zero, suc, ◌+◌, ◌-◌, ◌≤◌, ◌<◌}
use native.Mathlib.Omega.{arith}
use native.Mathlib.Decide.{dec_le}
use lib.IntN.{ℤ, pos, negsuc, sub_ℕ, nat_abs, ◌+ℤ◌, +ℤ_idr, +ℤ_invr}
use lib.Signed.{lt_z}
use borrow.Author.Tests.{leb-true, le-leb, lt-ltb, ne_eqb}
use Rattle.numbers.specs.Bounded.{sum_below}
use Rattle.numbers.specs.Signed.{signed_sum_below, positive_part, negative_part, is_negative}
use Rattle.numbers.proofs.SignedLaws.{sub_eq, signed_sum_sub, add_sub, sub_parts, size_parts, not_above, not_below}
use Rattle.numbers.proofs.SignedLaws.{signed_sum_add, part_none, own_part_lem, parts_turned, size_sub_le}
use Rattle.settlement.specs.Share.{side_total}
use Rattle.settlement.specs.Settlement.{position_of, owing, owed, transferred, paid, received, transfer}
use Rattle.settlement.specs.Settlement.{side_size, new_balance, on_smaller_side, side_share, InFull, one_sign}
use Rattle.settlement.specs.Settlement.{keeps_sign, NoSignTurned}
use Rattle.settlement.proofs.ShareLaws.{shares_total, share_most, share_whole}
use Rattle.numbers.proofs.TestLaws.{any_never}

-- a number whose parts are at most another's is zero or has its sign
sign_kept : (y z : ℤ) → positive_part z ≤ positive_part y → negative_part z ≤ negative_part y → keeps_sign y z ≡ true
unfolding keeps_sign is_negative
sign_kept y (pos zero) a b = refl
sign_kept (pos y) (pos (suc z)) a b =
    rw (ne_eqb (suc z) 0 (omega arith), lt-ltb 0 y (omega arith), lt-ltb 0 (suc z) (omega arith))
sign_kept (negsuc y) (pos (suc z)) a b = absurd (omega arith)
sign_kept (pos y) (negsuc z) a b = absurd (omega arith)
sign_kept (negsuc y) (negsuc z) a b = rw (ne_eqb (suc z) 0 (omega arith))

module _ (n : ℕ) (position : ℕ → ℤ) where
  -- what is transferred is at most each side's total
  enough : (transferred n position ≤ side_total n (owing position)) ×
      (transferred n position ≤ side_total n (owed position))
  unfolding transferred
  enough = omega arith

  -- what is paid is at most what is owing, what is received at most what is owed
  pub paid_most : (i : ℕ) → i < n → paid n position i ≤ owing position i
  unfolding paid
  paid_most = share_most n (owing position) (transferred n position) enough.0

  pub received_most : (i : ℕ) → i < n → received n position i ≤ owed position i
  unfolding received
  received_most = share_most n (owed position) (transferred n position) enough.1

  -- a new balance is what is still owing less what is still owed
  pub balance_is : (i : ℕ) → i < n →
      new_balance n position i ≡ sub_ℕ (owing position i - paid n position i) (owed position i - received n position i)
  unfolding new_balance transfer owing owed
  balance_is i p =
      add_sub (position i) (received n position i) (paid n position i)
      ∙ sub_eq (owing position i + received n position i) (owed position i + paid n position i)
      (owing position i - paid n position i) (owed position i - received n position i)
      (omega (arith, paid_most i p, received_most i p))

  parts_most : (i : ℕ) → i < n →
      (positive_part (new_balance n position i) ≤ owing position i - paid n position i) ×
      (negative_part (new_balance n position i) ≤ owed position i - received n position i)
  parts_most i p =
      rw (balance_is i p)
      (omega (arith, sub_parts (owing position i - paid n position i) (owed position i - received n position i)))

  -- no position changes its sign, and none grows in size: the part above zero falls by what is paid, the part below
  -- by what is received
  pub balance_above : (i : ℕ) → i < n → positive_part (new_balance n position i) ≤ positive_part (position i)
  unfolding owing
  balance_above i p = omega (arith, parts_most i p)

  pub balance_below : (i : ℕ) → i < n → negative_part (new_balance n position i) ≤ negative_part (position i)
  unfolding owed
  balance_below i p = omega (arith, parts_most i p)

  pub balance_size : (i : ℕ) → i < n → nat_abs (new_balance n position i) ≤ nat_abs (position i)
  balance_size i p =
      omega (arith, size_parts (new_balance n position i), size_parts (position i), balance_above i p, balance_below i p)

  -- so no sign turns
  pub no_sign_turns : (i : ℕ) → i < n → NoSignTurned (position i) (transfer n position i) (new_balance n position i)
  unfolding transfer owing owed
  no_sign_turns i p =
      record {
        shared =
            size_sub_le (received n position i) (paid n position i) (nat_abs (position i))
            (omega (arith, received_most i p, size_parts (position i)))
            (omega (arith, paid_most i p, size_parts (position i)));
        sign = sign_kept (position i) (new_balance n position i) (balance_above i p) (balance_below i p);
        size = balance_size i p;
      }

  -- either side's shares add up to what is transferred, so transfers add up to zero
  pub paid_total : sum_below n (paid n position) ≡ transferred n position
  unfolding paid
  paid_total = shares_total n (owing position) (transferred n position) enough.0

  pub received_total : sum_below n (received n position) ≡ transferred n position
  unfolding received
  received_total = shares_total n (owed position) (transferred n position) enough.1

  pub transfers_zero : signed_sum_below n (transfer n position) ≡ pos 0
  unfolding transfer
  transfers_zero =
      signed_sum_sub n (received n position) (paid n position)
      ∙ sub_eq (sum_below n (received n position)) (sum_below n (paid n position)) 0 0
      (omega (arith, received_total, paid_total))

  -- the new balances add up to the positions
  pub balances_total : signed_sum_below n (new_balance n position) ≡ signed_sum_below n position
  unfolding new_balance
  balances_total =
      signed_sum_add n position (transfer n position)
      ∙ ap (λ (z : ℤ). signed_sum_below n position +ℤ z) transfers_zero
      ∙ +ℤ_idr (signed_sum_below n position)

  -- the smaller side is transferred whole: its shares are its sizes
  side_whole : (negative : Bool) →
      side_total n (side_size negative position) ≤ side_total n (side_size (not negative) position) → (i : ℕ) → i < n →
      side_share negative n position i ≡ side_size negative position i
  unfolding side_share side_size paid received transferred
  side_whole true h = share_whole n (owed position) (transferred n position) enough.1 (omega arith)
  side_whole false h = share_whole n (owing position) (transferred n position) enough.0 (omega arith)

  -- "in every settlement the side with the smaller total, both if equal, pays or receives in full"
  pub smaller_side_clears : (i : ℕ) → i < n → on_smaller_side n position i ≡ true → InFull n position i
  unfolding on_smaller_side side_share side_size new_balance transfer owing owed
  smaller_side_clears i p h =
      let whole = side_whole (is_negative (position i)) (leb-true _ _ h) i p in
      let moved = go (is_negative (position i)) refl whole in
      let turned = ap₂ sub_ℕ moved.0 moved.1 ∙ parts_turned (position i) in
      record {
        whole = whole ∙ own_part_lem (position i);
        turned = turned;
        cleared = ap (λ (z : ℤ). position i +ℤ z) turned ∙ +ℤ_invr (position i);
      }
    where
      go : (negative : Bool) → is_negative (position i) ≡ negative →
          side_share negative n position i ≡ side_size negative position i →
          (received n position i ≡ negative_part (position i)) × (paid n position i ≡ positive_part (position i))
      go true e w =
          (w, omega (arith, paid_most i p, part_none false (position i) (ap (λ b. beq b false) e)))
      go false e w =
          (omega (arith, received_most i p, part_none true (position i) (ap (λ b. beq b true) e)), w)

  -- so nothing is left on that side: who was on it has cleared, and no one else changed sign
  none_left : (negative : Bool) →
      side_total n (side_size negative position) ≤ side_total n (side_size (not negative) position) → (i : ℕ) → i < n →
      side_size negative (new_balance n position) i ≡ 0
  unfolding on_smaller_side side_size owing owed
  none_left negative h i p = go negative (is_negative (position i)) refl h
    where
      go : (side own : Bool) → is_negative (position i) ≡ own →
          side_total n (side_size side position) ≤ side_total n (side_size (not side) position) →
          side_size side (new_balance n position) i ≡ 0
      go true true e k = ap negative_part (smaller_side_clears i p (rw e (le-leb _ _ k))).cleared
      go false false e k = ap positive_part (smaller_side_clears i p (rw e (le-leb _ _ k))).cleared
      go true false e k =
          omega (arith, balance_below i p, part_none true (position i) (ap (λ b. beq b true) e))
      go false true e k =
          omega (arith, balance_above i p, part_none false (position i) (ap (λ b. beq b false) e))

  -- afterwards never a balance above zero beside one below
  pub balances_sign : one_sign n (new_balance n position) ≡ true
  unfolding one_sign side_size owing owed
  balances_sign = go (dec_le (side_total n (owing position)) (side_total n (owed position)))
    where
      go : Dec (side_total n (owing position) ≤ side_total n (owed position)) → one_sign n (new_balance n position) ≡ true
      go (yes h) =
          rw
          (any_never n (λ i. lt_z (pos 0) (new_balance n position i))
          (λ i p. not_above (new_balance n position i) (none_left false h i p)))
      go (no h) =
          let left = none_left true (omega arith) in
          rw (
            any_never n (λ i. is_negative (new_balance n position i))
                (λ i p. not_below (new_balance n position i) (left i p)),
            and-false,
          )

-- so the new balances add up to the old ones plus the amounts
pub balances_collected : (n : ℕ) (balance amount : ℕ → ℤ) →
    signed_sum_below n (new_balance n (position_of balance amount)) ≡ signed_sum_below n balance +ℤ signed_sum_below n amount
unfolding position_of
balances_collected n balance amount = balances_total n (position_of balance amount) ∙ signed_sum_add n balance amount
