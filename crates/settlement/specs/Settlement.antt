-- One month's settlement ("The ledger" of document 01): positions, the two sides, transfers, new balances, in $; the
-- side that clears and the signs that stay (W-203 and W-208 of document 02). Assumes nothing.
use Rattle.std.specs.Prelude.{◌≡◌, Bool, true, cond, not, ◌&&◌, ◌||◌, ℕ, ◌^◌, ◌≤◌, min, leb, eqb, ℤ, pos, nat_abs, neg_ℤ, ◌+ℤ◌}
use Rattle.std.proofs.Math.IntN.{sub_ℕ}
use Rattle.std.specs.Int.Signed.{lt_z}
use Rattle.numbers.specs.Bounded.{all_below, any_below}
use Rattle.numbers.specs.Signed.{positive_part, negative_part, within_size, is_negative}
use Rattle.settlement.specs.Share.{side_total, share}

-- "Position = balance + MFAR" (a term of 01)
unfoldable pub position_of : (ℕ → ℤ) → (ℕ → ℤ) → ℕ → ℤ
position_of balance amount i = balance i +ℤ amount i

-- balances and positions lie within ±10^15
abbrev pub most_position : ℕ
most_position = 10 ^ 15

-- cause 13 is met where this is false: "position beyond ±10^15"
unfoldable pub positions_in_range : ℕ → (ℕ → ℤ) → Bool
positions_in_range n position = all_below n (λ i. within_size most_position (position i))

-- "Positive positions owe" (VTRS, a term of 01, is their total), "negative ones are owed" (VTAS)
unfoldable pub owing : (ℕ → ℤ) → ℕ → ℕ
owing position i = positive_part (position i)

unfoldable pub owed : (ℕ → ℤ) → ℕ → ℕ
owed position i = negative_part (position i)

-- one side by its sign: those below zero, or the others
unfoldable pub side_size : Bool → (ℕ → ℤ) → ℕ → ℕ
side_size negative position i = cond negative (owed position i) (owing position i)

-- T (a term of 01), "the smaller total"
unfoldable pub transferred : ℕ → (ℕ → ℤ) → ℕ
transferred n position = min (side_total n (owing position)) (side_total n (owed position))

-- what i pays and receives
unfoldable pub paid : ℕ → (ℕ → ℤ) → ℕ → ℕ
paid n position i = share n (owing position) (transferred n position) i

unfoldable pub received : ℕ → (ℕ → ℤ) → ℕ → ℕ
received n position i = share n (owed position) (transferred n position) i

-- "Transfers .. paid negative, received positive"
unfoldable pub transfer : ℕ → (ℕ → ℤ) → ℕ → ℤ
transfer n position i = sub_ℕ (received n position i) (paid n position i)

-- "The new balance moves towards zero by the share"
unfoldable pub new_balance : ℕ → (ℕ → ℤ) → ℕ → ℤ
new_balance n position i = position i +ℤ transfer n position i

-- whether i is on "the side with the smaller total, both if equal"
unfoldable pub on_smaller_side : ℕ → (ℕ → ℤ) → ℕ → Bool
on_smaller_side n position i =
    let negative = is_negative (position i) in
    leb (side_total n (side_size negative position)) (side_total n (side_size (not negative) position))

-- what i pays or receives, by the sign of its side
unfoldable pub side_share : Bool → ℕ → (ℕ → ℤ) → ℕ → ℕ
side_share negative n position i = cond negative (received n position i) (paid n position i)

-- i "pays or receives in full. Its shares are then the positions' sizes": its transfer is its position with the sign
-- turned, and its new balance zero
pub record InFull (n : ℕ) (position : ℕ → ℤ) (i : ℕ) : Type 0 where
  pub whole : side_share (is_negative (position i)) n position i ≡ nat_abs (position i)
  pub turned : transfer n position i ≡ neg_ℤ (position i)
  pub cleared : new_balance n position i ≡ pos 0

-- whether a balance is zero or has its position's sign
unfoldable pub keeps_sign : ℤ → ℤ → Bool
keeps_sign position balance =
    eqb (nat_abs balance) 0
    || (lt_z (pos 0) position && lt_z (pos 0) balance)
    || (is_negative position && is_negative balance)

-- "a share is never more than its position's size, so that no sign turns": a position, its transfer, whose size is the
-- share, and its new balance
pub record NoSignTurned (position transfer balance : ℤ) : Type 0 where
  pub shared : nat_abs transfer ≤ nat_abs position
  pub sign : keeps_sign position balance ≡ true
  pub size : nat_abs balance ≤ nat_abs position

-- balances are "never of both signs": whether not both one above zero and one below is among n of them
unfoldable pub one_sign : ℕ → (ℕ → ℤ) → Bool
one_sign n balance =
    not (any_below n (λ i. lt_z (pos 0) (balance i)) && any_below n (λ i. is_negative (balance i)))
