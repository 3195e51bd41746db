-- A month's lists: bounds of running totals, shares, positions that pass their test and the balances that a settlement
-- leaves, and how a loop writes them. Assumes nothing.
use mathlib.Core.Path.{◌≡◌, refl, sym, ◌∙◌, ap, ap₂}
use mathlib.Core.Bool.{Bool, true, false}
use mathlib.Core.List.{List}
use Prim.Native.Nat.{ℕ, zero, suc, ◌+◌, ◌≤◌, ◌<◌}
use native.Mathlib.Numerals.{add-one}
use native.Mathlib.Omega.{arith}
use lib.IntN.{ℤ, sub_ℕ, nat_abs, ◌+ℤ◌}
use lib.ListN.{length, get_or, set, take, replicate}
use Rattle.std.specs.Prelude.{sum}
use Rattle.std.specs.List.{list_all}
use Rattle.std.proofs.lemmas.List.{length-take-le, get_or-take}
use Rattle.std.proofs.lemmas.List.Sums.{fold_more}
use borrow.Author.Tests.{leb-true}
use Rattle.numbers.specs.Bounded.{sum_below, all_below}
use Rattle.numbers.specs.Signed.{within_size}
use Rattle.numbers.specs.Units.{no_money}
use Rattle.numbers.specs.Sizes.{most_distributors}
use Rattle.numbers.specs.declared.units.Pesos.{Pesos}
use Rattle.numbers.proofs.SumLaws.{sum_same, sum_le}
use Rattle.numbers.proofs.TestLaws.{all_at, all_same}
use Rattle.numbers.proofs.ChainLaws.{all_listed}
use Rattle.numbers.proofs.ListLaws.{filled_none, filled_at, filled_next, filled_same}
use Rattle.settlement.specs.Amount.{collected_amount}
use Rattle.settlement.specs.Required.{Billed}
use Rattle.settlement.specs.Share.{side_total, share}
use Rattle.settlement.specs.Settlement.{position_of, most_position, positions_in_range, owing, owed, side_size}
use Rattle.settlement.specs.Settlement.{transferred, paid, received, transfer, new_balance}
use Rattle.settlement.specs.Month.{money_at, money_below, sizes_below, share_list, moved_month, settled_month}
use Rattle.settlement.specs.Required.{MoneyWithin, Side}
use Rattle.settlement.specs.declared.month.SettledMonth.{SettledMonth}
use Rattle.numbers.proofs.SignedLaws.{part_most, size_add_le, size_sub_le}
use Rattle.settlement.proofs.AmountLaws.{amount_size}
use Rattle.settlement.proofs.ShareLaws.{share_same, share_most, share_whole}
use Rattle.settlement.proofs.SettlementLaws.{balance_size}

-- the sum of the first values of a list
pub sum_taken : (xs : List ℕ) (n : ℕ) → n ≤ length xs → sum (take n xs) ≡ sum_below n (λ i. get_or xs i 0)
unfolding sum_below
sum_taken xs zero h = refl
sum_taken xs (suc n) h =
    omega (arith, rw add-one at (fold_more ◌+◌ 0 xs n 0 (omega arith)), sum_taken xs n (omega arith))

-- `all` of the first values of a list
pub all_taken : {A : Type 0} (test : A → Bool) (list : List A) (n : ℕ) (empty : A) → n ≤ length list →
    list_all test (take n list) ≡ all_below n (λ i. test (get_or list i empty))
all_taken test list n empty h =
    all_listed test (take n list) empty
    ∙ ap (λ k. all_below k (λ i. test (get_or (take n list) i empty))) (length-take-le n list h)
    ∙ all_same n _ _ (λ i p. ap test (get_or-take n list i empty p))

-- a side's running totals
module _ (n : ℕ) (sizes : List ℕ) (side : Side n sizes) where
  pub running_most : (k : ℕ) → k ≤ n → sum_below k (λ i. get_or sizes i 0) ≤ 40000000000000000
  running_most k p =
      omega (arith, sum_le k most_position (λ i. get_or sizes i 0) (λ i q. side.within i (omega arith)), side.few)

-- a side that is transferred whole has its sizes for shares
pub shares_whole : (n : ℕ) (sizes : List ℕ) (transferred : ℕ) → Side n sizes →
    transferred ≡ side_total n (λ i. get_or sizes i 0) → sizes ≡ share_list n sizes transferred
unfolding share_list sizes_below
shares_whole n sizes transferred side e =
    side.past
    ∙ filled_same most_distributors 0 n (λ i. get_or sizes i 0) (share n (λ i. get_or sizes i 0) transferred)
    (λ i p. sym (share_whole n (λ j. get_or sizes j 0) transferred (omega arith) e i p))

-- a list of sizes: each, and that within 10^15 they are a side
module _ (n : ℕ) (few : n ≤ most_distributors) (size : ℕ → ℕ) where
  sizes_at : (i : ℕ) → i < n → get_or (sizes_below n size) i 0 ≡ size i
  unfolding sizes_below
  sizes_at i p = filled_at most_distributors 0 size n i p (omega arith)

  sizes_side : ((i : ℕ) → i < n → size i ≤ most_position) → (sizes : List ℕ) → sizes ≡ sizes_below n size → Side n sizes
  unfolding sizes_below
  sizes_side h sizes e =
      let at : (i : ℕ) → i < n → get_or sizes i 0 ≡ size i = λ i p. ap (λ l. get_or l i 0) e ∙ sizes_at i p in
      record {
        few = few;
        within = λ i p. omega (arith, at i p, h i p);
        past = e ∙ filled_same most_distributors 0 n size (λ i. get_or sizes i 0) (λ i p. sym (at i p));
      }

-- shares are a side themselves, since none is larger than its size
pub shares_within : (n : ℕ) (sizes : List ℕ) (transferred : ℕ) → Side n sizes →
    transferred ≤ side_total n (λ i. get_or sizes i 0) → (shares : List ℕ) → shares ≡ share_list n sizes transferred →
    Side n shares
unfolding share_list sizes_below
shares_within n sizes transferred side h =
    sizes_side n side.few (share n (λ i. get_or sizes i 0) transferred)
    (λ i p. omega (arith, share_most n (λ j. get_or sizes j 0) transferred h i p, side.within i p))

-- positions that pass the test of cause 13
pub positions_within : (n : ℕ) (positions : List Pesos) → n ≤ most_distributors →
    positions_in_range n (money_at positions) ≡ true → MoneyWithin n positions
unfolding positions_in_range within_size
positions_within n positions few h =
    record {
      few = few;
      within = λ i p.
          leb-true (nat_abs (money_at positions i)) most_position
          (all_at n (λ j. within_size most_position (money_at positions j)) h i p);
    }

-- a list of money from a function's values: none yet, one more, what stands in it
module _ (f : ℕ → ℤ) where
  pub money_none : replicate most_distributors no_money ≡ money_below 0 f
  unfolding money_below
  money_none = filled_none most_distributors no_money (λ i. record { 0 = f i })

  pub money_next : (k : ℕ) (l : List Pesos) (v : ℤ) → k < most_distributors → l ≡ money_below k f → v ≡ f k →
      set l k (record { 0 = v }) ≡ money_below (k + 1) f
  unfolding money_below
  money_next k l v p h e =
      filled_next most_distributors no_money k (λ i. record { 0 = f i }) l (record { 0 = v }) p h
      (ap {A = ℤ} {B = Pesos} (λ z. record { 0 = z }) e)

  pub money_at_lem : (k i : ℕ) → i < k → i < most_distributors → money_at (money_below k f) i ≡ f i
  unfolding money_below
  money_at_lem k i p q = ap (λ (m : Pesos). m.0) (filled_at most_distributors no_money (λ j. record { 0 = f j }) k i p q)

  pub money_same : (k : ℕ) (g : ℕ → ℤ) → ((i : ℕ) → i < k → f i ≡ g i) → money_below k f ≡ money_below k g
  unfolding money_below
  money_same k g h =
      filled_same most_distributors no_money k (λ i. record { 0 = f i }) (λ i. record { 0 = g i })
      (λ i p. ap {A = ℤ} {B = Pesos} (λ z. record { 0 = z }) (h i p))

-- a position from a balance and an amount, and a balance from a position and a transfer
pub position_size : (n : ℕ) (balances : List Pesos) (charges : List ℤ) (readings losses : List ℕ) →
    MoneyWithin n balances → Billed n charges readings losses → (i : ℕ) → i < n →
    nat_abs (position_of (money_at balances) (collected_amount charges readings losses) i) ≤ 2008000000000000
unfolding position_of
position_size n balances charges readings losses w b i p =
    size_add_le (money_at balances i) (collected_amount charges readings losses i) (w.within i p)
    (amount_size charges readings losses i (b.billed.facts i p) (λ s. b.bounded i s p))

pub moved_size : (n : ℕ) (positions : List Pesos) (paid received : List ℕ) → MoneyWithin n positions → Side n paid →
    Side n received → (i : ℕ) → i < n →
    nat_abs (money_at positions i +ℤ sub_ℕ (get_or received i 0) (get_or paid i 0)) ≤ 2000000000000000
moved_size n positions paid received w p r i h =
    size_add_le (money_at positions i) (sub_ℕ (get_or received i 0) (get_or paid i 0)) (w.within i h)
    (size_sub_le (get_or received i 0) (get_or paid i 0) most_position (r.within i h) (p.within i h))

-- no balance is larger in size than its position
pub balances_within : (n : ℕ) (positions : List Pesos) → MoneyWithin n positions →
    MoneyWithin n (settled_month n positions).balances
unfolding settled_month
balances_within n positions w =
    record {
      few = w.few;
      within = λ i p.
          omega (
            arith,
            ap nat_abs (money_at_lem (new_balance n (money_at positions)) n i p (omega (arith, w.few))),
            balance_size n (money_at positions) i p,
            w.within i p,
          );
    }

-- a side's sizes read from their list: their total, their shares
module _ (n : ℕ) (few : n ≤ most_distributors) (size : ℕ → ℕ) where
  pub sizes_total : (sizes : List ℕ) (total : ℕ) → sizes ≡ sizes_below n size →
      total ≡ side_total n (λ i. get_or sizes i 0) → total ≡ side_total n size
  unfolding side_total
  sizes_total sizes total e h =
      h
      ∙ ap (λ l. sum_below n (λ i. get_or l i 0)) e
      ∙ sum_same n (λ i. get_or (sizes_below n size) i 0) size (sizes_at n few size)

  shares_at : (transferred i : ℕ) → i < n →
      get_or (share_list n (sizes_below n size) transferred) i 0 ≡ share n size transferred i
  unfolding share_list
  shares_at transferred i p =
      filled_at most_distributors 0 (share n (λ j. get_or (sizes_below n size) j 0) transferred) n i p (omega arith)
      ∙ share_same n (λ j. get_or (sizes_below n size) j 0) size transferred i (sizes_at n few size) p

-- the list of what each pays (false) or receives (true)
abbrev shares_of : ℕ → List Pesos → Bool → List ℕ
shares_of n positions negative =
    share_list n (sizes_below n (side_size negative (money_at positions))) (transferred n (money_at positions))

module _ (n : ℕ) (positions : List Pesos) (w : MoneyWithin n positions) where
  pub sizes_within : (negative : Bool) (sizes : List ℕ) → sizes ≡ sizes_below n (side_size negative (money_at positions)) →
      Side n sizes
  unfolding side_size owing owed
  sizes_within negative =
      sizes_side n w.few (side_size negative (money_at positions))
      (λ i p. omega (arith, part_most negative (money_at positions i), w.within i p))

  -- so the month moved by these two lists is the month settled
  transfer_is : (i : ℕ) → i < n →
      sub_ℕ (get_or (shares_of n positions true) i 0) (get_or (shares_of n positions false) i 0) ≡ transfer n
      (money_at positions) i
  unfolding transfer received paid side_size
  transfer_is i p =
      ap₂ sub_ℕ
      (shares_at n w.few (side_size true (money_at positions)) (transferred n (money_at positions)) i p)
      (shares_at n w.few (side_size false (money_at positions)) (transferred n (money_at positions)) i p)

  pub moved_settled : moved_month n positions (shares_of n positions false) (shares_of n positions true) ≡ settled_month n
      positions
  unfolding moved_month settled_month new_balance
  moved_settled =
      ap₂ {C = SettledMonth} (λ b t. record { balances = b; transfers = t })
      (money_same _ n (new_balance n (money_at positions))
      (λ i p. ap (λ (z : ℤ). money_at positions i +ℤ z) (transfer_is i p)))
      (money_same _ n (transfer n (money_at positions)) transfer_is)
