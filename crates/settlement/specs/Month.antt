-- One month by value: positions, transfers and new balances as lists of 40 places, those past n empty.
-- Assumes nothing.
use Rattle.std.specs.Prelude.{List, ℕ, get_or, ℤ, ◌+ℤ◌}
use Rattle.std.proofs.Math.IntN.{sub_ℕ}
use Rattle.numbers.specs.Bounded.{filled_below}
use Rattle.numbers.specs.Units.{no_money}
use Rattle.numbers.specs.Sizes.{most_distributors}
use Rattle.numbers.specs.declared.division.Division.{Division}
use Rattle.numbers.specs.declared.units.Pesos.{Pesos}
use Rattle.settlement.specs.Amount.{collected_amount}
use Rattle.settlement.specs.Share.{share_floor, share_remainder, pesos_left, share}
use Rattle.settlement.specs.Settlement.{position_of, transfer, new_balance}
use Rattle.settlement.specs.declared.month.SettledMonth.{SettledMonth}
use Rattle.settlement.specs.declared.share.DividedSide.{DividedSide}

-- what stands at i of a list of money
abbrev pub money_at : List Pesos → ℕ → ℤ
money_at list i = (get_or list i no_money).0

-- a function's values below n as money
unfoldable pub money_below : ℕ → (ℕ → ℤ) → List Pesos
money_below n f = filled_below most_distributors no_money n (λ i. record { 0 = f i })

-- the positions of n distributors: old balances and the month's collected amounts
unfoldable pub position_list : ℕ → List Pesos → List ℤ → List ℕ → List ℕ → List Pesos
position_list n balances charges readings losses =
    money_below n (position_of (money_at balances) (collected_amount charges readings losses))

-- the month settled from its positions
unfoldable pub settled_month : ℕ → List Pesos → SettledMonth
settled_month n positions =
    record {
      balances = money_below n (new_balance n (money_at positions));
      transfers = money_below n (transfer n (money_at positions));
    }

-- a side's sizes as a list
unfoldable pub sizes_below : ℕ → (ℕ → ℕ) → List ℕ
sizes_below n size = filled_below most_distributors 0 n size

-- the shares of one side as a list
unfoldable pub share_list : ℕ → List ℕ → ℕ → List ℕ
share_list n sizes transferred = filled_below most_distributors 0 n (share n (λ i. get_or sizes i 0) transferred)

-- what stands at i of a list of divisions, and an empty place
abbrev pub no_division : Division
no_division = record { quotient = 0; remainder = 0 }

abbrev pub division_at : List Division → ℕ → Division
division_at list i = get_or list i no_division

-- the division that gives a share: its floor, and the remainder
unfoldable pub share_division : ℕ → (ℕ → ℕ) → ℕ → ℕ → Division
share_division n size transferred i =
    record { quotient = share_floor n size transferred i; remainder = share_remainder n size transferred i }

-- a side's divisions as a list, and the pesos that the floors leave
unfoldable pub divided_side : ℕ → List ℕ → ℕ → DividedSide
divided_side n sizes transferred =
    let size : ℕ → ℕ = λ i. get_or sizes i 0 in
    record {
      divisions = filled_below most_distributors no_division n (share_division n size transferred);
      left = pesos_left n size transferred;
    }

-- transfers and new balances, where each pays and receives so much
unfoldable pub moved_month : ℕ → List Pesos → List ℕ → List ℕ → SettledMonth
moved_month n positions paid received =
    record {
      balances = money_below n (λ i. money_at positions i +ℤ sub_ℕ (get_or received i 0) (get_or paid i 0));
      transfers = money_below n (λ i. sub_ℕ (get_or received i 0) (get_or paid i 0));
    }
