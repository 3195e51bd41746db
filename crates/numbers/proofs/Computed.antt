-- One name that opens the definitions of this crate, for examples that hold by computation: a new definition that they
-- compute with is named here. Assumes nothing.
use Prim.Native.Nat.{ℕ}
use Rattle.numbers.specs.Bounded.{sum_below, all_below, any_below, first_below, list_below, join_below, filled_below}
use Rattle.numbers.specs.Checks.{verdict_of}
use Rattle.numbers.specs.Rounding.{half_up, half_away, divide_up}
use Rattle.numbers.specs.Signed.{is_negative, within_size, signed_sum_below}
use Rattle.numbers.specs.Units.{between, all_between, bound_where, checked_price}

unfoldable pub numbers_computed : ℕ
unfolding sum_below all_below any_below first_below list_below join_below filled_below verdict_of half_up half_away divide_up
    is_negative within_size signed_sum_below between all_between bound_where checked_price
numbers_computed = 0
