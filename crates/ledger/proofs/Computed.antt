-- One name that opens the definitions of this crate and of those below it, for examples that hold by computation:
-- a new definition that they compute with is named here. Assumes nothing.
use Prim.Native.Nat.{ℕ}
use Rattle.fixing.proofs.Computed.{fixing_computed}
use Rattle.settlement.proofs.Computed.{settlement_computed}
use Rattle.ledger.specs.Example.{plain_line, plain_series, plain_numbers, plain_call, print_call, print_ledger}
use Rattle.ledger.specs.Example.{first_billing, second_billing, first_ledger}
use Rattle.ledger.specs.Fix.{lines_whole, fixing_lengths, in_force_length, fixing_checks, fixing_verdict}
use Rattle.ledger.specs.Fix.{accepted_values, fixing_answer, fixing_ledger, price_word, price_list, fixing_list}
use Rattle.ledger.specs.Calendar.{is_leap_year, days_of, day_allowed}
use Rattle.ledger.specs.Billed.{split_charge, either_present, split_charges, is_split, charges_for, billed_under}
use Rattle.ledger.specs.Ledger.{no_balances, unfixed_ledger, empty_ledger, any_settled, next_month, makes_older}
use Rattle.ledger.specs.Ledger.{stays_older, older_stands, older_beside, fixed_ledger, raised_counts, settled_ledger}
use Rattle.ledger.specs.Ledger.{joined_ledger, opening_checks, opening_verdict, opening_ledger}
use Rattle.ledger.specs.Settle.{settlement_lengths, positions_of, settlement_checks, settlement_verdict}
use Rattle.ledger.specs.Settle.{settlement_ledger, settlement_list}
use Rattle.ledger.specs.Join.{join_checks, join_verdict, join_ledger}
use Rattle.ledger.specs.Sound.{places_held, place_test, place_sound, force_sound, older_sound, day_sound}
use Rattle.ledger.specs.Sound.{fixings_sound, unset_zero, months_sound}
use Rattle.ledger.specs.Sound.{count_test, counts_sound, balance_test, balance_sound, each_balance}
use Rattle.ledger.specs.Sound.{balances_sound, sound}
use Rattle.ledger.specs.Turn.{fixing_turn, settlement_turn}

unfoldable pub ledger_computed : ℕ
unfolding fixing_computed settlement_computed plain_line plain_series plain_numbers plain_call print_call print_ledger
    first_billing second_billing first_ledger lines_whole fixing_lengths in_force_length fixing_checks fixing_verdict
    accepted_values fixing_answer fixing_ledger price_word price_list fixing_list is_leap_year days_of day_allowed split_charge
    either_present split_charges is_split charges_for billed_under no_balances unfixed_ledger empty_ledger any_settled
    next_month makes_older stays_older older_stands older_beside fixed_ledger raised_counts settled_ledger joined_ledger
    opening_checks opening_verdict opening_ledger settlement_lengths positions_of settlement_checks settlement_verdict
    settlement_ledger settlement_list join_checks join_verdict join_ledger places_held place_test place_sound force_sound
    older_sound day_sound fixings_sound unset_zero months_sound count_test counts_sound balance_test balance_sound each_balance
    balances_sound sound fixing_turn settlement_turn
ledger_computed = 0
