-- Laws of the names that speak of settled months, and what the code uses of a sound ledger. Assumes nothing.
use mathlib.Core.Path.{◌≡◌, ◌∙◌, ap}
use mathlib.Core.Bool.{Bool, true, false, not, ◌||◌}
use mathlib.Core.List.{List}
use Prim.Native.Nat.{ℕ, ◌+◌, ◌*◌, ◌≤◌, ◌<◌}
use native.Mathlib.Omega.{arith}
use lib.Dec.{eqb}
use lib.ListN.{length, get_or, set, get_or-replicate}
use lib.IntN.{nat_abs, pos}
use borrow.Author.Tests.{eqb-true, ne_eqb, not-false}
use Rattle.std.specs.List.{list_any}
use Rattle.numbers.specs.Bounded.{any_below}
use Rattle.numbers.specs.Sizes.{most_distributors, sector_count}
use Rattle.numbers.specs.Units.{between, no_money}
use Rattle.numbers.specs.declared.units.Pesos.{Pesos}
use Rattle.numbers.proofs.BoolLaws.{and_left}
use Rattle.numbers.proofs.ChainLaws.{any_listed}
use Rattle.numbers.proofs.TestLaws.{any_none, any_never, any_holds}
use Rattle.numbers.proofs.UnitLaws.{between_high}
use Rattle.numbers.proofs.ListLaws.{set_held, filled_at, filled_past}
use Rattle.series.specs.Series.{last_month}
use Rattle.settlement.specs.Amount.{most_charge}
use Rattle.settlement.specs.Month.{money_at}
use Rattle.settlement.specs.Required.{MoneyWithin}
use Rattle.ledger.specs.Calendar.{days_of, day_allowed}
use Rattle.ledger.specs.Ledger.{charge_in, count_at, any_settled, unfixed_ledger, empty_ledger, raised_counts}
use Rattle.ledger.specs.Ledger.{settled_ledger}
use Rattle.ledger.specs.Required.{CountsWithin}
use Rattle.ledger.specs.Sound.{day_sound, sound}
use Rattle.ledger.specs.declared.ledger.Ledger.{Ledger}
use Rattle.ledger.proofs.SoundFacts.{sound_facts}

-- `any` of an array of n
pub any_of : {A : Type 0} (test : A → Bool) (list : List A) (empty : A) (n : ℕ) → length list ≡ n →
    list_any test list ≡ any_below n (λ i. test (get_or list i empty))
any_of test list empty n e =
    any_listed test list empty ∙ ap (λ k. any_below k (λ i. test (get_or list i empty))) e

-- raised counts
module _ (n : ℕ) (counts : List ℕ) (i : ℕ) (p : i < most_distributors) where
  pub raised_at : i < n → count_at (raised_counts n counts) i ≡ count_at counts i + 1
  unfolding raised_counts
  raised_at q = filled_at most_distributors 0 (λ j. count_at counts j + 1) n i q p

  pub raised_past : n ≤ i → count_at (raised_counts n counts) i ≡ 0
  unfolding raised_counts
  raised_past q = filled_past most_distributors 0 (λ j. count_at counts j + 1) n i q p

-- one distributor's count, as the name that speaks of settled months looks at it
abbrev is_counted : Ledger → ℕ → Bool
is_counted ledger i = not (eqb (count_at ledger.counts i) 0)

-- none settled yet, one more settled
pub none_settled : (ledger : Ledger) → any_settled ledger ≡ false → (i : ℕ) → i < most_distributors →
    count_at ledger.counts i ≡ 0
unfolding any_settled
none_settled ledger h i p =
    eqb-true _ 0
    (not-false (eqb (count_at ledger.counts i) 0) (any_none most_distributors (is_counted ledger) h i p))

pub opened_settled : (n : ℕ) → any_settled (empty_ledger n) ≡ false
unfolding any_settled empty_ledger unfixed_ledger
opened_settled n =
    any_never most_distributors (is_counted (empty_ledger n))
    (λ i p. rw (get_or-replicate {A = ℕ} most_distributors i 0 0 p))

pub month_settled : (ledger : Ledger) (month : ℕ) (balances : List Pesos) → 1 ≤ ledger.n →
    any_settled (settled_ledger ledger month balances) ≡ true
unfolding any_settled settled_ledger
month_settled ledger month balances p =
    any_holds most_distributors (is_counted (settled_ledger ledger month balances)) 0 (omega arith)
    (rw (raised_at ledger.n ledger.counts 0 (omega arith) p)
    (ap not (ne_eqb (count_at ledger.counts 0 + 1) 0 (λ e. omega arith))))

-- what the code uses of a sound ledger
module _ (ledger : Ledger) (h : sound ledger ≡ true) where
  pub sound_some : 1 ≤ ledger.n
  sound_some = (sound_facts ledger h).some

  pub sound_few : ledger.n ≤ most_distributors
  sound_few = (sound_facts ledger h).few

  pub sound_last : ledger.last ≤ last_month
  sound_last = (sound_facts ledger h).month.last_most

  pub sound_counts : CountsWithin ledger.n ledger.counts
  sound_counts =
      record {
        few = sound_few;
        within = λ i p. omega (arith, sound_last, ((sound_facts ledger h).count i (omega (arith, sound_few))).few);
      }

  -- entries past n are zero
  module _ (i : ℕ) (p : ledger.n ≤ i) (q : i < most_distributors) where
    pub count_past : count_at ledger.counts i ≡ 0
    count_past = ((sound_facts ledger h).count i q).past p

    pub balance_past : money_at ledger.balances i ≡ pos 0
    balance_past = ((sound_facts ledger h).balance i q).uncounted count_past

  -- the charges kept, and the first day after the month's first
  module _ (k : ℕ) (p : k < ledger.n * sector_count) where
    pub force_within : nat_abs (charge_in ledger.force k) ≤ most_charge
    force_within = ((sound_facts ledger h).fixings.force k (omega (arith, sound_few))).within

    pub older_within : nat_abs (charge_in ledger.older k) ≤ most_charge
    older_within = ((sound_facts ledger h).fixings.older k (omega (arith, sound_few))).within

  pub sound_day : 1 < ledger.day → ledger.day ≤ days_of ledger.month
  unfolding day_sound day_allowed
  sound_day p = go ledger.fixed (sound_facts ledger h).fixings.day
    where
      go : (b : Bool) → day_sound b ledger.month ledger.day ledger.has_older ≡ true →
          ledger.day ≤ days_of ledger.month
      go true e =
          between_high 1 (days_of ledger.month) ledger.day
          (and_left (between 1 (days_of ledger.month) ledger.day) (eqb ledger.day 1 || ledger.has_older) e)
      go false e = absurd (omega (arith, p, eqb-true ledger.day 0 e))

  pub sound_balances : MoneyWithin ledger.n ledger.balances
  sound_balances =
      record { few = sound_few; within = λ i p. ((sound_facts ledger h).balance i (omega (arith, sound_few))).within }

  -- the place of one who joins is empty already
  module _ (p : ledger.n < most_distributors) where
    pub counts_held : set ledger.counts ledger.n 0 ≡ ledger.counts
    counts_held = set_held ledger.counts ledger.n 0 (count_past ledger.n (omega arith) p)

    pub balances_held : set ledger.balances ledger.n no_money ≡ ledger.balances
    balances_held =
        set_held ledger.balances ledger.n no_money
        (ap {B = Pesos} (λ z. record { 0 = z }) (balance_past ledger.n (omega arith) p))
