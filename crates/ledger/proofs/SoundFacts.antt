-- What soundness says, as plain facts, and the way back from them. Assumes nothing.
use mathlib.Core.Path.{◌≡◌, refl, sym, ◌∙◌, ap}
use mathlib.Core.Bool.{Bool, true, false, cond, not, ◌&&◌, ◌||◌, true≢false}
use Prim.Native.Nat.{ℕ, ◌+◌, ◌≤◌, ◌<◌}
use native.Mathlib.Omega.{arith}
use lib.Dec.{leb, ltb, eqb}
use lib.IntN.{ℤ, pos, nat_abs}
use borrow.Author.Tests.{ltb-false, leb-true, eqb-true, not-false, le-ltb, le-leb, eq-eqb}
use Rattle.numbers.specs.Signed.{within_size}
use Rattle.numbers.specs.Units.{between, bound_where}
use Rattle.numbers.specs.Sizes.{most_distributors, sector_places}
use Rattle.numbers.proofs.BoolLaws.{and_left, and_right, and_three, and_six, and_both, or_else, or_of}
use Rattle.numbers.proofs.TestLaws.{all_at, all_of}
use Rattle.numbers.proofs.SignedLaws.{within_none}
use Rattle.numbers.proofs.UnitLaws.{between_low, between_high, between_yes, bound_most}
use Rattle.series.specs.Series.{last_month}
use Rattle.settlement.specs.Amount.{most_charge}
use Rattle.settlement.specs.Settlement.{most_position, one_sign}
use Rattle.settlement.specs.Month.{money_at}
use Rattle.fixing.specs.declared.sector.SectorCharges.{SectorCharges}
use Rattle.ledger.specs.Ledger.{present_in, charge_in, count_at, any_settled}
use Rattle.ledger.specs.Sound.{places_held, place_test, place_sound, force_sound, older_sound, day_sound, fixings_sound}
use Rattle.ledger.specs.Sound.{unset_zero, months_sound, count_test, counts_sound, balance_test, balance_sound}
use Rattle.ledger.specs.Sound.{each_balance, balances_sound, sound}
use Rattle.ledger.specs.declared.ledger.Ledger.{Ledger}

-- a size within a bound that is 0 where a test fails
module _ (b : Bool) (most : ℕ) (z : ℤ) where
  pub within_most : within_size (bound_where b most) z ≡ true → nat_abs z ≤ most
  unfolding within_size
  within_most h = omega (arith, leb-true (nat_abs z) (bound_where b most) h, bound_most b most)

  pub within_zero : b ≡ false → within_size (bound_where b most) z ≡ true → z ≡ pos 0
  unfolding bound_where
  within_zero e h = within_none z (rw e at h)

  pub within_of : nat_abs z ≤ most → (b ≡ false → z ≡ pos 0) → within_size (bound_where b most) z ≡ true
  unfolding within_size bound_where
  within_of small zero = go b refl
    where
      go : (c : Bool) → b ≡ c → leb (nat_abs z) (cond c most 0) ≡ true
      go true e = le-leb (nat_abs z) most small
      go false e = rw (zero e)

-- one sector's place
pub record PlaceFacts (held : ℕ) (present : Bool) (charge : ℤ) (k : ℕ) : Type 0 where
  pub past : held ≤ k → present ≡ false
  pub absent : present ≡ false → charge ≡ pos 0
  pub within : nat_abs charge ≤ most_charge

module _ (held : ℕ) (charge : ℤ) (k : ℕ) where
  pub place_facts : (present : Bool) → place_test held present charge k ≡ true → PlaceFacts held present charge k
  unfolding place_test within_size
  place_facts true h =
      record {
        past =
            λ p. absurd (true≢false (sym (and_left (ltb k held) (within_size most_charge charge) h) ∙ le-ltb k held p));
        absent = λ e. absurd (true≢false e);
        within = leb-true (nat_abs charge) most_charge (and_right (ltb k held) (within_size most_charge charge) h);
      }
  place_facts false h =
      let none : charge ≡ pos 0 = within_none charge h in
      record { past = λ p. refl; absent = λ e. none; within = rw none (omega arith) }

  pub place_test_lem : (present : Bool) → PlaceFacts held present charge k → place_test held present charge k ≡ true
  unfolding place_test within_size
  place_test_lem true f =
      and_both (ltb k held) (within_size most_charge charge) (go (ltb k held) refl)
      (le-leb (nat_abs charge) most_charge f.within)
    where
      go : (b : Bool) → ltb k held ≡ b → b ≡ true
      go true e = refl
      go false e = absurd (true≢false (f.past (ltb-false k held e)))
  place_test_lem false f = rw (f.absent refl)

-- all places of a fixing kept
abbrev pub PlacesFacts : ℕ → SectorCharges → Type 0
PlacesFacts held force = (k : ℕ) → k < sector_places → PlaceFacts held (present_in force k) (charge_in force k) k

module _ (held : ℕ) (force : SectorCharges) where
  force_facts : force_sound held force ≡ true → PlacesFacts held force
  unfolding force_sound place_sound
  force_facts h k q =
      place_facts held (charge_in force k) k (present_in force k) (all_at sector_places (place_sound held force) h k q)

  force_test : PlacesFacts held force → force_sound held force ≡ true
  unfolding force_sound place_sound
  force_test f =
      all_of sector_places (place_sound held force)
      (λ k q. place_test_lem held (charge_in force k) k (present_in force k) (f k q))

-- the fixing in force, the older one, and the first day
pub record FixingsFacts (ledger : Ledger) : Type 0 where
  pub force : PlacesFacts (places_held ledger.n ledger.fixed) ledger.force
  pub older : PlacesFacts (places_held ledger.n ledger.has_older) ledger.older
  pub beside : ledger.has_older ≡ true → ledger.fixed ≡ true
  pub day : day_sound ledger.fixed ledger.month ledger.day ledger.has_older ≡ true

module _ (ledger : Ledger) where
  abbrev in_force : Bool
  in_force = force_sound (places_held ledger.n ledger.fixed) ledger.force

  abbrev older_one : Bool
  older_one = force_sound (places_held ledger.n ledger.has_older) ledger.older

  abbrev stands_beside : Bool
  stands_beside = not ledger.has_older || ledger.fixed

  abbrev first_day : Bool
  first_day = day_sound ledger.fixed ledger.month ledger.day ledger.has_older

  fixings_facts : fixings_sound ledger ≡ true → FixingsFacts ledger
  unfolding fixings_sound older_sound
  fixings_facts h =
      let p = and_three in_force (older_one && stands_beside) first_day h in
      record {
        force = force_facts _ ledger.force p.0;
        older = force_facts _ ledger.older (and_left older_one stands_beside p.1);
        beside =
            λ e. or_else (not ledger.has_older) ledger.fixed (and_right older_one stands_beside p.1)
            (ap not e);
        day = p.2;
      }

  fixings_test : FixingsFacts ledger → fixings_sound ledger ≡ true
  unfolding fixings_sound older_sound
  fixings_test f =
      let older = and_both older_one stands_beside (force_test _ ledger.older f.older)
      (or_of (not ledger.has_older) ledger.fixed (λ e. f.beside (not-false ledger.has_older e))) in
      and_both (in_force && (older_one && stands_beside)) first_day
      (and_both in_force (older_one && stands_beside) (force_test _ ledger.force f.force) older)
      f.day

-- what is not set is zero
pub record UnsetFacts (settled : Bool) (last : ℕ) (fixed : Bool) (month : ℕ) : Type 0 where
  pub unfixed : fixed ≡ false → month ≡ 0
  pub unsettled : settled ≡ false → last ≡ 0

module _ (settled : Bool) (last : ℕ) (fixed : Bool) (month : ℕ) where
  abbrev begun : Bool
  begun = fixed || eqb month 0

  abbrev ended : Bool
  ended = settled || eqb last 0

  pub unset_facts : unset_zero settled last fixed month ≡ true → UnsetFacts settled last fixed month
  unfolding unset_zero
  unset_facts h =
      record {
        unfixed = λ e. eqb-true month 0 (or_else fixed (eqb month 0) (and_left begun ended h) e);
        unsettled = λ e. eqb-true last 0 (or_else settled (eqb last 0) (and_right begun ended h) e);
      }

  pub unset_test : UnsetFacts settled last fixed month → unset_zero settled last fixed month ≡ true
  unfolding unset_zero
  unset_test f =
      and_both begun ended (or_of fixed (eqb month 0) (λ e. eq-eqb month 0 (f.unfixed e)))
      (or_of settled (eqb last 0) (λ e. eq-eqb last 0 (f.unsettled e)))

-- the months
pub record MonthFacts (settled : Bool) (last month : ℕ) : Type 0 where
  pub last_most : last ≤ last_month
  pub month_most : month ≤ last_month
  pub due : settled ≡ true → month ≤ last + 1

module _ (settled : Bool) (last month : ℕ) where
  pub month_facts : months_sound settled last month ≡ true → MonthFacts settled last month
  unfolding months_sound
  month_facts h =
      let p = and_three (leb last last_month) (leb month last_month) (not settled || leb month (last + 1)) h in
      record {
        last_most = leb-true last last_month p.0;
        month_most = leb-true month last_month p.1;
        due = λ e. leb-true month (last + 1) (or_else (not settled) (leb month (last + 1)) p.2 (ap not e));
      }

  pub month_test : MonthFacts settled last month → months_sound settled last month ≡ true
  unfolding months_sound
  month_test f =
      and_both (leb last last_month && leb month last_month) (not settled || leb month (last + 1))
      (and_both (leb last last_month) (leb month last_month) (le-leb last last_month f.last_most)
      (le-leb month last_month f.month_most))
      (or_of (not settled) (leb month (last + 1)) (λ e. le-leb month (last + 1) (f.due (not-false settled e))))

-- one count
pub record CountFacts (n last count i : ℕ) : Type 0 where
  pub past : n ≤ i → count ≡ 0
  pub few : count ≤ last + 1

module _ (n last count i : ℕ) where
  pub count_facts : count_test n last count i ≡ true → CountFacts n last count i
  unfolding count_test bound_where
  count_facts h =
      let most = leb-true count (bound_where (ltb i n) (last + 1)) h in
      record {
        past = λ p. omega (arith, rw (le-ltb i n p) at most);
        few = omega (arith, most, bound_most (ltb i n) (last + 1));
      }

  pub count_test_lem : CountFacts n last count i → count_test n last count i ≡ true
  unfolding count_test bound_where
  count_test_lem f = go (ltb i n) refl
    where
      go : (b : Bool) → ltb i n ≡ b → leb count (cond b (last + 1) 0) ≡ true
      go true e = le-leb count (last + 1) f.few
      go false e = le-leb count 0 (omega (arith, f.past (ltb-false i n e)))

-- one balance
pub record BalanceFacts (count : ℕ) (balance : ℤ) : Type 0 where
  pub uncounted : count ≡ 0 → balance ≡ pos 0
  pub within : nat_abs balance ≤ most_position

module _ (count : ℕ) (balance : ℤ) where
  pub balance_facts : balance_test count balance ≡ true → BalanceFacts count balance
  unfolding balance_test
  balance_facts h =
      record {
        uncounted = λ e. within_zero (not (eqb count 0)) most_position balance (ap not (eq-eqb count 0 e)) h;
        within = within_most (not (eqb count 0)) most_position balance h;
      }

  pub balance_test_lem : BalanceFacts count balance → balance_test count balance ≡ true
  unfolding balance_test
  balance_test_lem f =
      within_of (not (eqb count 0)) most_position balance f.within
      (λ e. f.uncounted (eqb-true count 0 (not-false (eqb count 0) e)))

-- a sound ledger
pub record SoundFacts (ledger : Ledger) : Type 0 where
  pub some : 1 ≤ ledger.n
  pub few : ledger.n ≤ most_distributors
  pub fixings : FixingsFacts ledger
  pub unset : UnsetFacts (any_settled ledger) ledger.last ledger.fixed ledger.month
  pub month : MonthFacts (any_settled ledger) ledger.last ledger.month
  pub count : (i : ℕ) → i < most_distributors → CountFacts ledger.n ledger.last (count_at ledger.counts i) i
  pub balance : (i : ℕ) → i < most_distributors →
      BalanceFacts (count_at ledger.counts i) (money_at ledger.balances i)
  pub signs : one_sign most_distributors (money_at ledger.balances) ≡ true

module _ (ledger : Ledger) where
  abbrev settled : Bool
  settled = any_settled ledger

  abbrev range : Bool
  range = between 1 most_distributors ledger.n

  abbrev fixings : Bool
  fixings = fixings_sound ledger

  abbrev unset : Bool
  unset = unset_zero settled ledger.last ledger.fixed ledger.month

  abbrev dates : Bool
  dates = months_sound settled ledger.last ledger.month

  abbrev counted : Bool
  counted = counts_sound ledger.n ledger.last ledger.counts

  abbrev money : Bool
  money = each_balance ledger.counts ledger.balances

  abbrev signs : Bool
  signs = one_sign most_distributors (money_at ledger.balances)

  pub sound_facts : sound ledger ≡ true → SoundFacts ledger
  unfolding sound counts_sound balances_sound each_balance balance_sound
  sound_facts h =
      let p = and_six range fixings unset dates counted (money && signs) h in
      record {
        some = between_low 1 most_distributors ledger.n p.0;
        few = between_high 1 most_distributors ledger.n p.0;
        fixings = fixings_facts ledger p.1;
        unset = unset_facts settled ledger.last ledger.fixed ledger.month p.2;
        month = month_facts settled ledger.last ledger.month p.3;
        count = λ i q.
            count_facts ledger.n ledger.last (count_at ledger.counts i) i
            (all_at most_distributors (λ j. count_test ledger.n ledger.last (count_at ledger.counts j) j) p.4
            i q);
        balance = λ i q.
            balance_facts (count_at ledger.counts i) (money_at ledger.balances i)
            (all_at most_distributors (balance_sound ledger.counts ledger.balances) (and_left money signs p.5)
            i q);
        signs = and_right money signs p.5;
      }

  pub sound_test : SoundFacts ledger → sound ledger ≡ true
  unfolding sound counts_sound balances_sound each_balance balance_sound
  sound_test f =
      let one = and_both range fixings (between_yes 1 most_distributors ledger.n f.some f.few)
      (fixings_test ledger f.fixings) in
      let two = and_both (range && fixings) unset one
      (unset_test settled ledger.last ledger.fixed ledger.month f.unset) in
      let three = and_both (range && fixings && unset) dates two
      (month_test settled ledger.last ledger.month f.month) in
      let four = and_both (range && fixings && unset && dates) counted three
      (all_of most_distributors (λ j. count_test ledger.n ledger.last (count_at ledger.counts j) j)
      (λ i q. count_test_lem ledger.n ledger.last (count_at ledger.counts i) i (f.count i q))) in
      and_both (range && fixings && unset && dates && counted) (money && signs) four
      (and_both money signs
      (all_of most_distributors (balance_sound ledger.counts ledger.balances)
      (λ i q. balance_test_lem (count_at ledger.counts i) (money_at ledger.balances i) (f.balance i q)))
      f.signs)
