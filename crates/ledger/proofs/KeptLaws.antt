-- Soundness is kept: an opened ledger is sound, and every fixing, every settlement and every join, accepted or refused,
-- hands back a sound ledger where it was given one. Theorems about the definitions alone. Assumes nothing.
use mathlib.Core.Path.{◌≡◌, refl, sym, ◌∙◌, ap}
use mathlib.Core.Bool.{Bool, true, false, cond, not, ◌||◌, true≢false}
use mathlib.Core.List.{List}
use Prim.Native.Nat.{ℕ, ◌+◌, ◌*◌, ◌/◌, ◌≤◌, ◌<◌}
use native.Mathlib.Omega.{arith}
use native.Mathlib.Nat.{mul-zero}
use native.Mathlib.Decide.{dec_lt}
use lib.Dec.{leb, ltb, eqb}
use lib.ListN.{get_or-replicate}
use lib.IntN.{ℤ, pos, nat_abs, ◌+ℤ◌, ◌*ℤ◌}
use borrow.Author.Tests.{leb-true, eqb-true, not-false}
use Rattle.numbers.specs.Bounded.{any_below}
use Rattle.numbers.specs.Signed.{signed_sum_below}
use Rattle.numbers.specs.Refusal.{is_passed}
use Rattle.numbers.specs.Rounding.{half_up}
use Rattle.numbers.specs.Sizes.{most_distributors, sector_count}
use Rattle.numbers.specs.Units.{bound_where}
use Rattle.numbers.specs.declared.units.Pesos.{Pesos}
use Rattle.numbers.proofs.BoolLaws.{and_left, and_right, or_else}
use Rattle.numbers.proofs.RoundingLaws.{away_size}
use Rattle.numbers.proofs.SignedLaws.{zero_size, size_mul, signed_sum_add, signed_sum_same, sum_wide}
use Rattle.series.specs.Series.{last_month}
use Rattle.fixing.specs.Limit.{Distributors, InRange, charge}
use Rattle.fixing.specs.Sector.{most_factor, factor_at, sector_present, sector_charge, place_charge, sector_charges}
use Rattle.fixing.specs.Sector.{no_charges}
use Rattle.fixing.specs.Input.{input_distributors}
use Rattle.fixing.specs.Fixing.{accepted_fixing, worked_fixing}
use Rattle.fixing.specs.declared.fix.Fixing.{Fixing}
use Rattle.fixing.specs.declared.sector.SectorCharges.{SectorCharges}
use Rattle.fixing.proofs.LimitLaws.{charge_size, sector_size}
use Rattle.fixing.proofs.SectorLaws.{allowed_factor}
use Rattle.fixing.proofs.VerdictLaws.{passed_fixing, passed_sectors}
use Rattle.settlement.specs.Amount.{collected_amount}
use Rattle.settlement.specs.Settlement.{position_of, new_balance, one_sign}
use Rattle.settlement.specs.Month.{money_at, money_below, position_list, settled_month}
use Rattle.settlement.proofs.SettlementLaws.{balances_sign, balances_total}
use Rattle.settlement.proofs.MonthLaws.{money_at_lem, positions_within, balances_within}
use Rattle.ledger.specs.Ledger.{present_in, charge_in, count_at, any_settled, next_month, no_balances, no_counts}
use Rattle.ledger.specs.Ledger.{unfixed_ledger, empty_ledger}
use Rattle.ledger.specs.Ledger.{makes_older, stays_older, older_stands, older_beside, fixed_ledger, raised_counts}
use Rattle.ledger.specs.Ledger.{settled_ledger, joined_ledger}
use Rattle.ledger.specs.Billed.{billed_under}
use Rattle.ledger.specs.Sound.{places_held, day_sound, sound}
use Rattle.ledger.specs.Turn.{fixing_turn, settlement_turn}
use Rattle.ledger.specs.Fix.{FixingCall, fixing_verdict, fixing_ledger}
use Rattle.ledger.specs.Settle.{SettlementCall, settlement_verdict, settlement_ledger, positions_of}
use Rattle.ledger.specs.Join.{join_verdict, join_ledger}
use Rattle.ledger.specs.declared.ledger.Ledger.{Ledger}
use Rattle.ledger.proofs.PlaceLaws.{present_at_lem, charge_at_lem, present_past, charge_past, nothing_at}
use Rattle.ledger.proofs.SoundFacts.{PlaceFacts, PlacesFacts, FixingsFacts, CountFacts, BalanceFacts}
use Rattle.ledger.proofs.SoundFacts.{sound_facts, sound_test}
use Rattle.ledger.proofs.SoundLaws.{raised_at, raised_past, none_settled, opened_settled, month_settled}
use Rattle.ledger.proofs.SoundLaws.{balance_past, counts_held, balances_held}
use Rattle.ledger.proofs.MoneyLaws.{money_past, money_sum, money_sign}
use Rattle.ledger.proofs.CallLaws.{FixingPassed, fixing_passed, passed_range, SettlementPassed}
use Rattle.ledger.proofs.CallLaws.{settlement_passed, join_passed}

-- a place with nothing in it is sound
empty_place : (held : ℕ) (present : Bool) (z : ℤ) (k : ℕ) → present ≡ false → z ≡ pos 0 → PlaceFacts held present z k
empty_place held present z k e h = record { past = λ p. e; absent = λ p. h; within = rw h (omega arith) }

no_count : (n last count i : ℕ) → count ≡ 0 → CountFacts n last count i
no_count n last count i h = record { past = λ p. h; few = omega (arith, h) }

no_balance : (count : ℕ) (z : ℤ) → z ≡ pos 0 → BalanceFacts count z
no_balance count z h = record { uncounted = λ p. h; within = rw h (omega arith) }

no_places : (held : ℕ) → PlacesFacts held no_charges
no_places held k p = empty_place held _ _ k (nothing_at k p).0 (nothing_at k p).1

nothing_fixed : (n last : ℕ) (balances : List Pesos) (counts : List ℕ) →
    FixingsFacts (unfixed_ledger n last balances counts)
unfolding unfixed_ledger day_sound
nothing_fixed n last balances counts =
    record { force = no_places _; older = no_places _; beside = λ e. absurd (true≢false (sym e)); day = refl }

none_sign : (f : ℕ → ℤ) → one_sign 0 f ≡ true
unfolding one_sign any_below
none_sign f = refl

pub opened_sound : (n : ℕ) → 1 ≤ n → n ≤ most_distributors → sound (empty_ledger n) ≡ true
unfolding empty_ledger unfixed_ledger no_balances
opened_sound n p q =
    sound_test (empty_ledger n)
    (record {
      some = p;
      few = q;
      fixings = nothing_fixed n 0 no_balances no_counts;
      unset = record { unfixed = λ e. refl; unsettled = λ e. refl };
      month =
          record {
            last_most = omega arith;
            month_most = omega arith;
            due = λ r. absurd (true≢false (sym r ∙ opened_settled n));
          };
      count = λ i r. no_count n 0 _ i (get_or-replicate {A = ℕ} most_distributors i 0 0 r);
      balance = λ i r. no_balance _ _ (money_past (λ j. pos 0) 0 i (omega arith) r);
      signs = money_sign 0 (omega arith) (λ j. pos 0) (none_sign (λ j. pos 0));
    })

-- a sector without a factor has no charge
sector_none : (z : ℤ) (f : ℕ) → f ≡ 0 → sector_charge z f ≡ pos 0
unfolding sector_charge half_up
sector_none z f e =
    zero_size (sector_charge z f)
    (rw (away_size (z *ℤ pos f) 10000, size_mul z (pos f), e, mul-zero (nat_abs z)))

-- an accepted fixing's sectors
charged_places : (n : ℕ) (d : Distributors) (sectors : List ℕ) → n ≤ most_distributors →
    ((i : ℕ) → i < n → nat_abs (charge d i) ≤ 2000000) →
    ((k : ℕ) → k < n * sector_count → factor_at sectors k ≤ most_factor) →
    PlacesFacts (places_held n true) (sector_charges n (charge d) sectors)
unfolding places_held bound_where sector_charges sector_present place_charge
charged_places n d sectors few size factor k p = go (dec_lt k (n * sector_count))
  where
    go : Dec (k < n * sector_count) →
        PlaceFacts (n * sector_count) (present_in (sector_charges n (charge d) sectors) k)
        (charge_in (sector_charges n (charge d) sectors) k) k
    go (no q) =
        empty_place (n * sector_count) _ _ k
        (present_past (n * sector_count) (sector_present sectors) (place_charge (charge d) sectors) k p (omega arith))
        (charge_past (n * sector_count) (sector_present sectors) (place_charge (charge d) sectors) k p (omega arith))
    go (yes q) =
        rw (
          present_at_lem (n * sector_count) (sector_present sectors) (place_charge (charge d) sectors) k p q,
          charge_at_lem (n * sector_count) (sector_present sectors) (place_charge (charge d) sectors) k p q,
        )
        (record {
          past = λ r. absurd (omega arith);
          absent =
              λ e. sector_none (charge d (k / sector_count)) (factor_at sectors k)
              (eqb-true _ 0 (not-false (eqb (factor_at sectors k) 0) e));
          within =
              omega (
                arith,
                sector_size (charge d (k / sector_count)) (factor_at sectors k)
                    (size (k / sector_count) (omega arith)) (factor k q),
              );
        })

-- the older fixing that stands beside a new one was in force, or older, before
older_kept : (ledger : Ledger) (month : ℕ) → FixingsFacts ledger →
    PlacesFacts (places_held ledger.n (older_stands ledger month)) (older_beside ledger month)
unfolding older_stands older_beside makes_older stays_older
older_kept ledger month g = go (makes_older ledger month) refl (stays_older ledger month) refl
  where
    go : (b : Bool) → makes_older ledger month ≡ b → (c : Bool) → stays_older ledger month ≡ c →
        PlacesFacts (places_held ledger.n (b || c)) (cond b ledger.force (cond c ledger.older no_charges))
    go true e c s = rw (and_left ledger.fixed (ltb ledger.month month) e) at g.force
    go false e true s = rw (and_left ledger.has_older (eqb month ledger.month) s) at g.older
    go false e false s = no_places _

-- what a fixing's turn says
module _ (settled : Bool) (next month : ℕ) (h : fixing_turn settled next month ≡ true) where
  fixing_most : month ≤ last_month
  unfolding fixing_turn
  fixing_most = leb-true month last_month (and_left (leb month last_month) (not settled || eqb month next) h)

  fixing_next : settled ≡ true → month ≡ next
  unfolding fixing_turn
  fixing_next e =
      eqb-true month next
      (or_else (not settled) (eqb month next) (and_right (leb month last_month) (not settled || eqb month next) h)
      (ap not e))

pub fixing_keeps : (ledger : Ledger) (call : FixingCall) → sound ledger ≡ true → sound (fixing_ledger ledger call) ≡ true
unfolding fixing_ledger fixed_ledger accepted_fixing input_distributors any_settled next_month day_sound
fixing_keeps ledger call h = go (is_passed (fixing_verdict ledger call)) refl
  where
    d : Distributors
    d = input_distributors ledger.n call.input

    booked : SectorCharges → Ledger
    booked force = fixed_ledger ledger call.input.numbers force

    accepted : FixingPassed ledger call → sound (booked (worked_fixing ledger.n call.input).sectors) ≡ true
    accepted f =
        let g = sound_facts ledger h in
        let r : InRange d = passed_range ledger.n call g.some g.few f.lengths f.passed in
        let e : (worked_fixing ledger.n call.input).sectors ≡ sector_charges ledger.n (charge d)
        call.input.sectors =
        ap (λ (x : Fixing). x.sectors) (passed_fixing ledger.n call.input) in
        rw e
        (sound_test (booked (sector_charges ledger.n (charge d) call.input.sectors))
        (record {
          some = g.some;
          few = g.few;
          fixings =
              record {
                force =
                    charged_places ledger.n d call.input.sectors g.few (charge_size d r)
                    (allowed_factor ledger.n call.input.sectors
                    (passed_sectors ledger.n call.input f.passed));
                older = older_kept ledger call.input.numbers.month g.fixings;
                beside = λ t. refl;
                day = f.day;
              };
          unset =
              record {
                unfixed = λ t. absurd (true≢false t);
                unsettled = g.unset.unsettled;
              };
          month =
              record {
                last_most = g.month.last_most;
                month_most = fixing_most (any_settled ledger) (next_month ledger) call.input.numbers.month f.turn;
                due =
                    λ p. omega (
                      arith,
                      fixing_next (any_settled ledger) (next_month ledger) call.input.numbers.month
                          f.turn p,
                    );
              };
          count = g.count;
          balance = g.balance;
          signs = g.signs;
        }))

    go : (b : Bool) → is_passed (fixing_verdict ledger call) ≡ b →
        sound (cond b (booked (worked_fixing ledger.n call.input).sectors) ledger) ≡ true
    go true e = accepted (fixing_passed ledger call e)
    go false e = h

-- an accepted settlement's balances add up to the old ones plus the collected amounts
pub settlement_adds : (ledger : Ledger) (call : SettlementCall) → sound ledger ≡ true →
    is_passed (settlement_verdict ledger call) ≡ true →
    signed_sum_below most_distributors (money_at (settlement_ledger ledger call).balances) ≡ signed_sum_below most_distributors
    (money_at ledger.balances) +ℤ signed_sum_below ledger.n
    (collected_amount (billed_under ledger call.month).charges call.readings call.losses)
unfolding settlement_ledger settled_ledger settled_month positions_of position_list position_of
settlement_adds ledger call h e =
    let g = sound_facts ledger h in
    let amount : ℕ → ℤ = collected_amount (billed_under ledger call.month).charges call.readings call.losses in
    let position : ℕ → ℤ = λ i. money_at ledger.balances i +ℤ amount i in
    let held : ℕ → ℤ = money_at (money_below ledger.n position) in
    rw e
    (money_sum ledger.n g.few (new_balance ledger.n held)
    ∙ balances_total ledger.n held
    ∙ signed_sum_same ledger.n held position (λ i p. money_at_lem position ledger.n i p (omega (arith, g.few)))
    ∙ signed_sum_add ledger.n (money_at ledger.balances) amount
    ∙ ap (λ (z : ℤ). z +ℤ signed_sum_below ledger.n amount)
    (sym (sum_wide ledger.n most_distributors (money_at ledger.balances) g.few
    (balance_past ledger h))))

-- what a settled month's turn says
module _ (settled : Bool) (next : ℕ) (fixed : Bool) (fixing_month month : ℕ)
    (h : settlement_turn settled next fixed fixing_month month ≡ true) where
  abbrev due : Bool
  due = cond settled (eqb month next) (not fixed || eqb month fixing_month)

  turn_most : month ≤ last_month
  unfolding settlement_turn
  turn_most = leb-true month last_month (and_left (leb month last_month) due h)

  turn_due : due ≡ true
  unfolding settlement_turn
  turn_due = and_right (leb month last_month) due h

  turn_later : settled ≡ true → month ≡ next
  turn_later e = eqb-true month next (rw e at turn_due)

  turn_first : settled ≡ false → fixed ≡ true → month ≡ fixing_month
  turn_first p e =
      eqb-true month fixing_month (or_else (not fixed) (eqb month fixing_month) (rw p at turn_due) (ap not e))

pub settlement_keeps : (ledger : Ledger) (call : SettlementCall) → sound ledger ≡ true →
    sound (settlement_ledger ledger call) ≡ true
unfolding settlement_ledger settled_ledger settled_month next_month
settlement_keeps ledger call h = go (is_passed (settlement_verdict ledger call)) refl
  where
    accepted : SettlementPassed ledger call →
        sound (settled_ledger ledger call.month (settled_month ledger.n (positions_of ledger call)).balances) ≡ true
    accepted f =
        let g = sound_facts ledger h in
        let balance : ℕ → ℤ = new_balance ledger.n (money_at (positions_of ledger call)) in
        let small = balances_within ledger.n (positions_of ledger call)
        (positions_within ledger.n (positions_of ledger call) g.few f.within) in
        let most = turn_most (any_settled ledger) (next_month ledger) ledger.fixed ledger.month call.month
        f.turn in
        let later = turn_later (any_settled ledger) (next_month ledger) ledger.fixed ledger.month call.month
        f.turn in
        let first = turn_first (any_settled ledger) (next_month ledger) ledger.fixed ledger.month call.month
        f.turn in
        -- the first settled month is the fixing's own, a later one the month after the last
        let next : (b : Bool) → any_settled ledger ≡ b →
        ((i : ℕ) → i < most_distributors → count_at ledger.counts i ≤ call.month) ×
        (ledger.month ≤ call.month + 1) =
        elim [
          | true ↦ λ e. (λ i p. omega (arith, later e, (g.count i p).few), omega (arith, later e, g.month.due e))
          | false ↦
              λ e. (λ i p. omega (arith, none_settled ledger e i p), omega (arith, first e f.in_force))
        ] in
        let raised : ℕ → ℕ = count_at (raised_counts ledger.n ledger.counts) in
        let counted : (i : ℕ) → i < most_distributors → Dec (i < ledger.n) →
        CountFacts ledger.n call.month (raised i) i =
        λ i p. elim [
          | yes q ↦ record {
            past = λ r. absurd (omega arith);
            few =
                omega (
                  arith,
                  raised_at ledger.n ledger.counts i p q,
                  (next (any_settled ledger) refl).0 i p,
                );
          }
          | no q ↦ no_count ledger.n _ _ i (raised_past ledger.n ledger.counts i p (omega arith))
        ] in
        let held : (i : ℕ) → i < most_distributors → Dec (i < ledger.n) →
        BalanceFacts (raised i) (money_at (money_below ledger.n balance) i) =
        λ i p. elim [
          | yes q ↦ record {
            uncounted = λ e. absurd (omega (arith, raised_at ledger.n ledger.counts i p q, e));
            within = small.within i q;
          }
          | no q ↦ no_balance _ _ (money_past balance ledger.n i (omega arith) p)
        ] in
        sound_test (settled_ledger ledger call.month (money_below ledger.n balance))
        (record {
          some = g.some;
          few = g.few;
          fixings =
              record {
                force = g.fixings.force;
                older = g.fixings.older;
                beside = g.fixings.beside;
                day = g.fixings.day;
              };
          unset =
              record {
                unfixed = g.unset.unfixed;
                unsettled = λ e. absurd (true≢false (sym (month_settled ledger _ _ g.some) ∙ e));
              };
          month =
              record {
                last_most = most;
                month_most = g.month.month_most;
                due = λ p. (next (any_settled ledger) refl).1;
              };
          count = λ i p. counted i p (dec_lt i ledger.n);
          balance = λ i p. held i p (dec_lt i ledger.n);
          signs =
              money_sign ledger.n g.few balance (balances_sign ledger.n (money_at (positions_of ledger call)));
        })

    go : (b : Bool) → is_passed (settlement_verdict ledger call) ≡ b →
        sound (cond b (settled_ledger ledger call.month
        (settled_month ledger.n (positions_of ledger call)).balances) ledger) ≡ true
    go true e = accepted (settlement_passed ledger call e)
    go false e = h

pub join_keeps : (ledger : Ledger) → sound ledger ≡ true → sound (join_ledger ledger) ≡ true
unfolding join_ledger joined_ledger unfixed_ledger any_settled
join_keeps ledger h = go (is_passed (join_verdict ledger)) refl
  where
    accepted : ledger.n < most_distributors → sound (joined_ledger ledger) ≡ true
    accepted p =
        let g = sound_facts ledger h in
        rw (balances_held ledger h p, counts_held ledger h p)
        (sound_test _
        (record {
          some = omega arith;
          few = omega (arith, p);
          fixings = nothing_fixed (ledger.n + 1) ledger.last ledger.balances ledger.counts;
          unset = record { unfixed = λ e. refl; unsettled = g.unset.unsettled };
          month = record { last_most = g.month.last_most; month_most = omega arith; due = λ e. omega arith };
          count = λ i r. record { past = λ q. (g.count i r).past (omega arith); few = (g.count i r).few };
          balance = g.balance;
          signs = g.signs;
        }))

    go : (b : Bool) → is_passed (join_verdict ledger) ≡ b → sound (cond b (joined_ledger ledger) ledger) ≡ true
    go true e = accepted (join_passed ledger e)
    go false e = h

-- a join moves no balance
pub join_balances : (ledger : Ledger) → sound ledger ≡ true → (join_ledger ledger).balances ≡ ledger.balances
unfolding join_ledger joined_ledger unfixed_ledger
join_balances ledger h = go (is_passed (join_verdict ledger)) refl
  where
    go : (b : Bool) → is_passed (join_verdict ledger) ≡ b → (cond b (joined_ledger ledger) ledger).balances ≡ ledger.balances
    go true e = balances_held ledger h (join_passed ledger e)
    go false e = refl
