-- A fixing of renumbered distributors hands back the same, each under its new number (W-207 of document 02): an unsound
-- ledger and lists of other lengths stay, and are refused as they were; in all other cases every check has the same
-- answer, and what is accepted is the same by the laws of fixing. Assumes nothing.
use mathlib.Core.Path.{◌≡◌, refl, sym, ◌∙◌, ap}
use mathlib.Core.Bool.{Bool, true, false, cond}
use Prim.Native.Nat.{ℕ, ◌+◌, ◌*◌, ◌≤◌, ◌<◌}
use native.Mathlib.Omega.{arith}
use lib.Dec.{eqb}
use lib.ListN.{get_or, length}
use lib.IntN.{ℤ, pos}
use borrow.Author.Tests.{eqb-true}
use Rattle.numbers.specs.Checks.{verdict_of}
use Rattle.numbers.specs.Refusal.{is_passed}
use Rattle.numbers.specs.Renumbering.{Renumbering, moved_along, StandUnder}
use Rattle.numbers.specs.Sizes.{most_distributors, sector_count}
use Rattle.numbers.specs.Units.{no_price, no_power}
use Rattle.numbers.specs.declared.refusal.Refusal.TheVariants.{Unsound, WrongLength}
use Rattle.numbers.specs.Refusal.{Verdict}
use Rattle.std.specs.Prelude.{Ok, Err}
use Rattle.numbers.specs.declared.units.PesoPrice.{PesoPrice}
use Rattle.numbers.specs.declared.units.PowerPrice.{PowerPrice}
use Rattle.numbers.proofs.CheckLaws.{FirstPass, passes, refused_unless}
use Rattle.numbers.proofs.ListLaws.{list_at}
use Rattle.numbers.proofs.RenumberingLaws.{moved_length}
use Rattle.supply.specs.Line.{renumbered_lines}
use Rattle.supply.proofs.RenumberedLaws.{lines_length}
use Rattle.fixing.specs.Input.{FixingInput}
use Rattle.fixing.specs.Fixing.{worked_fixing}
use Rattle.fixing.specs.declared.fix.Fixing.{Fixing}
use Rattle.fixing.proofs.RenumberedLaws.{RenumberedInput, RenumberedFixing, input_checks_lem, fixing_renumbered}
use Rattle.ledger.specs.Ledger.{next_month, makes_older, stays_older, older_stands, fixed_ledger}
use Rattle.ledger.specs.Sound.{sound}
use Rattle.ledger.specs.Fix.{FixingCall, lines_whole, fixing_lengths, in_force_length, call_lengths, fixing_checks}
use Rattle.ledger.specs.Fix.{fixing_verdict, accepted_values, fixing_answer, fixing_ledger, price_part, price_list}
use Rattle.ledger.specs.Fix.{fixing_list, average_power_list, fixing_power_list, HandedBack, HandsBack}
use Rattle.ledger.specs.declared.ledger.Ledger.{Ledger}
use Rattle.ledger.proofs.SoundFacts.{sound_facts}
use Rattle.ledger.proofs.CallLaws.{fixing_passed, length_parts}
use Rattle.ledger.proofs.FixLaws.{word_at_lem, accepted_passed}
use Rattle.ledger.proofs.KeptLaws.{fixing_keeps}
use Rattle.history.specs.Renumbered.{renumbered_input, RenumberedCall, moved_ledger, renumbered_ledger}
use Rattle.history.specs.Renumbered.{SameUnder}
use Rattle.history.proofs.RenumberedLedgerLaws.{any_settled_moved, sound_moved, beside_moved, entries_moved}

-- what an accepted fixing wrote of distributor i
module _ (ledger : Ledger) (call : FixingCall) (v : fixing_verdict ledger call ≡ Ok tt) (i k : ℕ) (p : i < ledger.n)
  where
    abbrev worked : Fixing
    worked = worked_fixing ledger.n call.input

    word_in : k < 3 →
        get_or (fixing_list ledger call) (i * 3 + k) (pos 0) ≡ price_part (get_or worked.averages i no_price).0
        (get_or worked.prices.finals i no_price).0 (get_or worked.charges i (pos 0)) k
    unfolding fixing_list price_list
    word_in q =
        rw v
        (word_at_lem ledger.n worked.averages worked.prices.finals worked.charges i p (i * 3 + k) k refl q)

    power_in : k < 1 → get_or (fixing_power_list ledger call) (i * 1 + k) 0 ≡ (get_or worked.power i no_power).0
    unfolding fixing_power_list average_power_list
    power_in q =
        let place : i * 1 + k ≡ i = omega arith in
        rw (v, place) (list_at (λ j. (get_or worked.power j no_power).0) ledger.n 0 i p)

part_same : (k : ℕ) {average given : PesoPrice} {final other : PesoPrice} {charge third : ℤ} → given ≡ average →
    other ≡ final → third ≡ charge →
    price_part given.0 other.0 third k ≡ price_part average.0 final.0 charge k
part_same k e f g = rw (e, f, g)

-- what is refused before the input is looked at
module _ (ledger : Ledger) (call : FixingCall) where
  unsound_refused : sound ledger ≡ false → fixing_verdict ledger call ≡ Err Unsound
  unfolding fixing_verdict fixing_checks FirstPass
  unsound_refused = refused_unless 0 (fixing_checks ledger call) 2 (sound ledger) Unsound _ tt refl

  length_refused : sound ledger ≡ true → call_lengths ledger.n call ≡ false →
      fixing_verdict ledger call ≡ Err WrongLength
  unfolding fixing_verdict fixing_checks FirstPass
  length_refused whole =
      refused_unless 1 (fixing_checks ledger call) 3 (call_lengths ledger.n call) WrongLength _
      (passes Unsound whole, tt) refl

-- a renumbered call: where all lengths are right, lines and sector factors are renumbered; every list keeps its length
module _ {n : ℕ} (r : Renumbering n) (call given : FixingCall) (c : RenumberedCall r call given) where
  renumbered : call_lengths n call ≡ true → RenumberedInput r call.input given.input
  unfolding renumbered_input
  renumbered right =
      let parts = length_parts n call right in
      record {
        numbers = ap (λ (x : FixingInput). x.numbers) c.input;
        series = ap (λ (x : FixingInput). x.series) c.input;
        lines = ap (λ (x : FixingInput). x.lines) c.input ∙ rw parts.1;
        sectors = ap (λ (x : FixingInput). x.sectors) c.input ∙ rw parts.2;
        in_force = ap (λ (x : FixingInput). x.in_force) c.input;
      }

  lines_kept : length given.input.lines ≡ length call.input.lines
  unfolding renumbered_input
  lines_kept = ap (λ (x : FixingInput). length x.lines) c.input ∙ go (lines_whole call.input.lines)
    where
      go : (b : Bool) →
          length (cond b (renumbered_lines r call.input.lines) call.input.lines) ≡ length call.input.lines
      go true = lines_length r call.input.lines
      go false = refl

  sectors_kept : length given.input.sectors ≡ length call.input.sectors
  unfolding renumbered_input
  sectors_kept =
      ap (λ (x : FixingInput). length x.sectors) c.input
      ∙ go (eqb (length call.input.sectors) (n * sector_count)) refl
    where
      go : (b : Bool) → eqb (length call.input.sectors) (n * sector_count) ≡ b →
          length (cond b (moved_along r sector_count 0 (n * sector_count) call.input.sectors) call.input.sectors)
          ≡ length call.input.sectors
      go true e =
          moved_length r sector_count 0 (n * sector_count) call.input.sectors
          ∙ sym (eqb-true (length call.input.sectors) (n * sector_count) e)
      go false e = refl

  lengths_kept : call_lengths n given ≡ call_lengths n call
  unfolding renumbered_input fixing_lengths lines_whole in_force_length
  lengths_kept =
      rw (
        lines_kept,
        sectors_kept,
        ap (λ (x : FixingInput). x.series) c.input,
        ap (λ (x : FixingInput). x.in_force) c.input,
        c.is_interim,
        c.prices,
        c.power,
      )

module _ (ledger : Ledger) (r : Renumbering ledger.n) (call given : FixingCall) (c : RenumberedCall r call given)
  where
    -- a sound ledger and lists of right lengths
    module _ (whole : sound ledger ≡ true) (right : call_lengths ledger.n call ≡ true) where
      few : ledger.n ≤ most_distributors
      few = (sound_facts ledger whole).few

      input : RenumberedInput r call.input given.input
      input = renumbered r call given c right

      checks_same : fixing_checks (moved_ledger r ledger) given ≡ fixing_checks ledger call
      unfolding fixing_checks next_month older_stands makes_older stays_older moved_ledger
      checks_same =
          rw (
            sound_moved ledger r few,
            lengths_kept r call given c,
            any_settled_moved ledger r few,
            input_checks_lem r call.input given.input input,
            input.numbers,
          )

    -- and where it is accepted
    module _ (passed : fixing_verdict ledger call ≡ Ok tt) where
      whole : sound ledger ≡ true
      whole = (fixing_passed ledger call (ap is_passed passed)).whole

      right : call_lengths ledger.n call ≡ true
      right = (fixing_passed ledger call (ap is_passed passed)).lengths

      verdict : fixing_verdict (moved_ledger r ledger) given ≡ Ok tt
      unfolding fixing_verdict
      verdict = ap verdict_of (checks_same whole right) ∙ passed

      fixing : RenumberedFixing r (worked_fixing ledger.n call.input) (worked_fixing ledger.n given.input)
      fixing = fixing_renumbered r call.input given.input (input whole right) (few whole right)

      answer_moved : fixing_answer (moved_ledger r ledger) given ≡ fixing_answer ledger call
      unfolding fixing_answer accepted_values moved_ledger
      answer_moved = rw (passed, verdict, fixing.limit, fixing.surcharge, fixing.rounds, fixing.residue)

      booked : fixing_ledger (moved_ledger r ledger) given ≡ moved_ledger r (fixing_ledger ledger call)
      unfolding fixing_ledger fixed_ledger older_stands makes_older stays_older moved_ledger
      booked =
          rw (
            passed,
            verdict,
            fixing.sectors,
            (input whole right).numbers,
            beside_moved ledger r (few whole right) call.input.numbers.month,
          )

      accepted_prices : StandUnder r 3 (pos 0) (fixing_list ledger call) (fixing_list (moved_ledger r ledger) given)
      unfolding moved_ledger
      accepted_prices i k p q =
          let new = r.new_below i p in
          let at = r.new i in
          let back = r.old_new i p in
          let before = worked_fixing ledger.n call.input in
          word_in (moved_ledger r ledger) given verdict at k new q
          ∙ part_same k
          (fixing.average at new ∙ ap (λ j. get_or before.averages j no_price) back)
          (fixing.final at new ∙ ap (λ j. get_or before.prices.finals j no_price) back)
          (fixing.charge at new ∙ ap (λ j. get_or before.charges j (pos 0)) back)
          ∙ sym (word_in ledger call passed i k p q)

      accepted_power : StandUnder r 1 0 (fixing_power_list ledger call) (fixing_power_list (moved_ledger r ledger) given)
      unfolding moved_ledger
      accepted_power i k p q =
          let new = r.new_below i p in
          power_in (moved_ledger r ledger) given verdict (r.new i) k new q
          ∙ ap (λ (x : PowerPrice). x.0) (fixing.power (r.new i) new
          ∙ ap (λ j. get_or (worked_fixing ledger.n call.input).power j no_power) (r.old_new i p))
          ∙ sym (power_in ledger call passed i k p q)

    abbrev other : Ledger
    other = renumbered_ledger r ledger

    other_moved : sound ledger ≡ true → other ≡ moved_ledger r ledger
    unfolding renumbered_ledger
    other_moved e = rw e

    other_stays : sound ledger ≡ false → other ≡ ledger
    unfolding renumbered_ledger
    other_stays e = rw e

    verdict_same : fixing_verdict other given ≡ fixing_verdict ledger call
    unfolding fixing_verdict moved_ledger
    verdict_same = go (sound ledger) refl (call_lengths ledger.n call) refl
      where
        go : (a : Bool) → sound ledger ≡ a → (b : Bool) → call_lengths ledger.n call ≡ b →
            fixing_verdict other given ≡ fixing_verdict ledger call
        go false e b f =
            ap (λ l. fixing_verdict l given) (other_stays e)
            ∙ unsound_refused ledger given e ∙ sym (unsound_refused ledger call e)
        go true e false f =
            ap (λ l. fixing_verdict l given) (other_moved e)
            ∙ length_refused (moved_ledger r ledger) given (sound_moved ledger r (sound_facts ledger e).few ∙ e)
            (lengths_kept r call given c ∙ f)
            ∙ sym (length_refused ledger call e f)
        go true e true f = ap (λ l. fixing_verdict l given) (other_moved e) ∙ ap verdict_of (checks_same e f)

    answer_same : fixing_answer other given ≡ fixing_answer ledger call
    unfolding fixing_answer
    answer_same = go (fixing_verdict ledger call) refl
      where
        go : (v : Verdict) → fixing_verdict ledger call ≡ v → fixing_answer other given ≡ fixing_answer ledger call
        go (Ok _) e = ap (λ l. fixing_answer l given) (other_moved (whole e)) ∙ answer_moved e
        go (Err refusal) e = rw (verdict_same, e)

    ledger_same : fixing_ledger other given ≡ renumbered_ledger r (fixing_ledger ledger call)
    unfolding fixing_ledger renumbered_ledger
    ledger_same = go (fixing_verdict ledger call) refl
      where
        go : (v : Verdict) → fixing_verdict ledger call ≡ v →
            fixing_ledger other given ≡ renumbered_ledger r (fixing_ledger ledger call)
        go (Ok _) e =
            ap (λ l. fixing_ledger l given) (other_moved (whole e)) ∙ booked e
            ∙ sym (rw (fixing_keeps ledger call (whole e)))
        go (Err refusal) e = rw (verdict_same, e)

    sound_before : sound (fixing_ledger ledger call) ≡ true → sound ledger ≡ true
    unfolding fixing_ledger
    sound_before h = go (fixing_verdict ledger call) refl
      where
        go : (v : Verdict) → fixing_verdict ledger call ≡ v → sound ledger ≡ true
        go (Ok _) e = whole e
        go (Err refusal) e = rw e at h

    pub same_under : (first second : HandedBack) → HandsBack ledger call first → HandsBack other given second →
        SameUnder r first second
    unfolding renumbered_ledger
    same_under first second p q =
        let ledgers : second.ledger ≡ renumbered_ledger r first.ledger =
        q.booked ∙ ledger_same ∙ ap (renumbered_ledger r) (sym p.booked) in
        record {
          answer = q.answered ∙ answer_same ∙ sym p.answered;
          ledger = ledgers;
          entries = λ e.
              let before = sound_facts ledger (sound_before (ap sound (sym p.booked) ∙ e)) in
              rw (ledgers, e) (entries_moved r before.few first.ledger);
          prices = λ a.
              let e = accepted_passed ledger call first p a in
              rw (p.listed, q.listed, other_moved (whole e)) (accepted_prices e);
          power = λ a.
              let e = accepted_passed ledger call first p a in
              rw (p.power_listed, q.power_listed, other_moved (whole e)) (accepted_power e);
        }
