-- What an accepted fixing wrote: the prices of document 01, with a smallest largest charge, and the average power
-- prices of document 02. Assumes nothing.
use mathlib.Core.Path.{◌≡◌, refl, ◌∙◌, ap, ap₂}
use mathlib.Core.Bool.{true}
use mathlib.Core.List.{List}
use Prim.Native.Nat.{ℕ, zero, suc, ◌+◌, ◌-◌, ◌*◌, ◌≤◌, ◌<◌}
use native.Mathlib.Omega.{arith}
use lib.ListN.{length, get_or}
use lib.IntN.{ℤ, pos, ◌-ℤ◌, ◌*ℤ◌}
use Rattle.numbers.specs.Bounded.{list_below}
use Rattle.numbers.specs.Refusal.{is_passed}
use Rattle.numbers.specs.Units.{no_price, no_power}
use Rattle.numbers.specs.declared.units.PesoPrice.{PesoPrice}
use Rattle.numbers.proofs.ListLaws.{list_length, list_at}
use Rattle.numbers.proofs.SignedLaws.{pos_le, signed_sum_same}
use Rattle.fixing.specs.Limit.{Distributors, InRange, contract_total, limit, final_price, charge, collected}
use Rattle.fixing.specs.Charge.{greater, greatest_up_to, prices_collect, largest_charge}
use Rattle.fixing.specs.Prices.{fixed_prices, charge_list}
use Rattle.fixing.specs.Input.{input_averages, input_power, input_energies, input_distributors}
use Rattle.fixing.specs.Fixing.{accepted_fixing}
use Rattle.fixing.specs.declared.fix.Fixing.{Fixing}
use Rattle.fixing.proofs.LimitLaws.{final_limit, rounds_few, collects, smallest_largest, collect_whole}
use Rattle.fixing.proofs.FixingLaws.{final_at, charge_at_lem}
use Rattle.fixing.proofs.PowerLaws.{input_power_lem}
use Rattle.ledger.specs.Sound.{sound}
use Rattle.ledger.specs.Fix.{FixingCall, fixing_verdict, fixing_list, price_list, price_word}
use Rattle.ledger.specs.Fix.{average_power_list, fixing_power_list}
use Rattle.ledger.specs.declared.ledger.Ledger.{Ledger}
use Rattle.ledger.proofs.SoundFacts.{sound_facts}
use Rattle.ledger.proofs.CallLaws.{fixing_passed, right_lengths, passed_range}
use Rattle.ledger.proofs.FixLaws.{word_at_lem}
use Rattle.fixing.proofs.VerdictLaws.{passed_fixing}
use Rattle.history.specs.History.{written_final, WrittenPrices, WrittenPower}

-- prices that agree below n collect the same and have the same largest charge
greatest_same : (k : ℕ) (f g : ℕ → ℤ) → ((i : ℕ) → i ≤ k → f i ≡ g i) → greatest_up_to k f ≡ greatest_up_to k g
unfolding greatest_up_to
greatest_same zero f g h = h 0 (omega arith)
greatest_same (suc k) f g h =
    ap₂ greater (greatest_same k f g (λ i p. h i (omega arith))) (h (suc k) (omega arith))

module _ (d : Distributors) (f g : ℕ → ℤ) (h : (i : ℕ) → i < d.count → f i ≡ g i) where
  collect_same : prices_collect d f ≡ prices_collect d g
  unfolding prices_collect
  collect_same =
      signed_sum_same d.count (λ i. f i *ℤ pos (d.energy i)) (λ i. g i *ℤ pos (d.energy i))
      (λ i p. ap (λ (z : ℤ). z *ℤ pos (d.energy i)) (h i p))

  largest_same : 1 ≤ d.count → largest_charge d f ≡ largest_charge d g
  unfolding largest_charge
  largest_same some =
      greatest_same (d.count - 1) (λ i. f i -ℤ pos (d.average i)) (λ i. g i -ℤ pos (d.average i))
      (λ i p. ap (λ (z : ℤ). z -ℤ pos (d.average i)) (h i (omega arith)))

-- a fixing that was accepted
module _ (ledger : Ledger) (call : FixingCall) (h : sound ledger ≡ true)
    (e : is_passed (fixing_verdict ledger call) ≡ true) where
  abbrev d : Distributors
  d = input_distributors ledger.n call.input

  abbrev averages : List PesoPrice
  averages = input_averages ledger.n call.input

  abbrev finals : List PesoPrice
  finals = (fixed_prices d).finals

  abbrev charges : List ℤ
  charges = charge_list d

  range : InRange d
  unfolding input_distributors
  range =
      let g = sound_facts ledger h in
      let f = fixing_passed ledger call e in
      passed_range ledger.n call g.some g.few f.lengths f.passed

  list_is : fixing_list ledger call ≡ list_below (ledger.n * 3) (price_word averages finals charges)
  unfolding fixing_list price_list accepted_fixing input_distributors
  list_is =
      rw e
      (ap (λ (x : Fixing). list_below (ledger.n * 3) (price_word x.averages x.prices.finals x.charges))
      (passed_fixing ledger.n call.input))

  final_is : (i : ℕ) → i < ledger.n → (get_or finals i no_price).0 ≡ final_price d i
  unfolding input_distributors
  final_is i p = final_at ledger.n averages (input_energies call.input) range i p

  charge_is : (i : ℕ) → i < ledger.n → get_or charges i (pos 0) ≡ charge d i
  unfolding input_distributors
  charge_is i p = charge_at_lem ledger.n averages (input_energies call.input) range i p

  final_written : (i : ℕ) → i < ledger.n → written_final (fixing_list ledger call) i ≡ pos (final_price d i)
  final_written i p =
      ap (λ l. written_final l i) list_is
      ∙ word_at_lem ledger.n averages finals charges i p (i * 3 + 1) 1 refl (omega arith)
      ∙ ap pos (final_is i p)

  pub written : WrittenPrices ledger.n d (fixing_list ledger call)
  unfolding input_distributors collected
  written =
      let same = final_written in
      record {
        words = ap length list_is ∙ list_length (price_word averages finals charges) (ledger.n * 3);
        average = λ i p.
            ap (λ l. get_or l (i * 3) (pos 0)) list_is
            ∙ word_at_lem ledger.n averages finals charges i p (i * 3) 0 (omega arith) (omega arith);
        final = same;
        charged = λ i p.
            ap (λ l. get_or l (i * 3 + 2) (pos 0)) list_is
            ∙ word_at_lem ledger.n averages finals charges i p (i * 3 + 2) 2 refl (omega arith)
            ∙ charge_is i p;
        limited = λ i p. rw (same i p) (pos_le (final_price d i) (limit d) (final_limit d range i p));
        collects =
            rw (
              collect_same d (written_final (fixing_list ledger call)) (λ i. pos (final_price d i)) same,
              collect_whole d
                  (final_price d),
            )
            (pos_le (contract_total d) (collected d) (collects d range));
        smallest = λ price below enough.
            rw (largest_same d (written_final (fixing_list ledger call)) (λ i. pos (final_price d i)) same range.some)
            (smallest_largest d range price below enough);
        few = rounds_few d range;
      }

  -- the power list
  power_is : fixing_power_list ledger call ≡ list_below ledger.n
      (λ i. (get_or (input_power ledger.n call.input) i no_power).0)
  unfolding fixing_power_list average_power_list accepted_fixing
  power_is =
      rw e
      (ap (average_power_list ledger.n) (passed_fixing ledger.n call.input))

  pub power_written : WrittenPower ledger.n call.input (fixing_power_list ledger call)
  power_written =
      let g = sound_facts ledger h in
      let right = right_lengths ledger.n call g.some g.few (fixing_passed ledger call e).lengths in
      record {
        words = ap length power_is ∙ list_length _ ledger.n;
        average = λ i p.
            ap (λ l. get_or l i 0) power_is
            ∙ list_at (λ i. (get_or (input_power ledger.n call.input) i no_power).0) ledger.n 0 i p
            ∙ input_power_lem ledger.n call.input g.few right.lines i p;
      }
