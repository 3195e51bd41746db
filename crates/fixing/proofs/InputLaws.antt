-- Checked lines give distributors in range of the limit: each average keeps the bounds of the references that it is a
-- mean of, each energy is at least 1, and all energies together are those of at most 256 lines. Assumes nothing.
use mathlib.Core.Path.{◌≡◌, ap}
use mathlib.Core.Bool.{Bool, true, false, cond}
use mathlib.Core.List.{List}
use Prim.Native.Nat.{ℕ, zero, suc, ◌+◌, ◌*◌, ◌≤◌, ◌<◌}
use native.Mathlib.Omega.{arith}
use native.Mathlib.Nat.{mul-le-mul_right}
use native.Mathlib.Decide.{ℕ_discrete}
use lib.Dec.{eqb}
use lib.ListN.{get_or}
use borrow.Author.Tests.{eq-eqb, ne_eqb}
use Rattle.numbers.specs.Bounded.{sum_below}
use Rattle.numbers.specs.Units.{no_price, no_energy, least_price, most_price}
use Rattle.numbers.specs.Sizes.{most_distributors}
use Rattle.numbers.specs.declared.units.PesoPrice.{PesoPrice}
use Rattle.numbers.specs.declared.units.Energy.{Energy}
use Rattle.numbers.proofs.SumLaws.{sum_same, sum_le, sum_add, sum_scale, sum_le_sum}
use Rattle.numbers.proofs.ListLaws.{filled_at}
use Rattle.numbers.proofs.RoundingLaws.{half_up_ge, half_up_le}
use Rattle.supply.specs.Line.{most_lines, line_count, line_of}
use Rattle.supply.specs.Range.{lines_in_range}
use Rattle.supply.proofs.RangeLaws.{checked_lines, lines_distributor}
use Rattle.fixing.specs.Limit.{InRange, total_energy, distributors}
use Rattle.fixing.specs.Average.{own_part, own_sum, lines_amount, supplied_energy, average_price, energy_list}
use Rattle.fixing.specs.Average.{average_list}
use Rattle.fixing.specs.Required.{OwnLines, AcceptedLines}
use Rattle.fixing.proofs.AverageLaws.{amount_within, energy_at, supplied_some}

pub own_lines : (n : ℕ) (lines : List ℕ) → n ≤ most_distributors → line_count lines ≤ most_lines →
    lines_in_range n lines ≡ true → OwnLines lines
own_lines n lines few count h =
    record {
      checked = checked_lines n lines count h;
      distributor = λ j p. omega (arith, lines_distributor n lines h j p);
    }

pick_le : (b : Bool) (x y m : ℕ) → m * x ≤ y → m * cond b x 0 ≤ cond b y 0
pick_le true x y m h = h
pick_le false x y m h = omega arith

-- what distributors before the k-th get of a line: its amount at most
own_none : (k amount own : ℕ) → k ≤ own → sum_below k (λ i. cond (eqb own i) amount 0) ≤ k * 0
own_none k amount own p =
    sum_le k 0 (λ i. cond (eqb own i) amount 0) (λ i q. rw (ne_eqb own i (λ e. omega arith)) (omega arith))

own_once : (k amount own : ℕ) → sum_below k (λ i. cond (eqb own i) amount 0) ≤ amount
unfolding sum_below
own_once zero amount own = omega arith
own_once (suc k) amount own = go (ℕ_discrete own k) (own_once k amount own)
  where
    go : Dec (own ≡ k) → sum_below k (λ i. cond (eqb own i) amount 0) ≤ amount →
        sum_below k (λ i. cond (eqb own i) amount 0) + cond (eqb own k) amount 0 ≤ amount
    go (yes e) ih = rw (eq-eqb own k e) (omega (arith, own_none k amount own (omega arith)))
    go (no e) ih = rw (ne_eqb own k e) (omega arith)

-- all energies together are those of the lines
energies_most : (n : ℕ) (lines : List ℕ) → OwnLines lines → (m : ℕ) → m ≤ line_count lines →
    sum_below n (λ i. sum_below m (own_part lines (λ j. (line_of lines j).energy) i)) ≤ m * 10000000
unfolding own_part sum_below
energies_most n lines ok zero p = omega (arith, sum_le n 0 (λ i. 0) (λ i q. omega arith))
energies_most n lines ok (suc m) p =
    let ih = energies_most n lines ok m (omega arith) in
    omega (
      arith,
      sum_add n (λ i. sum_below m (λ j. cond (eqb (line_of lines j).distributor i) (line_of lines j).energy 0))
          (λ i. cond (eqb (line_of lines m).distributor i) (line_of lines m).energy 0),
      own_once n (line_of lines m).energy (line_of lines m).distributor,
      (ok.checked.facts m (omega arith)).energy_most,
    )

module _ (n : ℕ) (prices : List PesoPrice) (lines : List ℕ) (ok : AcceptedLines n prices lines) where
  abbrev price : ℕ → ℕ
  price j = (get_or prices j no_price).0

  abbrev energy_of : ℕ → ℕ
  energy_of j = (line_of lines j).energy

  -- amounts at the references lie between the energy at the least and at the greatest price
  amount_least : (i : ℕ) → least_price * supplied_energy lines i ≤ lines_amount price lines i
  unfolding supplied_energy lines_amount own_sum own_part
  amount_least i =
      rw (← sum_scale (line_count lines) least_price (own_part lines energy_of i))
      (sum_le_sum (line_count lines) _ _
      (λ j p. pick_le (eqb (line_of lines j).distributor i) (energy_of j) (price j * energy_of j) least_price
      (mul-le-mul_right (energy_of j) (ok.least j p))))

  amount_most : (i : ℕ) → lines_amount price lines i ≤ most_price * supplied_energy lines i
  amount_most = amount_within price lines most_price ok.priced.priced

  module _ (i : ℕ) (p : i < n) where
    some : 1 ≤ supplied_energy lines i
    some = supplied_some n lines ok.priced.own ok.supplied i p

    average_is : (get_or (average_list n prices lines) i no_price).0 ≡ average_price price lines i
    unfolding average_list
    average_is =
        ap (λ x. x.0) (filled_at most_distributors no_price (λ k. record { 0 = average_price price lines k }) n i p
        (omega (arith, ok.few)))

    average_least : least_price ≤ average_price price lines i
    unfolding average_price
    average_least = half_up_ge (lines_amount price lines i) (supplied_energy lines i) some least_price (amount_least i)

    average_most : average_price price lines i ≤ most_price
    unfolding average_price
    average_most = half_up_le (lines_amount price lines i) (supplied_energy lines i) some most_price (amount_most i)

  -- the distributors that the limit is worked from are in its range
  pub accepted_range : InRange (distributors n (average_list n prices lines) (energy_list lines))
  unfolding total_energy supplied_energy own_sum
  accepted_range =
      let energy : (i : ℕ) → i < n → (get_or (energy_list lines) i no_energy).0 ≡ supplied_energy lines i =
      λ i p. energy_at lines i (omega (arith, ok.few)) in
      record {
        some = ok.some;
        few = ok.few;
        least = λ i p. omega (arith, average_is i p, average_least i p);
        most = λ i p. omega (arith, average_is i p, average_most i p);
        supplied = λ i p. omega (arith, energy i p, some i p);
        total =
            omega (
              arith,
              sum_same n (λ i. (get_or (energy_list lines) i no_energy).0) (supplied_energy lines) energy,
              energies_most n lines ok.priced.own (line_count lines) (omega arith),
              ok.priced.own.checked.few,
            );
      }

  -- the same for lists that are told to be these
  pub listed_range : (averages : List PesoPrice) (energies : List Energy) → averages ≡ average_list n prices lines →
      energies ≡ energy_list lines →
      InRange (distributors n averages energies)
  listed_range averages energies e f = rw (e, f) accepted_range
