-- The laws of the limit, for every input in range, as theorems about the definitions alone (no code).
-- Assumes nothing.
use mathlib.Core.Path.{◌≡◌, refl, sym, ◌∙◌, ap}
use mathlib.Core.Bool.{Bool, true, false, cond, not, ◌&&◌, ◌||◌}
use Rattle.std.specs.Prelude.{Option, Some, None}
use Prim.Native.Nat.{ℕ, zero, suc, ◌+◌, ◌-◌, ◌*◌, ◌≤◌, ◌<◌, min}
use native.Mathlib.Omega.{arith}
use native.Mathlib.Decide.{dec_lt}
use native.Mathlib.Nat.{zero-add, mul-le-mul, mul-le-mul_right, mul-lt-mul_of_pos_right, lt_of_mul-lt-mul_left}
use native.Mathlib.Nat.{lt-div-mul-add, le-div_iff_mul-le, div-le_of_le-mul}
use lib.Dec.{eqb}
use lib.IntN.{ℤ, pos, negsuc, nat_abs, ◌+ℤ◌, ◌-ℤ◌, ◌*ℤ◌}
use lib.Signed.{◌≤ℤ◌}
use Rattle.numbers.specs.Bounded.{sum_below}
use Rattle.numbers.specs.Signed.{positive_part, signed_sum_below}
use Rattle.numbers.proofs.SumLaws.{sum_same, sum_le, sum_ge, sum_le_sum, sum_part, sum_add, sum_scale}
use Rattle.numbers.proofs.TestLaws.{any_none}
use Rattle.numbers.proofs.FirstLaws.{first_is, first_never}
use Rattle.numbers.proofs.RoundingLaws.{half_up_le, away_size}
use Rattle.numbers.proofs.SignedLaws.{sub_ge, sub_cases, size_mul}
use Rattle.fixing.specs.Limit.{Distributors, InRange, contract_total, total_energy, limit, sum_inside, sum_outside}
use Rattle.fixing.specs.Limit.{round_surcharge, above_limit, capped_after, joins_after, any_joins_after, any_above}
use Rattle.fixing.specs.Limit.{or_zero, rounds_before_last, rounds, capped, surcharge, final_price, charge, collected}
use Rattle.fixing.specs.Limit.{residue}
use Rattle.fixing.specs.Charge.{prices_collect, largest_charge, collected_at}
use Rattle.fixing.specs.Sector.{sector_charge}
use Rattle.numbers.proofs.SearchLaws.{any_where, any_some, any_adds, sum_lt, Fails, first_fails}
use Rattle.fixing.proofs.PriceLaws.{paid_inside, energy_inside, energy_outside, inside_outside, above_true}
use Rattle.fixing.proofs.PriceLaws.{above_false, price_min, collected_by, collected_by_lem, collected_same}
use Rattle.fixing.proofs.RoundLaws.{Before, inside_pays, round_outside, round_covers, round_least, round_below}
use Rattle.fixing.proofs.RoundLaws.{round_short, round_rises, round_next}
use Rattle.fixing.proofs.GreatestLaws.{greatest_at, greatest_le, charge_le, price_le, price_lt, part_le}
use Rattle.fixing.proofs.GreatestLaws.{signed_collect}

-- the surcharge of the round before: 0 before the first round
unfoldable pub surcharge_before : Distributors → ℕ → ℕ
surcharge_before d zero = 0
surcharge_before d (suc k) = round_surcharge d (capped_after d k)

-- how many are inside the set after k rounds, and how many outside it
abbrev insiders : Distributors → ℕ → ℕ
insiders d k = sum_inside d (capped_after d k) (λ i. 1)

abbrev outsiders : Distributors → ℕ → ℕ
outsiders d k = sum_outside d (capped_after d k) (λ i. 1)

-- one distributor's part: inside after a round it is what it was before, or what it is among those who join; and its
-- energy by its part in the count of those outside
join_part : (c a : Bool) (x : ℕ) → cond (c || a) x 0 ≡ cond c x 0 + cond (not c && a) x 0
join_part true a x = omega arith
join_part false a x = omega arith

count_le : (c : Bool) (x most : ℕ) → x ≤ most → cond c 0 x ≤ most * cond c 0 1
count_le true x most h = omega arith
count_le false x most h = omega arith

-- one that does not join is in the set exactly if the surcharge puts it above the limit
settled : (c a : Bool) → (c || a) ≡ a → (not c && a) ≡ false → c ≡ a
settled true a h k = h
settled false a h k = sym k

module _ (d : Distributors) (r : InRange d) where
  -- the limit is above the mean price by more than 49, and lies in 1,050 to 2,100,000
  pub energy_some : 0 < total_energy d
  unfolding total_energy
  energy_some = omega (arith, r.some, sum_ge d.count 1 d.energy r.supplied)

  total_least : 1000 * total_energy d ≤ contract_total d
  unfolding total_energy contract_total
  total_least =
      rw (← sum_scale d.count 1000 d.energy)
      (sum_le_sum d.count _ _ (λ i p. mul-le-mul_right (d.energy i) (r.least i p)))

  pub total_most : contract_total d ≤ 2000000 * total_energy d
  unfolding total_energy contract_total
  total_most =
      rw (← sum_scale d.count 2000000 d.energy)
      (sum_le_sum d.count _ _ (λ i p. mul-le-mul_right (d.energy i) (r.most i p)))

  pub limit_over : contract_total d + 49 * total_energy d < limit d * total_energy d
  unfolding limit
  limit_over =
      omega (
        arith,
        total_least,
        energy_some,
        lt-div-mul-add {a = 105 * contract_total d} {b = 100 * total_energy d}
            (omega (arith, energy_some)),
      )

  pub limit_least : 1050 ≤ limit d
  unfolding limit
  limit_least =
      (le-div_iff_mul-le {k = 100 * total_energy d} (omega (arith, energy_some))).1 (omega (arith, total_least))

  pub limit_most : limit d ≤ 2100000
  unfolding limit
  limit_most = div-le_of_le-mul (100 * total_energy d) (omega (arith, total_most))

  -- what is known before every round
  mean_below : contract_total d < limit d * total_energy d
  mean_below = omega (arith, limit_over)

  before : (k : ℕ) → Before d (capped_after d k) (surcharge_before d k)
  unfolding capped_after surcharge_before
  before zero = record { told = λ i p. refl; short = λ s p. absurd (omega arith) }
  before (suc k) = round_next d mean_below (capped_after d k) _ (before k)

  -- before every round: somebody is outside; the set is told by one number; the surcharge is at most the limit and
  -- does not fall
  pub outside_some : (k : ℕ) → 0 < sum_outside d (capped_after d k) d.energy
  outside_some k = round_outside d mean_below (capped_after d k) _ (before k)

  pub capped_above : (k i : ℕ) → i < d.count → capped_after d k i ≡ above_limit d (surcharge_before d k) i
  capped_above k = (before k).told

  pub round_most : (k : ℕ) → round_surcharge d (capped_after d k) ≤ limit d
  round_most k = omega (arith, round_below d mean_below (capped_after d k) _ (before k))

  pub surcharge_rises : (k : ℕ) → surcharge_before d k ≤ round_surcharge d (capped_after d k)
  surcharge_rises k = round_rises d mean_below (capped_after d k) _ (before k)

  -- somebody above the limit: without a surcharge the contract total does not come in
  somebody_above : any_above d ≡ true → (i : ℕ) × (i < d.count) × (limit d < d.average i)
  unfolding any_above
  somebody_above h =
      let w = any_where d.count _ h in
      (w.at, w.below, omega (arith, above_true d 0 w.at w.holds))

  above_short : any_above d ≡ true → collected_at d 0 < contract_total d
  unfolding collected_at contract_total
  above_short h =
      let (i, below, above) = somebody_above h in
      sum_lt d.count _ _ (λ j p. mul-le-mul_right (d.energy j) (omega arith)) i below
      (mul-lt-mul_of_pos_right (omega arith) (r.supplied i below))

  -- once somebody is above the limit the set pays more than the limit in every round, so that the difference of the
  -- two sums is the paper's signed sum
  pub inside_over : any_above d ≡ true → (k : ℕ) →
      limit d * sum_inside d (capped_after d k) d.energy < sum_inside d (capped_after d k)
      (λ i. d.average i * d.energy i)
  inside_over h k =
      omega
      (arith, inside_pays d (capped_after d k) _ (before k) 1 (omega arith) (omega (arith, above_short h)))

  -- a round adds those who join. Each energy is at least 1, so that the energy inside tells whether anybody is in the
  -- starting set, and whether anybody joins in a round
  joins_add : (f : ℕ → ℕ) (k : ℕ) →
      sum_inside d (capped_after d (suc k)) f ≡ sum_inside d (capped_after d k) f + sum_inside d (joins_after d k) f
  unfolding sum_inside capped_after joins_after
  joins_add f k = sum_same d.count _ _ (λ i p. join_part (capped_after d k i) _ (f i)) ∙ sum_add d.count _ _

  pub above_energy : any_above d ≡ not (eqb (sum_inside d (capped_after d 0) d.energy) 0)
  unfolding any_above capped_after sum_inside
  above_energy = any_adds d.count _ d.energy r.supplied 0 _ (sym (zero-add _))

  pub joins_energy : (k : ℕ) →
      any_joins_after d k ≡ not (eqb (sum_inside d (capped_after d (suc k)) d.energy)
      (sum_inside d (capped_after d k) d.energy))
  unfolding any_joins_after sum_inside
  joins_energy k = any_adds d.count _ d.energy r.supplied _ _ (joins_add d.energy k)

  -- the count of those inside rises while somebody joins, and somebody is always outside
  insiders_rise : (k : ℕ) → any_joins_after d k ≡ true → insiders d k < insiders d (suc k)
  unfolding any_joins_after sum_inside
  insiders_rise k h =
      omega (arith, joins_add (λ i. 1) k, any_some d.count _ (λ i. 1) (λ i p. omega arith) h)

  joined_all : (k : ℕ) → ((j : ℕ) → j < k → any_joins_after d j ≡ true) → insiders d 0 + k ≤ insiders d k
  joined_all zero f = omega arith
  joined_all (suc k) f =
      omega (arith, joined_all k (λ j p. f j (omega arith)), insiders_rise k (f k (omega arith)))

  outsiders_some : (k : ℕ) → 0 < outsiders d k
  unfolding sum_outside total_energy
  outsiders_some k =
      let most : energy_outside d (capped_after d k) ≤ total_energy d * outsiders d k =
      rw (← sum_scale d.count (total_energy d) _)
      (sum_le_sum d.count _ _
      (λ i p. count_le (capped_after d k i) (d.energy i) (total_energy d) (sum_part d.count d.energy i p))) in
      lt_of_mul-lt-mul_left (total_energy d) {m = 0} (omega (arith, outside_some k))

  all_counted : (k : ℕ) → insiders d k + outsiders d k ≤ d.count
  all_counted k =
      omega
      (arith, inside_outside d (capped_after d k) (λ i. 1), sum_le d.count 1 (λ i. 1) (λ i p. omega arith))

  pub joined_below : (k : ℕ) → ((j : ℕ) → j < k → any_joins_after d j ≡ true) → k < d.count
  joined_below k f = omega (arith, joined_all k f, outsiders_some k, all_counted k)

  -- the last round: the search below n does not run out, the round found is the first in which nobody joins, and the
  -- rounds are below n
  pub joined_few : any_above d ≡ true → (k : ℕ) → ((j : ℕ) → j < k → any_joins_after d j ≡ true) → k + 1 < d.count
  unfolding any_above sum_inside capped_after
  joined_few h k f =
      omega
      (arith, joined_all k f, outsiders_some k, all_counted k, any_some d.count _ (λ i. 1) (λ i p. omega arith) h)

  pub last_is : (k : ℕ) → ((j : ℕ) → j < k → any_joins_after d j ≡ true) → any_joins_after d k ≡ false →
      rounds_before_last d ≡ k
  unfolding rounds_before_last
  last_is k f e =
      let stop : ℕ → Option ℕ = λ j. cond (any_joins_after d j) None (Some j) in
      ap or_zero (first_is stop k d.count k (joined_below k f) (first_never stop k (λ j p. rw (f j p))) (rw e))

  last : Fails (any_joins_after d)
  last = first_fails (any_joins_after d) d.count joined_below

  last_found : rounds_before_last d ≡ last.at
  last_found = last_is last.at last.before last.stops

  pub last_stops : any_joins_after d (rounds_before_last d) ≡ false
  last_stops = rw last_found last.stops

  pub before_joins : (k : ℕ) → k < rounds_before_last d → any_joins_after d k ≡ true
  before_joins k p = last.before k (rw last_found at p)

  pub rounds_few : rounds d < d.count
  unfolding rounds
  rounds_few = go (any_above d) refl
    where
      go : (t : Bool) → any_above d ≡ t → cond t (rounds_before_last d + 1) 0 < d.count
      go true e = joined_few e (rounds_before_last d) before_joins
      go false e = r.some

  -- the end, where nobody joins: the set is those whom the surcharge itself puts above the limit. This holds also where
  -- nobody is above the limit, since the surcharge that a round would work is then 0
  at_end : Before d (capped d) (surcharge_before d (rounds_before_last d))
  unfolding capped
  at_end = before (rounds_before_last d)

  nobody_above : any_above d ≡ false → contract_total d ≤ collected_at d 0
  unfolding any_above collected_at contract_total
  nobody_above h =
      sum_le_sum d.count _ _
      (λ i p. mul-le-mul_right (d.energy i) (omega (arith, above_false d 0 i (any_none d.count _ h i p))))

  surcharge_last : surcharge d ≡ round_surcharge d (capped d)
  unfolding surcharge
  surcharge_last = go (any_above d) refl
    where
      none_short : (t : ℕ) → ((s : ℕ) → s < t → collected_at d s < contract_total d) → contract_total d ≤ collected_at d 0 →
          0 ≡ t
      none_short zero f p = refl
      none_short (suc t) f p = absurd (omega (arith, f 0 (omega arith)))

      go : (t : Bool) → any_above d ≡ t → cond t (round_surcharge d (capped d)) 0 ≡ round_surcharge d (capped d)
      go true e = refl
      go false e = none_short _ (round_short d mean_below (capped d) _ at_end) (nobody_above e)

  pub last_told : (i : ℕ) → i < d.count → capped d i ≡ above_limit d (surcharge d) i
  unfolding capped any_joins_after joins_after
  last_told i p =
      rw surcharge_last
      (settled (capped d i) _ ((round_next d mean_below (capped d) _ at_end).told i p)
      (any_none d.count _ last_stops i p))

  -- the final prices
  pub final_min : (i : ℕ) → i < d.count → final_price d i ≡ min (limit d) (d.average i + surcharge d)
  unfolding final_price
  final_min i p = rw (last_told i p) (price_min d i (surcharge d) (surcharge d) (omega arith) (omega arith))

  pub final_limit : (i : ℕ) → i < d.count → final_price d i ≤ limit d
  final_limit i p = omega (arith, final_min i p)

  pub final_least : (i : ℕ) → i < d.count → 1000 ≤ final_price d i
  final_least i p = omega (arith, final_min i p, limit_least, r.least i p)

  pub final_most : (i : ℕ) → i < d.count → final_price d i ≤ 2000000
  unfolding surcharge
  final_most i p = go (any_above d) refl
    where
      go : (t : Bool) → any_above d ≡ t → final_price d i ≤ 2000000
      go true e =
          let (j, below, above) = somebody_above e in
          omega (arith, final_limit i p, r.most j below)
      go false e =
          let idle : surcharge d ≡ 0 = rw e in
          omega (arith, final_min i p, r.most i p)

  -- where nobody is above the limit all charges are 0
  pub idle_charge : any_above d ≡ false → (i : ℕ) → i < d.count → charge d i ≡ pos 0
  unfolding charge surcharge any_above
  idle_charge h i p =
      let idle : surcharge d ≡ 0 = rw h in
      let same : final_price d i ≡ d.average i =
      omega (arith, final_min i p, above_false d 0 i (any_none d.count _ h i p)) in
      sub_ge (final_price d i) (d.average i) (omega arith) ∙ ap pos (omega arith)

  pub charge_size : (i : ℕ) → i < d.count → nat_abs (charge d i) ≤ 2000000
  unfolding charge
  charge_size i p =
      sub_cases (λ z. nat_abs z ≤ 2000000) (final_price d i) (d.average i)
      (λ h. omega (arith, final_most i p))
      (λ h. omega (arith, r.most i p))

  pub surcharge_most : surcharge d ≤ limit d
  unfolding capped
  surcharge_most = rw surcharge_last (round_most (rounds_before_last d))

  -- they collect the contract total, and less than one unit of surcharge more
  collected_paid : collected d + paid_inside d (capped d) ≡ limit d * energy_inside d (capped d) + round_surcharge d
      (capped d) * energy_outside d (capped d) + contract_total d
  unfolding collected final_price collected_by
  collected_paid = rw (← surcharge_last) (collected_by_lem d (capped d) (surcharge d))

  pub collects : contract_total d ≤ collected d
  collects = omega (arith, collected_paid, round_covers d mean_below (capped d) _ at_end)

  pub residue_is : collected d ≡ contract_total d + residue d
  unfolding residue
  residue_is = omega (arith, collects)

  pub residue_few : residue d < sum_outside d (capped d) d.energy
  unfolding residue
  residue_few = omega (arith, collects, collected_paid, round_least d mean_below (capped d) _ at_end)

  -- the surcharge is the least s with the sum of min (L, p_i + s) * E_i at least R
  pub collected_at_lem : collected d ≡ collected_at d (surcharge d)
  unfolding collected final_price collected_by
  collected_at_lem = collected_same d (capped d) (surcharge d) (surcharge d) (omega arith) (omega arith) last_told

  pub surcharge_least : (s : ℕ) → s < surcharge d → collected_at d s < contract_total d
  surcharge_least s p = round_short d mean_below (capped d) _ at_end s (rw surcharge_last at p)

  pub surcharge_enough : (s : ℕ) → contract_total d ≤ collected_at d s → surcharge d ≤ s
  surcharge_enough s h = go (dec_lt s (surcharge d))
    where
      go : Dec (s < surcharge d) → surcharge d ≤ s
      go (yes p) = absurd (omega (arith, surcharge_least s p))
      go (no p) = omega arith

  -- every list of whole prices of either sign, none above the limit, that collects at least R has a largest charge at
  -- least as great
  pub smallest_largest : (q : ℕ → ℤ) → ((i : ℕ) → i < d.count → q i ≤ℤ pos (limit d)) →
      pos (contract_total d) ≤ℤ prices_collect d q → largest_charge d (λ i. pos (final_price d i)) ≤ℤ largest_charge d q
  unfolding prices_collect largest_charge contract_total collected_at
  smallest_largest q h e =
      go (largest_charge d q) (λ i p. greatest_at (d.count - 1) _ i (omega arith))
    where
      -- what the prices collect, a price below 0 taken for 0
      bring : ℕ
      bring = sum_below d.count (λ i. positive_part (q i) * d.energy i)

      reach : contract_total d ≤ bring
      reach = signed_collect d.count (contract_total d) q d.energy e

      -- by the largest charge of the prices: from 0 up it is no less than the surcharge, and below 0 it cannot be
      go : (z : ℤ) → ((i : ℕ) → i < d.count → (q i -ℤ pos (d.average i)) ≤ℤ z) →
          largest_charge d (λ i. pos (final_price d i)) ≤ℤ z
      go (pos m) f =
          let most : bring ≤ collected_at d m =
          sum_le_sum d.count _ _
          (λ i p. mul-le-mul_right (d.energy i)
          (omega (arith, part_le (q i) (limit d) (h i p), price_le (q i) (d.average i) m (f i p)))) in
          let enough : surcharge d ≤ m = surcharge_enough m (omega (arith, reach)) in
          greatest_le (d.count - 1) _ (pos m)
          (λ i p. charge_le (final_price d i) (d.average i) m (omega (arith, final_min i (omega (arith, r.some)))))
      go (negsuc m) f =
          let less : (i : ℕ) → i < d.count → positive_part (q i) < d.average i =
          λ i p. price_lt (q i) (d.average i) m (omega (arith, r.least i p)) (f i p) in
          let short : bring < contract_total d =
          sum_lt d.count _ _ (λ i p. mul-le-mul_right (d.energy i) (omega (arith, less i p)))
          0 r.some (mul-lt-mul_of_pos_right (less 0 r.some) (r.supplied 0 r.some)) in
          absurd (omega (arith, reach))

-- what prices that are not below 0 collect is the plain sum
pub collect_whole : (d : Distributors) (f : ℕ → ℕ) →
    prices_collect d (λ i. pos (f i)) ≡ pos (sum_below d.count (λ i. f i * d.energy i))
unfolding prices_collect signed_sum_below sum_below
collect_whole d f = below d.count
  where
    below : (k : ℕ) → signed_sum_below k (λ i. pos (f i) *ℤ pos (d.energy i)) ≡ pos (sum_below k (λ i. f i * d.energy i))
    below zero = refl
    below (suc k) = ap (λ (z : ℤ). z +ℤ pos (f k * d.energy k)) (below k)

-- a sector's charge is at most five times the charge in size
pub sector_size : (z : ℤ) (f : ℕ) → nat_abs z ≤ 2000000 → f ≤ 50000 → nat_abs (sector_charge z f) ≤ 10000000
unfolding sector_charge
sector_size z f h k =
    rw (away_size (z *ℤ pos f) 10000, size_mul z (pos f))
    (half_up_le (nat_abs z * f) 10000 (omega arith) 10000000 (omega (arith, mul-le-mul h k)))
