-- An input whose lines name new numbers and whose sector factors are moved along (W-207 of document 02): it passes the
-- same checks, and each distributor has the same averages, prices and charges under its new number. Assumes nothing.
use mathlib.Core.Path.{◌≡◌, refl, sym, ◌∙◌, ap, ap₂}
use mathlib.Core.Bool.{false, cond, not, ◌&&◌}
use mathlib.Core.List.{List}
use Prim.Native.Nat.{ℕ, ◌+◌, ◌*◌, ◌/◌, ◌≤◌, ◌<◌}
use native.Mathlib.Omega.{arith}
use lib.Dec.{leb, eqb}
use lib.ListN.{get_or}
use lib.IntN.{ℤ, pos}
use Rattle.numbers.specs.Renumbering.{Renumbering, place_by, moved_along}
use Rattle.numbers.specs.Rounding.{half_up}
use Rattle.numbers.specs.Sizes.{most_distributors, sector_count, sector_places}
use Rattle.numbers.specs.Units.{no_price, no_power, no_energy}
use Rattle.numbers.specs.declared.units.PesoPrice.{PesoPrice}
use Rattle.numbers.specs.declared.units.PowerPrice.{PowerPrice}
use Rattle.numbers.specs.declared.units.Energy.{Energy}
use Rattle.numbers.specs.declared.units.UnsignedPesos.{UnsignedPesos}
use Rattle.numbers.proofs.SumLaws.{sum_same}
use Rattle.numbers.proofs.TestLaws.{any_same}
use Rattle.numbers.proofs.ListLaws.{list_at}
use Rattle.numbers.proofs.RenumberingLaws.{named, all_renumbered, places, place_at, place_whose, moved_at}
use Rattle.numbers.proofs.RenumberingLaws.{filled_old, filled_moved, empty_moved}
use Rattle.supply.specs.Line.{line_count, line_of, renumbered_lines}
use Rattle.supply.specs.Range.{input_in_range}
use Rattle.supply.specs.declared.line.Line.{Line}
use Rattle.supply.proofs.RenumberedLaws.{count_renumbered, line_renumbered, range_renumbered, table_renumbered}
use Rattle.supply.proofs.RenumberedLaws.{references_renumbered, power_renumbered}
use Rattle.fixing.specs.Average.{own_part, own_sum, supplied_energy, lines_amount, average_price, has_line}
use Rattle.fixing.specs.Average.{everyone_supplied, energy_list, average_list}
use Rattle.fixing.specs.Power.{power_averages}
use Rattle.fixing.specs.Limit.{Distributors, charge, distributors}
use Rattle.fixing.specs.Prices.{final_prices, charge_list, fixed_prices}
use Rattle.fixing.specs.Sector.{most_factor, factor_at, sector_present, has_sector, sectors_allowed, sector_charge}
use Rattle.fixing.specs.Sector.{place_charge, filled_places, sector_charges, no_charges, renumbered_charges}
use Rattle.fixing.specs.Input.{FixingInput, index_table, input_mean, input_checks}
use Rattle.fixing.specs.Input.{input_references, input_power_prices, input_power, input_averages, input_energies}
use Rattle.fixing.specs.Fixing.{accepted_fixing, worked_fixing}
use Rattle.fixing.specs.declared.fix.Fixing.{Fixing}
use Rattle.fixing.specs.declared.sector.SectorCharges.{SectorCharges}
use Rattle.fixing.proofs.VerdictLaws.{passed_fixing}
use Rattle.fixing.proofs.RenumberedLimitLaws.{RenumberedDistributors, limit_renumbered, rounds_renumbered}
use Rattle.fixing.proofs.RenumberedLimitLaws.{surcharge_renumbered, final_renumbered, charge_renumbered}
use Rattle.fixing.proofs.RenumberedLimitLaws.{residue_renumbered}

-- an input renumbered, its lists being of right lengths
pub record RenumberedInput {n : ℕ} (r : Renumbering n) (one other : FixingInput) : Type 0 where
  pub numbers : other.numbers ≡ one.numbers
  pub series : other.series ≡ one.series
  pub lines : other.lines ≡ renumbered_lines r one.lines
  pub sectors : other.sectors ≡ moved_along r sector_count 0 (n * sector_count) one.sectors
  pub in_force : other.in_force ≡ one.in_force

-- fixings of which the second has at each number what the first has at the old one
pub record RenumberedFixing {n : ℕ} (r : Renumbering n) (one other : Fixing) : Type 0 where
  pub average : (i : ℕ) → i < n → get_or other.averages i no_price ≡ get_or one.averages (r.old i) no_price
  pub final : (i : ℕ) → i < n → get_or other.prices.finals i no_price ≡ get_or one.prices.finals (r.old i) no_price
  pub charge : (i : ℕ) → i < n → get_or other.charges i (pos 0) ≡ get_or one.charges (r.old i) (pos 0)
  pub power : (i : ℕ) → i < n → get_or other.power i no_power ≡ get_or one.power (r.old i) no_power
  pub limit : other.prices.limit ≡ one.prices.limit
  pub surcharge : other.prices.surcharge ≡ one.prices.surcharge
  pub rounds : other.prices.rounds ≡ one.prices.rounds
  pub residue : other.prices.residue ≡ one.prices.residue
  pub sectors : other.sectors ≡ renumbered_charges r one.sectors

-- what lines add up to
module _ {n : ℕ} (r : Renumbering n) (lines : List ℕ) where
  whose_renumbered : (i j : ℕ) → i < n → j < line_count lines →
      eqb (line_of (renumbered_lines r lines) j).distributor i ≡ eqb (line_of lines j).distributor (r.old i)
  whose_renumbered i j p q =
      ap (λ (line : Line). eqb line.distributor i) (line_renumbered r lines j q) ∙ named r _ i p

  own_renumbered : (f g : ℕ → ℕ) → ((j : ℕ) → j < line_count lines → g j ≡ f j) → (i : ℕ) → i < n →
      own_sum (renumbered_lines r lines) g i ≡ own_sum lines f (r.old i)
  unfolding own_sum own_part
  own_renumbered f g h i p =
      rw (count_renumbered r lines)
      (sum_same (line_count lines) _ _ (λ j q. ap₂ (λ b x. cond b x 0) (whose_renumbered i j p q) (h j q)))

  energy_line : (j : ℕ) → j < line_count lines → (line_of (renumbered_lines r lines) j).energy ≡ (line_of lines j).energy
  energy_line j q = ap (λ (line : Line). line.energy) (line_renumbered r lines j q)

  energy_renumbered : (i : ℕ) → i < n → supplied_energy (renumbered_lines r lines) i ≡ supplied_energy lines (r.old i)
  unfolding supplied_energy
  energy_renumbered = own_renumbered _ _ energy_line

  average_renumbered : (price : ℕ → ℕ) (i : ℕ) → i < n →
      average_price price (renumbered_lines r lines) i ≡ average_price price lines (r.old i)
  unfolding average_price lines_amount
  average_renumbered price i p =
      ap₂ half_up (own_renumbered _ _ (λ j q. ap (λ e. price j * e) (energy_line j q)) i p) (energy_renumbered i p)

  supplied_renumbered : everyone_supplied n (renumbered_lines r lines) ≡ everyone_supplied n lines
  unfolding everyone_supplied has_line
  supplied_renumbered =
      all_renumbered r _ _ (λ i p. rw (count_renumbered r lines)
      (any_same (line_count lines) _ _ (λ j q. whose_renumbered i j p q)))

-- sector factors
module _ {n : ℕ} (r : Renumbering n) (sectors : List ℕ) where
  abbrev factors : List ℕ
  factors = moved_along r sector_count 0 (n * sector_count) sectors

  factor_renumbered : (k : ℕ) → k < n * sector_count →
      factor_at factors k ≡ factor_at sectors (place_by n r.old sector_count k)
  factor_renumbered k p = moved_at r sector_count 0 (n * sector_count) sectors k p

  present_renumbered : (k : ℕ) → k < n * sector_count →
      sector_present factors k ≡ sector_present sectors (place_by n r.old sector_count k)
  unfolding sector_present
  present_renumbered k p = ap (λ x. not (eqb x 0)) (factor_renumbered k p)

  sectors_renumbered : sectors_allowed n factors ≡ sectors_allowed n sectors
  unfolding sectors_allowed has_sector
  sectors_renumbered =
      ap₂ ◌&&◌
      (all_renumbered (places sector_count r n (omega arith)) _ _
      (λ k p. ap (λ x. leb x most_factor) (factor_renumbered k p)))
      (all_renumbered r _ _ (λ i p. any_same sector_count _ _ (λ s q.
      present_renumbered (i * sector_count + s) (omega arith)
      ∙ ap (sector_present sectors) (place_at r sector_count r.old i s p q))))

  charges_renumbered : n ≤ most_distributors → (f g : ℕ → ℤ) → ((i : ℕ) → i < n → g i ≡ f (r.old i)) →
      sector_charges n g factors ≡ renumbered_charges r (sector_charges n f sectors)
  unfolding sector_charges filled_places place_charge renumbered_charges
  charges_renumbered few f g h =
      ap₂ {C = SectorCharges} (λ p q. record { present = p; charges = q })
      (filled_moved r sector_count false sector_places _ _ (omega arith) (omega arith) present_renumbered)
      (filled_moved r sector_count (pos 0) sector_places _ _ (omega arith) (omega arith) (λ k p.
      ap₂ sector_charge
      (h (k / sector_count) (omega arith) ∙ ap f (sym (place_whose r sector_count r.old k p)))
      (factor_renumbered k p)))

-- nothing in force
pub none_renumbered : {n : ℕ} (r : Renumbering n) → n ≤ most_distributors → renumbered_charges r no_charges ≡ no_charges
unfolding renumbered_charges no_charges filled_places
none_renumbered r few =
    ap₂ {C = SectorCharges} (λ p q. record { present = p; charges = q })
    (empty_moved r sector_count false most_distributors (λ k. false) few)
    (empty_moved r sector_count (pos 0) most_distributors (λ k. pos 0) few)

module _ {n : ℕ} (r : Renumbering n) (one other : FixingInput) (h : RenumberedInput r one other) where
  -- it meets the same causes, with the same line and term
  pub input_checks_lem : input_checks n other ≡ input_checks n one
  unfolding input_checks input_in_range
  input_checks_lem =
      rw (
        h.numbers,
        h.series,
        h.lines,
        h.sectors,
        h.in_force,
        range_renumbered r one.lines,
        sectors_renumbered r one.sectors,
        supplied_renumbered r one.lines,
        table_renumbered r one.lines (index_table one) one.numbers one.in_force,
      )

  references_same : input_references other ≡ input_references one
  unfolding input_references
  references_same =
      rw (h.numbers, h.series, h.lines, h.in_force)
      (references_renumbered r one.lines (input_mean one) one.numbers one.in_force)

  power_same : input_power_prices other ≡ input_power_prices one
  unfolding input_power_prices
  power_same =
      rw (h.numbers, h.series, h.lines) (power_renumbered r one.lines (input_mean one) one.numbers)

  module _ (few : n ≤ most_distributors) where
    averages_renumbered : (i : ℕ) → i < n →
        get_or (input_averages n other) i no_price ≡ get_or (input_averages n one) (r.old i) no_price
    unfolding input_averages average_list
    averages_renumbered =
        rw (references_same, h.lines)
        (filled_old r most_distributors no_price _ _ few
        (λ i p. ap {B = PesoPrice} (λ x. record { 0 = x }) (average_renumbered r one.lines _ i p)))

    power_averages_renumbered : (i : ℕ) → i < n →
        get_or (input_power n other) i no_power ≡ get_or (input_power n one) (r.old i) no_power
    unfolding input_power power_averages
    power_averages_renumbered =
        rw (power_same, h.lines)
        (filled_old r most_distributors no_power _ _ few
        (λ i p. ap {B = PowerPrice} (λ x. record { 0 = x }) (average_renumbered r one.lines _ i p)))

    energies_renumbered : (i : ℕ) → i < n →
        (get_or (input_energies other) i no_energy).0 ≡ (get_or (input_energies one) (r.old i) no_energy).0
    unfolding input_energies energy_list
    energies_renumbered i p =
        ap (λ (x : Energy). x.0) (list_at _ most_distributors no_energy i (omega arith))
        ∙ rw h.lines (energy_renumbered r one.lines i p)
        ∙ sym (ap (λ (x : Energy). x.0) (list_at _ most_distributors no_energy (r.old i)
        (omega (arith, r.old_below i p))))

    abbrev before : Distributors
    before = distributors n (input_averages n one) (input_energies one)

    abbrev after : Distributors
    after = distributors n (input_averages n other) (input_energies other)

    distributors_renumbered : RenumberedDistributors before after r
    distributors_renumbered =
        record {
          count = refl;
          average = λ i p. ap (λ (x : PesoPrice). x.0) (averages_renumbered i p);
          energy = energies_renumbered;
        }

    pub fixing_renumbered : RenumberedFixing r (worked_fixing n one) (worked_fixing n other)
    unfolding accepted_fixing fixed_prices final_prices charge_list
    fixing_renumbered =
        let d = distributors_renumbered in
        rw (passed_fixing n one, passed_fixing n other)
        (record {
          average = averages_renumbered;
          final =
              filled_old r most_distributors no_price _ _ few
              (λ i b. ap {B = PesoPrice} (λ x. record { 0 = x }) (final_renumbered before after r d i b));
          charge = filled_old r most_distributors (pos 0) _ _ few (charge_renumbered before after r d);
          power = power_averages_renumbered;
          limit = ap {B = PesoPrice} (λ x. record { 0 = x }) (limit_renumbered before after r d);
          surcharge = ap {B = PesoPrice} (λ x. record { 0 = x }) (surcharge_renumbered before after r d);
          rounds = rounds_renumbered before after r d;
          residue = ap {B = UnsignedPesos} (λ x. record { 0 = x }) (residue_renumbered before after r d);
          sectors =
              ap (sector_charges n (charge after)) h.sectors
              ∙ charges_renumbered r one.sectors few (charge before) (charge after)
              (charge_renumbered before after r d);
        })
