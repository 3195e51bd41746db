-- What the power of lines comes to is small enough, and its averages are the definition's; it may be summed in two
-- parts, and averaged so, with one rounding. Assumes nothing.
use mathlib.Core.Path.{◌≡◌, refl, sym, ◌∙◌, ap}
use mathlib.Core.Bool.{Bool, true, false, cond}
use mathlib.Core.List.{List}
use Prim.Native.Nat.{ℕ, ◌+◌, ◌*◌, ◌/◌, ◌%◌, ◌≤◌, ◌<◌}
use native.Mathlib.Omega.{arith}
use native.Mathlib.Nat.{mul-le-mul, div-add-mod}
use lib.Dec.{eqb}
use lib.ListN.{get_or}
use Rattle.numbers.specs.Rounding.{half_up}
use Rattle.numbers.specs.Sizes.{most_distributors}
use Rattle.numbers.specs.Units.{no_power}
use Rattle.numbers.specs.declared.units.PowerPrice.{PowerPrice}
use Rattle.numbers.proofs.ListLaws.{filled_at}
use Rattle.numbers.proofs.SumLaws.{sum_same, sum_add, sum_scale}
use Rattle.numbers.proofs.RoundingLaws.{half_up_whole}
use Rattle.supply.specs.Line.{most_lines, line_count, line_of}
use Rattle.supply.specs.Price.{power_price, power_list}
use Rattle.supply.specs.Required.{most_power_in_pesos}
use Rattle.fixing.specs.Average.{own_part, own_sum, lines_amount, supplied_energy, average_price}
use Rattle.fixing.specs.Power.{power_of, power_averages}
use Rattle.fixing.specs.Input.{FixingInput, input_mean, input_power_prices, input_power, input_power_average}
use Rattle.fixing.specs.Required.{PowerPricedLines, PowerWithin}
use Rattle.fixing.proofs.AverageLaws.{Held, amount_within, energy_most_lem}

-- what the power of a line comes to, and what a pass keeps of it
abbrev pub power_amount : List PowerPrice → List ℕ → ℕ → ℕ
power_amount prices lines j = power_of prices j * (line_of lines j).energy

abbrev pub PowerHeld : List PowerPrice → List ℕ → ℕ → List ℕ → Type 0
PowerHeld prices lines = Held (λ x. x) (λ x. x) (λ x. refl) (λ x. refl) lines (power_amount prices lines)

module _ (prices : List PowerPrice) (lines : List ℕ) (ok : PowerPricedLines prices lines) where
  pub power_amount_most : (j : ℕ) → j < line_count lines → power_amount prices lines j ≤ 2000000000000000000
  power_amount_most j p = mul-le-mul (ok.priced j p) (ok.own.checked.facts j p).energy_most

  -- what a distributor's lines come to can be divided
  pub power_amount_within : (i : ℕ) → 1 ≤ supplied_energy lines i →
      PowerWithin (lines_amount (power_of prices) lines i) (supplied_energy lines i)
  power_amount_within i some =
      record {
        some = some;
        most = energy_most_lem lines ok.own i;
        priced = amount_within (power_of prices) lines most_power_in_pesos ok.priced i;
      }

-- an amount in two parts, millions and the rest: the parts make up the whole
module _ (price : ℕ → ℕ) (lines : List ℕ) (i : ℕ) where
  pub parts_whole : lines_amount (λ j. price j / 1000000) lines i * 1000000
      + lines_amount (λ j. price j % 1000000) lines i ≡ lines_amount price lines i
  unfolding lines_amount own_sum own_part
  parts_whole =
      let scaled = sum_scale (line_count lines) 1000000 high in
      let both = sum_add (line_count lines) (λ j. 1000000 * high j) low in
      let same = sum_same (line_count lines) (λ j. 1000000 * high j + low j) _ part in
      omega arith
    where
      high : ℕ → ℕ
      high = own_part lines (λ j. price j / 1000000 * (line_of lines j).energy) i

      low : ℕ → ℕ
      low = own_part lines (λ j. price j % 1000000 * (line_of lines j).energy) i

      part : (j : ℕ) → j < line_count lines →
          1000000 * high j + low j ≡ own_part lines (λ j. price j * (line_of lines j).energy) i j
      part j p = go (eqb (line_of lines j).distributor i)
        where
          go : (b : Bool) →
              1000000 * cond b (price j / 1000000 * (line_of lines j).energy) 0
              + cond b (price j % 1000000 * (line_of lines j).energy) 0
              ≡ cond b (price j * (line_of lines j).energy) 0
          go true =
              let whole = ap (λ x. x * (line_of lines j).energy) (div-add-mod (price j) 1000000) in
              omega arith
          go false = refl

-- and so do their averages
pub average_whole : (millions rest energy : ℕ) → 0 < energy →
    millions / energy * 1000000 + half_up (millions % energy * 1000000 + rest) energy
    ≡ half_up (millions * 1000000 + rest) energy
average_whole millions rest energy some =
    let whole = ap (λ x. x * 1000000) (div-add-mod millions energy) in
    let same : millions / energy * 1000000 * energy + (millions % energy * 1000000 + rest) ≡ millions * 1000000 + rest =
    omega arith in
    sym (half_up_whole (millions % energy * 1000000 + rest) energy some (millions / energy * 1000000))
    ∙ ap (λ x. half_up x energy) same

-- the averages of an input's power prices are 02's
pub input_power_lem : (n : ℕ) (input : FixingInput) → n ≤ most_distributors → line_count input.lines ≤ most_lines →
    (i : ℕ) → i < n → (get_or (input_power n input) i no_power).0 ≡ input_power_average input i
unfolding input_power input_power_prices power_averages power_list power_price average_price lines_amount own_sum
    own_part
input_power_lem n input few count i p =
    ap (λ x. x.0) (filled_at most_distributors no_power _ n i p (omega arith))
    ∙ ap (λ x. half_up x (supplied_energy input.lines i))
    (sum_same (line_count input.lines) _ _
    (λ j q. ap (λ (x : PowerPrice). cond (eqb (line_of input.lines j).distributor i)
    (x.0 * (line_of input.lines j).energy) 0)
    (filled_at most_lines no_power (power_price (input_mean input) input.numbers input.lines)
    (line_count input.lines) j q (omega arith))))
