-- The amounts and the energies are those of the definition, and each energy is at least 1.
use mathlib.Core.Path.{◌≡◌, ◌∙◌, ap, ap₂}
use mathlib.Core.List.{List}
use Prim.Native.Nat.{ℕ, ◌<◌}
use native.Mathlib.Omega.{arith}
use lib.ListN.{get_or}
use Rattle.numbers.specs.Rounding.{half_up}
use Rattle.numbers.specs.Units.{no_price, no_energy, no_total}
use Rattle.numbers.specs.Sizes.{most_distributors}
use Rattle.numbers.specs.declared.units.Energy.{Energy}
use Rattle.numbers.specs.declared.units.PesoPrice.{PesoPrice}
use Rattle.numbers.specs.declared.units.UnsignedPesos.{UnsignedPesos}
use Rattle.numbers.proofs.ListLaws.{filled_same, list_at}
use Rattle.fixing.specs.Average.{lines_amount, supplied_energy, average_price, average_list}
use Rattle.fixing.proofs.AverageLaws.{amount_most, energy_at, energy_most_lem, supplied_some}
use Rattle.fixing.proofs.average.averages.Goals as goal
use Rattle.fixing.proofs.average.averages.Goals.{After-amounts}

module _ (c : After-amounts) (i : ℕ) where
  module _ (p : i < c.args.n) where
    few : i < most_distributors
    few = omega (arith, c.requires.few)

    -- what the lines of distributor i come to
    amount : (get_or c.amounts.result i no_total).0 ≡ lines_amount (λ j. (get_or c.args.references j no_price).0)
        c.args.lines.now i
    amount =
        ap (λ (xs : List UnsignedPesos). (get_or xs i no_total).0) c.amounts.ensures
        ∙ ap (λ (m : UnsignedPesos). m.0)
        (list_at (λ k. record {
          0 = lines_amount (λ j. (get_or c.args.references j no_price).0) c.args.lines.now k;
        }) most_distributors no_total i few)

    energy : (get_or c.args.energies i no_energy).0 ≡ supplied_energy c.args.lines.now i
    energy = ap (λ (xs : List Energy). (get_or xs i no_energy).0) c.requires.supplied ∙ energy_at c.args.lines.now i few

pub divide_amounts-requires : goal.divide_amounts-requires
divide_amounts-requires c =
    let own = c.requires.priced.own in
    record {
      few = c.requires.few;
      small =
          λ i p. omega (arith, amount c i p, amount_most c.args.references c.args.lines.now c.requires.priced i);
      some =
          λ i p. omega (
            arith,
            energy c i p,
            supplied_some c.args.n c.args.lines.now own c.requires.everyone i
                p,
          );
      most = λ i p. omega (arith, energy c i p, energy_most_lem c.args.lines.now own i);
    }

pub returns : goal.returns
unfolding average_list average_price
returns c =
    c.divide_amounts.ensures
    ∙ filled_same most_distributors no_price c.args.n _ _
    (λ i p. ap₂ {C = PesoPrice} (λ x y. record { 0 = half_up x y }) (amount (goal.at.returns c).After-amounts i p)
    (energy (goal.at.returns c).After-amounts i p))
