-- Laws of a fixing's input that passed every check: its averages and final prices are small at every place.
-- Assumes nothing.
use mathlib.Core.Path.{◌≡◌, ap}
use Prim.Native.Nat.{ℕ, ◌^◌, ◌≤◌, ◌<◌}
use native.Mathlib.Omega.{arith}
use native.Mathlib.Decide.{dec_lt}
use lib.ListN.{get_or, get_or-eq_default}
use Rattle.numbers.specs.Sizes.{most_distributors}
use Rattle.numbers.specs.Bounded.{filled_below}
use Rattle.numbers.specs.Units.{no_price, most_price}
use Rattle.numbers.specs.declared.units.PesoPrice.{PesoPrice}
use Rattle.numbers.proofs.ListLaws.{filled_length, filled_past}
use Rattle.fixing.specs.Average.{average_list}
use Rattle.fixing.specs.Limit.{distributors}
use Rattle.fixing.specs.Prices.{final_prices, fixed_prices}
use Rattle.fixing.specs.Input.{FixingInput, input_verdict, input_averages, input_energies}
use Rattle.fixing.specs.Required.{RightLengths}
use Rattle.fixing.specs.Fixing.{accepted_fixing, worked_fixing}
use Rattle.fixing.specs.declared.fix.Fixing.{Fixing}
use Rattle.std.specs.Prelude.{Ok}
use Rattle.fixing.proofs.FixingLaws.{final_at}
use Rattle.fixing.proofs.LimitLaws.{final_most}
use Rattle.fixing.proofs.VerdictLaws.{passed_fixing, input_range}
use Rattle.ledger.specs.Required.{PricesSmall}

-- prices that are at most so much where they are filled in are so at every place
filled_most : (k : ℕ) (f : ℕ → PesoPrice) →
    ((i : ℕ) → i < k → (get_or (filled_below most_distributors no_price k f) i no_price).0 ≤ most_price) → (i : ℕ) →
    (get_or (filled_below most_distributors no_price k f) i no_price).0 < 2 ^ 62
filled_most k f h i = go (dec_lt i k) (dec_lt i most_distributors)
  where
    go : Dec (i < k) → Dec (i < most_distributors) →
        (get_or (filled_below most_distributors no_price k f) i no_price).0 < 2 ^ 62
    go (yes p) q = omega (arith, h i p)
    go (no p) (yes q) =
        omega (arith, ap (λ (x : PesoPrice). x.0) (filled_past most_distributors no_price f k i (omega arith) q))
    go (no p) (no q) =
        omega (
          arith,
          ap (λ (x : PesoPrice). x.0)
              (get_or-eq_default (filled_below most_distributors no_price k f) no_price {n = i}
              (omega (arith, filled_length most_distributors no_price f k))),
        )

module _ (n : ℕ) (input : FixingInput) (right : RightLengths n input) (passed : input_verdict n input ≡ Ok tt) where
  accepted_small : PricesSmall (input_averages n input)
      (fixed_prices (distributors n (input_averages n input) (input_energies input))).finals
  unfolding input_averages average_list fixed_prices final_prices
  accepted_small =
      let r = input_range n input passed right in
      record {
        average = filled_most n _ (λ i p. r.most i p);
        final = filled_most n _ (λ i p.
            omega (
              arith,
              final_at n (input_averages n input) (input_energies input) r i p,
              final_most (distributors n (input_averages n input) (input_energies input)) r i p,
            ));
      }

  -- so the prices of a fixing that passed fit their words
  pub prices_small : (fixing : Fixing) → fixing ≡ worked_fixing n input →
      PricesSmall fixing.averages fixing.prices.finals
  unfolding accepted_fixing
  prices_small fixing e = rw (e, passed_fixing n input) accepted_small
