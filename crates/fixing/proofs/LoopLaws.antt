-- The rounds as the code walks them: the sums of the set stand for it, and the energy inside tells whether somebody
-- joined. Assumes nothing.
use mathlib.Core.Path.{◌≡◌, sym, ◌∙◌}
use mathlib.Core.Bool.{true, not}
use Prim.Native.Nat.{ℕ, suc, ◌+◌, ◌-◌, ◌*◌, ◌≤◌, ◌<◌}
use native.Mathlib.Numerals.{add-one}
use native.Mathlib.Omega.{arith}
use lib.Dec.{eqb}
use borrow.Author.Tests.{eq-eqb, ne_eqb}
use Rattle.numbers.specs.Rounding.{divide_up}
use Rattle.numbers.specs.Units.{no_price}
use Rattle.numbers.proofs.BoolLaws.{by_last}
use Rattle.fixing.specs.Limit.{Distributors, InRange, contract_total, total_energy, limit, round_surcharge}
use Rattle.fixing.specs.Limit.{above_limit, capped_after, any_joins_after, any_above, rounds, capped, surcharge}
use Rattle.fixing.specs.Prices.{round_sums, last_round}
use Rattle.fixing.specs.declared.prices.RoundSums.{RoundSums}
use Rattle.fixing.proofs.PriceLaws.{inside_outside}
use Rattle.fixing.proofs.PassLaws.{total_fits, sums_same}
use Rattle.fixing.proofs.LimitLaws.{surcharge_before, outside_some, capped_above, round_most, inside_over}
use Rattle.fixing.proofs.LimitLaws.{above_energy, joins_energy, joined_below, last_is}

-- what is known before a round of the code: `made` rounds were made, and somebody joined in each
pub record Round (d : Distributors) (top : ℕ) (sums : RoundSums) (made : ℕ) : Type 0 where
  pub range : InRange d
  pub topped : top ≡ limit d
  pub above : any_above d ≡ true
  pub joined : (j : ℕ) → j < made → any_joins_after d j ≡ true
  pub summed : sums ≡ round_sums d (capped_after d made)

-- the first pass: nobody is inside, and the answer is at hand; or the first round comes
module _ {d : Distributors} {top : ℕ} {sums : RoundSums} (range : InRange d) (topped : top ≡ limit d)
    (passed : sums ≡ round_sums d (above_limit d 0)) where
  summed : sums ≡ round_sums d (capped_after d 0)
  unfolding capped_after
  summed = passed

  above_is : any_above d ≡ not (eqb sums.inside.0 0)
  above_is = rw summed (above_energy d range)

  pub none_above : sums.inside.0 ≡ 0 → record { surcharge = no_price; rounds = 0 } ≡ last_round d
  unfolding surcharge rounds
  none_above h = rw (above_is, eq-eqb sums.inside.0 0 h)

  pub round_first : (sums.inside.0 ≡ 0 → ⊥) → Round d top sums 0
  round_first h =
      record {
        range = range;
        topped = topped;
        above = rw (above_is, ne_eqb sums.inside.0 0 h);
        joined = λ j p. absurd (omega arith);
        summed = summed;
      }

module _ {d : Distributors} {top : ℕ} {sums : RoundSums} {made : ℕ} (at : Round d top sums made) where
  pub made_few : made < d.count
  made_few = joined_below d at.range made at.joined

  -- the sums of the round
  pub pays_more : top * sums.inside.0 ≤ sums.paid.0
  pays_more = rw (at.summed, at.topped) (omega (arith, inside_over d at.range at.above made))

  pub pays_most : sums.paid.0 ≤ 5120000000000000
  unfolding contract_total
  pays_most =
      rw at.summed
      (omega (arith, inside_outside d (capped_after d made) (λ i. d.average i * d.energy i), total_fits d at.range))

  pub outside_least : 0 < sums.outside.0
  outside_least = rw at.summed (outside_some d at.range made)

  pub outside_most : sums.outside.0 ≤ 2560000000
  unfolding total_energy
  outside_most =
      rw at.summed (omega (arith, inside_outside d (capped_after d made) d.energy, at.range.total))

  -- the surcharge of the round
  module _ {raise : ℕ} (worked : raise ≡ divide_up (sums.paid.0 - top * sums.inside.0) sums.outside.0) where
    raise_is : raise ≡ round_surcharge d (capped_after d made)
    unfolding round_surcharge
    raise_is = worked ∙ rw (at.summed, at.topped)

    pub raise_most : raise ≤ top
    raise_most = omega (arith, raise_is, at.topped, round_most d at.range made)

    -- the pass at this surcharge: somebody joins, and the next round comes; or the answer is at hand
    module _ {next : RoundSums} (passed : next ≡ round_sums d (above_limit d raise)) where
      next_is : next ≡ round_sums d (capped_after d (suc made))
      unfolding surcharge_before
      next_is = passed ∙ rw raise_is (sums_same d _ _ (λ i p. sym (capped_above d at.range (suc made) i p)))

      joins_is : any_joins_after d made ≡ not (eqb next.inside.0 sums.inside.0)
      joins_is = rw (next_is, at.summed) (joins_energy d at.range made)

      pub round_more : (next.inside.0 ≡ sums.inside.0 → ⊥) → Round d top next (made + 1)
      round_more h =
          record {
            range = at.range;
            topped = at.topped;
            above = at.above;
            joined =
                rw add-one (by_last made (λ j. any_joins_after d j ≡ true) at.joined
                (rw (joins_is, ne_eqb next.inside.0 sums.inside.0 h)));
            summed = rw add-one next_is;
          }

      pub round_last : next.inside.0 ≡ sums.inside.0 →
          record { surcharge = record { 0 = raise }; rounds = made + 1 } ≡ last_round d
      unfolding surcharge rounds capped
      round_last h =
          rw (
            at.above,
            last_is d at.range made at.joined
                (rw (joins_is, eq-eqb next.inside.0 sums.inside.0 h)),
            raise_is,
          )
