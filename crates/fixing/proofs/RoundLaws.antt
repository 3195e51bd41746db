-- One round: from what is known before it, what its surcharge does, and the same before the next round.
-- Assumes nothing: that the mean price is below the limit is a parameter, which LimitLaws shows.
use mathlib.Core.Path.{◌≡◌, refl, sym, ap}
use mathlib.Core.Bool.{Bool, true, false, ◌||◌}
use Prim.Native.Nat.{ℕ, zero, suc, ◌+◌, ◌-◌, ◌*◌, ◌≤◌, ◌<◌}
use native.Mathlib.Omega.{arith}
use native.Mathlib.Nat.{mul-le-mul_right, lt_of_mul-lt-mul_left, lt_of_mul-lt-mul_right}
use lib.Dec.{ltb}
use borrow.Author.Tests.{ltb-true, lt-ltb}
use Rattle.numbers.proofs.SumLaws.{sum_le_sum}
use Rattle.numbers.proofs.RoundingLaws.{divide_up_covers, divide_up_least}
use Rattle.fixing.specs.Limit.{Distributors, contract_total, total_energy, limit, round_surcharge, above_limit}
use Rattle.fixing.specs.Charge.{collected_at}
use Rattle.fixing.proofs.PriceLaws.{paid_inside, energy_inside, energy_outside, inside_outside, collected_by_lem}
use Rattle.fixing.proofs.PriceLaws.{collected_le, collected_same}

-- what is known before a round, of its set and the surcharge t of the round before: the set is those whom t puts above
-- the limit, and no surcharge below t collects enough
pub record Before (d : Distributors) (set : ℕ → Bool) (t : ℕ) : Type 0 where
  pub told : (i : ℕ) → i < d.count → set i ≡ above_limit d t i
  pub short : (s : ℕ) → s < t → collected_at d s < contract_total d

-- what the set pays above the limit
abbrev excess : Distributors → (ℕ → Bool) → ℕ
excess d set = paid_inside d set - limit d * energy_inside d set

-- whoever a surcharge puts above the limit, a greater one does
above_grows : (l p s t : ℕ) → s ≤ t → (ltb l (p + s) || ltb l (p + t)) ≡ ltb l (p + t)
above_grows l p s t h = go (ltb l (p + s)) refl
  where
    go : (c : Bool) → ltb l (p + s) ≡ c → (c || ltb l (p + t)) ≡ ltb l (p + t)
    go true e = sym (lt-ltb l (p + t) (omega (arith, ltb-true l (p + s) e)))
    go false e = refl

-- without a surcharge no more than the contract total comes in
none_collects : (d : Distributors) → collected_at d 0 ≤ contract_total d
unfolding collected_at contract_total
none_collects d = sum_le_sum d.count _ _ (λ i p. mul-le-mul_right (d.energy i) (omega arith))

-- one less than the surcharge of the round before does not cover the set's excess
lead : (d : Distributors) (set : ℕ → Bool) (m : ℕ) → Before d set (suc m) →
    limit d * energy_inside d set + m * energy_outside d set < paid_inside d set
lead d set m b =
    omega (
      arith,
      collected_same d set m (suc m) (omega arith) (omega arith) b.told,
      collected_by_lem d set m,
      b.short m
          (omega arith),
    )

-- the set pays as much above the limit as is missing without a surcharge, up to 1: so no less than the limit, and more
-- where something is missing
pub inside_pays : (d : Distributors) (set : ℕ → Bool) (t : ℕ) → Before d set t → (x : ℕ) → x ≤ 1 →
    collected_at d 0 + x ≤ contract_total d → limit d * energy_inside d set + x ≤ paid_inside d set
inside_pays d set zero b x p h =
    omega (arith, collected_same d set 0 0 (omega arith) (omega arith) b.told, collected_by_lem d set 0)
inside_pays d set (suc m) b x p h = omega (arith, lead d set m b)

module _ (d : Distributors) (over : contract_total d < limit d * total_energy d) (set : ℕ → Bool) where
  limit_split : limit d * energy_inside d set + limit d * energy_outside d set ≡ limit d * total_energy d
  unfolding total_energy
  limit_split = omega (arith, ap (λ (x : ℕ). limit d * x) (inside_outside d set d.energy))

  paid_most : paid_inside d set ≤ contract_total d
  unfolding contract_total
  paid_most = omega (arith, inside_outside d set (λ i. d.average i * d.energy i))

  module _ (t : ℕ) (b : Before d set t) where
    pays_limit : limit d * energy_inside d set ≤ paid_inside d set
    pays_limit = omega (arith, inside_pays d set t b 0 (omega arith) (omega (arith, none_collects d)))

    pub round_outside : 0 < energy_outside d set
    round_outside = lt_of_mul-lt-mul_left (limit d) {m = 0} (omega (arith, pays_limit, limit_split, paid_most))

    -- the surcharge is the least that covers the set's excess
    pub round_covers : paid_inside d set ≤ limit d * energy_inside d set + round_surcharge d set * energy_outside d set
    unfolding round_surcharge
    round_covers = omega (arith, pays_limit, divide_up_covers (excess d set) (energy_outside d set) round_outside)

    pub round_least : limit d * energy_inside d set + round_surcharge d set * energy_outside d set < paid_inside d set
        + energy_outside d set
    unfolding round_surcharge
    round_least = omega (arith, pays_limit, divide_up_least (excess d set) (energy_outside d set) round_outside)

    pub round_below : round_surcharge d set < limit d + 1
    round_below =
        lt_of_mul-lt-mul_right (energy_outside d set) (omega (arith, round_least, limit_split, paid_most))

    -- a lesser surcharge collects too little
    pub round_short : (s : ℕ) → s < round_surcharge d set → collected_at d s < contract_total d
    round_short s p =
        omega
        (arith, collected_le d set s, collected_by_lem d set s, round_least, mul-le-mul_right (energy_outside d set) p)

  -- so the surcharge is no less than that of the round before
  pub round_rises : (t : ℕ) → Before d set t → t ≤ round_surcharge d set
  round_rises zero b = omega arith
  round_rises (suc m) b =
      lt_of_mul-lt-mul_right (energy_outside d set) (omega (arith, lead d set m b, round_covers (suc m) b))

  pub round_next : (t : ℕ) → Before d set t →
      Before d (λ i. set i || above_limit d (round_surcharge d set) i) (round_surcharge d set)
  unfolding above_limit
  round_next t b =
      record {
        told = λ i p. rw (b.told i p)
            (above_grows (limit d) (d.average i) t (round_surcharge d set) (round_rises t b));
        short = round_short t b;
      }
