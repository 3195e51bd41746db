-- The limit and the rounds of renumbered distributors (W-207 of document 02): each round has the same surcharge, and
-- puts the same distributors above the limit under their new numbers, by induction on the rounds. So limit, surcharge,
-- rounds and residue are the same, and each distributor has the same final price and charge. Assumes nothing.
use mathlib.Core.Path.{◌≡◌, refl, ◌∙◌, ap, ap₂}
use mathlib.Core.Bool.{Bool, cond, not, ◌&&◌, ◌||◌}
use Rattle.std.specs.Prelude.{Some, None}
use Prim.Native.Nat.{ℕ, zero, suc, ◌+◌, ◌-◌, ◌*◌, ◌/◌, ◌<◌}
use lib.Dec.{ltb}
use lib.IntN.{sub_ℕ}
use Rattle.numbers.specs.Bounded.{sum_below, any_below, first_below}
use Rattle.numbers.specs.Rounding.{divide_up}
use Rattle.numbers.specs.Renumbering.{Renumbering}
use Rattle.numbers.proofs.FirstLaws.{first_same}
use Rattle.numbers.proofs.RenumberingLaws.{sum_renumbered, any_renumbered}
use Rattle.fixing.specs.Limit.{Distributors, contract_total, total_energy, limit, sum_inside, sum_outside}
use Rattle.fixing.specs.Limit.{round_surcharge, above_limit, capped_after, joins_after, any_joins_after, any_above}
use Rattle.fixing.specs.Limit.{or_zero, rounds_before_last, rounds, capped, surcharge, final_price, charge, collected}
use Rattle.fixing.specs.Limit.{residue}

-- distributors that have at each number what others have at the old one
pub record RenumberedDistributors (one other : Distributors) (r : Renumbering one.count) : Type 0 where
  pub count : other.count ≡ one.count
  pub average : (i : ℕ) → i < one.count → other.average i ≡ one.average (r.old i)
  pub energy : (i : ℕ) → i < one.count → other.energy i ≡ one.energy (r.old i)

module _ (one other : Distributors) (r : Renumbering one.count) (h : RenumberedDistributors one other r) where
  sums : (f g : ℕ → ℕ) → ((i : ℕ) → i < one.count → g i ≡ f (r.old i)) →
      sum_below other.count g ≡ sum_below one.count f
  sums f g e = ap (λ n. sum_below n g) h.count ∙ sum_renumbered r f g e

  anys : (s t : ℕ → Bool) → ((i : ℕ) → i < one.count → t i ≡ s (r.old i)) →
      any_below other.count t ≡ any_below one.count s
  anys s t e = ap (λ n. any_below n t) h.count ∙ any_renumbered r s t e

  total_renumbered : contract_total other ≡ contract_total one
  unfolding contract_total
  total_renumbered = sums _ _ (λ i p. ap₂ ◌*◌ (h.average i p) (h.energy i p))

  energy_renumbered : total_energy other ≡ total_energy one
  unfolding total_energy
  energy_renumbered = sums one.energy other.energy h.energy

  pub limit_renumbered : limit other ≡ limit one
  unfolding limit
  limit_renumbered = ap₂ (λ total energy. 105 * total / (100 * energy)) total_renumbered energy_renumbered

  -- sums over a set, and over those outside it
  module _ (set given : ℕ → Bool) (s : (i : ℕ) → i < one.count → given i ≡ set (r.old i)) where
    inside_renumbered : (f g : ℕ → ℕ) → ((i : ℕ) → i < one.count → g i ≡ f (r.old i)) →
        sum_inside other given g ≡ sum_inside one set f
    unfolding sum_inside
    inside_renumbered f g e =
        sums _ _ (λ i p. ap₂ (λ b x. cond b x 0) (s i p) (e i p))

    outside_renumbered : sum_outside other given other.energy ≡ sum_outside one set one.energy
    unfolding sum_outside
    outside_renumbered =
        sums _ _ (λ i p. ap₂ (λ b x. cond b 0 x) (s i p) (h.energy i p))

    round_renumbered : round_surcharge other given ≡ round_surcharge one set
    unfolding round_surcharge
    round_renumbered =
        ap₂ divide_up
        (ap₂ ◌-◌ (inside_renumbered _ _ (λ i p. ap₂ ◌*◌ (h.average i p) (h.energy i p)))
        (ap₂ ◌*◌ limit_renumbered (inside_renumbered one.energy other.energy h.energy)))
        outside_renumbered

  above_renumbered : (s t : ℕ) → t ≡ s → (i : ℕ) → i < one.count → above_limit other t i ≡ above_limit one s (r.old i)
  unfolding above_limit
  above_renumbered s t e i p = ap₂ ltb limit_renumbered (ap₂ ◌+◌ (h.average i p) e)

  capped_renumbered : (k i : ℕ) → i < one.count → capped_after other k i ≡ capped_after one k (r.old i)
  unfolding capped_after
  capped_renumbered zero i p = above_renumbered 0 0 refl i p
  capped_renumbered (suc k) i p =
      ap₂ ◌||◌ (capped_renumbered k i p)
      (above_renumbered _ _ (round_renumbered (capped_after one k) (capped_after other k) (capped_renumbered k)) i p)

  surcharge_after : (k : ℕ) → round_surcharge other (capped_after other k) ≡ round_surcharge one (capped_after one k)
  surcharge_after k = round_renumbered (capped_after one k) (capped_after other k) (capped_renumbered k)

  joins_renumbered : (k : ℕ) → any_joins_after other k ≡ any_joins_after one k
  unfolding any_joins_after joins_after
  joins_renumbered k =
      (anys _ _ (λ i p. ap₂ (λ b c. not b && c) (capped_renumbered k i p)
      (above_renumbered _ _ (surcharge_after k) i p)))

  any_above_renumbered : any_above other ≡ any_above one
  unfolding any_above
  any_above_renumbered = anys _ _ (above_renumbered 0 0 refl)

  last_renumbered : rounds_before_last other ≡ rounds_before_last one
  unfolding rounds_before_last
  last_renumbered =
      ap or_zero
      (ap (λ n. first_below n (λ k. cond (any_joins_after other k) None (Some k))) h.count
      ∙ first_same _ _ one.count (λ k p. ap (λ b. cond b None (Some k)) (joins_renumbered k)))

  pub rounds_renumbered : rounds other ≡ rounds one
  unfolding rounds
  rounds_renumbered = ap₂ (λ b k. cond b (k + 1) 0) any_above_renumbered last_renumbered

  pub surcharge_renumbered : surcharge other ≡ surcharge one
  unfolding surcharge capped
  surcharge_renumbered =
      ap₂ (λ b s. cond b s 0) any_above_renumbered
      (ap (λ k. round_surcharge other (capped_after other k)) last_renumbered ∙ surcharge_after (rounds_before_last one))

  pub final_renumbered : (i : ℕ) → i < one.count → final_price other i ≡ final_price one (r.old i)
  unfolding final_price capped
  final_renumbered i p =
      rw (
        last_renumbered,
        capped_renumbered (rounds_before_last one) i p,
        limit_renumbered,
        h.average i p,
        surcharge_renumbered,
      )

  pub charge_renumbered : (i : ℕ) → i < one.count → charge other i ≡ charge one (r.old i)
  unfolding charge
  charge_renumbered i p = ap₂ sub_ℕ (final_renumbered i p) (h.average i p)

  pub residue_renumbered : residue other ≡ residue one
  unfolding residue collected
  residue_renumbered =
      ap₂ ◌-◌
      ((sums _ _ (λ i p. ap₂ ◌*◌ (final_renumbered i p) (h.energy i p))))
      total_renumbered
