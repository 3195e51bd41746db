-- What prices collect that are the limit inside a set and the average raised by s outside it, for any set. The final
-- prices are such prices, and so are those by which a round works its surcharge. Assumes nothing.
use mathlib.Core.Path.{◌≡◌, refl}
use mathlib.Core.Bool.{Bool, true, false, cond}
use Prim.Native.Nat.{ℕ, zero, suc, ◌+◌, ◌*◌, ◌≤◌, ◌<◌, min}
use native.Mathlib.Omega.{arith}
use native.Mathlib.Nat.{mul-le-mul_right}
use borrow.Author.Tests.{ltb-true, ltb-false}
use Rattle.numbers.specs.Bounded.{sum_below}
use Rattle.numbers.proofs.SumLaws.{sum_same, sum_le_sum}
use Rattle.fixing.specs.Limit.{Distributors, contract_total, limit, sum_inside, sum_outside, above_limit}
use Rattle.fixing.specs.Charge.{collected_at}

-- what the set pays at the averages, its energy, and the energy outside it
abbrev pub paid_inside : Distributors → (ℕ → Bool) → ℕ
paid_inside d set = sum_inside d set (λ i. d.average i * d.energy i)

abbrev pub energy_inside : Distributors → (ℕ → Bool) → ℕ
energy_inside d set = sum_inside d set d.energy

abbrev pub energy_outside : Distributors → (ℕ → Bool) → ℕ
energy_outside d set = sum_outside d set d.energy

-- a sum inside a set and the sum outside it are the whole
pub inside_outside : (d : Distributors) (set : ℕ → Bool) (f : ℕ → ℕ) →
    sum_inside d set f + sum_outside d set f ≡ sum_below d.count f
unfolding sum_inside sum_outside sum_below
inside_outside d set f = below d.count
  where
    part : (c : Bool) (x : ℕ) → cond c x 0 + cond c 0 x ≡ x
    part true x = omega arith
    part false x = omega arith

    below : (k : ℕ) → sum_below k (λ i. cond (set i) (f i) 0) + sum_below k (λ i. cond (set i) 0 (f i)) ≡ sum_below k f
    below zero = refl
    below (suc k) = omega (arith, below k, part (set k) (f k))

-- whom a surcharge puts above the limit
pub above_true : (d : Distributors) (s i : ℕ) → above_limit d s i ≡ true → limit d < d.average i + s
unfolding above_limit
above_true d s i = ltb-true (limit d) (d.average i + s)

pub above_false : (d : Distributors) (s i : ℕ) → above_limit d s i ≡ false → d.average i + s ≤ limit d
unfolding above_limit
above_false d s i = ltb-false (limit d) (d.average i + s)

-- a price is the lesser of limit and raised average, where the set is those whom a surcharge of s or s + 1 puts above
-- the limit
pub price_min : (d : Distributors) (i s t : ℕ) → s ≤ t → t ≤ s + 1 →
    cond (above_limit d t i) (limit d) (d.average i + s) ≡ min (limit d) (d.average i + s)
price_min d i s t a b = go (above_limit d t i) refl
  where
    go : (c : Bool) → above_limit d t i ≡ c → cond c (limit d) (d.average i + s) ≡ min (limit d) (d.average i + s)
    go true e = omega (arith, above_true d t i e)
    go false e = omega (arith, above_false d t i e)

module _ (d : Distributors) (set : ℕ → Bool) (s : ℕ) where
  unfoldable pub collected_by : ℕ
  collected_by = sum_below d.count (λ i. cond (set i) (limit d) (d.average i + s) * d.energy i)

  -- beside the averages: the set pays the limit instead, and those outside pay s more
  pub collected_by_lem : collected_by + paid_inside d set ≡ limit d * energy_inside d set + s * energy_outside d set
      + contract_total d
  unfolding collected_by sum_inside sum_outside contract_total sum_below
  collected_by_lem = below (limit d) d.average d.energy d.count
    where
      part : (c : Bool) (l p e : ℕ) → cond c l (p + s) * e + cond c (p * e) 0 ≡ l * cond c e 0 + s * cond c 0 e + p * e
      part true l p e = omega arith
      part false l p e = omega arith

      below : (l : ℕ) (p e : ℕ → ℕ) (k : ℕ) →
          sum_below k (λ i. cond (set i) l (p i + s) * e i) + sum_below k (λ i. cond (set i) (p i * e i) 0) ≡ l * sum_below
          k (λ i. cond (set i) (e i) 0) + s * sum_below k (λ i. cond (set i) 0 (e i)) + sum_below k (λ i. p i * e i)
      below l p e zero = omega arith
      below l p e (suc k) = omega (arith, below l p e k, part (set k) l (p k) (e k))

  -- whatever the set, they collect no less than the lesser of limit and raised average
  pub collected_le : collected_at d s ≤ collected_by
  unfolding collected_by collected_at
  collected_le =
      sum_le_sum d.count _ _ (λ i p. mul-le-mul_right (d.energy i) (part (set i) (d.average i)))
    where
      part : (c : Bool) (p : ℕ) → min (limit d) (p + s) ≤ cond c (limit d) (p + s)
      part true p = omega arith
      part false p = omega arith

  -- and just as much where the set is those whom a surcharge of s or s + 1 puts above the limit
  pub collected_same : (t : ℕ) → s ≤ t → t ≤ s + 1 → ((i : ℕ) → i < d.count → set i ≡ above_limit d t i) →
      collected_by ≡ collected_at d s
  unfolding collected_by collected_at
  collected_same t a b told = sum_same d.count _ _ (λ i p. rw (told i p, price_min d i s t a b))
