-- Laws of what lines add up to: what a line adds to its own distributor and to others, bounds, and how a pass over the
-- lines keeps the sums of all distributors. Assumes nothing.
use mathlib.Core.Path.{◌≡◌, refl, sym, ◌∙◌, ap}
use mathlib.Core.Bool.{Bool, true, false, cond, not}
use mathlib.Core.List.{List}
use Prim.Native.Nat.{ℕ, ◌+◌, ◌*◌, ◌≤◌, ◌<◌}
use native.Mathlib.Omega.{arith}
use native.Mathlib.Decide.{ℕ_discrete}
use native.Mathlib.Nat.{mul-le-mul, mul-le-mul_right}
use lib.Dec.{eqb}
use lib.ListN.{get_or, set, length, length-set, replicate, length-replicate, get_or-replicate}
use lib.Seq.{get_or-set_same, get_or-set_other, ext_get_or}
use borrow.Author.Tests.{eq-eqb, ne_eqb, eqb-true}
use Rattle.numbers.specs.Bounded.{sum_below, list_below}
use Rattle.numbers.specs.Units.{no_price, no_energy}
use Rattle.numbers.specs.Sizes.{most_distributors}
use Rattle.numbers.specs.declared.units.PesoPrice.{PesoPrice}
use Rattle.numbers.specs.declared.units.Energy.{Energy}
use Rattle.numbers.specs.declared.units.UnsignedPesos.{UnsignedPesos}
use Rattle.numbers.proofs.SumLaws.{sum_step, sum_same, sum_le, sum_part, sum_scale, sum_le_sum}
use Rattle.numbers.proofs.TestLaws.{any_none, all_at, all_same}
use Rattle.numbers.proofs.ListLaws.{list_length, list_at}
use Rattle.numbers.proofs.SearchLaws.{any_where}
use Rattle.supply.specs.Line.{line_count, line_of}
use Rattle.supply.specs.declared.line.Line.{Line}
use Rattle.fixing.specs.Average.{own_part, own_sum, supplied_energy, lines_amount, has_line, everyone_supplied}
use Rattle.fixing.specs.Average.{every_energy, energy_list}
use Rattle.fixing.specs.Required.{OwnLines, PricedLines}

module _ (lines : List ℕ) (f : ℕ → ℕ) (i j : ℕ) where
  pub part_own : (line_of lines j).distributor ≡ i → own_part lines f i j ≡ f j
  unfolding own_part
  part_own h = rw (eq-eqb (line_of lines j).distributor i h)

  pub part_other : ((line_of lines j).distributor ≡ i → ⊥) → own_part lines f i j ≡ 0
  unfolding own_part
  part_other h = rw (ne_eqb (line_of lines j).distributor i h)

  pub part_most : own_part lines f i j ≤ f j
  unfolding own_part
  part_most = go (eqb (line_of lines j).distributor i)
    where
      go : (b : Bool) → cond b (f j) 0 ≤ f j
      go true = omega arith
      go false = omega arith

-- a sum of parts is small where each is
pub parts_most : (lines : List ℕ) (f : ℕ → ℕ) (i k most : ℕ) → ((j : ℕ) → j < k → f j ≤ most) →
    sum_below k (own_part lines f i) ≤ k * most
parts_most lines f i k most h = sum_le k most (own_part lines f i) (λ j p. omega (arith, part_most lines f i j, h j p))

-- where each price is at most so much, an amount is at most the energy at that price
pub amount_within : (price : ℕ → ℕ) (lines : List ℕ) (most : ℕ) → ((j : ℕ) → j < line_count lines → price j ≤ most) →
    (i : ℕ) → lines_amount price lines i ≤ most * supplied_energy lines i
unfolding supplied_energy lines_amount own_sum own_part
amount_within price lines most h i =
    rw (← sum_scale (line_count lines) most (own_part lines (λ j. (line_of lines j).energy) i))
    (sum_le_sum (line_count lines) _ _
    (λ j p. go (eqb (line_of lines j).distributor i) j (mul-le-mul_right (line_of lines j).energy (h j p))))
  where
    go : (b : Bool) (j : ℕ) → price j * (line_of lines j).energy ≤ most * (line_of lines j).energy →
        cond b (price j * (line_of lines j).energy) 0 ≤ most * cond b (line_of lines j).energy 0
    go true j q = q
    go false j q = omega arith

-- the place of a line's distributor
pub own_place : {lines : List ℕ} → OwnLines lines → {k : ℕ} → k < line_count lines → {line : Line} →
    line ≡ line_of lines k → line.distributor < most_distributors
own_place ok {k} p e = rw (ap (λ (l : Line). l.distributor) e) (ok.distributor k p)

-- a pass over the lines that keeps the sum of each distributor as a value of its own type
module _ {A : Type 0} (make : ℕ → A) (read : A → ℕ) (made : (x : ℕ) → read (make x) ≡ x)
    (whole : (a : A) → make (read a) ≡ a) where
  -- after k lines each place holds what the lines passed add up to
  pub record Held (lines : List ℕ) (f : ℕ → ℕ) (k : ℕ) (out : List A) : Type 0 where
    pub wide : length out ≡ most_distributors
    pub sums : (i : ℕ) → i < most_distributors → read (get_or out i (make 0)) ≡ sum_below k (own_part lines f i)

  module _ (lines : List ℕ) (f : ℕ → ℕ) where
    pub held_none : Held lines f 0 (replicate most_distributors (make 0))
    unfolding sum_below
    held_none =
        record {
          wide = length-replicate most_distributors (make 0);
          sums = λ i p. ap read (get_or-replicate most_distributors i (make 0) (make 0) p) ∙ made 0;
        }

    pub held_more : (k : ℕ) (out : List A) (own : ℕ) (sum : A) → own < most_distributors →
        own ≡ (line_of lines k).distributor →
        read sum ≡ read (get_or out own (make 0)) + f k → Held lines f k out → Held lines f (k + 1) (set out own sum)
    held_more k out own sum p q r h =
        record {
          wide = length-set out own _ ∙ h.wide;
          sums = λ i b. rw (sum_step k (own_part lines f i)) (go i b (ℕ_discrete i own));
        }
      where
        go : (i : ℕ) → i < most_distributors → Dec (i ≡ own) →
            read (get_or (set out own sum) i (make 0)) ≡ sum_below k (own_part lines f i) + own_part lines f i k
        go i b (yes e) =
            rw (e, get_or-set_same out own sum (make 0) (omega (arith, h.wide)))
            (omega (arith, r, h.sums own p, part_own lines f own k (sym q)))
        go i b (no e) =
            rw (get_or-set_other out own i sum (make 0) e)
            (omega (arith, h.sums i b, part_other lines f i k (λ t. e (sym (q ∙ t)))))

    pub held_done : (out : List A) → Held lines f (line_count lines) out →
        out ≡ list_below most_distributors (λ i. make (own_sum lines f i))
    unfolding own_sum
    held_done out h =
        ext_get_or (make 0) out (list_below most_distributors sums)
        (h.wide ∙ sym (list_length sums most_distributors))
        (λ i p. let b : i < most_distributors = omega (arith, h.wide) in sym (whole _) ∙ ap make (h.sums i b) ∙ sym
        (list_at sums most_distributors (make 0) i b))
      where
        sums : ℕ → A
        sums i = make (sum_below (line_count lines) (own_part lines f i))

  -- the line at hand in a pass over lines of which each adds at most so much
  module _ {lines : List ℕ} (ok : OwnLines lines) {f : ℕ → ℕ} {most : ℕ}
      (small : (j : ℕ) → j < line_count lines → f j ≤ most) {k : ℕ} (p : k < line_count lines) {line : Line}
      (e : line ≡ line_of lines k) {out : List A} (h : Held lines f k out) where
    own : line.distributor ≡ (line_of lines k).distributor
    own = ap (λ (l : Line). l.distributor) e

    placed : line.distributor < most_distributors
    placed = own_place ok p e

    pub place_fits : read (get_or out line.distributor (make 0)) + f k ≤ 256 * most
    place_fits =
        let few : k + 1 ≤ 256 = omega (arith, ok.checked.few) in
        omega (
          arith,
          h.sums line.distributor placed,
          parts_most lines f line.distributor k most (λ j q. small j (omega arith)),
          small k p,
          mul-le-mul_right most few,
        )

    pub place_more : (sum : A) → read sum ≡ read (get_or out line.distributor (make 0)) + f k →
        Held lines f (k + 1) (set out line.distributor sum)
    place_more sum r = held_more lines f k out line.distributor sum placed own r h

-- energies and amounts as what a pass keeps
abbrev pub energy_of : List ℕ → ℕ → ℕ
energy_of lines j = (line_of lines j).energy

abbrev pub amount_of : List PesoPrice → List ℕ → ℕ → ℕ
amount_of prices lines j = (get_or prices j no_price).0 * (line_of lines j).energy

abbrev pub as_energy : ℕ → Energy
as_energy x = record { 0 = x }

abbrev pub as_total : ℕ → UnsignedPesos
as_total x = record { 0 = x }

abbrev pub EnergiesHeld : List ℕ → ℕ → List Energy → Type 0
EnergiesHeld lines = Held as_energy (λ e. e.0) (λ x. refl) (λ e. refl) lines (energy_of lines)

abbrev pub AmountsHeld : List PesoPrice → List ℕ → ℕ → List UnsignedPesos → Type 0
AmountsHeld prices lines = Held as_total (λ e. e.0) (λ x. refl) (λ e. refl) lines (amount_of prices lines)

-- a line's amount is small
pub product_most : (prices : List PesoPrice) (lines : List ℕ) → PricedLines prices lines → (j : ℕ) →
    j < line_count lines →
    amount_of prices lines j ≤ 20000000000000
product_most prices lines ok j p = mul-le-mul (ok.priced j p) (ok.own.checked.facts j p).energy_most

pub amount_most : (prices : List PesoPrice) (lines : List ℕ) → PricedLines prices lines → (i : ℕ) →
    lines_amount (λ j. (get_or prices j no_price).0) lines i ≤ 5120000000000000
unfolding lines_amount own_sum
amount_most prices lines ok i =
    omega (
      arith,
      parts_most lines (amount_of prices lines) i (line_count lines) 20000000000000 (product_most prices lines ok),
      ok.own.checked.few,
    )

module _ (lines : List ℕ) (ok : OwnLines lines) (i : ℕ) where
  -- the energy is 0 exactly where there is no line
  energy_none : has_line lines i ≡ false → supplied_energy lines i ≡ 0
  unfolding supplied_energy own_sum own_part has_line
  energy_none h =
      sum_same (line_count lines) _ (λ j. 0)
      (λ j p. rw (any_none (line_count lines) (λ k. eqb (line_of lines k).distributor i) h j p)) ∙ nothing
      (line_count lines)
    where
      nothing : (k : ℕ) → sum_below k (λ j. 0) ≡ 0
      nothing k = let e : sum_below k (λ j. 0) ≤ k * 0 = sum_le k 0 (λ j. 0) (λ j p. omega arith) in omega arith

  energy_some : has_line lines i ≡ true → 1 ≤ supplied_energy lines i
  unfolding supplied_energy own_sum has_line
  energy_some h =
      let w = any_where (line_count lines) (λ j. eqb (line_of lines j).distributor i) h in
      omega (
        arith,
        sum_part (line_count lines) (own_part lines (λ j. (line_of lines j).energy) i) w.at w.below,
        part_own lines (λ j. (line_of lines j).energy) i w.at (eqb-true _ _ w.holds),
        (ok.checked.facts w.at w.below).energy,
      )

  energy_tells : not (eqb (supplied_energy lines i) 0) ≡ has_line lines i
  energy_tells = go (has_line lines i) refl
    where
      go : (b : Bool) → has_line lines i ≡ b → not (eqb (supplied_energy lines i) 0) ≡ b
      go false e = rw (eq-eqb (supplied_energy lines i) 0 (energy_none e))
      go true e = rw (ne_eqb (supplied_energy lines i) 0 (λ z. let some = energy_some e in absurd (omega arith)))

  pub energy_most_lem : supplied_energy lines i ≤ 2560000000
  unfolding supplied_energy own_sum
  energy_most_lem =
      omega (
        arith,
        parts_most lines (λ j. (line_of lines j).energy) i (line_count lines) 10000000
            (λ j p. (ok.checked.facts j p).energy_most),
        ok.checked.few,
      )

-- what stands in the list of energies
pub energy_at : (lines : List ℕ) (i : ℕ) → i < most_distributors →
    (get_or (energy_list lines) i no_energy).0 ≡ supplied_energy lines i
unfolding energy_list
energy_at lines i p =
    ap (λ e. e.0) (list_at (λ k. record { 0 = supplied_energy lines k }) most_distributors no_energy i p)

-- everyone has an energy exactly where everyone has a line
pub energies_tell : (n : ℕ) (lines : List ℕ) → n ≤ most_distributors → OwnLines lines →
    every_energy n (energy_list lines) ≡ everyone_supplied n lines
unfolding every_energy everyone_supplied
energies_tell n lines few ok =
    all_same n (λ i. not (eqb (get_or (energy_list lines) i no_energy).0 0)) (has_line lines)
    (λ i p. ap (λ x. not (eqb x 0)) (energy_at lines i (omega arith)) ∙ energy_tells lines ok i)

-- everyone supplied: each energy is at least 1
pub supplied_some : (n : ℕ) (lines : List ℕ) → OwnLines lines → everyone_supplied n lines ≡ true → (i : ℕ) → i < n →
    1 ≤ supplied_energy lines i
unfolding everyone_supplied
supplied_some n lines ok h i p = energy_some lines ok i (all_at n (has_line lines) h i p)
