-- Lines that agree in all but their power words have the same distributors, energies and references: nothing of energy
-- is worked from a word of power. Assumes nothing.
use mathlib.Core.Path.{◌≡◌, sym, ◌∙◌, ap}
use mathlib.Core.List.{List}
use Rattle.std.specs.Prelude.{Option}
use Prim.Native.Nat.{ℕ, ◌+◌, ◌*◌, ◌/◌}
use native.Mathlib.Omega.{arith}
use native.Mathlib.Nat.{add_assoc, add-zero}
use Rattle.numbers.specs.Bounded.{sum_below, list_below, filled_below}
use Rattle.numbers.specs.Units.{no_price}
use Rattle.numbers.proofs.ListLaws.{list_same, filled_same}
use Rattle.supply.specs.Line.{power_start, line_words, most_lines, line_count, word_at, term_from, line_of}
use Rattle.supply.specs.Line.{SameEnergyWords}
use Rattle.supply.specs.Price.{index_factor, line_indexed, indexed_allowed, line_purchase, line_reference}
use Rattle.supply.specs.Price.{reference_answer, price_answer, price_in_force, answer_at, price_or, reference_price}
use Rattle.supply.specs.Price.{reference_list}
use Rattle.supply.specs.declared.line.Term.{Term}
use Rattle.supply.specs.declared.market.FixingNumbers.{FixingNumbers}

-- the words of line j before those of power, as a line of their own
abbrev energy_words : List ℕ → ℕ → List ℕ
energy_words words j = list_below power_start (λ k. word_at words (j * line_words + k))

-- they alone tell the reference: the two sides compute to one, but for how the sums of places are bracketed
energy_answer : (mean : Term → ℕ) (numbers : FixingNumbers) (words : List ℕ) (j : ℕ) (old : Option ℕ) →
    price_answer mean numbers (line_of words j) old ≡ price_answer mean numbers (line_of (energy_words words j) 0) old
unfolding price_answer indexed_allowed line_indexed index_factor reference_answer line_reference line_purchase line_of term_from
    sum_below list_below
energy_answer mean numbers words j old = simp add_assoc

module _ (one other : List ℕ) (same : SameEnergyWords one other) where
  pub count_same : line_count one ≡ line_count other
  count_same = ap (λ n. n / line_words) same.long

  pub distributor_same : (j : ℕ) → (line_of one j).distributor ≡ (line_of other j).distributor
  unfolding line_of
  distributor_same j = simp add-zero at (same.words j 0 (omega arith))

  pub energy_same : (j : ℕ) → (line_of one j).energy ≡ (line_of other j).energy
  unfolding line_of
  energy_same j = same.words j 4 (omega arith)

  words_same : (j : ℕ) → energy_words one j ≡ energy_words other j
  words_same j = list_same power_start _ _ (same.words j)

  module _ (mean : Term → ℕ) (numbers : FixingNumbers) (in_force : List ℕ) where
    answer_same : (j : ℕ) → answer_at mean numbers one in_force j ≡ answer_at mean numbers other in_force j
    unfolding answer_at
    answer_same j =
        energy_answer mean numbers one j (price_in_force in_force j)
        ∙ ap (λ words. price_answer mean numbers (line_of words 0) (price_in_force in_force j)) (words_same j)
        ∙ sym (energy_answer mean numbers other j (price_in_force in_force j))

    pub references_same : reference_list mean numbers one in_force ≡ reference_list mean numbers other in_force
    unfolding reference_list reference_price
    references_same =
        ap (λ n. filled_below most_lines no_price n (reference_price mean numbers one in_force)) count_same
        ∙ filled_same most_lines no_price (line_count other) _ _ (λ j p. ap price_or (answer_same j))
