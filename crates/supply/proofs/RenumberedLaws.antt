-- Lines that name new numbers in their old places (W-207 of document 02) are the same lines but for their
-- distributors, and pass the same checks with the same prices: no price is worked from a distributor's number.
-- Assumes nothing.
use mathlib.Core.Path.{◌≡◌, refl, sym, ◌∙◌, ap, ap₂}
use mathlib.Core.Bool.{Bool, cond}
use mathlib.Core.List.{List}
use Rattle.std.specs.Prelude.{Option}
use Prim.Native.Nat.{ℕ, ◌+◌, ◌*◌, ◌/◌, ◌<◌}
use native.Mathlib.Omega.{arith}
use native.Mathlib.Decide.{ℕ_discrete}
use native.Mathlib.Nat.{add_assoc, add-zero}
use lib.Dec.{eqb, ltb}
use lib.ListN.{length}
use borrow.Author.Tests.{ne_eqb}
use Rattle.numbers.specs.Bounded.{list_below}
use Rattle.numbers.specs.Renumbering.{Renumbering, number_by}
use Rattle.numbers.specs.Units.{no_price, no_power}
use Rattle.numbers.specs.declared.units.PowerPrice.{PowerPrice}
use Rattle.numbers.proofs.TestLaws.{all_same, any_same}
use Rattle.numbers.proofs.FirstLaws.{first_same}
use Rattle.numbers.proofs.ListLaws.{list_length, list_at, list_same, filled_same}
use Rattle.numbers.proofs.RenumberingLaws.{number_test, place_in}
use Rattle.supply.specs.Line.{most_lines, line_words, line_count, word_at, term_from, power_term_from, line_of, term_used}
use Rattle.supply.specs.Line.{renumbered_lines}
use Rattle.supply.specs.Range.{head_in_range, terms_allowed, weight_total, weights_allowed, power_in_range, line_in_range}
use Rattle.supply.specs.Range.{lines_in_range}
use Rattle.supply.specs.Months.{lacks_month, missing_term, missing_in_line, first_missing, month_check}
use Rattle.supply.specs.Price.{term_mean, index_factor, line_indexed, indexed_allowed, price_in_force, moved}
use Rattle.supply.specs.Price.{line_purchase, line_reference, reference_answer, price_answer, answer_at, power_indexed}
use Rattle.supply.specs.Price.{power_purchase, power_allowed, line_power, beyond_at, beyond_in, first_beyond}
use Rattle.supply.specs.Price.{bounds_check, any_moved, any_line_moved, price_checks, price_or, reference_price}
use Rattle.supply.specs.Price.{reference_list, power_price, power_list, table_checks}
use Rattle.supply.specs.declared.line.Term.{Term}
use Rattle.supply.specs.declared.line.Line.{Line}
use Rattle.supply.specs.declared.market.FixingNumbers.{FixingNumbers}

-- a line that names another distributor
abbrev pub with_distributor : ℕ → Line → Line
with_distributor d line =
    record {
      distributor = d;
      base_price = line.base_price;
      offer_factor = line.offer_factor;
      purchase_factor = line.purchase_factor;
      energy = line.energy;
      term_count = line.term_count;
      power_base_price = line.power_base_price;
      terms = line.terms;
    }

-- the words of line j, as a line of their own
abbrev own_words : List ℕ → ℕ → List ℕ
own_words words j = list_below line_words (λ k. word_at words (j * line_words + k))

-- the two sides compute to one, but for how the sums of places are bracketed
line_alone : (words : List ℕ) (j : ℕ) → line_of words j ≡ line_of (own_words words j) 0
unfolding line_of term_from power_term_from list_below
line_alone words j = simp (add_assoc, add-zero)

-- words of which the first is another
first_word : (word : ℕ → ℕ) (d : ℕ) →
    line_of (list_below line_words (λ k. cond (eqb k 0) d (word k))) 0 ≡ with_distributor d
    (line_of (list_below line_words word) 0)
unfolding line_of term_from power_term_from list_below
first_word word d = refl

distributor_word : (words : List ℕ) (j : ℕ) → word_at words (j * line_words + 0) ≡ (line_of words j).distributor
unfolding line_of
distributor_word words j = simp add-zero

-- what is worked from a line or tested in it does not depend on whose it is, but for whether that is below n
module _ (d : ℕ) (line : Line) where
  range_named : (n : ℕ) → ltb d n ≡ ltb line.distributor n →
      line_in_range n (with_distributor d line) ≡ line_in_range n line
  unfolding line_in_range head_in_range power_in_range terms_allowed weights_allowed weight_total
  range_named n h = rw h

  missing_named : (lacks : Term → Bool) (j : ℕ) →
      missing_in_line lacks (with_distributor d line) j ≡ missing_in_line lacks line j
  unfolding missing_in_line missing_term term_used
  missing_named lacks j = refl

  module _ (mean : Term → ℕ) where
    indexed_named : line_indexed mean (with_distributor d line) ≡ line_indexed mean line
    unfolding line_indexed index_factor
    indexed_named = refl

    answer_named : (numbers : FixingNumbers) (old : Option ℕ) →
        price_answer mean numbers (with_distributor d line) old ≡ price_answer mean numbers line old
    unfolding price_answer indexed_allowed line_indexed index_factor reference_answer line_reference line_purchase
    answer_named numbers old = refl

    allowed_named : power_allowed mean (with_distributor d line) ≡ power_allowed mean line
    unfolding power_allowed power_purchase power_indexed line_purchase
    allowed_named = refl

    power_named : (numbers : FixingNumbers) →
        line_power mean numbers (with_distributor d line) ≡ line_power mean numbers line
    unfolding line_power power_purchase power_indexed line_purchase
    power_named numbers = refl

module _ {n : ℕ} (r : Renumbering n) (lines : List ℕ) where
  pub lines_length : length (renumbered_lines r lines) ≡ length lines
  unfolding renumbered_lines
  lines_length = list_length _ (length lines)

  pub count_renumbered : line_count (renumbered_lines r lines) ≡ line_count lines
  count_renumbered = ap (λ x. x / line_words) lines_length

  module _ (j : ℕ) (p : j < line_count lines) where
    abbrev whose : ℕ
    whose = number_by n r.new (line_of lines j).distributor

    word_renumbered : (k : ℕ) → k < line_words →
        word_at (renumbered_lines r lines) (j * line_words + k) ≡ cond (eqb k 0) whose (word_at lines (j * line_words + k))
    unfolding renumbered_lines
    word_renumbered k q =
        list_at _ (length lines) 0 (j * line_words + k) (omega arith)
        ∙ rw (place_in line_words j k q) (go (ℕ_discrete k 0))
      where
        go : Dec (k ≡ 0) →
            cond (eqb k 0) (number_by n r.new (word_at lines (j * line_words + k))) (word_at lines (j * line_words + k))
            ≡ cond (eqb k 0) whose (word_at lines (j * line_words + k))
        go (yes e) = rw e (ap (number_by n r.new) (distributor_word lines j))
        go (no e) = rw (ne_eqb k 0 e)

    pub line_renumbered : line_of (renumbered_lines r lines) j ≡ with_distributor whose (line_of lines j)
    line_renumbered =
        line_alone (renumbered_lines r lines) j
        ∙ ap (λ words. line_of words 0) (list_same line_words _ _ word_renumbered)
        ∙ first_word (λ k. word_at lines (j * line_words + k)) whose
        ∙ ap (with_distributor whose) (sym (line_alone lines j))

    line_alike : {A : Type 0} (f : Line → A) → f (with_distributor whose (line_of lines j)) ≡ f (line_of lines j) →
        f (line_of (renumbered_lines r lines) j) ≡ f (line_of lines j)
    line_alike f h = ap f line_renumbered ∙ h

  pub range_renumbered : lines_in_range n (renumbered_lines r lines) ≡ lines_in_range n lines
  unfolding lines_in_range
  range_renumbered =
      rw count_renumbered
      (all_same (line_count lines) _ _ (λ j p. line_alike j p (line_in_range n)
      (range_named (whose j p) (line_of lines j) n (number_test r (line_of lines j).distributor))))

  missing_renumbered : (lacks : Term → Bool) → first_missing lacks (renumbered_lines r lines) ≡ first_missing lacks lines
  unfolding first_missing
  missing_renumbered lacks =
      rw count_renumbered
      (first_same _ _ (line_count lines) (λ j p. line_alike j p (λ line. missing_in_line lacks line j)
      (missing_named (whose j p) (line_of lines j) lacks j)))

  module _ (mean : Term → ℕ) where
    some_moved_renumbered : (in_force : List ℕ) →
        any_line_moved mean (renumbered_lines r lines) in_force ≡ any_line_moved mean lines in_force
    unfolding any_line_moved any_moved
    some_moved_renumbered in_force =
        rw count_renumbered
        (any_same (line_count lines) _ _ (λ j p. ap (moved (price_in_force in_force j))
        (line_alike j p (line_indexed mean) (indexed_named (whose j p) (line_of lines j) mean))))

    pub power_renumbered : (numbers : FixingNumbers) →
        power_list mean numbers (renumbered_lines r lines) ≡ power_list mean numbers lines
    unfolding power_list power_price
    power_renumbered numbers =
        rw count_renumbered
        (filled_same most_lines no_power (line_count lines) _ _ (λ j p. ap {B = PowerPrice} (λ x. record { 0 = x })
        (line_alike j p (line_power mean numbers) (power_named (whose j p) (line_of lines j) mean numbers))))

    module _ (numbers : FixingNumbers) (in_force : List ℕ) where
      answer_renumbered : (j : ℕ) → j < line_count lines →
          answer_at mean numbers (renumbered_lines r lines) in_force j ≡ answer_at mean numbers lines in_force j
      unfolding answer_at
      answer_renumbered j p =
          line_alike j p (λ line. price_answer mean numbers line (price_in_force in_force j))
          (answer_named (whose j p) (line_of lines j) mean numbers (price_in_force in_force j))

      beyond_renumbered : first_beyond mean numbers (renumbered_lines r lines) in_force ≡ first_beyond mean numbers lines
          in_force
      unfolding first_beyond beyond_in
      beyond_renumbered =
          rw count_renumbered
          (first_same _ _ (line_count lines) (λ j p. ap₂ (beyond_at j) (answer_renumbered j p)
          (line_alike j p (power_allowed mean) (allowed_named (whose j p) (line_of lines j) mean))))

      pub references_renumbered : reference_list mean numbers (renumbered_lines r lines) in_force ≡ reference_list mean
          numbers lines in_force
      unfolding reference_list reference_price
      references_renumbered =
          rw count_renumbered
          (filled_same most_lines no_price (line_count lines) _ _ (λ j p. ap price_or (answer_renumbered j p)))

  -- the checks of the index table, with the same line and term
  pub table_renumbered : (table : List (List ℕ)) (numbers : FixingNumbers) (in_force : List ℕ) →
      table_checks table numbers (renumbered_lines r lines) in_force ≡ table_checks table numbers lines in_force
  unfolding table_checks month_check price_checks bounds_check
  table_renumbered table numbers in_force =
      rw (
        missing_renumbered (lacks_month table numbers),
        beyond_renumbered (term_mean table numbers) numbers in_force,
        some_moved_renumbered (term_mean table numbers) in_force,
      )
