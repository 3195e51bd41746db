-- The window lies in the row; the invariant: no month passed is missing, and the sum is that of the months passed.
use mathlib.Core.Path.{◌≡◌, refl, sym, ◌∙◌, ap}
use Prim.Native.Nat.{ℕ, ◌≤◌, ◌-◌, ◌*◌}
use native.Mathlib.Omega.{arith}
use lib.Dec.{eqb}
use lib.ListN.{get_or}
use borrow.Author.Tests.{eq-eqb, ne_eqb}
use Rattle.numbers.specs.Bounded.{sum_below, any_below}
use Rattle.numbers.specs.Rounding.{half_up}
use Rattle.numbers.proofs.SumLaws.{sum_step}
use Rattle.numbers.proofs.TestLaws.{any_more, any_holds}
use Rattle.series.specs.Series.{term_value, window_missing, mean_of, window_mean}
use Rattle.series.proofs.SeriesLaws.{value_most, values_most, window_before, window_inside, window_past}
use Rattle.series.proofs.MeanLaws.{mean_missing, mean_published}
use Rattle.series.proofs.mean.mean.Goals as goal
use Rattle.series.proofs.mean.mean.Goals.{At-loop-k, In-loop-k}

-- the value that a turn takes is that of the term's month
module _ (c : In-loop-k) where
  abbrev k : ℕ
  k = c.loop-k.k

  taken : get_or c.args.row.now (c.args.month - c.args.lag - c.args.first - k) 0 ≡ term_value
      c.args.row.now c.args.first c.args.month c.args.lag k
  taken =
      window_inside c.args.row.now c.args.first c.args.month c.args.lag c.args.window
      c.requires.window.some k (omega arith)
      (omega arith) (omega arith)

-- the sum at the loop's head
sum_most : (l : At-loop-k) → l.loop-k.sum ≤ 899999991
sum_most l =
    omega (
      arith,
      l.loop-k.invariant.1,
      values_most l.args.row.now l.requires.small l.args.first l.args.month l.args.lag l.loop-k.k,
      l.requires.window.few,
    )

pub returns-then-month-first : goal.returns-then-month-first
returns-then-month-first c =
    sym (mean_missing c.args.row.now _ _ _ _
    (window_before c.args.row.now _ _ _ _ c.requires.window.some (omega arith)))

pub returns-then-newest-ge-MONTHS : goal.returns-then-newest-ge-MONTHS
returns-then-newest-ge-MONTHS c =
    sym (mean_missing c.args.row.now _ _ _ _
    (window_past c.args.row.now _ _ _ _ c.requires.window.some (omega arith) (omega arith) (omega arith)))

pub loop-k-init : goal.loop-k-init
unfolding any_below sum_below
loop-k-init c = (refl, refl)

pub returns-then-value-eq0 : goal.returns-then-value-eq0
unfolding window_missing
returns-then-value-eq0 c =
    let a = c.args in
    sym
    (mean_missing a.row.now _ _ _ _
    (any_holds a.window (λ j. eqb (term_value a.row.now a.first a.month a.lag j) 0)
    (k (goal.at.returns-then-value-eq0 c).In-loop-k) (omega arith)
    (eq-eqb _ _ (sym (taken (goal.at.returns-then-value-eq0 c).In-loop-k) ∙ c.if-value-eq0.true))))

pub overflow_add-sum : goal.overflow_add-sum
overflow_add-sum c =
    let a = c.args in
    omega (
      arith,
      taken (goal.at.overflow_add-sum c).In-loop-k,
      value_most a.row.now c.requires.small a.first a.month a.lag (k (goal.at.overflow_add-sum c).In-loop-k),
      sum_most
          (goal.at.overflow_add-sum c).At-loop-k,
    )

pub loop-k-preserved : goal.loop-k-preserved
loop-k-preserved c =
    let a = c.args in (
      any_more (k (goal.at.loop-k-preserved c).In-loop-k) (λ j. eqb (term_value a.row.now a.first a.month a.lag j) 0)
          c.loop-k.invariant.0
          (ne_eqb _ _ (λ e. c.if-value-eq0.false (taken (goal.at.loop-k-preserved c).In-loop-k ∙ e))),
      rw sum_step (omega (arith, taken (goal.at.loop-k-preserved c).In-loop-k)),
    )

pub half_up-requires : goal.half_up-requires
half_up-requires c =
    omega (arith, c.requires.window.some, c.requires.window.few, sum_most (goal.at.half_up-requires c).At-loop-k)

pub returns : goal.returns
unfolding window_missing window_mean mean_of
returns c =
    let e : c.loop-k.k ≡ c.args.window = omega arith in
    c.half_up.ensures ∙ ap (λ x. half_up (x * 100) c.args.window) (rw e at c.loop-k.invariant.1)
    ∙ sym (mean_published c.args.row.now _ _ _ _ (rw e at c.loop-k.invariant.0))

pub overflow_mul-sum : goal.overflow_mul-sum
overflow_mul-sum c = omega (arith, sum_most (goal.at.overflow_mul-sum c).At-loop-k)
