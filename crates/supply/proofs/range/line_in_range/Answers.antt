-- Head and power, terms, weights: each way out is the definition at the tests that led there.
use mathlib.Core.Path.{◌≡◌, sym, ◌∙◌, ap₂}
use mathlib.Core.Bool.{true, ◌&&◌}
use borrow.Author.Tests.{eq-eqb, ne_eqb, not-true, not-false}
use borrow.Author.Rules.{rules}
use Rattle.numbers.proofs.BoolLaws.{told_true, told_false}
use Rattle.supply.specs.Range.{head_in_range, power_in_range, terms_allowed, weights_allowed, line_in_range}
use Rattle.supply.proofs.range.line_in_range.Goals as goal
use Rattle.supply.proofs.range.line_in_range.Goals.{After-power_in_range, Else-not-head_in_range-power_in_range, Else-not-terms_allowed}

-- what the tests passed say
tested : (c : After-power_in_range) →
    (c.head_in_range.result && c.power_in_range.result)
    ≡ (head_in_range c.args.n c.args.line
    && power_in_range c.args.line)
tested c = ap₂ ◌&&◌ c.head_in_range.ensures c.power_in_range.ensures

head : (c : Else-not-head_in_range-power_in_range) →
    (head_in_range c.args.n c.args.line
    && power_in_range c.args.line) ≡ true
head c = told_true (tested (goal.at.terms_allowed-requires c).After-power_in_range) c.if-not-head_in_range-power_in_range.false-raw

terms : (c : Else-not-terms_allowed) → terms_allowed c.args.line ≡ true
terms c = sym c.terms_allowed.ensures ∙ not-false _ c.if-not-terms_allowed.false-raw

pub returns-then-not-head_in_range-power_in_range : goal.returns-then-not-head_in_range-power_in_range
unfolding line_in_range
returns-then-not-head_in_range-power_in_range c = rw (told_false (tested (goal.at.returns-then-not-head_in_range-power_in_range c).After-power_in_range) c.if-not-head_in_range-power_in_range.true-raw)

pub returns-then-not-terms_allowed : goal.returns-then-not-terms_allowed
unfolding line_in_range
returns-then-not-terms_allowed c =
    rw (
      head (goal.at.returns-then-not-terms_allowed c).Else-not-head_in_range-power_in_range,
      ← c.terms_allowed.ensures,
      not-true c.terms_allowed.result
          c.if-not-terms_allowed.true-raw,
    )

pub returns-then-line-eq0 : goal.returns-then-line-eq0
unfolding line_in_range weights_allowed
returns-then-line-eq0 c = rw (head (goal.at.returns-then-line-eq0 c).Else-not-head_in_range-power_in_range, terms (goal.at.returns-then-line-eq0 c).Else-not-terms_allowed, eq-eqb _ _ c.if-line-eq0.true)

pub returns-else-line-eq0 : goal.returns-else-line-eq0
unfolding line_in_range weights_allowed
returns-else-line-eq0 c =
    rw (
      head (goal.at.returns-else-line-eq0 c).Else-not-head_in_range-power_in_range,
      terms (goal.at.returns-else-line-eq0 c).Else-not-terms_allowed,
      ne_eqb _ _ c.if-line-eq0.false,
      ← c.weight_total.ensures,
    )

pub terms_allowed-requires : goal.terms_allowed-requires
terms_allowed-requires c = search rules
