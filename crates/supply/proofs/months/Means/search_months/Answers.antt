-- Where no mean is 0 nothing is missing. The walk's invariants: nothing is missing in the lines passed, nor in the
-- terms passed of the line at hand.
use mathlib.Core.Path.{◌≡◌, refl, sym, ◌∙◌, ap}
use Prim.Native.Nat.{◌<◌}
use native.Mathlib.Omega.{arith}
use Rattle.numbers.specs.Bounded.{first_below}
use Rattle.numbers.specs.Checks.{verdict_of}
use Rattle.numbers.proofs.BoolLaws.{told_false}
use Rattle.numbers.proofs.FirstLaws.{first_step, first_is}
use Rattle.supply.specs.Line.{term_places, line_count, line_of}
use Rattle.supply.specs.Listed.{listed_lacks}
use Rattle.supply.specs.Months.{Place, missing_term, missing_in_line, first_missing, month_check}
use Rattle.supply.proofs.ListedLaws.{none_listed}
use Rattle.supply.proofs.MonthLaws.{term_missing, term_published}
use Rattle.supply.proofs.months.Means.search_months.Goals as goal

pub returns-then-not-any_missing : goal.returns-then-not-any_missing
unfolding verdict_of month_check
returns-then-not-any_missing c =
    rw (none_listed c.args.self.now.values c.args.lines.now c.requires
    (told_false c.any_missing.ensures c.if-not-any_missing.true-raw))

pub loop-j-init : goal.loop-j-init
unfolding first_below
loop-j-init c = refl

pub loop-k-init : goal.loop-k-init
unfolding first_below
loop-k-init c = refl

pub loop-k-preserved : goal.loop-k-preserved
loop-k-preserved c =
    let lacks = listed_lacks c.args.self.now.values in
    let line = c.checked_line-line.result.line in
    first_step (missing_term lacks line c.loop-j.j) c.loop-k.k c.loop-k.invariant
    ∙ term_published lacks line c.loop-j.j c.loop-k.k (sym c.lacks_month.ensures ∙ c.if-lacks_month.false)

pub loop-j-preserved : goal.loop-j-preserved
unfolding missing_in_line
loop-j-preserved c =
    let lacks = listed_lacks c.args.self.now.values in
    let e : c.loop-k.k ≡ term_places = omega arith in
    first_step (λ i. missing_in_line lacks (line_of c.args.lines.now i) i) c.loop-j.j c.loop-j.invariant
    ∙ ap (λ line. missing_in_line lacks line c.loop-j.j) (sym c.checked_line-line.ensures)
    ∙ rw e at c.loop-k.invariant

pub returns : goal.returns
unfolding verdict_of month_check first_missing
returns c =
    let e : c.loop-j.j ≡ line_count c.args.lines.now = omega (arith, c.line_count-j-end.ensures) in
    rw (← e, c.loop-j.invariant) refl

pub returns-then-lacks_month : goal.returns-then-lacks_month
unfolding verdict_of month_check first_missing missing_in_line
returns-then-lacks_month c =
    let lacks = listed_lacks c.args.self.now.values in
    let lines = c.args.lines.now in
    let line = c.checked_line-line.result.line in
    let j = c.loop-j.j in
    let below : j < line_count lines = omega (arith, c.line_count-j-end.ensures) in
    let place : Place = record { line = j; term = c.loop-k.k } in
    rw
    (first_is (λ i. missing_in_line lacks (line_of lines i) i) j (line_count lines) place below c.loop-j.invariant
    (ap (λ line. missing_in_line lacks line j) (sym c.checked_line-line.ensures)
    ∙ first_is (missing_term lacks line j) c.loop-k.k term_places place (omega arith) c.loop-k.invariant
    (term_missing lacks line j c.loop-k.k (sym c.lacks_month.ensures ∙ c.if-lacks_month.true))))
    refl
