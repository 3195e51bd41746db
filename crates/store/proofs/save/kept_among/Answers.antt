-- Each way out is the definition at the tests that led there.
use mathlib.Core.Path.{sym, ◌∙◌}
use native.Mathlib.Omega.{arith}
use borrow.Author.Tests.{lt-leb, le-leb}
use Rattle.numbers.specs.Sizes.{most_distributors}
use Rattle.store.specs.Store.{kept_among}
use Rattle.store.proofs.save.kept_among.Goals as goal
use Rattle.store.proofs.save.kept_among.Goals.{else-n-le-MOST_DISTRIBUTORS-via-then-n-le-MOST_DISTRIBUTORS+else-zero_past}
use Rattle.store.proofs.save.kept_among.Goals.{else-n-le-MOST_DISTRIBUTORS-via-else-n-le-MOST_DISTRIBUTORS}

pub returns-then-zero_past-clause-value : goal.returns-then-zero_past-clause-value
unfolding kept_among
returns-then-zero_past-clause-value c =
    rw (
      le-leb c.args.n most_distributors c.if-n-le-MOST_DISTRIBUTORS.true,
      sym c.zero_past.ensures ∙ c.if-zero_past.true,
    )

pub returns-clause-value : goal.returns-clause-value
unfolding kept_among
returns-clause-value c =
    let n = c.args.n in
    elim c.else-n-le-MOST_DISTRIBUTORS.branch [
      | else-n-le-MOST_DISTRIBUTORS-via-then-n-le-MOST_DISTRIBUTORS+else-zero_past w ↦
          rw (
            le-leb n most_distributors w.if-n-le-MOST_DISTRIBUTORS.true,
            sym w.zero_past.ensures ∙ w.if-zero_past.false,
          )
      | else-n-le-MOST_DISTRIBUTORS-via-else-n-le-MOST_DISTRIBUTORS w ↦
          rw (lt-leb n most_distributors (omega (arith, w.if-n-le-MOST_DISTRIBUTORS.false)))
    ]
