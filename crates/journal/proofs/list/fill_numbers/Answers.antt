-- The invariant: the first numbers are read into the first places, and zeros stand in the others.
use mathlib.Core.Path.{◌≡◌, sym, ◌∙◌}
use native.Mathlib.Omega.{arith}
use lib.ListN.{length}
use Rattle.std.proofs.lemmas.List.{set-get_or}
use Rattle.std.proofs.lemmas.Result.{err_from_is_err_and}
use Rattle.journal.proofs.ListLaws.{numbers_none, numbers_more, numbers_broken, numbers_whole}
use Rattle.journal.proofs.list.fill_numbers.Goals as goal

pub loop-place-init : goal.loop-place-init
loop-place-init c = numbers_none (rw c.fill.ensures.len (c.fill.ensures.after (λ y e. e)))

pub returns-in_err-number : goal.returns-in_err-number
returns-in_err-number c =
    let p = err_from_is_err_and c.from_residual.result c.from_residual.ensures.1 in
    rw (p.1, p.2, set-get_or c.loop-place.into c.loop-place.place-index 0, ← c.fill.ensures.len)
    (numbers_broken c.loop-place.invariant (sym c.number_after.ensures ∙ c.in_err-number.was) (omega arith))

pub loop-place-preserved : goal.loop-place-preserved
loop-place-preserved c =
    numbers_more c.loop-place.invariant (sym c.number_after.ensures ∙ c.in_ok-number.was) (omega arith)

pub returns : goal.returns
returns c =
    let last : c.loop-place.place-index ≡ length c.fill.new.self = omega arith in
    rw (← c.fill.ensures.len) (numbers_whole (rw last at c.loop-place.invariant))
