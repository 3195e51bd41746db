-- The name, then the number.
use mathlib.Core.Path.{refl, sym, ◌∙◌}
use Rattle.std.proofs.lemmas.Result.{err_from_is_err_and}
use Rattle.journal.specs.List.{count_after}
use Rattle.journal.proofs.list.read_count.Goals as goal

pub returns-in_err-named : goal.returns-in_err-named
unfolding count_after
returns-in_err-named c =
    let p = err_from_is_err_and c.from_residual.result c.from_residual.ensures.1 in
    rw (p.1, p.2, sym c.next_name.ensures ∙ c.in_err-named.was) refl

pub returns : goal.returns
unfolding count_after
returns c = rw (c.number_after.ensures, sym c.next_name.ensures ∙ c.in_ok-named.was) refl
