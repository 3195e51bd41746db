-- The invariant: the words of the lines passed are filled in.
use mathlib.Core.Path.{◌≡◌, ◌∙◌, ap}
use Rattle.std.specs.Prelude.{None}
use Prim.Native.Nat.{◌<◌}
use native.Mathlib.Omega.{arith}
use Rattle.numbers.proofs.ListLaws.{filled_none, filled_next}
use Rattle.supply.specs.Line.{most_lines, line_count, line_of}
use Rattle.supply.specs.Listed.{listed_mean, line_words, price_words}
use Rattle.supply.proofs.price.price_words.Goals as goal
use Rattle.supply.proofs.price.price_words.Goals.{After-line_words}

pub loop-j-init : goal.loop-j-init
loop-j-init c = filled_none most_lines None _

inside : (c : After-line_words) → c.loop-j.j < most_lines
inside c = omega (arith, c.line_count-j-end.ensures, c.requires.few)

pub loop-j-preserved : goal.loop-j-preserved
loop-j-preserved c =
    filled_next most_lines None c.loop-j.j
    (λ i. line_words (listed_mean c.args.means.now.values) (line_of c.args.lines.now i))
    c.loop-j.words _ (inside c) c.loop-j.invariant
    (c.line_words.ensures ∙ ap (line_words (listed_mean c.args.means.now.values)) c.checked_line.ensures)

pub returns : goal.returns
unfolding price_words
returns c =
    let e : c.loop-j.j ≡ line_count c.args.lines.now = omega (arith, c.line_count-j-end.ensures) in
    rw e at c.loop-j.invariant
