-- The invariant: the words of the lines passed are filled in.
use mathlib.Core.Path.{◌≡◌}
use Rattle.std.specs.Prelude.{None}
use Rattle.numbers.specs.Bounded.{filled_below}
use Rattle.supply.specs.Line.{most_lines, line_of}
use Rattle.supply.specs.Listed.{listed_mean, line_words}
use Rattle.supply.proofs.price.price_words.Given as goal

abbrev pub invariant-loop-j : goal.invariant-loop-j
invariant-loop-j l =
    l.words ≡ filled_below most_lines None l.j (λ i. line_words (listed_mean l.means.values) (line_of l.lines i))
