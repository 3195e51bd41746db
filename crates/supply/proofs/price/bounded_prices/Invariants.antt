-- The invariant: no line passed is out of bounds, the prices of the lines passed are filled in, and whether one moved.
use mathlib.Core.Path.{◌≡◌}
use Rattle.std.specs.Prelude.{None}
use Rattle.numbers.specs.Bounded.{any_below, first_below, filled_below}
use Rattle.numbers.specs.Units.{no_price, no_power}
use Rattle.supply.specs.Line.{most_lines, line_of}
use Rattle.supply.specs.Listed.{listed_mean}
use Rattle.supply.specs.Price.{beyond_in, reference_price, power_price, price_in_force, moved, line_indexed}
use Rattle.supply.proofs.price.bounded_prices.Given as goal

abbrev pub invariant-loop-j : goal.invariant-loop-j
invariant-loop-j l =
    let mean = listed_mean l.means.values in
    record {
      passed : first_below l.j (beyond_in mean l.numbers l.lines l.in_force) ≡ None;
      references : l.references ≡ filled_below most_lines no_price l.j (reference_price mean l.numbers l.lines l.in_force);
      power : l.power ≡ filled_below most_lines no_power l.j (power_price mean l.numbers l.lines);
      moved : l.moved ≡ any_below l.j (λ i. moved (price_in_force l.in_force i) (line_indexed mean (line_of l.lines i)));
    }
