-- No more calls of a kind are accepted than turns are made.
use Prim.Native.Nat.{◌≤◌}
use Rattle.timing.proofs.calls.make_calls.Given as goal

abbrev pub invariant-loop : goal.invariant-loop
invariant-loop l = (l.results.fixings ≤ l.counter) × (l.results.settlements ≤ l.counter)
