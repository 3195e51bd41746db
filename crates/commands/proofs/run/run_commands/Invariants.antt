-- The invariant: the rest of the journal leads from the ledger at hand to the journal's ledger.
use mathlib.Core.Path.{◌≡◌}
use Prim.Native.Nat.{◌-◌}
use lib.ListN.{length}
use Rattle.ledger.specs.Ledger.{empty_ledger}
use Rattle.commands.specs.Replay.{replay_from}
use Rattle.commands.proofs.run.run_commands.Given as goal

abbrev pub invariant-loop-at : goal.invariant-loop-at
invariant-loop-at l =
    replay_from (length l.text - l.at) l.text l.at l.ledger ≡ replay_from (length l.text) l.text 0 (empty_ledger 0)

abbrev pub decreases-loop-at : goal.decreases-loop-at
decreases-loop-at l = length l.text - l.at
