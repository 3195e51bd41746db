-- The invariant: the end sought from here is the token's.
use mathlib.Core.Path.{◌≡◌}
use Prim.Native.Nat.{◌-◌}
use lib.ListN.{length}
use Rattle.journal.specs.Token.{end_from, token_end}
use Rattle.journal.proofs.token.token_end.Given as goal

abbrev pub invariant-loop-k : goal.invariant-loop-k
invariant-loop-k l = end_from (length l.text - l.k) l.text l.k ≡ token_end l.text l.start
