-- The invariant: the start sought from here, in a comment or not, is the next token's.
use mathlib.Core.Path.{◌≡◌}
use Prim.Native.Nat.{◌-◌}
use lib.ListN.{length}
use Rattle.journal.specs.Token.{start_from, token_start}
use Rattle.journal.proofs.token.token_start.Given as goal

abbrev pub invariant-loop-k : goal.invariant-loop-k
invariant-loop-k l = start_from (length l.text - l.k) l.comment l.text l.k ≡ token_start l.text l.from
