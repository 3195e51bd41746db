-- The invariant: the words passed are bytes.
use Prim.Native.Nat.{◌%◌}
use lib.ListN.{length, get_or}
use Rattle.numbers.proofs.ListLaws.{Written}
use Rattle.commands.proofs.sheets.narrow.Given as goal

abbrev pub invariant-loop-k : goal.invariant-loop-k
invariant-loop-k l = Written (λ i. get_or l.words i 0 % 256) (length l.words) l.bytes l.k
