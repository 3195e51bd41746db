-- An array of one byte repeated is as long as it says.
use Rattle.std.proofs.Common.{sym, ℕ}
use lib.ListN.{length-replicate}
use Rattle.unreadable.proofs.blanks.Goals as goal

pub returns : goal.returns
returns c = sym (length-replicate {A = ℕ} 524289 32)
