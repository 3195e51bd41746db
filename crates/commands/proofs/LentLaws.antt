-- Laws of what is lent: the first places of room for the longest list. Assumes nothing.
use mathlib.Core.Path.{◌≡◌, ◌∙◌, ap₂}
use mathlib.Core.List.{List}
use Prim.Native.Nat.{ℕ, ◌≤◌}
use lib.ListN.{take, replicate}
use Rattle.std.proofs.lemmas.List.{take-replicate}
use Rattle.journal.specs.Command.{longest_list}

pub first_lent : {A : Type 0} (word : A) {room : List A} {count : ℕ} → room ≡ replicate longest_list word →
    (number : ℕ) → count ≡ number → number ≤ longest_list → take count room ≡ replicate number word
first_lent word e number h p = ap₂ take h e ∙ take-replicate number longest_list word p
