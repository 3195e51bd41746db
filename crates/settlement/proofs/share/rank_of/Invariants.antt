-- The invariant: rank is the number of those passed who come before i.
use mathlib.Core.Bool.{cond}
use Prim.Native.Nat.{ℕ}
use Rattle.numbers.proofs.SumLaws.{Summed}
use Rattle.settlement.specs.Share.{comes_before}
use Rattle.settlement.specs.Month.{division_at}
use Rattle.settlement.proofs.share.rank_of.Given as goal

-- 1 for each that comes before i
abbrev pub counted : (ℕ → ℕ) → ℕ → ℕ → ℕ
counted remainder i j = cond (comes_before remainder j i) 1 0

abbrev pub invariant-loop-j : goal.invariant-loop-j
invariant-loop-j l = Summed l.n (counted (λ k. (division_at l.divisions k).remainder) l.i) l.rank l.j
