-- The invariant: the sum of what the terms passed add; each adds less than 10^18.
use mathlib.Core.Path.{◌≡◌, ◌∙◌, ap}
use mathlib.Core.Bool.{true}
use Prim.Native.Nat.{ℕ, ◌*◌, ◌≤◌}
use native.Mathlib.Omega.{arith}
use lib.Dec.{ltb}
use borrow.Author.Tests.{eq-eqb, ne_eqb}
use Rattle.numbers.specs.Bounded.{sum_below}
use Rattle.numbers.specs.Rounding.{half_up}
use Rattle.numbers.proofs.SumLaws.{summed_none, summed_more, summed_all, sum_le}
use Rattle.supply.specs.Line.{term_of}
use Rattle.supply.specs.Listed.{listed_mean}
use Rattle.supply.specs.Price.{weighted_ratio, index_factor}
use Rattle.supply.specs.Required.{TermFacts}
use Rattle.supply.proofs.ListedLaws.{listed_most}
use Rattle.supply.proofs.PriceLaws.{weighted_most, own_used}
use Rattle.supply.proofs.price.index_factor.Goals as goal
use Rattle.supply.proofs.price.index_factor.Goals.{Start}

-- what each term adds
module _ (s : Start) where
  abbrev added : ℕ → ℕ
  added i =
      weighted_ratio (listed_mean s.args.means.now.values) (term_of s.args.checked.line i) (ltb i s.args.checked.line.term_count)

  term : (i : ℕ) → ltb i s.args.checked.line.term_count ≡ true → TermFacts (term_of s.args.checked.line i)
  term i h = s.args.checked.facts.term i (own_used s.args.checked.line i h)

  added_most : (i : ℕ) → added i ≤ 999999990000000000
  added_most i =
      weighted_most (listed_mean s.args.means.now.values) (term_of s.args.checked.line i)
      (listed_most s.args.means.now.values s.args.means.now.within (term_of s.args.checked.line i)) _ (term i)

  sum_most : (k : ℕ) → sum_below k added ≤ k * 999999990000000000
  sum_most k = sum_le k _ added (λ i p. added_most i)

pub returns-then-count-eq0 : goal.returns-then-count-eq0
unfolding index_factor
returns-then-count-eq0 c = rw (eq-eqb _ _ c.if-count-eq0.true)

pub loop-k-init : goal.loop-k-init
loop-k-init c = summed_none _ _

pub weighted_ratio-sum-requires : goal.weighted_ratio-sum-requires
weighted_ratio-sum-requires c =
    term (goal.at.weighted_ratio-sum-requires c).Start c.loop-k.k

pub overflow_add-sum : goal.overflow_add-sum
overflow_add-sum c =
    let start = (goal.at.overflow_add-sum c).Start in
    omega (
      arith,
      c.weighted_ratio-sum.ensures,
      c.loop-k.invariant.sum,
      added_most start c.loop-k.k,
      sum_most start c.loop-k.k,
    )

pub loop-k-preserved : goal.loop-k-preserved
loop-k-preserved c =
    rw c.weighted_ratio-sum.ensures (summed_more c.loop-k.invariant (omega arith))

pub half_up-requires : goal.half_up-requires
half_up-requires c =
    omega (arith, c.loop-k.invariant.sum, c.loop-k.invariant.most, sum_most (goal.at.half_up-requires c).Start c.loop-k.k)

pub returns : goal.returns
unfolding index_factor
returns c =
    rw (ne_eqb _ _ c.if-count-eq0.false)
    (c.half_up.ensures ∙ ap (λ x. half_up x 10000) (summed_all c.loop-k.invariant (omega arith)))
