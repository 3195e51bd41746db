-- The mean is at most that of the top value, the base value at least 1.
use mathlib.Core.Path.{◌∙◌, ap}
use Prim.Native.Nat.{◌*◌, ◌≤◌}
use Rattle.numbers.specs.Rounding.{half_up}
use Rattle.series.specs.Required.{most_mean}
use Rattle.supply.specs.Price.{term_ratio, ratio_of}
use Rattle.supply.proofs.ListedLaws.{listed_most}
use native.Mathlib.Omega.{arith}
use Rattle.supply.proofs.price.term_ratio.Goals as goal
use Rattle.supply.proofs.price.term_ratio.Goals.{After-term_mean}

mean_most : (c : After-term_mean) → c.term_mean.result ≤ most_mean
mean_most c =
    rw c.term_mean.ensures (listed_most c.args.means.now.values c.args.means.now.within c.args.term)

pub overflow_mul-term_mean : goal.overflow_mul-term_mean
overflow_mul-term_mean c = omega (arith, mean_most c)

pub half_up-requires : goal.half_up-requires
half_up-requires c =
    omega (arith, mean_most (goal.at.half_up-requires c).After-term_mean, c.requires.base, c.requires.base_most)

pub returns : goal.returns
unfolding term_ratio ratio_of
returns c =
    c.half_up.ensures ∙ ap (λ mean. half_up (mean * 1000000) (c.args.term.base_value * 100))
    c.term_mean.ensures
