-- Whether one of the means is 0.
use mathlib.Core.Path.{◌≡◌, ◌∙◌, ap}
use native.Mathlib.Omega.{arith}
use Rattle.numbers.specs.Bounded.{any_below}
use lib.Dec.{eqb}
use lib.ListN.{length, get_or}
use Rattle.series.specs.Means.{mean_count}
use Rattle.numbers.proofs.ChainLaws.{any_listed}
use Rattle.supply.proofs.months.Means.any_missing.Goals as goal

pub returns : goal.returns
returns c =
    let long : length c.args.self.now.values ≡ mean_count = omega arith in
    c.contains.ensures.value ∙ any_listed (λ mean. eqb mean 0) c.args.self.now.values 0
    ∙ ap (λ n. any_below n (λ k. eqb (get_or c.args.self.now.values k 0) 0)) long
