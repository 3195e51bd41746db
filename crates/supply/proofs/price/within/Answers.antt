-- By the test, as in the definition.
use mathlib.Core.Path.{◌≡◌, ◌∙◌, refl}
use mathlib.Core.Bool.{Bool, true, false, cond}
use Rattle.std.specs.Prelude.{Some, None}
use Rattle.std.specs.Bool.{then_some}
use Prim.Native.Nat.{ℕ}
use Rattle.supply.specs.Listed.{price_within}
use Rattle.supply.proofs.price.within.Goals as goal

by_test : (b : Bool) (x : ℕ) → then_some b x ≡ cond b (Some x) None
by_test true x = refl
by_test false x = refl

pub returns : goal.returns
unfolding price_within
returns c = c.then_some.ensures ∙ by_test c.is_between.result c.args.price ∙ rw c.is_between.ensures refl
