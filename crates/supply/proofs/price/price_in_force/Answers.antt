-- The price at a place of the list, none past its end.
use mathlib.Core.Path.{◌≡◌, refl, ◌∙◌, ap}
use mathlib.Core.Bool.{cond}
use mathlib.Core.List.{List}
use Prim.Native.Nat.{ℕ}
use native.Mathlib.Omega.{arith}
use lib.Dec.{ltb}
use lib.ListN.{length, get_or}
use denote.Bor.{Bor}
use Rattle.std.specs.Prelude.{Option, Some, None}
use Rattle.std.specs.Option.{option_copied}
use Rattle.std.specs.Slice.{IsItemAt}
use Rattle.supply.specs.Price.{price_in_force}
use Rattle.supply.proofs.price.price_in_force.Goals as goal

copied : (words : List ℕ) (j : ℕ) (o : Option (Bor ℕ)) → IsItemAt words j o →
    option_copied o ≡ cond (ltb j (length words)) (Some (get_or words j 0)) None
copied words j None h = rw (← h.0) refl
copied words j (Some word) h = rw (← h.0) (ap Some (h.4 (omega arith) 0))

pub returns : goal.returns
unfolding price_in_force
returns c = c.copied.ensures ∙ copied c.args.in_force.now c.args.j c.get.result c.get.ensures.lookup
