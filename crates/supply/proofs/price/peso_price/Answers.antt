-- The code is the definition.
use mathlib.Core.Path.{ap}
use Rattle.numbers.specs.declared.units.PesoPrice.{PesoPrice}
use Rattle.supply.specs.Price.{peso_of}
use Rattle.supply.proofs.price.peso_price.Goals as goal

pub returns : goal.returns
unfolding peso_of
returns c = ap {B = PesoPrice} (λ x. record { 0 = x }) c.half_up.ensures
