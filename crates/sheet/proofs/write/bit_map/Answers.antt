-- The invariant: the bits of the readings passed are added, each at its power of two.
use Prim.Native.Nat.{◌*◌, ◌^◌, ◌≤◌}
use native.Mathlib.Omega.{arith}
use Rattle.sheet.proofs.WriteLaws.{bits_none, bits_more, bits_all, product_most, map_most}
use Rattle.sheet.proofs.write.bit_map.Goals as goal
use Rattle.sheet.proofs.write.bit_map.Goals.{After-presence_bit}

-- the bit at its power
product : (c : After-presence_bit) → c.presence_bit.result * c.loop-reading.power ≤ 2 ^ 32
product c = rw c.presence_bit.ensures (product_most c.loop-reading.invariant (omega arith))

pub loop-reading-init : goal.loop-reading-init
loop-reading-init c = bits_none _

pub overflow_mul-map : goal.overflow_mul-map
overflow_mul-map c = omega (arith, product c)

pub overflow_add-map : goal.overflow_add-map
overflow_add-map c = omega (arith, product c, map_most c.loop-reading.invariant (omega arith))

pub loop-reading-preserved : goal.loop-reading-preserved
loop-reading-preserved c = rw c.presence_bit.ensures (bits_more c.loop-reading.invariant)

pub returns : goal.returns
returns c = bits_all c.loop-reading.invariant (omega arith)
