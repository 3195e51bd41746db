-- The invariant: what is left of the bytes, written now, makes what all of them made at first.
use Rattle.std.proofs.Common.{◌≡◌, ◌≤◌, length, drop, take}
use Rattle.text.specs.Buffer.{written}
use Rattle.text.proofs.buffer.Text.push_all.Given as goal

abbrev pub invariant-loop-byte : goal.invariant-loop-byte
invariant-loop-byte g l =
    ((l.count ≤ g.row.SIZE) × (length l.self-inside.bytes ≡ g.row.SIZE))
    × (written g.row.SIZE (drop l.byte-index l.bytes) (take l.count l.self-inside.bytes)
    ≡ written g.row.SIZE l.bytes (take l.initial.count l.initial.self-inside.bytes))
