-- The invariant: what is left of the bytes, written now, makes what all of them made at first.
use Rattle.std.proofs.Common.{◌≡◌, List, ℕ, [], ◌∷◌, ◌+◌, ◌≤◌, ◌<◌, length, take, drop, set, get_or, refl, sym, ◌∙◌, ap, arith}
use lib.ListN.{length-set}
use Rattle.std.proofs.lemmas.List.{drop_more, drop_all, take_more_set, length-take-le}
use Rattle.text.specs.Buffer.{written, written_none, written_after}
use Rattle.text.proofs.BufferLaws.{text_stands, text_full}
use Rattle.text.proofs.buffer.Text.push_all.Goals as goal
use Rattle.text.proofs.buffer.Text.push_all.Goals.{then-count, else-count}

-- a byte after the first `count` of a buffer: there is room, or they stay
module _ (size count : ℕ) (bytes : List ℕ) (byte : ℕ) (long : length bytes ≡ size) where
  held_size : count ≤ size → length (take count bytes) ≡ count
  held_size p = length-take-le count bytes (omega (arith, long))

  room : count < size → take (count + 1) (set bytes count byte) ≡ written size (byte ∷ []) (take count bytes)
  room p =
      take_more_set bytes count byte (omega (arith, long))
      ∙ sym (text_stands size (byte ∷ []) (take count bytes) (omega (arith, held_size (omega arith))))

  full : count ≤ size → size ≤ count → take count bytes ≡ written size (byte ∷ []) (take count bytes)
  full p q = sym (text_full size (byte ∷ []) (take count bytes) (omega (arith, held_size p)))

-- what is left when one more is written
one_more : (size : ℕ) (bytes held next : List ℕ) (i : ℕ) → i < length bytes →
    next ≡ written size (get_or bytes i 0 ∷ []) held →
    written size (drop (i + 1) bytes) next ≡ written size (drop i bytes) held
one_more size bytes held next i p e =
    written_after size (get_or bytes i 0 ∷ []) (drop (i + 1) bytes) held next _ e refl
    ∙ ap (λ (rest : List ℕ). written size rest held) (sym (drop_more bytes i 0 p))

pub loop-byte-preserved : goal.loop-byte-preserved
loop-byte-preserved g c =
    let size = g.row.SIZE in
    let bytes = c.args.bytes.now in
    let i = c.loop-byte.byte-index in
    let count = c.loop-byte.count in
    let inside = c.loop-byte.self-inside.bytes in
    let invariant = c.loop-byte.invariant in
    let long = invariant.0.1 in
    elim c.if-count.branch [
      | then-count w ↦ rw (w.count-is, w.self-inside-is) (
        (omega (arith, w.if-count.true), length-set inside count _ ∙ long),
        (one_more size bytes (take count inside) _ i c.loop-byte-test.true
            (room size count inside (get_or bytes i 0) long w.if-count.true)
            ∙ invariant.1),
      )
      | else-count w ↦ rw (w.count-is, w.self-inside-is) (
        invariant.0,
        (one_more size bytes (take count inside) _ i c.loop-byte-test.true
            (full size count inside (get_or bytes i 0) long invariant.0.0 (omega (arith, w.if-count.false)))
            ∙ invariant.1),
      )
    ]

pub returns : goal.returns
returns g c =
    let size = g.row.SIZE in
    let held = take c.loop-byte.count c.loop-byte.self-inside.bytes in
    sym (written_none size held)
    ∙ ap (λ (rest : List ℕ). written size rest held) (sym (drop_all _ c.args.bytes.now c.loop-byte-test.false))
    ∙ c.loop-byte.invariant.1
    ∙ ap (written size c.args.bytes.now) c.self.view_is
