-- The invariant: what is left of the bytes, written now, makes what all of them made at first.
use Rattle.std.proofs.Common.{◌≡◌, [], ◌∷◌, ◌+◌, ◌≤◌, ◌<◌, List, ℕ, length, drop, set, get_or, refl, sym, ◌∙◌, ap, arith}
use native.Mathlib.Numerals.{add-one}
use borrow.Author.Tests.{lt-ltb, le-ltb}
use Rattle.std.proofs.lemmas.List.{drop_more, drop_all}
use Rattle.text.specs.Lent.{written_byte, filled}
use Rattle.text.specs.LentText.{lent_after, lent_none, lent_both}
use Rattle.text.specs.declared.lent.LentText.{LentText}
use Rattle.text.proofs.lent.LentTextWritable.push_all.Goals as goal
use Rattle.text.proofs.lent.LentTextWritable.push_all.Goals.{then-count-self, else-count-self}

-- what is left when one more is written
one_more : (bytes : List ℕ) (lent next : LentText) (i : ℕ) → i < length bytes →
    next ≡ lent_after (get_or bytes i 0 ∷ []) lent →
    lent_after (drop (i + 1) bytes) next ≡ lent_after (drop i bytes) lent
one_more bytes lent next i p e =
    lent_both (get_or bytes i 0 ∷ []) (drop (i + 1) bytes) lent next _ e refl
    ∙ ap (λ (rest : List ℕ). lent_after rest lent) (sym (drop_more bytes i 0 p))

-- a byte into a lent text whose count is kept apart: there is room, or the buffer stays
module _ (lent : LentText) (byte : ℕ) where
  room : lent.count < length lent.buffer.now →
      record lent { buffer = record lent.buffer { now = set lent.buffer.now lent.count byte }; count = lent.count + 1 }
      ≡ lent_after (byte ∷ []) lent
  unfolding lent_after filled written_byte
  room p = rw (lt-ltb lent.count (length lent.buffer.now) p, add-one) refl

  full : length lent.buffer.now ≤ lent.count → lent ≡ lent_after (byte ∷ []) lent
  unfolding lent_after filled written_byte
  full p = rw (le-ltb lent.count (length lent.buffer.now) p) refl

pub loop-byte-preserved : goal.loop-byte-preserved
loop-byte-preserved c =
    let bytes = c.args.bytes.now in
    let i = c.loop-byte.byte-index in
    let lent : LentText = record c.loop-byte.self { count = c.loop-byte.count } in
    let byte = get_or bytes i 0 in
    elim c.if-count-self.branch [
      | then-count-self w ↦ rw (w.self-is, w.count-is)
          (one_more bytes lent _ i c.loop-byte-test.true (room lent byte w.if-count-self.true) ∙ c.loop-byte.invariant)
      | else-count-self w ↦ rw (w.self-is, w.count-is)
          (one_more bytes lent _ i c.loop-byte-test.true (full lent byte (omega (arith, w.if-count-self.false)))
          ∙ c.loop-byte.invariant)
    ]

pub returns : goal.returns
returns c =
    let held : LentText = record c.loop-byte.self { count = c.loop-byte.count } in
    sym (lent_none held)
    ∙ ap (λ (rest : List ℕ). lent_after rest held) (sym (drop_all _ c.args.bytes.now c.loop-byte-test.false))
    ∙ c.loop-byte.invariant
