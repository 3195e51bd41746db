-- There is room, or the text stays.
use Rattle.std.proofs.Common.{◌≡◌, List, ℕ, [], ◌∷◌, ◌++◌, ◌≤◌, length, take, sym, ◌∙◌, ap, arith}
use Rattle.std.proofs.lemmas.List.{take_more_set, length-take-le}
use Rattle.text.proofs.BufferLaws.{text_stands, text_full}
use Rattle.text.proofs.buffer.Text.push.Goals as goal

-- as many bytes are held as are counted
held_size : (bytes held : List ℕ) (count : ℕ) → take count bytes ≡ held → count ≤ length bytes → length held ≡ count
held_size bytes held count e p = sym (ap length e) ∙ length-take-le count bytes p

pub returns-then-self : goal.returns-then-self
returns-then-self g c =
    let text = c.self.inside in
    let count = held_size _ _ _ c.self.view_is (omega (arith, c.self.invariant, c.self.told)) in
    take_more_set text.bytes text.count c.args.byte (omega (arith, c.self.told))
    ∙ ap (λ (bytes : List ℕ). bytes ++ c.args.byte ∷ []) c.self.view_is
    ∙ sym (text_stands g.row.SIZE (c.args.byte ∷ []) c.args.self.now (omega (arith, count)))

pub returns-else-self : goal.returns-else-self
returns-else-self g c =
    let count = held_size _ _ _ c.self.view_is (omega (arith, c.self.invariant, c.self.told)) in
    sym (text_full g.row.SIZE (c.args.byte ∷ []) c.args.self.now (omega (arith, count)))
