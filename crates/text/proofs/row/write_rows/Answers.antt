-- The invariant: the rows before the i-th are written.
use Rattle.std.proofs.Common.{◌≡◌, ◌+◌, ◌-◌, ◌*◌, ◌/◌, ◌∙◌, ap, min, take, drop, length, arith}
use Rattle.numbers.specs.Sizes.{most_distributors}
use Rattle.text.specs.Row.{row_text, row_of, rows_text}
use Rattle.text.specs.Text.{text_below}
use Rattle.text.proofs.BufferLaws.{texts_none, texts_more}
use Rattle.text.proofs.row.write_rows.Goals as goal

pub loop-i-init : goal.loop-i-init
loop-i-init g c = texts_none g.T.Writable.after g.met.T.Writable.after_none _ _

pub loop-i-preserved : goal.loop-i-preserved
loop-i-preserved g c =
    let shown = g.N.Decimal.shown in
    let column_shown = g.C.Decimal.shown in
    let list = c.args.list.now in
    let width = c.args.width in
    let column = c.args.column.now in
    let i = c.loop-i.i in
    let e : i * width + width - i * width ≡ width = omega arith in
    texts_more g.T.Writable.after g.met.T.Writable.after_both (row_of shown column_shown list width column) c.args.text.now i c.loop-i.text
    c.write_row.new.text c.loop-i.invariant
    (c.write_row.ensures
    ∙ ap
    (λ n. g.T.Writable.after (row_text shown column_shown i (take n (drop (i * width) list)) column) c.loop-i.text) e)

pub returns : goal.returns
unfolding rows_text
returns g c =
    let row = row_of g.N.Decimal.shown g.C.Decimal.shown c.args.list.now c.args.width c.args.column.now in
    let all : c.loop-i.i ≡ min (length c.args.list.now / c.args.width) most_distributors = omega arith in
    c.loop-i.invariant ∙ ap (λ k. g.T.Writable.after (text_below k row) c.args.text.now) all
