-- By whether the column has a number in the row.
use Rattle.std.proofs.Common.{◌≡◌, ◌∷◌, ◌∙◌, sym, ap, ◌<◌, ◌≤◌, length, get_or, rules, tests}
use Rattle.text.specs.Text.{blank}
use Rattle.text.proofs.RowLaws.{column_some, column_over}
use Rattle.text.proofs.row.write_column.Goals as goal

pub returns-in-Some : goal.returns-in-Some
returns-in-Some g c =
    let column = c.args.column.now in
    let number = c.in-Some.number.now in
    let shown = g.C.Decimal.shown in
    let within : c.args.i < length column = search (rules, tests) in
    let here : number ≡ get_or column c.args.i number = search rules in
    c.write_word.ensures
    ∙ ap (λ text. g.T.Writable.after text c.args.text.now)
    (ap (λ x. blank ∷ shown x) here ∙ sym (column_some shown column c.args.i number within))

pub returns-in_default : goal.returns-in_default
returns-in_default g c =
    let column = c.args.column.now in
    let over : length column ≤ c.args.i = search (rules, tests) in
    sym
    (ap (λ text. g.T.Writable.after text c.args.text.now) (column_over g.C.Decimal.shown column c.args.i over)
    ∙ g.met.T.Writable.after_none c.args.text.now)
