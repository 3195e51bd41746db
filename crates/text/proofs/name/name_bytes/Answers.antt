-- The first blank ends the name.
use Rattle.std.proofs.Common.{◌∙◌, ap, eqb, take, rules, tests}
use Rattle.std.specs.List.{position_or_len}
use Rattle.std.specs.Option.{unwrap_or}
use Rattle.std.proofs.lemmas.Iterator.{YieldsList-from_slice}
use Rattle.std.proofs.lemmas.Iterator.Search.{position_from_yields_List}
use Rattle.text.specs.Text.{blank}
use Rattle.text.proofs.NameLaws.{name_first, place_or}
use Rattle.text.proofs.name.name_bytes.Goals as goal

pub returns : goal.returns
returns c =
    let name = c.args.name.now in
    let place = position_or_len (λ byte. eqb byte blank) name in
    let found = position_from_yields_List (λ byte. eqb byte blank) _ _ c.position.result c.position.ensures.ran
    (YieldsList-from_slice name c.iter.ensures.rest) (λ x b q k. search (rules, tests)) in
    ap (λ size. take size name) (c.unwrap_or-size.ensures ∙ ap (λ o. unwrap_or o 12) found ∙ place_or name c.told-name)
    ∙ name_first name c.told-name
