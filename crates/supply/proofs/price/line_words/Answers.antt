-- Both prices, or none where one of them is none.
use mathlib.Core.Path.{◌∙◌, sym}
use Rattle.supply.proofs.PriceLaws.{words_unindexed, words_unbought, words_both}
use Rattle.supply.proofs.price.line_words.Goals as goal

pub returns-in_err-indexed : goal.returns-in_err-indexed
returns-in_err-indexed c =
    c.from_residual.ensures
    ∙ sym (words_unindexed _ c.args.checked.line (sym c.indexed_price.ensures ∙ c.in_err-indexed.was))

pub returns-in_err-purchase : goal.returns-in_err-purchase
returns-in_err-purchase c =
    c.from_residual-in_err-purchase.ensures
    ∙ sym (words_unbought _ c.args.checked.line (sym c.power_purchase.ensures ∙ c.in_err-purchase.was))

pub returns : goal.returns
returns c =
    words_both _ c.args.checked.line c.in_ok-indexed.indexed c.in_ok-purchase.purchase
    (sym c.indexed_price.ensures ∙ c.in_ok-indexed.was) (sym c.power_purchase.ensures ∙ c.in_ok-purchase.was)
