-- Each list is a part of the form.
use mathlib.Core.Path.{◌∙◌, ap, ap₂}
use Rattle.std.proofs.Common.{rules}
use Rattle.numbers.specs.Bounded.{list_below}
use Rattle.numbers.specs.Signed.{signed_of}
use Rattle.numbers.specs.Sizes.{most_distributors}
use Rattle.numbers.specs.Units.{no_money}
use Rattle.numbers.specs.declared.units.Pesos.{Pesos}
use Rattle.settlement.specs.Month.{money_below}
use Rattle.journal.specs.Form.{parts_below, parts_in}
use Rattle.store.specs.Store.{word_truth, word_at, loaded_charges, loaded_ledger}
use Rattle.store.proofs.StoreLaws.{made, made_filled}
use Rattle.store.proofs.load.load.Goals as goal

pub returns : goal.returns
unfolding loaded_ledger parts_in parts_below list_below money_below
returns c =
    let force = c.load_charges-force.ensures
    ∙ ap₂ loaded_charges c.words_of.ensures c.words_of-2.ensures in
    let older = c.load_charges-older.ensures
    ∙ ap₂ loaded_charges c.words_of-3.ensures c.words_of-4.ensures in
    let balances = made_filled {B = Pesos} _ _
    (λ i. record { 0 = signed_of (word_at c.words_of-balances.result.now i) }) (λ i y q k. search rules) _
    most_distributors no_money c.from_fn.ensures.items in
    let counts = made _ _ (word_at c.words_of-counts.result.now) (λ i y q k. search rules) _ most_distributors 0
    c.from_fn-2.ensures.items in
    rw (
      force,
      older,
      balances,
      c.words_of-balances.ensures,
      counts,
      c.words_of-counts.ensures,
      c.number_of.ensures,
      c.number_of-2.ensures,
      c.word_truth.ensures ∙ ap word_truth c.number_of-3.ensures,
      c.number_of-4.ensures,
      c.number_of-5.ensures,
      c.word_truth-2.ensures ∙ ap word_truth c.number_of-6.ensures,
    )
