-- The words are the ledger's, and what is kept of them is read there.
use mathlib.Core.Path.{◌≡◌, ◌∙◌, ap}
use Prim.Native.Nat.{◌^◌, ◌<◌}
use borrow.Author.Rules.{rules}
use Rattle.ledger.specs.declared.ledger.Ledger.{Ledger}
use Rattle.store.specs.Store.{kept_among, kept_count}
use Rattle.store.proofs.StoreLaws.{truth_byte, saved}
use Rattle.store.proofs.save.save.Goals as goal
use Rattle.store.proofs.save.save.Goals.{After-kept_among-kept, Start}

-- how many distributors' words are kept
module _ (k : After-kept_among-kept) where
  abbrev ledger : Ledger
  ledger = k.args.ledger

  kept_is : k.kept_among-kept.result ≡ kept_count ledger
  unfolding kept_count
  kept_is = k.kept_among-kept.ensures.value ∙ ap (kept_among ledger.n) k.save_words.ensures

-- the ledger's numbers are of 64 bits
sized : (s : Start) → (s.args.ledger.n < 2 ^ 64) × (s.args.ledger.last < 2 ^ 64) ×
    (s.args.ledger.month < 2 ^ 64) × (s.args.ledger.day < 2 ^ 64)
sized s = (search rules, search rules, search rules, search rules)

pub returns : goal.returns
returns c =
    let h = sized (goal.at.returns c).Start in
    rw (
      c.of_number.ensures,
      c.of_number-2.ensures,
      c.of_number-3.ensures,
      c.of_number-4.ensures,
      c.of_number-5.ensures,
      c.of_number-6.ensures,
      c.of_list.ensures,
      c.of_list-2.ensures,
      c.of_list-3.ensures,
      c.of_list-4.ensures,
      c.of_list-5.ensures,
      c.of_list-6.ensures,
    )
    (saved (ledger (goal.at.returns c).After-kept_among-kept) h.0 h.1 h.2 h.3 _ _ _ _ c.save_words.ensures (kept_is (goal.at.returns c).After-kept_among-kept) (c.from.ensures ∙ truth_byte _)
    (c.from-2.ensures ∙ truth_byte _))
