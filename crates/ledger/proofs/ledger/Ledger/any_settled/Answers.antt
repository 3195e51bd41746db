-- The chain's answer is the definition's, index by index.
use Rattle.std.proofs.Common.{rules}
use borrow.Author.Tests.{tests}
use mathlib.Core.Bool.{not}
use mathlib.Core.Path.{◌∙◌}
use native.Mathlib.Omega.{arith}
use lib.Dec.{eqb}
use Rattle.std.proofs.lemmas.Iterator.{YieldsList-from_slice}
use Rattle.std.proofs.lemmas.Iterator.Search.{any_from_yields_List}
use Rattle.numbers.specs.Sizes.{most_distributors}
use Rattle.ledger.proofs.SoundLaws.{any_of}
use Rattle.ledger.specs.Ledger.{any_settled}
use Rattle.ledger.proofs.ledger.Ledger.any_settled.Goals as goal

pub returns : goal.returns
unfolding any_settled
returns c =
    any_from_yields_List (λ x. not (eqb x 0)) _ _ _ c.any.ensures.ran (YieldsList-from_slice c.args.self.counts cc)
    (λ x b q k. search (rules, tests))
    ∙ any_of (λ x. not (eqb x 0)) c.args.self.counts 0 most_distributors (omega arith)
