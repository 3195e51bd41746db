-- The token is sought from the place, or from the text's end where that is before it.
use mathlib.Core.Path.{◌≡◌, refl, sym, subst}
use Prim.Native.Nat.{◌≤◌}
use lib.ListN.{length}
use Rattle.journal.specs.declared.token.Token.{Token}
use native.Mathlib.Omega.{arith}
use Rattle.journal.specs.Token.{token_after}
use Rattle.journal.proofs.TokenLaws.{start_most, token_ordered, token_within}
use Rattle.journal.proofs.token.next_token.Goals as goal
use Rattle.journal.proofs.token.next_token.Goals.{After-token_end-end}

pub token_end-end-requires : goal.token_end-end-requires
token_end-end-requires c =
    rw (c.token_start-start.ensures, c.min.ensures) (start_most c.args.text.now _ (omega arith))

token : (t : After-token_end-end) →
    record { start = t.token_start-start.result; end = t.token_end-end.result }
    ≡ token_after t.args.text.now t.args.from
unfolding token_after
token t = rw (t.token_end-end.ensures, t.token_start-start.ensures, t.min.ensures) refl

pub returns : goal.returns
returns c =
    let same = token (goal.at.returns c).After-token_end-end in
    record {
      value = same;
      ordered = subst (λ (t : Token). t.start ≤ t.end) (sym same) (token_ordered c.args.text.now c.args.from);
      within = subst (λ (t : Token). t.end ≤ length c.args.text.now) (sym same)
          (token_within c.args.text.now c.args.from);
    }
