-- The invariant: the start sought from here, in a comment or not, is the next token's.
use mathlib.Core.Path.{◌≡◌, refl, sym, ◌∙◌, ap}
use mathlib.Core.Bool.{Bool, ◌||◌}
use Prim.Native.Nat.{◌-◌}
use native.Mathlib.Omega.{arith}
use lib.ListN.{length}
use Rattle.journal.specs.Token.{byte_at, ends_token, start_from, token_start}
use Rattle.journal.proofs.TokenLaws.{start_here, start_on}
use Rattle.journal.proofs.token.token_start.Goals as goal
use Rattle.journal.proofs.token.token_start.Goals.{After-ends_token}

pub loop-k-init : goal.loop-k-init
unfolding token_start
loop-k-init c = refl

-- whether the byte at hand is skipped
skipped : (e : After-ends_token) →
    (e.loop-k.comment || e.ends_token.result)
    ≡ (e.loop-k.comment || ends_token (byte_at e.args.text.now e.loop-k.k))
skipped e = ap (λ (b : Bool). e.loop-k.comment || b) e.ends_token.ensures

pub returns-then-not-comment-ends_token : goal.returns-then-not-comment-ends_token
returns-then-not-comment-ends_token c =
    let text = c.args.text.now in
    sym (start_here text c.loop-k.k c.loop-k.comment (length text - c.loop-k.k)
    (sym (skipped (goal.at.returns-then-not-comment-ends_token c).After-ends_token)
    ∙ c.if-not-comment-ends_token.true))
    ∙ c.loop-k.invariant

pub loop-k-preserved : goal.loop-k-preserved
loop-k-preserved c =
    let text = c.args.text.now in
    rw c.comment_after-comment.ensures
    (sym (start_on text c.loop-k.k c.loop-k.comment (omega arith)
    (sym (skipped (goal.at.loop-k-preserved c).After-ends_token) ∙ c.if-not-comment-ends_token.false))
    ∙ c.loop-k.invariant)

pub returns : goal.returns
unfolding start_from
returns c =
    let text = c.args.text.now in
    let last : c.loop-k.k ≡ length text = omega arith in
    let e : length text - length text ≡ 0 = omega arith in
    rw e at (rw last at c.loop-k.invariant)
