-- The invariant: the end sought from here is the token's.
use mathlib.Core.Path.{◌≡◌, refl, sym, ◌∙◌}
use Prim.Native.Nat.{◌-◌}
use native.Mathlib.Omega.{arith}
use lib.ListN.{length}
use Rattle.journal.specs.Token.{end_from, token_end}
use Rattle.journal.proofs.TokenLaws.{end_here, end_on}
use Rattle.journal.proofs.token.token_end.Goals as goal

pub loop-k-init : goal.loop-k-init
unfolding token_end
loop-k-init c = refl

pub returns-then-ends_token : goal.returns-then-ends_token
returns-then-ends_token c =
    sym (end_here c.args.text.now c.loop-k.k (length c.args.text.now - c.loop-k.k)
    (sym c.ends_token.ensures ∙ c.if-ends_token.true)) ∙ c.loop-k.invariant

pub loop-k-preserved : goal.loop-k-preserved
loop-k-preserved c =
    sym (end_on c.args.text.now c.loop-k.k (omega arith) (sym c.ends_token.ensures ∙ c.if-ends_token.false))
    ∙ c.loop-k.invariant

pub returns : goal.returns
unfolding end_from
returns c =
    let text = c.args.text.now in
    let last : c.loop-k.k ≡ length text = omega arith in
    let e : length text - length text ≡ 0 = omega arith in
    rw e at (rw last at c.loop-k.invariant)
