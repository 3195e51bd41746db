-- By the next token.
use mathlib.Core.Path.{◌≡◌, refl, sym, ◌∙◌, ap, ap₂}
use Rattle.std.specs.Prelude.{bytes_eq}
use Rattle.text.specs.Text.{name_text}
use Rattle.journal.specs.Token.{token_after, bytes_of}
use Rattle.journal.specs.Cursor.{word_after}
use Rattle.journal.proofs.cursor.next_name.Goals as goal
use Rattle.journal.proofs.cursor.next_name.Goals.{After-eq}

-- whether the token is the name
same : (e : After-eq) →
    e.eq.result ≡ bytes_eq (bytes_of e.args.text.now (token_after e.args.text.now e.args.at)) (name_text e.args.name)
same e =
    e.eq.ensures
    ∙ ap₂ bytes_eq (e.bytes.ensures ∙ ap (bytes_of e.args.text.now) e.next_token-token.ensures.value)
    e.name_bytes.ensures

pub returns-then-eq : goal.returns-then-eq
unfolding word_after
returns-then-eq c =
    rw (c.next_token-token.ensures.value, sym (same (goal.at.returns-then-eq c).After-eq) ∙ c.if-eq.true) refl

pub returns : goal.returns
unfolding word_after
returns c = rw (c.next_token-token.ensures.value, sym (same (goal.at.returns c).After-eq) ∙ c.if-eq.false) refl
