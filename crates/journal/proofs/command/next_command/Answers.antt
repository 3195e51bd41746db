-- By the next token: none is left, or it is a command's name.
use mathlib.Core.Path.{◌≡◌, refl, sym, ◌∙◌, ap}
use Rattle.std.proofs.lemmas.Result.{err_from_is_err_and}
use Rattle.journal.proofs.CommandLaws.{command_none, command_some}
use Rattle.journal.specs.Token.{bytes_of}
use Rattle.journal.specs.Cursor.{token_read}
use Rattle.journal.specs.Command.{command_named}
use Rattle.journal.proofs.command.next_command.Goals as goal
use Rattle.journal.proofs.command.next_command.Goals.{After-read}

pub returns-then-token-text : goal.returns-then-token-text
returns-then-token-text c = command_none _ _ _ c.next_token-token.ensures.value c.if-token-text.true

-- what the token is read as
read : (r : After-read) →
    r.read.result
    ≡ token_read r.next_token-token.result (command_named (bytes_of r.args.text.now r.next_token-token.result))
read r =
    r.read.ensures
    ∙ ap (token_read r.next_token-token.result) (r.command_named.ensures ∙ ap command_named r.bytes.ensures)

pub returns-in_err-read : goal.returns-in_err-read
returns-in_err-read c =
    let p = err_from_is_err_and c.from_residual.result c.from_residual.ensures.1 in
    rw (
      p.1,
      p.2,
      ← command_some _ _ _ c.next_token-token.ensures.value c.if-token-text.false,
      sym (read (goal.at.returns-in_err-read c).After-read) ∙ c.in_err-read.was,
    ) refl

pub returns : goal.returns
returns c =
    rw (
      ← command_some _ _ _ c.next_token-token.ensures.value c.if-token-text.false,
      sym (read (goal.at.returns c).After-read) ∙ c.in_ok-read.was,
    ) refl
