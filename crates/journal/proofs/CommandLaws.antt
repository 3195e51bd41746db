-- Laws of the commands: the next one is that of the next token, and is read past the place where it was sought.
-- Assumes nothing.
use mathlib.Core.Path.{◌≡◌, refl}
use mathlib.Core.Bool.{Bool, true, false, cond}
use mathlib.Core.List.{List}
use Prim.Native.Nat.{ℕ, ◌+◌, ◌≤◌, ◌<◌}
use native.Mathlib.Omega.{arith}
use lib.ListN.{length}
use lib.Dec.{eqb}
use borrow.Author.Tests.{eq-eqb, ne_eqb, eqb-false}
use Rattle.std.specs.Prelude.{Ok, Option, Some, None, IfSome}
use Rattle.journal.specs.Token.{token_after, bytes_of}
use Rattle.journal.specs.Cursor.{and_then, token_read}
use Rattle.journal.specs.Form.{part_count}
use Rattle.journal.specs.Command.{command_form, command_named, command_after}
use Rattle.journal.specs.declared.token.Token.{Token}
use Rattle.journal.specs.declared.command.Command.{Command}
use Rattle.journal.specs.declared.command.Command.TheVariants.{Open, Fix, Settle, Save, Load, Interim, Join}
use Rattle.journal.specs.declared.command.Command.TheVariants.{ReadSheet, WriteSheet}
use Rattle.journal.proofs.TokenLaws.{token_within, token_inside, token_later, token_some}
use Rattle.journal.proofs.CursorLaws.{ReadWithin, within_then, Past}

-- no command has more parts than a form may have
pub form_few : (command : Command) → length (command_form command) ≤ part_count
form_few Open = omega arith
form_few Fix = omega arith
form_few Settle = omega arith
form_few Save = omega arith
form_few Load = omega arith
form_few Interim = omega arith
form_few Join = omega arith
form_few ReadSheet = omega arith
form_few WriteSheet = omega arith

-- the next command is that of the next token
module _ (text : List ℕ) (at : ℕ) (token : Token) (e : token ≡ token_after text at) where
  pub command_none : token.start ≡ length text → Ok None ≡ command_after text at
  unfolding command_after
  command_none h = rw (← e, eq-eqb token.start (length text) h)

  pub command_some : (token.start ≡ length text → ⊥) →
      and_then (token_read token (command_named (bytes_of text token))) (λ read. Ok (Some read)) ≡ command_after text at
  unfolding command_after
  command_some h = rw (← e, ne_eqb token.start (length text) h)

-- it is read past the place where it was sought
module _ (text : List ℕ) (at : ℕ) (p : at < length text) where
  abbrev next : Token
  next = token_after text at

  past_read : (next.start ≡ length text → ⊥) → Past text (at + 1) next.end
  past_read h =
      let inside : next.start < length text = omega (arith, token_inside text at) in
      record {
        within = token_within text at;
        later = omega (arith, token_later text at (omega arith), token_some text at inside);
      }

  past_named : (next.start ≡ length text → ⊥) → (command : Option Command) →
      ReadWithin text (token_read next command) (λ read. Past text (at + 1) read.next)
  past_named h (Some command) = past_read h
  past_named h None = token_inside text at

  pub command_past :
      ReadWithin text (command_after text at) (λ found. IfSome found (λ read. Past text (at + 1) read.next))
  unfolding command_after
  command_past = go (eqb next.start (length text)) refl
    where
      go : (b : Bool) → eqb next.start (length text) ≡ b →
          ReadWithin text (cond b (Ok None)
          (and_then (token_read next (command_named (bytes_of text next))) (λ read. Ok (Some read))))
          (λ found. IfSome found (λ read. Past text (at + 1) read.next))
      go true h = tt
      go false h =
          within_then text (token_read next (command_named (bytes_of text next))) _
          (λ read. Past text (at + 1) read.next) _
          (past_named (eqb-false next.start (length text) h) (command_named (bytes_of text next))) (λ read q. q)
