-- Laws of the commands of a journal: that each command reads on, and that command after command the journal's ledger is
-- reached. Assumes nothing.
use mathlib.Core.Path.{◌≡◌, refl, sym, ◌∙◌, ap}
use mathlib.Core.List.{List}
use Prim.Native.Nat.{ℕ, zero, suc, ◌-◌, ◌+◌, ◌<◌, ◌≤◌}
use native.Mathlib.Omega.{arith}
use native.Mathlib.Decide.{dec_lt}
use lib.ListN.{length}
use borrow.Author.Tests.{lt-ltb, le-ltb}
use Rattle.std.specs.Prelude.{Option, Some, None, Result, Ok, Err, IfSome}
use Rattle.numbers.specs.Checks.{verdict_of}
use Rattle.numbers.specs.Units.{between}
use Rattle.journal.specs.Cursor.{read_of, Reading, and_then}
use Rattle.journal.specs.Form.{part_count, Held, form_after}
use Rattle.journal.specs.Command.{command_form}
use Rattle.journal.specs.declared.command.Command.{Command}
use Rattle.journal.specs.declared.cursor.Unreadable.{Unreadable}
use Rattle.journal.specs.declared.cursor.Read.{Read}
use Rattle.journal.proofs.CursorLaws.{ReadWithin, Past}
use Rattle.journal.proofs.FormLaws.{then_form}
use Rattle.journal.proofs.CommandLaws.{command_past}
use Rattle.ledger.specs.Ledger.{empty_ledger, opening_checks, opening_verdict, opening_ledger}
use Rattle.ledger.specs.declared.ledger.Ledger.{Ledger}
use Rattle.commands.specs.Replay.{command_ledger, ledger_by, ledger_of, ledger_after, read_with, broken_with, go_on}
use Rattle.commands.specs.Replay.{replay_from, longest_text, replayed}
use Rattle.commands.specs.declared.run.Step.{Step}

-- a command reads on
module _ (text : List ℕ) (at : ℕ) (p : at < length text) (ledger : Ledger) where
  made_later : (command : Read Command) (form : Reading (List Held)) →
      ReadWithin text form (λ read. Past text (at + 1) read.next) → (read : Read Ledger) →
      ledger_by command.value ledger form ≡ Ok read → at < read.next
  made_later command (Ok parts) o read r =
      let same : read_of (command_ledger command.value parts.value ledger) parts.next ≡ read = cc in
      omega (arith, o.later, ap (λ (q : Read Ledger). q.next) same)
  made_later command (Err broken) o read r = absurd (let z : ◌≡◌ {A = ℕ} 0 1 = cc in omega arith)

  after_later : (found : Result (Option (Read Command)) Unreadable) →
      ReadWithin text found (λ given. IfSome given (λ command. Past text (at + 1) command.next)) →
      (read : Read Ledger) → and_then found (ledger_of text ledger) ≡ Ok read → at < read.next
  unfolding form_after
  after_later (Ok None) o read r =
      let same : read_of ledger (length text) ≡ read = cc in
      omega (arith, p, ap (λ (q : Read Ledger). q.next) same)
  after_later (Ok (Some command)) o read r =
      made_later command _ (then_form o (command_form command.value) part_count) read r
  after_later (Err broken) o read r = absurd (let z : ◌≡◌ {A = ℕ} 0 1 = cc in omega arith)

  pub ledger_later : (read : Read Ledger) → ledger_after text at ledger ≡ Ok read → at < read.next
  unfolding ledger_after
  ledger_later read r = after_later _ (command_past text at p) read r

-- past the text no command is made
pub replay_none : (left : ℕ) (text : List ℕ) (at : ℕ) (ledger : Ledger) → length text ≤ at →
    replay_from left text at ledger ≡ read_with ledger at
unfolding replay_from
replay_none zero text at ledger h = refl
replay_none (suc left) text at ledger h = rw (le-ltb at (length text) h)

-- as many commands as bytes are enough: one command, and those after it
module _ (k m : ℕ) (text : List ℕ)
    (same : (at : ℕ) (ledger : Ledger) → length text - at ≤ k → length text - at ≤ m → replay_from k text at
    ledger ≡ replay_from m text at ledger) (at : ℕ) (ledger : Ledger) (p : length text - at ≤ suc k)
    (q : length text - at ≤ suc m) where
  by : (kept : Ledger) → at < length text → (found : Reading Ledger) → found ≡ ledger_after text at ledger →
      go_on kept found (replay_from k text) ≡ go_on kept found (replay_from m text)
  by kept h (Ok read) e =
      let later : at < read.next = ledger_later text at h ledger read (sym e) in
      same read.next read.value (omega arith) (omega arith)
  by kept h (Err broken) e = refl

  one_more : Dec (at < length text) → replay_from (suc k) text at ledger ≡ replay_from (suc m) text at ledger
  unfolding replay_from
  one_more (yes h) = rw (lt-ltb at (length text) h) (by _ h _ refl)
  one_more (no h) = rw (le-ltb at (length text) (omega arith))

enough : (k m : ℕ) (text : List ℕ) (at : ℕ) (ledger : Ledger) → length text - at ≤ k → length text - at ≤ m →
    replay_from k text at ledger ≡ replay_from m text at ledger
enough zero m text at ledger p q =
    replay_none zero text at ledger (omega arith) ∙ sym (replay_none m text at ledger (omega arith))
enough (suc k) zero text at ledger p q =
    replay_none (suc k) text at ledger (omega arith) ∙ sym (replay_none zero text at ledger (omega arith))
enough (suc k) (suc m) text at ledger p q =
    one_more k m text (λ a b r s. enough k m text a b r s) at ledger p q (dec_lt at (length text))

-- one command on: the journal's ledger is that of the rest, or, where the command is broken, the ledger at hand
module _ (text : List ℕ) (at : ℕ) (p : at < length text) (ledger : Ledger) where
  unrolled : replay_from (length text - at) text at ledger ≡ replay_from (suc (length text - (at + 1))) text at ledger
  unrolled = ap (λ k. replay_from k text at ledger) (omega arith)

  pub replay_broken : (broken : Unreadable) → Err broken ≡ ledger_after text at ledger →
      replay_from (length text - at) text at ledger ≡ record { ledger = ledger; next = Err broken }
  unfolding replay_from
  replay_broken broken e = unrolled ∙ rw (lt-ltb at (length text) p, ← e)

  pub replay_on : (read : Read Ledger) → Ok read ≡ ledger_after text at ledger →
      replay_from (length text - at) text at ledger ≡ replay_from (length text - read.next) text read.next read.value
  unfolding replay_from
  replay_on read e =
      let later : at < read.next = ledger_later text at p ledger read (sym e) in
      unrolled
      ∙ rw (lt-ltb at (length text) p, ← e)
      (enough (length text - (at + 1)) (length text - read.next) text read.next read.value (omega arith)
      (omega arith))

-- before any command the ledger is the all-zero one
pub opened_none : opening_ledger 0 ≡ empty_ledger 0
unfolding opening_ledger opening_verdict opening_checks verdict_of between
opened_none = refl

-- a text that is not too long, and one that is
pub short : (text : List ℕ) → length text ≤ longest_text → {step : Step} →
    step ≡ replay_from (length text) text 0 (empty_ledger 0) → step ≡ replayed text
unfolding replayed
short text p e = rw (le-ltb longest_text (length text) p) e

pub long : (text : List ℕ) → longest_text < length text → (ledger : Ledger) → ledger ≡ empty_ledger 0 →
    broken_with ledger longest_text ≡ replayed text
unfolding replayed
long text p ledger h = rw (lt-ltb longest_text (length text) p, h)
