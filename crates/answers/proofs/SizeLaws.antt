-- How long answers are at most. Assumes nothing.
use mathlib.Core.Bool.{Bool, ◌&&◌}
use mathlib.Core.List.{List, [], ◌∷◌}
use Prim.Native.Nat.{ℕ, ◌+◌, ◌*◌, ◌≤◌}
use native.Mathlib.Omega.{arith}
use lib.Dec.{eqb}
use lib.IntN.{ℤ}
use lib.ListN.{length, take, drop, length-append, length-take}
use Rattle.std.specs.Prelude.{Result, Ok, Err, IfOk}
use Rattle.numbers.specs.Refusal.{Verdict, refusal_answered}
use Rattle.numbers.specs.Sizes.{distributor_readings}
use Rattle.numbers.specs.declared.refusal.Refusal.{Refusal}
use Rattle.numbers.specs.declared.units.Pesos.{Pesos}
use Rattle.ledger.specs.Fix.{FixingAnswer}
use Rattle.ledger.specs.declared.fix.FixingValues.{FixingValues}
use Rattle.text.specs.Text.{decimal, integer}
use Rattle.text.specs.Row.{rows_text}
use Rattle.text.proofs.SizeLaws.{choice_size, decimal_size, integer_size, column_size, column_none}
use Rattle.text.proofs.SizeLaws.{rows_size, numbers_line_size}
use Rattle.answers.specs.Answer.{refused_by, refused_text, outcome_line, used_line, error_line, changed_line, place_text}
use Rattle.answers.specs.Answer.{values_line, fixing_line, signed_unwritten, all_unwritten, unwritten_word}
use Rattle.answers.specs.Answer.{changed_text, answer_text, settled_text, fixed_text}
use Rattle.answers.specs.Answer.{sheet_read_text, sheet_written_text}

unsigned_size : (x : ℕ) → length (decimal x) ≤ 21
unsigned_size x = omega (arith, decimal_size x)

place_size : (values : List ℕ) → length (place_text values) ≤ 52
place_size [] = omega arith
place_size (line ∷ []) = simp length-append (omega (arith, decimal_size line))
place_size (line ∷ term ∷ more) = simp length-append (omega (arith, decimal_size line, decimal_size term))

pub changed_size : (unwritten : Bool) → length (changed_text unwritten) ≤ 204
unfolding changed_text
changed_size unwritten = choice_size unwritten [] changed_line 204 (omega arith) (omega arith)

-- a line stands in the place of the rows under a refusal
answer_size : {A : Type 0} (line : List ℕ) (answer : Result A Refusal) (rows : List ℕ) (unwritten : Bool) (most : ℕ) →
    204 ≤ most → length line ≤ 204 → length rows ≤ most → length (answer_text line answer rows unwritten) ≤ 204 + most
unfolding answer_text
answer_size line (Ok given) rows unwritten most p q r = simp length-append (omega (arith, q, r))
answer_size line (Err refusal) rows unwritten most p q r =
    simp length-append (omega (arith, p, q, changed_size unwritten))

-- a name of 12 bytes at most, and a line with it
module _ (name : List ℕ) (short : length name ≤ 12) where
  refused_size : (refusal : Refusal) → length (refused_text name refusal) ≤ 41
  unfolding refused_by refused_text
  refused_size refusal = simp length-append (omega (arith, decimal_size (refusal_answered refusal).number))

  pub outcome_size : (answer : Verdict) → length (outcome_line name answer) ≤ 204
  unfolding outcome_line
  outcome_size (Ok passed) = simp length-append (omega arith)
  outcome_size (Err refusal) = simp length-append (omega (arith, refused_size refusal))

  pub used_size : (answer : Result ℕ Refusal) → length (used_line name answer) ≤ 204
  unfolding used_line
  used_size (Ok used) = simp length-append (omega (arith, decimal_size used))
  used_size (Err refusal) = outcome_size (Err refusal)

  pub fixing_size : (answer : FixingAnswer) → length (fixing_line name answer) ≤ 204
  unfolding fixing_line values_line
  fixing_size (Ok values) =
      simp length-append
      (omega (
        arith,
        decimal_size values.limit.0,
        decimal_size values.surcharge.0,
        decimal_size values.rounds,
        decimal_size values.residue.0,
      ))
  fixing_size (Err refusal) =
      simp length-append
      (omega (arith, refused_size refusal, place_size (refusal_answered refusal).values))

  pub settled_size : (answer : Verdict) (transfers : List ℤ) (balances : List Pesos) →
      length (settled_text name answer transfers balances) ≤ 2804
  unfolding settled_text
  settled_size answer transfers balances =
      let shown = λ (balance : Pesos). integer balance.0 in
      let few = λ (balance : Pesos). integer_size balance.0 in
      answer_size (outcome_line name answer) answer (rows_text integer shown transfers 1 balances)
      (signed_unwritten transfers) 2600 (omega arith) (outcome_size answer)
      (omega (arith, rows_size integer integer_size shown balances 22 (column_size shown few balances) transfers 1))

  pub fixed_size : (answer : FixingAnswer) (prices : List ℤ) (power : List ℕ) →
      length (fixed_text name answer prices power) ≤ 4564
  unfolding fixed_text
  fixed_size answer prices power =
      answer_size (fixing_line name answer) answer (rows_text integer decimal prices 3 power)
      (signed_unwritten prices && all_unwritten eqb unwritten_word power) 4360 (omega arith) (fixing_size answer)
      (omega (
        arith,
        rows_size integer integer_size decimal power 22 (column_size decimal unsigned_size power) prices 3,
      ))

  pub sheet_read_size : (answer : Verdict) (readings : List ℕ) →
      length (sheet_read_text name answer readings) ≤ 29204
  unfolding sheet_read_text
  sheet_read_size answer readings =
      answer_size (outcome_line name answer) answer
      (rows_text {B = ℕ} decimal decimal readings distributor_readings [])
      (all_unwritten eqb unwritten_word readings) 29000 (omega arith) (outcome_size answer)
      (omega (
        arith,
        rows_size decimal unsigned_size {B = ℕ} decimal [] 0 (column_none decimal) readings distributor_readings,
      ))

  pub sheet_written_size : (unwritten : List ℕ → Bool) (answer : Result ℕ Refusal) (buffer : List ℕ) (most : ℕ) →
      IfOk answer (λ used. used ≤ most) →
      length (sheet_written_text decimal unwritten name answer buffer) ≤ 429 + most * 22
  unfolding sheet_written_text
  sheet_written_size unwritten (Ok used) buffer most p =
      simp length-append
      (omega (
        arith,
        used_size (Ok used),
        numbers_line_size decimal unsigned_size (take used buffer),
        length-take used buffer,
        changed_size (unwritten (drop used buffer)),
      ))
  sheet_written_size unwritten (Err refusal) buffer most p =
      simp length-append
      (omega (arith, used_size (Err refusal), changed_size (unwritten buffer)))

-- the line of a broken journal, and a line of values
pub error_size : (at : ℕ) → length (error_line at) ≤ 64
unfolding error_line
error_size at = simp length-append (omega (arith, decimal_size at))

pub values_size : (values : FixingValues) → length (values_line values) ≤ 204
unfolding values_line
values_size values =
    simp length-append
    (omega (
      arith,
      decimal_size values.limit.0,
      decimal_size values.surcharge.0,
      decimal_size values.rounds,
      decimal_size values.residue.0,
    ))
