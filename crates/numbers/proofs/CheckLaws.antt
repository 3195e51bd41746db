-- Laws of the ordered checks, for every list of them: what the verdict is where the first k pass, and where check k is
-- the first that is met; and that a verdict has the number and values of its check. Assumes nothing.
use mathlib.Core.Path.{◌≡◌, refl, sym, ◌∙◌, ap}
use mathlib.Core.Bool.{Bool, true, false, cond}
use mathlib.Core.List.{List, [], ◌∷◌}
use Rattle.std.specs.Prelude.{Option, Some, None, Result, Ok, Err}
use Prim.Native.Nat.{ℕ, zero, suc}
use native.Mathlib.Omega.{arith}
use lib.Dec.{eqb}
use lib.ListN.{length, drop}
use Rattle.numbers.specs.Refusal.{Answered, accepted, without_values, refusal_answered, Verdict, answer_by, result_answered, verdict_answered, is_passed}
use Rattle.numbers.specs.Checks.{Met, Check, met_unless, check, refused_or, answered_or, verdict_of, answered_by}
use Rattle.numbers.specs.Checks.{Promised, Judged, AnswersBy, accepted_where}
use Rattle.numbers.specs.declared.refusal.Refusal.{Refusal}
use Rattle.numbers.specs.declared.refusal.Refusal.TheVariants.{WrongCount, Unsound, WrongLength, OutOfTurn}
use Rattle.numbers.specs.declared.refusal.Refusal.TheVariants.{NoFixing, OutOfRange, ValueTooLarge, WrongSector}
use Rattle.numbers.specs.declared.refusal.Refusal.TheVariants.{NoLine, MonthMissing, OutOfBounds, WrongReading}
use Rattle.numbers.specs.declared.refusal.Refusal.TheVariants.{PositionBeyond, NoLineMoved, LedgerFull, WrongDay}
use Rattle.numbers.specs.declared.refusal.Refusal.TheVariants.{WrongSheetLength, ZeroReading}

-- the first k checks pass
unfoldable pub FirstPass : ℕ → List Check → Type 0
FirstPass zero checks = Unit {0}
FirstPass (suc k) [] = Unit {0}
FirstPass (suc k) (c ∷ rest) = (c.met ≡ None) × FirstPass k rest

-- a test and its cause
pub passes : (refusal : Refusal) {passed : Bool} → passed ≡ true → met_unless passed refusal ≡ None
passes refusal h = ap (λ b. met_unless b refusal) h

pub passed_test : (refusal : Refusal) (passed : Bool) → met_unless passed refusal ≡ None → passed ≡ true
passed_test refusal true h = refl
passed_test refusal false h = absurd (let z : ◌≡◌ {A = ℕ} 0 1 = cc in omega arith)

-- the rest gives the verdict
pub verdict_from : (k : ℕ) (checks : List Check) → FirstPass k checks → verdict_of checks ≡ verdict_of (drop k checks)
unfolding verdict_of FirstPass
verdict_from zero checks h = refl
verdict_from (suc k) [] h = refl
verdict_from (suc k) (c ∷ rest) h = rw h.0 (verdict_from k rest h.1)

-- where the verdict is that all passed, each did
pub all_passed : (checks : List Check) → verdict_of checks ≡ Ok tt → FirstPass (length checks) checks
unfolding verdict_of FirstPass
all_passed [] h = tt
all_passed (c ∷ rest) h = go c.met refl h (λ v. all_passed rest v)
  where
    go : (o : Option Met) → c.met ≡ o → refused_or o (verdict_of rest) ≡ Ok tt →
        (verdict_of rest ≡ Ok tt → FirstPass (length rest) rest) → (c.met ≡ None) × FirstPass (length rest) rest
    go None e v later = (e, later v)
    go (Some met) e v later = absurd (let z : ◌≡◌ {A = ℕ} 0 1 = cc in omega arith)

-- one check refuses before any others
pub refused_first : (c : Check) (rest : List Check) (refusal : Refusal) → verdict_of (c ∷ []) ≡ Err refusal →
    verdict_of (c ∷ rest) ≡ Err refusal
unfolding verdict_of
refused_first c rest refusal h = go c.met h
  where
    go : (o : Option Met) → refused_or o (Ok tt) ≡ Err refusal → refused_or o (verdict_of rest) ≡ Err refusal
    go None e = absurd (let z : ◌≡◌ {A = ℕ} 0 1 = cc in omega arith)
    go (Some met) e = e

-- one check alone passes
pub passed_alone : (c : Check) → verdict_of (c ∷ []) ≡ Ok tt → c.met ≡ None
unfolding FirstPass
passed_alone c h = (all_passed (c ∷ []) h).0

-- check k is the first that is met
pub refused_at : (k : ℕ) (checks : List Check) (c : Check) (rest : List Check) (met : Met) → FirstPass k checks →
    drop k checks ≡ c ∷ rest → c.met ≡ Some met → verdict_of checks ≡ Err met.refusal
unfolding verdict_of
refused_at k checks c rest met h e m =
    verdict_from k checks h ∙ ap verdict_of e ∙ ap (λ o. refused_or o (verdict_of rest)) m

pub refused_unless : (k : ℕ) (checks : List Check) (number : ℕ) (passed : Bool) (refusal : Refusal)
    (rest : List Check) →
    FirstPass k checks → drop k checks ≡ check number passed refusal ∷ rest → passed ≡ false →
    verdict_of checks ≡ Err refusal
refused_unless k checks number passed refusal rest h e f =
    refused_at k checks (check number passed refusal) rest (record { refusal = refusal; values = [] }) h e
    (ap (λ b. met_unless b refusal) f)

-- and where each did, the verdict is that
pub verdict_passed : (checks : List Check) → FirstPass (length checks) checks → verdict_of checks ≡ Ok tt
unfolding verdict_of FirstPass
verdict_passed [] h = refl
verdict_passed (c ∷ rest) h = rw h.0 (verdict_passed rest h.1)

-- a verdict by whether it passed
pub is_passed_lem : (v : Verdict) → is_passed v ≡ true → v ≡ Ok tt
is_passed_lem (Ok _) h = refl
is_passed_lem (Err refusal) h = absurd (let z : ◌≡◌ {A = ℕ} 0 1 = cc in omega arith)

-- no refusal has the number of what is accepted
pub passed_number : (values : List ℕ) (v : Verdict) → is_passed v ≡ eqb (verdict_answered values v).number 0
passed_number values (Ok _) = refl
passed_number values (Err refusal) = go refusal
  where
    go : (r : Refusal) → false ≡ eqb (refusal_answered r).number 0
    go WrongCount = refl
    go Unsound = refl
    go WrongLength = refl
    go OutOfTurn = refl
    go NoFixing = refl
    go OutOfRange = refl
    go ValueTooLarge = refl
    go WrongSector = refl
    go NoLine = refl
    go (MonthMissing line term) = refl
    go (OutOfBounds line) = refl
    go WrongReading = refl
    go PositionBeyond = refl
    go NoLineMoved = refl
    go LedgerFull = refl
    go WrongDay = refl
    go WrongSheetLength = refl
    go ZeroReading = refl

-- a check whose number and values are those of its refusal
abbrev pub Told : Check → Type 0
Told c =
    (met : Met) → c.met ≡ Some met → refusal_answered met.refusal ≡ record
    { number = c.number; values = met.values }

unfoldable pub AllTold : List Check → Type 0
AllTold [] = Unit {0}
AllTold (c ∷ rest) = Told c × AllTold rest

pub none_told : (number : ℕ) → Told (record { number = number; met = None })
none_told number met e = absurd (let z : ◌≡◌ {A = ℕ} 0 1 = cc in omega arith)

pub met_told : (number : ℕ) (given : Met) →
    refusal_answered given.refusal ≡ record { number = number; values = given.values } →
    Told (record { number = number; met = Some given })
met_told number given h met e =
    let m : given ≡ met = cc in
    ap (λ (x : Met). refusal_answered x.refusal) (sym m) ∙ h
    ∙ ap (λ (x : Met). record { number = number; values = x.values }) m

pub check_told : (number : ℕ) (passed : Bool) (refusal : Refusal) →
    refusal_answered refusal ≡ record { number = number; values = [] } → Told (check number passed refusal)
check_told number true refusal h = none_told number
check_told number false refusal h = met_told number (record { refusal = refusal; values = [] }) h

pub verdict_told : (checks : List Check) (values : List ℕ) → AllTold checks →
    verdict_answered values (verdict_of checks) ≡ answered_by checks values
unfolding verdict_of answered_by AllTold
verdict_told [] values h = refl
verdict_told (c ∷ rest) values h = go c.met refl (verdict_told rest values h.1)
  where
    go : (o : Option Met) → c.met ≡ o → verdict_answered values (verdict_of rest) ≡ answered_by rest values →
        verdict_answered values (refused_or o (verdict_of rest)) ≡ answered_or c.number o (answered_by rest values)
    go None e later = later
    go (Some met) e later = h.0 met e

-- a promise from the definition's own number and values
pub promised : {A : Type 0} (tell : A → Answered) (answer defined : A) (told : Answered) → answer ≡ defined →
    tell defined ≡ told → Promised tell answer defined told
promised tell answer defined told e t = record { answered = e; numbered = ap tell e ∙ t }

pub judged : (checks : List Check) → AllTold checks → (verdict : Verdict) → verdict ≡ verdict_of checks →
    Judged verdict checks
judged checks told verdict e =
    promised (verdict_answered []) verdict (verdict_of checks) (answered_by checks []) e (verdict_told checks [] told)

pub answers_by : {A : Type 0} (values : A → List ℕ) (checks : List Check) (worked : A) → AllTold checks →
    (answer : Result A Refusal) → answer ≡ answer_by (verdict_of checks) worked → AnswersBy values answer checks worked
answers_by values checks worked told answer e =
    promised (result_answered values) answer (answer_by (verdict_of checks) worked) (answered_by checks (values worked)) e
    (go (verdict_of checks) ∙ verdict_told checks (values worked) told)
  where
    go : (verdict : Verdict) → result_answered values (answer_by verdict worked) ≡ verdict_answered (values worked) verdict
    go (Ok _) = refl
    go (Err refusal) = refl

-- an answer that was worked, and one that was refused
module _ {A : Type 0} (worked : A) where
  pub answer_passed : (given : A) (verdict : Verdict) → answer_by verdict worked ≡ Ok given →
      (verdict ≡ Ok tt) × (given ≡ worked)
  answer_passed given (Ok _) h = (refl, cc)
  answer_passed given (Err refusal) h = absurd (let z : ◌≡◌ {A = ℕ} 0 1 = cc in omega arith)

  pub answer_refused : (refusal : Refusal) (verdict : Verdict) → answer_by verdict worked ≡ Err refusal →
      verdict ≡ Err refusal
  answer_refused refusal (Ok _) h = absurd (let z : ◌≡◌ {A = ℕ} 0 1 = cc in omega arith)
  answer_refused refusal (Err other) h = cc

-- an answer that one test picks
pub picked : {A : Type 0} (tell : A → Answered) (passed : Bool) (given missing : A) (values : List ℕ) (number : ℕ) →
    tell given ≡ accepted values → tell missing ≡ without_values number →
    tell (cond passed given missing) ≡ accepted_where passed values number
picked tell true given missing values number p q = p
picked tell false given missing values number p q = q
