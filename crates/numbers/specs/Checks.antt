-- Checks in their order: each has the number of its cause, and the first whose cause is met gives the verdict, its
-- number and its values. The order is the list's. Assumes nothing.
use Rattle.std.specs.Prelude.{◌≡◌, Bool, cond, List, [], ◌∷◌, ℕ, Result, Ok, Err}
use Rattle.std.specs.Prelude.{Option, Some, None}
use Rattle.numbers.specs.Refusal.{Answered, accepted, without_values, Verdict, answer_by, result_answered, verdict_answered}
use Rattle.numbers.specs.declared.refusal.Refusal.{Refusal}

-- what is answered where a cause is met: the refusal, and the values returned with it
pub record Met : Type 0 where
  pub refusal : Refusal
  pub values : List ℕ

-- a check: the number of its cause, and what is answered where the cause is met
pub record Check : Type 0 where
  pub number : ℕ
  pub met : Option Met

-- a cause that is met where a test fails, and returns zeros
abbrev pub met_unless : Bool → Refusal → Option Met
met_unless passed refusal = cond passed None (Some (record { refusal = refusal; values = [] }))

abbrev pub check : ℕ → Bool → Refusal → Check
check number passed refusal = record { number = number; met = met_unless passed refusal }

-- the verdict: the refusal of the first check that is met
abbrev pub refused_or : Option Met → Verdict → Verdict
refused_or None later = later
refused_or (Some met) later = Err met.refusal

unfoldable pub verdict_of : List Check → Verdict
verdict_of [] = Ok tt
verdict_of (c ∷ rest) = refused_or c.met (verdict_of rest)

-- its number and values, and where no check is met 0 and the values of what is accepted
abbrev pub answered_or : ℕ → Option Met → Answered → Answered
answered_or number None later = later
answered_or number (Some met) later = record { number = number; values = met.values }

unfoldable pub answered_by : List Check → List ℕ → Answered
answered_by [] values = accepted values
answered_by (c ∷ rest) values = answered_or c.number c.met (answered_by rest values)

-- what a function promises of its answer: it is the definition's, and its number and values are those of the causes
pub record Promised {A : Type 0} (tell : A → Answered) (answer defined : A) (told : Answered) : Type 0 where
  pub answered : answer ≡ defined
  pub numbered : tell answer ≡ told

-- of a verdict, by its checks
abbrev pub Judged : Verdict → List Check → Type 0
Judged verdict checks = Promised (verdict_answered []) verdict (verdict_of checks) (answered_by checks [])

-- of an answer, by its checks, what is worked where they pass, and the values returned with it
abbrev pub AnswersBy : {A : Type 0} → (A → List ℕ) → Result A Refusal → List Check → A → Type 0
AnswersBy values answer checks worked =
    Promised (result_answered values) answer (answer_by (verdict_of checks) worked)
    (answered_by checks (values worked))

-- the number and values of one cause alone, and where it is not met the values of what is accepted
abbrev pub accepted_where : Bool → List ℕ → ℕ → Answered
accepted_where passed values number = cond passed (accepted values) (without_values number)
