-- "The search stops at the first line, and in it the first term, with a missing month" of document 01 (cause 10); the
-- power term of a line (W-204 of document 02) comes after its own. Assumes nothing.
use Rattle.std.specs.Prelude.{Bool, cond, ◌&&◌, List, [], ◌∷◌, ℕ, get_or}
use Rattle.std.specs.Prelude.{Option, Some, None}
use Rattle.numbers.specs.Bounded.{first_below}
use Rattle.numbers.specs.Checks.{Met, Check}
use Rattle.numbers.specs.declared.refusal.Refusal.TheVariants.{MonthMissing}
use Rattle.series.specs.Series.{window_missing}
use Rattle.supply.specs.Line.{term_places, line_count, line_of, term_of, term_used}
use Rattle.supply.specs.declared.line.Term.{Term}
use Rattle.supply.specs.declared.line.Line.{Line}
use Rattle.supply.specs.declared.market.FixingNumbers.{FixingNumbers}

-- whether a month of a term is missing in the table, in the fixing's month
unfoldable pub lacks_month : List (List ℕ) → FixingNumbers → Term → Bool
lacks_month table numbers term =
    window_missing (get_or table term.series []) numbers.first_month numbers.month term.lag term.window

-- a place: the line, and the term in it
pub record Place : Type 0 where
  pub line : ℕ
  pub term : ℕ

-- term k of line j where the line uses it, the first such term of line j, the first of all lines; `lacks` says of a
-- term whether a month is missing
unfoldable pub missing_term : (Term → Bool) → Line → ℕ → ℕ → Option Place
missing_term lacks line j k =
    cond (term_used line k && lacks (term_of line k)) (Some (record { line = j; term = k })) None

unfoldable pub missing_in_line : (Term → Bool) → Line → ℕ → Option Place
missing_in_line lacks line j = first_below term_places (missing_term lacks line j)

unfoldable pub first_missing : (Term → Bool) → List ℕ → Option Place
first_missing lacks lines = first_below (line_count lines) (λ j. missing_in_line lacks (line_of lines j) j)

-- 10: "month missing", with "line, term"
abbrev pub missing_at : Option Place → Option Met
missing_at None = None
missing_at (Some place) =
    Some (record { refusal = MonthMissing place.line place.term; values = place.line ∷ place.term ∷ [] })

unfoldable pub month_check : (Term → Bool) → List ℕ → Check
month_check lacks lines = record { number = 10; met = missing_at (first_missing lacks lines) }
