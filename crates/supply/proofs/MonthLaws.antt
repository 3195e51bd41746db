-- Laws of the search for a missing month: what a step of the walk adds, that the same tests have the same first, and
-- that its check has its number and its place. Assumes nothing.
use mathlib.Core.Path.{◌≡◌, refl, ap}
use mathlib.Core.Bool.{Bool, true, false, cond, ◌&&◌}
use mathlib.Core.List.{List}
use Rattle.std.specs.Prelude.{Option, Some, None}
use Prim.Native.Nat.{ℕ, ◌<◌}
use native.Mathlib.Omega.{arith}
use Rattle.numbers.proofs.BoolLaws.{and_where, and_none}
use Rattle.numbers.proofs.FirstLaws.{first_none, first_never, first_same}
use Rattle.numbers.proofs.CheckLaws.{Told, none_told, met_told}
use Rattle.supply.specs.Line.{term_places, line_count, line_of, term_of, term_used}
use Rattle.supply.specs.Months.{missing_term, missing_in_line, Place, missing_at, first_missing, month_check}
use Rattle.supply.specs.declared.line.Term.{Term}
use Rattle.supply.specs.declared.line.Line.{Line}

module _ (lacks : Term → Bool) (line : Line) (j k : ℕ) where
  pub term_missing : (term_used line k && lacks (term_of line k)) ≡ true →
      missing_term lacks line j k ≡ Some (record { line = j; term = k })
  unfolding missing_term
  term_missing h = rw h

  pub term_published : (term_used line k && lacks (term_of line k)) ≡ false → missing_term lacks line j k ≡ None
  unfolding missing_term
  term_published h = rw h

-- what is so of every term that a line of the lent words uses
abbrev pub EveryTerm : List ℕ → (Term → Type 0) → Type 0
EveryTerm lines P =
    (j : ℕ) → j < line_count lines → (k : ℕ) → k < term_places → term_used (line_of lines j) k ≡ true →
    P (term_of (line_of lines j) k)

module _ (lacks : Term → Bool) (lines : List ℕ) where
  -- a walk that no term stops
  pub never_missing : EveryTerm lines (λ term. lacks term ≡ false) → first_missing lacks lines ≡ None
  unfolding first_missing missing_in_line
  never_missing h =
      first_never (λ j. missing_in_line lacks (line_of lines j) j) (line_count lines)
      (λ j p. first_never (missing_term lacks (line_of lines j) j) term_places
      (λ k q. term_published lacks (line_of lines j) j k
      (and_none (term_used (line_of lines j) k) (lacks (term_of (line_of lines j) k)) (h j p k q))))

  -- and what a walk that none stopped says of every term
  pub none_missing : first_missing lacks lines ≡ None → EveryTerm lines (λ term. lacks term ≡ false)
  unfolding first_missing missing_in_line
  none_missing h j p k q used = go (lacks (term_of (line_of lines j) k)) refl
    where
      go : (b : Bool) → lacks (term_of (line_of lines j) k) ≡ b → b ≡ false
      go false e = refl
      go true e =
          let a =
          first_none (missing_term lacks (line_of lines j) j) term_places
          (first_none (λ i. missing_in_line lacks (line_of lines i) i) (line_count lines) h j p) k q in
          let b = term_missing lacks (line_of lines j) j k (rw (used, e)) in
          cc

-- the same tests have the same first
pub missing_same : (one other : Term → Bool) (lines : List ℕ) → EveryTerm lines (λ term. one term ≡ other term) →
    first_missing one lines ≡ first_missing other lines
unfolding first_missing missing_in_line missing_term
missing_same one other lines h =
    first_same (λ j. missing_in_line one (line_of lines j) j) (λ j. missing_in_line other (line_of lines j) j)
    (line_count lines)
    (λ j p. first_same (missing_term one (line_of lines j) j) (missing_term other (line_of lines j) j)
    term_places
    (λ k q. ap {A = Bool} {B = Option Place} (λ b. cond b (Some (record { line = j; term = k })) None)
    (and_where (term_used (line_of lines j) k) _ _ (h j p k q))))

module _ (lacks : Term → Bool) (lines : List ℕ) where
  -- cause 10 has its number and its place
  pub month_told : Told (month_check lacks lines)
  unfolding month_check
  month_told = go (first_missing lacks lines)
    where
      go : (o : Option Place) → Told (record { number = 10; met = missing_at o })
      go None = none_told 10
      go (Some place) = met_told 10 _ refl

  -- where cause 10 is not met, the search finds nothing
  pub months_passed : (month_check lacks lines).met ≡ None → first_missing lacks lines ≡ None
  unfolding month_check
  months_passed = go (first_missing lacks lines)
    where
      go : (o : Option Place) → missing_at o ≡ None → o ≡ None
      go None h = refl
      go (Some place) h = absurd (let z : ◌≡◌ {A = ℕ} 0 1 = cc in omega arith)
