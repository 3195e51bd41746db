-- Laws of lists one after another, and of the verdict of checks that stand one after another. Assumes nothing.
use mathlib.Core.Path.{◌≡◌, refl, sym, ◌∙◌, ap₂}
use mathlib.Core.List.{List, [], ◌∷◌, ◌++◌}
use Rattle.std.specs.Prelude.{Option, Some, None, Ok, Err}
use Prim.Native.Nat.{ℕ, zero, suc, ◌+◌, ◌-◌, ◌*◌, ◌<◌, ◌≤◌}
use native.Mathlib.Numerals.{add-one}
use native.Mathlib.Nat.{suc-mul, zero-add, suc-add}
use native.Mathlib.Omega.{arith}
use lib.ListN.{length, length-append}
use Rattle.numbers.specs.Bounded.{join_below}
use Rattle.numbers.specs.Checks.{Met, Check, refused_or, verdict_of}
use Rattle.numbers.specs.Refusal.{Verdict}
use Rattle.numbers.specs.declared.refusal.Refusal.{Refusal}
use Rattle.numbers.proofs.BoolLaws.{by_last}
use Rattle.numbers.proofs.CheckLaws.{AllTold}

module _ {A : Type 0} (f : ℕ → List A) where
  pub join_step : (k : ℕ) → join_below (k + 1) f ≡ join_below k f ++ f k
  unfolding join_below
  join_step k = rw add-one

  -- lists of one width
  pub join_length : (k width : ℕ) → ((i : ℕ) → i < k → length (f i) ≡ width) → length (join_below k f) ≡ k * width
  unfolding join_below
  join_length zero width h = omega arith
  join_length (suc k) width h =
      rw (length-append, suc-mul) (omega (arith, join_length k width (λ i p. h i (omega arith)), h k (omega arith)))

  -- and lists of at most one
  pub join_most : (k most : ℕ) → ((i : ℕ) → length (f i) ≤ most) → length (join_below k f) ≤ k * most
  unfolding join_below
  join_most zero most h = omega arith
  join_most (suc k) most h = rw (length-append, suc-mul) (omega (arith, join_most k most h, h k))

pub join_same : {A : Type 0} (f g : ℕ → List A) (k : ℕ) → ((i : ℕ) → i < k → f i ≡ g i) → join_below k f ≡ join_below k g
unfolding join_below
join_same f g zero h = refl
join_same f g (suc k) h = ap₂ ◌++◌ (join_same f g k (λ i p. h i (omega arith))) (h k (omega arith))

-- where the first checks pass, the others give the verdict
pub verdict_after : (first rest : List Check) → verdict_of first ≡ Ok tt → verdict_of (first ++ rest) ≡ verdict_of rest
unfolding verdict_of
verdict_after [] rest h = refl
verdict_after (c ∷ first) rest h = go c.met h (λ e. verdict_after first rest e)
  where
    go : (o : Option Met) → refused_or o (verdict_of first) ≡ Ok tt →
        (verdict_of first ≡ Ok tt → verdict_of (first ++ rest) ≡ verdict_of rest) →
        refused_or o (verdict_of (first ++ rest)) ≡ verdict_of rest
    go None e later = later e
    go (Some met) e later = absurd (let z : ◌≡◌ {A = ℕ} 0 1 = cc in omega arith)

-- and where they refuse, so do all
pub refused_before : (first rest : List Check) (refusal : Refusal) → verdict_of first ≡ Err refusal →
    verdict_of (first ++ rest) ≡ Err refusal
unfolding verdict_of
refused_before [] rest refusal h = absurd (let z : ◌≡◌ {A = ℕ} 0 1 = cc in omega arith)
refused_before (c ∷ first) rest refusal h = go c.met h (λ e. refused_before first rest refusal e)
  where
    go : (o : Option Met) → refused_or o (verdict_of first) ≡ Err refusal →
        (verdict_of first ≡ Err refusal → verdict_of (first ++ rest) ≡ Err refusal) →
        refused_or o (verdict_of (first ++ rest)) ≡ Err refusal
    go None e later = later e
    go (Some met) e later = e

-- where all pass, so do the first and the others
pub first_passed : (first rest : List Check) → verdict_of (first ++ rest) ≡ Ok tt → verdict_of first ≡ Ok tt
first_passed first rest h = go (verdict_of first) refl
  where
    go : (v : Verdict) → verdict_of first ≡ v → verdict_of first ≡ Ok tt
    go (Ok _) e = e
    go (Err refusal) e =
        let r = sym (refused_before first rest refusal e) ∙ h in
        absurd (let z : ◌≡◌ {A = ℕ} 0 1 = cc in omega arith)

pub rest_passed : (first rest : List Check) → verdict_of (first ++ rest) ≡ Ok tt → verdict_of rest ≡ Ok tt
rest_passed first rest h = sym (verdict_after first rest (first_passed first rest h)) ∙ h

pub told_both : (first rest : List Check) → AllTold first → AllTold rest → AllTold (first ++ rest)
unfolding AllTold
told_both [] rest p q = q
told_both (c ∷ first) rest p q = (p.0, told_both first rest p.1 q)

module _ (f : ℕ → List Check) where
  pub told_join : (k : ℕ) → ((i : ℕ) → AllTold (f i)) → AllTold (join_below k f)
  unfolding join_below AllTold
  told_join zero h = tt
  told_join (suc k) h = told_both (join_below k f) (f k) (told_join k h) (h k)

  -- a loop over such lists: nothing, one more, and one that refuses
  pub join_none : verdict_of (join_below 0 f) ≡ Ok tt
  unfolding join_below verdict_of
  join_none = refl

  pub join_more : (k : ℕ) → verdict_of (join_below k f) ≡ Ok tt → verdict_of (f k) ≡ Ok tt →
      verdict_of (join_below (k + 1) f) ≡ Ok tt
  join_more k h e = rw (join_step f k) (verdict_after (join_below k f) (f k) h ∙ e)

  join_up : (k m : ℕ) (refusal : Refusal) → verdict_of (join_below k f) ≡ Err refusal →
      verdict_of (join_below (m + k) f) ≡ Err refusal
  unfolding join_below
  join_up k zero refusal h = rw zero-add h
  join_up k (suc m) refusal h =
      rw suc-add (refused_before (join_below (m + k) f) (f (m + k)) refusal (join_up k m refusal h))

  pub join_refused : (k m : ℕ) (refusal : Refusal) → k < m → verdict_of (join_below k f) ≡ Ok tt →
      verdict_of (f k) ≡ Err refusal → verdict_of (join_below m f) ≡ Err refusal
  join_refused k m refusal p h e =
      let s : m - (k + 1) + (k + 1) ≡ m = omega arith in
      rw s at (join_up (k + 1) (m - (k + 1)) refusal (rw (join_step f k) (verdict_after (join_below k f) (f k) h ∙ e)))

  -- where all pass, each list does, and the other way
  pub join_passed : (k : ℕ) → verdict_of (join_below k f) ≡ Ok tt → (i : ℕ) → i < k → verdict_of (f i) ≡ Ok tt
  unfolding join_below
  join_passed zero h i p = absurd (omega arith)
  join_passed (suc k) h i p =
      by_last k (λ j. verdict_of (f j) ≡ Ok tt) (join_passed k (first_passed (join_below k f) (f k) h))
      (rest_passed (join_below k f) (f k) h) i p

  pub all_join : (k : ℕ) → ((i : ℕ) → i < k → verdict_of (f i) ≡ Ok tt) → verdict_of (join_below k f) ≡ Ok tt
  unfolding join_below
  all_join zero h = join_none
  all_join (suc k) h =
      verdict_after (join_below k f) (f k) (all_join k (λ i p. h i (omega arith))) ∙ h k (omega arith)
