-- What a conjunction or a disjunction of tests says of its parts, what a call's result says of its test, and the split
-- of the indices below a bound. Assumes nothing.
use mathlib.Core.Path.{◌≡◌, refl, sym, ◌∙◌}
use mathlib.Core.Bool.{Bool, true, false, not, ◌&&◌, ◌||◌, false≢true, true≢false}
use Prim.Native.Nat.{ℕ, suc, ◌<◌}
use native.Mathlib.Omega.{arith}
use native.Mathlib.Decide.{dec_lt}
use borrow.Author.Tests.{not-true, not-false}

pub and_left : (a b : Bool) → (a && b) ≡ true → a ≡ true
and_left true b h = refl
and_left false b h = h

pub and_right : (a b : Bool) → (a && b) ≡ true → b ≡ true
and_right true b h = h
and_right false b h = absurd (false≢true h)

pub or_left : (a b : Bool) → (a || b) ≡ false → a ≡ false
or_left true b h = h
or_left false b h = refl

pub or_right : (a b : Bool) → (a || b) ≡ false → b ≡ false
or_right true b h = absurd (true≢false h)
or_right false b h = h

-- tests that hold together are the same
pub same_tests : (a b : Bool) → (a ≡ true → b ≡ true) → (b ≡ true → a ≡ true) → a ≡ b
same_tests true b h g = sym (h refl)
same_tests false true h g = g refl
same_tests false false h g = refl

-- a conjunction from its parts
pub and_both : (a b : Bool) → a ≡ true → b ≡ true → (a && b) ≡ true
and_both a b p q = rw (p, q)

-- a conjunction by its second part where the first holds
pub and_where : (a b c : Bool) → (a ≡ true → b ≡ c) → (a && b) ≡ (a && c)
and_where true b c h = h refl
and_where false b c h = refl

pub and_none : (a b : Bool) → (a ≡ true → b ≡ false) → (a && b) ≡ false
and_none true b h = h refl
and_none false b h = refl

-- a disjunction as an implication
pub or_else : (a b : Bool) → (a || b) ≡ true → a ≡ false → b ≡ true
or_else true b h e = absurd (true≢false e)
or_else false b h e = h

pub or_of : (a b : Bool) → (a ≡ false → b ≡ true) → (a || b) ≡ true
or_of true b h = refl
or_of false b h = h refl

pub not_both : (a b : Bool) → not (a && b) ≡ true → a ≡ true → b ≡ false
not_both true true h e = absurd (false≢true h)
not_both true false h e = refl
not_both false b h e = absurd (false≢true e)

-- the parts of a chain of tests, whose names the caller writes once
pub and_three : (a b c : Bool) → (a && b && c) ≡ true → (a ≡ true) × (b ≡ true) × (c ≡ true)
and_three a b c h =
    let front = and_left (a && b) c h in
    (and_left a b front, and_right a b front, and_right (a && b) c h)

pub and_five : (a b c d e : Bool) → (a && b && c && d && e) ≡ true →
    (a ≡ true) × (b ≡ true) × (c ≡ true) × (d ≡ true) × (e ≡ true)
and_five a b c d e h =
    let front = and_left (a && b && c && d) e h in
    let three = and_three a b c (and_left (a && b && c) d front) in
    (three.0, three.1, three.2, and_right (a && b && c) d front, and_right (a && b && c && d) e h)

pub and_six : (a b c d e f : Bool) → (a && b && c && d && e && f) ≡ true →
    (a ≡ true) × (b ≡ true) × (c ≡ true) × (d ≡ true) × (e ≡ true) × (f ≡ true)
and_six a b c d e f h =
    let five = and_five a b c d e (and_left (a && b && c && d && e) f h) in
    (five.0, five.1, five.2, five.3, five.4, and_right (a && b && c && d && e) f h)

-- a call's result r is the test b, and the code asks for `!r`
pub told_true : {r b : Bool} → r ≡ b → not r ≡ false → b ≡ true
told_true e h = sym e ∙ not-false _ h

pub told_false : {r b : Bool} → r ≡ b → not r ≡ true → b ≡ false
told_false e h = sym e ∙ not-true _ h

-- below k + 1: below k, or k
pub by_last {ℓ} : (k : ℕ) (P : ℕ → Type ℓ) → ((j : ℕ) → j < k → P j) → P k → (j : ℕ) → j < suc k → P j
by_last k P h e j p = go (dec_lt j k)
  where
    go : Dec (j < k) → P j
    go (yes q) = h j q
    go (no q) = let e' : j ≡ k = omega arith in rw e' e
