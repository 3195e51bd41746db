-- What a chain of std says of a list is what our combinators say of the indices below its length. Assumes nothing.
use mathlib.Core.Path.{◌≡◌, refl, sym, ◌∙◌, ap}
use mathlib.Core.Bool.{Bool, true, false, ◌&&◌, ◌||◌}
use mathlib.Core.List.{List, [], ◌∷◌}
use Prim.Native.Nat.{ℕ, zero, suc}
use native.Mathlib.Nat.{zero-add}
use lib.ListN.{length, get_or}
use Rattle.std.specs.List.{list_all, list_any, range_with_len}
use Rattle.std.proofs.lemmas.List.FromFn.{length-range_with_len, get_or-range_with_len}
use Rattle.numbers.specs.Bounded.{all_below, any_below}
use Rattle.numbers.proofs.TestLaws.{all_same, any_same}

-- the first index put apart
all_first : (k : ℕ) (t : ℕ → Bool) → all_below (suc k) t ≡ (t 0 && all_below k (λ i. t (suc i)))
unfolding all_below
all_first zero t = and_true (t 0)
  where
    and_true : (b : Bool) → b ≡ (b && true)
    and_true true = refl
    and_true false = refl
all_first (suc k) t = ap (λ b. b && t (suc k)) (all_first k t) ∙ assoc (t 0) (all_below k (λ i. t (suc i))) (t (suc k))
  where
    assoc : (a b c : Bool) → ((a && b) && c) ≡ (a && (b && c))
    assoc true b c = refl
    assoc false b c = refl

-- `all` of a list
pub all_listed : {A : Type 0} (test : A → Bool) (list : List A) (empty : A) →
    list_all test list ≡ all_below (length list) (λ i. test (get_or list i empty))
unfolding all_below
all_listed test [] empty = refl
all_listed test (x ∷ list) empty =
    ap (λ b. test x && b) (all_listed test list empty)
    ∙ sym (all_first (length list) (λ i. test (get_or (x ∷ list) i empty)))

any_first : (k : ℕ) (t : ℕ → Bool) → any_below (suc k) t ≡ (t 0 || any_below k (λ i. t (suc i)))
unfolding any_below
any_first zero t = or_false (t 0)
  where
    or_false : (b : Bool) → (false || b) ≡ (b || false)
    or_false true = refl
    or_false false = refl
any_first (suc k) t = ap (λ b. b || t (suc k)) (any_first k t) ∙ assoc (t 0) (any_below k (λ i. t (suc i))) (t (suc k))
  where
    assoc : (a b c : Bool) → ((a || b) || c) ≡ (a || (b || c))
    assoc true b c = refl
    assoc false b c = refl

-- `any` of a list
pub any_listed : {A : Type 0} (test : A → Bool) (list : List A) (empty : A) →
    list_any test list ≡ any_below (length list) (λ i. test (get_or list i empty))
unfolding any_below
any_listed test [] empty = refl
any_listed test (x ∷ list) empty =
    ap (λ b. test x || b) (any_listed test list empty)
    ∙ sym (any_first (length list) (λ i. test (get_or (x ∷ list) i empty)))

-- the same of a range from zero on
module _ (n : ℕ) where
  pub all_ranged : (test : ℕ → Bool) → list_all test (range_with_len 0 n) ≡ all_below n test
  all_ranged test =
      all_listed test (range_with_len 0 n) 0
      ∙ ap (λ k. all_below k (λ i. test (get_or (range_with_len 0 n) i 0))) (length-range_with_len 0 n)
      ∙ all_same n _ test (λ i p. ap test (get_or-range_with_len 0 n i 0 p ∙ zero-add i))

  pub any_ranged : (test : ℕ → Bool) → list_any test (range_with_len 0 n) ≡ any_below n test
  any_ranged test =
      any_listed test (range_with_len 0 n) 0
      ∙ ap (λ k. any_below k (λ i. test (get_or (range_with_len 0 n) i 0))) (length-range_with_len 0 n)
      ∙ any_same n _ test (λ i p. ap test (get_or-range_with_len 0 n i 0 p ∙ zero-add i))
