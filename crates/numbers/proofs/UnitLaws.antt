-- What the test of a range says, and the number and values of a checked price. Assumes nothing.
use mathlib.Core.Path.{◌≡◌, refl, ◌∙◌, ap}
use mathlib.Core.Bool.{Bool, true, false}
use mathlib.Core.List.{List, [], ◌∷◌}
use Prim.Native.Nat.{ℕ, ◌≤◌, ◌<◌}
use native.Mathlib.Omega.{arith}
use native.Mathlib.Decide.{dec_lt}
use lib.Dec.{leb}
use lib.ListN.{length, get_or, get_or-eq_default}
use borrow.Author.Tests.{leb-true, le-leb}
use Rattle.numbers.specs.Units.{least_price, most_price, between, all_between, bound_where, checked_price}
use Rattle.numbers.specs.Units.{price_answered}
use Rattle.numbers.specs.Bounded.{all_below}
use Rattle.numbers.specs.Checks.{accepted_where}
use Rattle.numbers.specs.Required.{ValuesWithin}
use Rattle.std.specs.Prelude.{Some, None}
use Rattle.numbers.proofs.BoolLaws.{and_left, and_right}
use Rattle.numbers.proofs.TestLaws.{all_at, all_same}
use Rattle.numbers.proofs.CheckLaws.{picked}

module _ (low high x : ℕ) where
  pub between_low : between low high x ≡ true → low ≤ x
  unfolding between
  between_low h = leb-true low x (and_left (leb low x) (leb x high) h)

  pub between_high : between low high x ≡ true → x ≤ high
  unfolding between
  between_high h = leb-true x high (and_right (leb low x) (leb x high) h)

  pub between_yes : low ≤ x → x ≤ high → between low high x ≡ true
  unfolding between
  between_yes p q = rw (le-leb low x p, le-leb x high q)

-- a bound where a test holds is at most that bound
pub bound_most : (held : Bool) (bound : ℕ) → bound_where held bound ≤ bound
unfolding bound_where
bound_most true bound = omega arith
bound_most false bound = omega arith

-- each word of a list, and none past its end
pub values_within : (low high : ℕ) (words : List ℕ) → all_between low high words ≡ true → ValuesWithin high words
unfolding all_between
values_within low high words h = record { most = λ j. go j (dec_lt j (length words)) }
  where
    go : (j : ℕ) → Dec (j < length words) → get_or words j 0 ≤ high
    go j (yes p) = between_high low high _ (all_at (length words) (λ i. between low high (get_or words i 0)) h j p)
    go j (no p) = omega (arith, get_or-eq_default words 0 {n = j} (omega arith))

-- where the least is 0, only the greatest is asked for
pub between_zero : (high : ℕ) (words : List ℕ) (size : ℕ) → length words ≡ size →
    all_between 0 high words ≡ all_below size (λ j. leb (get_or words j 0) high)
unfolding all_between between
between_zero high words size e =
    all_same (length words) _ _ (λ j p. rw (le-leb 0 (get_or words j 0) (omega arith)))
    ∙ ap (λ k. all_below k (λ j. leb (get_or words j 0) high)) e

pub price_told : (word : ℕ) →
    price_answered (checked_price word) ≡ accepted_where (between least_price most_price word) (word ∷ []) 11
unfolding checked_price
price_told word =
    picked price_answered (between least_price most_price word) (Some (record { 0 = word })) None (word ∷ []) 11
    refl refl
