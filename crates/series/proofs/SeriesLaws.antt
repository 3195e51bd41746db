-- Laws of the series: values stay at most the top value, a sum of a window stays small, and a mean of present values
-- lies between the least and the greatest value that may be published. Callers cite these and not the definitions.
-- Assumes nothing.
use mathlib.Core.Path.{◌≡◌, refl, sym, ◌∙◌, ap}
use mathlib.Core.Bool.{Bool, true, false, cond, ◌&&◌, ◌||◌, false≢true}
use mathlib.Core.List.{List, []}
use Rattle.std.specs.Prelude.{Option, Some, None}
use Prim.Native.Nat.{ℕ, ◌+◌, ◌-◌, ◌*◌, ◌≤◌, ◌<◌}
use native.Mathlib.Omega.{arith}
use native.Mathlib.Decide.{dec_lt}
use lib.ListN.{length, get_or, get_or-eq_default}
use lib.Seq.{ext_get_or}
use Rattle.std.specs.List.{between}
use Rattle.std.proofs.lemmas.List.Edits.{length-between, get_or-between}
use lib.Dec.{leb, ltb, eqb}
use borrow.Author.Tests.{leb-true, eqb-true, eqb-false, eq-eqb, le-leb, lt-leb, lt-ltb, le-ltb}
use Rattle.numbers.specs.Bounded.{sum_below}
use Rattle.numbers.specs.Required.{ValuesWithin}
use Rattle.numbers.proofs.SumLaws.{sum_le, sum_ge}
use Rattle.numbers.proofs.TestLaws.{all_at, any_none, any_holds}
use Rattle.numbers.proofs.ListLaws.{list_at, list_length}
use Rattle.numbers.proofs.RoundingLaws.{half_up_ge, half_up_le}
use Rattle.series.specs.Series.{most_value, word_count, month_count, series_count, series_row, series_table}
use Rattle.series.specs.Series.{window_allowed, values_in_range, value_in, term_month, value_of, term_value}
use Rattle.series.specs.Series.{window_missing, mean_of, window_mean}
use Rattle.series.specs.Required.{most_mean, TableInRange}

-- a window of 1, 6 or 9 months has 1 to 9
pub window_size : (w : ℕ) → window_allowed w ≡ true → (1 ≤ w) × (w ≤ 9)
unfolding window_allowed
window_size w h = go (eqb w 1) refl (eqb w 6) refl (eqb w 9) refl h
  where
    go : (a : Bool) → eqb w 1 ≡ a → (b : Bool) → eqb w 6 ≡ b → (d : Bool) → eqb w 9 ≡ d → (a || (b || d)) ≡ true →
        (1 ≤ w) × (w ≤ 9)
    go true p b q d r e = omega (arith, eqb-true w 1 p)
    go false p true q d r e = omega (arith, eqb-true w 6 q)
    go false p false q true r e = omega (arith, eqb-true w 9 r)
    go false p false q false r e = absurd (false≢true e)

-- the words of a row, copied together
pub row_copied : (words : List ℕ) (s : ℕ) → length words ≡ word_count → s < series_count →
    between (s * month_count) (s * month_count + month_count) words ≡ series_row words s
unfolding series_row
row_copied words s e h =
    let long = length-between words (s * month_count) (s * month_count + month_count) (omega arith) in
    ext_get_or 0 _ _
    (omega (arith, long, list_length (λ k. get_or words (s * month_count + k) 0) month_count))
    (λ k p. let q : k < month_count = omega (arith, long) in
    get_or-between words (s * month_count) _ k 0 (omega arith)
    ∙ sym (list_at (λ i. get_or words (s * month_count + i) 0) month_count 0 k q))

pick_most : (b : Bool) (x m : ℕ) → x ≤ m → cond b x 0 ≤ m
pick_most true x m h = h
pick_most false x m h = omega arith

-- what stands in the table that the words fill, at every place
at_row : (words : List ℕ) (s k : ℕ) → Dec (k < month_count) → values_in_range words ≡ true → s < series_count →
    get_or (series_row words s) k 0 ≤ most_value
unfolding series_row values_in_range
at_row words s k (yes p) h q =
    rw (list_at (λ i. get_or words (s * month_count + i) 0) month_count 0 k p)
    (leb-true _ _ (all_at word_count (λ j. leb (get_or words j 0) most_value) h (s * month_count + k) (omega arith)))
at_row words s k (no p) h q =
    rw (get_or-eq_default (series_row words s) 0 {n = k}
    (omega (arith, list_length (λ i. get_or words (s * month_count + i) 0) month_count)))
    (omega arith)

at_table : (words : List ℕ) (s k : ℕ) → Dec (s < series_count) → values_in_range words ≡ true →
    get_or (get_or (series_table words) s []) k 0 ≤ most_value
unfolding series_table
at_table words s k (yes p) h =
    rw (list_at (series_row words) series_count [] s p) (at_row words s k (dec_lt k month_count) h p)
at_table words s k (no p) h =
    rw (get_or-eq_default (series_table words) [] {n = s} (omega (arith, list_length (series_row words) series_count)))
    (omega arith)

pub table_in_range : (words : List ℕ) → values_in_range words ≡ true → TableInRange (series_table words)
table_in_range words h = record { row = λ s. record { most = λ k. at_table words s k (dec_lt s series_count) h } }

-- the value of a term in one month, by where the month lies: below 0, before the table, in it, past it
module _ (row : List ℕ) (first t lag k : ℕ) where
  pub value_below : t < lag + k → term_value row first t lag k ≡ 0
  unfolding term_value term_month
  value_below p = rw (lt-leb (lag + k) t p)

  pub value_before : lag + k ≤ t → t - (lag + k) < first → term_value row first t lag k ≡ 0
  unfolding term_value term_month value_in
  value_before p q = rw (le-leb (lag + k) t p, lt-leb first (t - (lag + k)) q)

  pub value_inside : lag + k ≤ t → first ≤ t - (lag + k) → t - (lag + k) - first < month_count →
      term_value row first t lag k ≡ get_or row (t - (lag + k) - first) 0
  unfolding term_value term_month value_in
  value_inside p q r =
      rw (le-leb (lag + k) t p, le-leb first (t - (lag + k)) q, lt-ltb (t - (lag + k) - first) month_count r)

  pub value_past : lag + k ≤ t → first ≤ t - (lag + k) → month_count ≤ t - (lag + k) - first →
      term_value row first t lag k ≡ 0
  unfolding term_value term_month value_in
  value_past p q r =
      rw (le-leb (lag + k) t p, le-leb first (t - (lag + k)) q, le-ltb (t - (lag + k) - first) month_count r)

-- a window that begins before month 0 or before the table lacks its oldest month; one that ends past the table its
-- newest
module _ (row : List ℕ) (first t lag window : ℕ) (Some : 1 ≤ window) where
  lacks : (k : ℕ) → k < window → term_value row first t lag k ≡ 0 → window_missing row first t lag window ≡ true
  unfolding window_missing
  lacks k p h = any_holds window (λ i. eqb (term_value row first t lag i) 0) k p (eq-eqb _ _ h)

  pub window_before : t < first + lag + window - 1 → window_missing row first t lag window ≡ true
  window_before h = go (dec_lt t (lag + (window - 1)))
    where
      go : Dec (t < lag + (window - 1)) → window_missing row first t lag window ≡ true
      go (yes p) = lacks (window - 1) (omega arith) (value_below row first t lag (window - 1) p)
      go (no p) =
          lacks (window - 1) (omega arith) (value_before row first t lag (window - 1) (omega arith) (omega arith))

  -- a window that lies whole in the table
  pub window_inside : (k : ℕ) → k < window → first + lag + window - 1 ≤ t → t - lag - first < month_count →
      get_or row (t - lag - first - k) 0 ≡ term_value row first t lag k
  window_inside k p q r =
      let e : t - lag - first - k ≡ t - (lag + k) - first = omega arith in
      ap (λ x. get_or row x 0) e ∙ sym (value_inside row first t lag k (omega arith) (omega arith) (omega arith))

  pub window_past : lag ≤ t → first ≤ t - lag → month_count ≤ t - lag - first →
      window_missing row first t lag window ≡ true
  window_past p q r = lacks 0 (omega arith) (value_past row first t lag 0 (omega arith) (omega arith) (omega arith))

module _ (row : List ℕ) (ok : ValuesWithin most_value row) (first t lag : ℕ) where
  -- a value of a term, present or not
  pub value_most : (k : ℕ) → term_value row first t lag k ≤ most_value
  unfolding term_value value_in
  value_most k = go (term_month t lag k)
    where
      go : (m : Option ℕ) → value_of row first m ≤ most_value
      go None = omega arith
      go (Some m) = pick_most (leb first m && ltb (m - first) month_count) _ _ (ok.most (m - first))

  pub values_most : (k : ℕ) → sum_below k (term_value row first t lag) ≤ k * most_value
  values_most k = sum_le k most_value (term_value row first t lag) (λ j p. value_most j)

  pub mean_most : (window : ℕ) → 1 ≤ window → window_mean row first t lag window ≤ most_mean
  unfolding window_mean mean_of
  mean_most window p = half_up_le _ window p most_mean (omega (arith, values_most window))

-- where no month is missing each value is at least 1, and so is the mean
pub mean_least : (row : List ℕ) (first t lag window : ℕ) → 1 ≤ window → window_missing row first t lag window ≡ false →
    1 ≤ window_mean row first t lag window
unfolding window_missing window_mean mean_of
mean_least row first t lag window p h =
    half_up_ge _ window p 1
    (omega (
      arith,
      sum_ge window 1 (term_value row first t lag)
          (λ j q. present j (any_none window (λ k. eqb (term_value row first t lag k) 0) h j q)),
    ))
  where
    present : (j : ℕ) → eqb (term_value row first t lag j) 0 ≡ false → 1 ≤ term_value row first t lag j
    present j e =
        let no_zero : term_value row first t lag j ≡ 0 → ⊥ = eqb-false _ _ e in
        omega arith
