-- Each place of the list of means holds the mean of one series, lag and window; it is 0 where a month is missing and
-- nowhere else, since a mean of published values is at least 1. Assumes nothing.
use mathlib.Core.Path.{◌≡◌, refl, ◌∙◌, ap, ap₂}
use mathlib.Core.Bool.{Bool, true, false, cond, ◌||◌, false≢true}
use mathlib.Core.List.{List, []}
use Prim.Native.Nat.{ℕ, ◌+◌, ◌-◌, ◌*◌, ◌/◌, ◌%◌, ◌≤◌, ◌<◌}
use native.Mathlib.Omega.{arith}
use native.Mathlib.Decide.{dec_lt}
use lib.ListN.{get_or, get_or-eq_default}
use lib.Dec.{eqb}
use borrow.Author.Tests.{eqb-true, ne_eqb}
use Rattle.numbers.specs.Bounded.{list_below}
use Rattle.numbers.specs.Required.{ValuesWithin}
use Rattle.numbers.proofs.ListLaws.{list_at, list_length}
use Rattle.series.specs.Series.{most_value, series_count, window_allowed, window_missing, window_mean}
use Rattle.series.specs.Means.{mean_count, window_of, mean_place, mean_or_zero, mean_worked, mean_list, mean_at}
use Rattle.series.specs.Required.{most_mean, TableInRange}
use Rattle.series.proofs.SeriesLaws.{window_size, mean_least, mean_most}

module _ (row : List ℕ) (first t lag window : ℕ) where
  pub mean_missing : window_missing row first t lag window ≡ true → mean_or_zero row first t lag window ≡ 0
  unfolding mean_or_zero
  mean_missing h = rw h

  pub mean_published : window_missing row first t lag window ≡ false →
      mean_or_zero row first t lag window ≡ window_mean row first t lag window
  unfolding mean_or_zero
  mean_published h = rw h

  -- a mean of 0 says that a month is missing
  pub zero_missing : 1 ≤ window → eqb (mean_or_zero row first t lag window) 0 ≡ window_missing row first t lag window
  unfolding mean_or_zero
  zero_missing some = go (window_missing row first t lag window) refl
    where
      go : (b : Bool) → window_missing row first t lag window ≡ b →
          eqb (cond b 0 (window_mean row first t lag window)) 0 ≡ b
      go true h = refl
      go false h =
          let least : 1 ≤ window_mean row first t lag window = mean_least row first t lag window some h in
          ne_eqb _ _ (λ e. let z : window_mean row first t lag window ≡ 0 = e in absurd (omega arith))

-- every place of three has a window
pub window_of_size : (place : ℕ) → (1 ≤ window_of place) × (window_of place ≤ 9)
unfolding window_of
window_of_size place = go (eqb place 0) (eqb place 1)
  where
    go : (a b : Bool) → (1 ≤ cond a 1 (cond b 6 9)) × (cond a 1 (cond b 6 9) ≤ 9)
    go true b = omega arith
    go false true = omega arith
    go false false = omega arith

-- no mean is above that of the top value
mean_within : (row : List ℕ) → ValuesWithin most_value row → (first t lag window : ℕ) → 1 ≤ window →
    mean_or_zero row first t lag window ≤ most_mean
unfolding mean_or_zero
mean_within row ok first t lag window some = go (window_missing row first t lag window)
  where
    go : (b : Bool) → cond b 0 (window_mean row first t lag window) ≤ most_mean
    go true = omega arith
    go false = mean_most row ok first t lag window some

pub means_within : (table : List (List ℕ)) → TableInRange table → (first t : ℕ) →
    ValuesWithin most_mean (mean_list table first t)
unfolding mean_list mean_worked
means_within table ok first t = record { most = λ p. go p (dec_lt p mean_count) }
  where
    means : ℕ → ℕ
    means = mean_worked table first t

    go : (p : ℕ) → Dec (p < mean_count) → get_or (list_below mean_count means) p 0 ≤ most_mean
    go p (yes q) =
        rw (list_at means mean_count 0 p q)
        (mean_within (get_or table (p / 36) []) (ok.row (p / 36)) first t (p / 3 % 12 + 1) (window_of (p % 3))
        (window_of_size (p % 3)).0)
    go p (no q) =
        rw (get_or-eq_default (list_below mean_count means) 0 {n = p} (omega (arith, list_length means mean_count)))
        (omega arith)

-- the means of a series and lag stand together, in the order of the windows
pub worked_at : (table : List (List ℕ)) (first t turn window place : ℕ) → window < 3 → place ≡ turn * 3 + window →
    mean_or_zero (get_or table (turn / 12) []) first t (turn % 12 + 1) (window_of window) ≡ mean_worked table first t place
unfolding mean_worked
worked_at table first t turn window place h e =
    let a : turn / 12 ≡ place / 36 = omega arith in
    let b : turn % 12 + 1 ≡ place / 3 % 12 + 1 = omega arith in
    let d : window ≡ place % 3 = omega arith in
    ap (λ x. mean_or_zero (get_or table x []) first t (turn % 12 + 1) (window_of window)) a
    ∙ ap₂ (mean_or_zero (get_or table (place / 36) []) first t) b (ap window_of d)

-- a window stands at its quarter
place_window : (w : ℕ) → window_allowed w ≡ true → window_of (w / 4) ≡ w
unfolding window_allowed window_of
place_window w h = go (eqb w 1) refl (eqb w 6) refl (eqb w 9) refl h
  where
    go : (a : Bool) → eqb w 1 ≡ a → (b : Bool) → eqb w 6 ≡ b → (d : Bool) → eqb w 9 ≡ d → (a || (b || d)) ≡ true →
        window_of (w / 4) ≡ w
    go true p b q d r e = rw (eqb-true w 1 p)
    go false p true q d r e = rw (eqb-true w 6 q)
    go false p false q true r e = rw (eqb-true w 9 r)
    go false p false q false r e = absurd (false≢true e)

module _ (s lag window : ℕ) (known : s < series_count) (some : 1 ≤ lag) (few : lag ≤ 12)
    (ok : window_allowed window ≡ true) where
  pub place_below : mean_place s lag window < mean_count
  unfolding mean_place
  place_below = omega (arith, (window_size window ok).1)

  -- what stands at the place of a series, lag and window is their mean
  pub mean_listed : (table : List (List ℕ)) (first t : ℕ) →
      mean_at (mean_list table first t) s lag window ≡ mean_or_zero (get_or table s []) first t lag window
  unfolding mean_at mean_list mean_worked mean_place
  mean_listed table first t =
      let p = s * 36 + (lag - 1) * 3 + window / 4 in
      let small : window ≤ 9 = (window_size window ok).1 in
      let a : p / 36 ≡ s = omega arith in
      let b : p / 3 % 12 + 1 ≡ lag = omega arith in
      let d : p % 3 ≡ window / 4 = omega arith in
      list_at (mean_worked table first t) mean_count 0 p place_below
      ∙ ap (λ x. mean_or_zero (get_or table x []) first t (p / 3 % 12 + 1) (window_of (p % 3))) a
      ∙ ap₂ (mean_or_zero (get_or table s []) first t) b (ap window_of d ∙ place_window window ok)
