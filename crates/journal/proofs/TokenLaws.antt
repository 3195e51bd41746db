-- Laws of the walk over a text: it stops at a token's first byte or last, and goes on by one byte; a token lies within
-- the text and is not empty. Assumes nothing.
use mathlib.Core.Path.{◌≡◌, refl}
use mathlib.Core.Bool.{Bool, true, false, cond, ◌||◌}
use mathlib.Core.List.{List}
use Prim.Native.Nat.{ℕ, zero, suc, ◌+◌, ◌-◌, ◌<◌, ◌≤◌, min}
use native.Mathlib.Omega.{arith}
use lib.ListN.{length}
use Rattle.numbers.proofs.BoolLaws.{or_right}
use Rattle.journal.specs.Token.{byte_at, ends_token, comment_after, start_from, token_start, end_from, token_end}
use Rattle.journal.specs.Token.{token_after}

module _ (text : List ℕ) (k : ℕ) where
  pub end_here : (left : ℕ) → ends_token (byte_at text k) ≡ true → end_from left text k ≡ k
  unfolding end_from
  end_here zero h = refl
  end_here (suc left) h = rw h

  pub end_on : k < length text → ends_token (byte_at text k) ≡ false →
      end_from (length text - k) text k ≡ end_from (length text - (k + 1)) text (k + 1)
  unfolding end_from
  end_on p h =
      let e : length text - k ≡ suc (length text - (k + 1)) = omega arith in
      rw (e, h)

  pub start_here : (comment : Bool) (left : ℕ) → (comment || ends_token (byte_at text k)) ≡ false →
      start_from left comment text k ≡ k
  unfolding start_from
  start_here comment zero h = refl
  start_here comment (suc left) h = rw h

  pub start_on : (comment : Bool) → k < length text → (comment || ends_token (byte_at text k)) ≡ true →
      start_from (length text - k) comment text k ≡ start_from (length text - (k + 1))
      (comment_after comment (byte_at text k)) text (k + 1)
  unfolding start_from
  start_on comment p h =
      let e : length text - k ≡ suc (length text - (k + 1)) = omega arith in
      rw (e, h)

-- a walk stops here or goes on by a byte
stop_or_on : (b : Bool) (k left on : ℕ) → (k + 1 ≤ on) × (on ≤ k + 1 + left) →
    (k ≤ cond b on k) × (cond b on k ≤ k + suc left)
stop_or_on true k left on h = (omega arith, omega arith)
stop_or_on false k left on h = (omega arith, omega arith)

on_or_stop : (b : Bool) (k left on : ℕ) → (k + 1 ≤ on) × (on ≤ k + 1 + left) →
    (k ≤ cond b k on) × (cond b k on ≤ k + suc left)
on_or_stop true k left on h = (omega arith, omega arith)
on_or_stop false k left on h = (omega arith, omega arith)

-- so it ends among the bytes that are left
module _ (text : List ℕ) where
  start_walk : (left : ℕ) (comment : Bool) (k : ℕ) →
      (k ≤ start_from left comment text k) × (start_from left comment text k ≤ k + left)
  unfolding start_from
  start_walk zero comment k = (omega arith, omega arith)
  start_walk (suc left) comment k =
      stop_or_on (comment || ends_token (byte_at text k)) k left _
      (start_walk left (comment_after comment (byte_at text k)) (k + 1))

  end_walk : (left k : ℕ) → (k ≤ end_from left text k) × (end_from left text k ≤ k + left)
  unfolding end_from
  end_walk zero k = (omega arith, omega arith)
  end_walk (suc left) k = on_or_stop (ends_token (byte_at text k)) k left _ (end_walk left (k + 1))

  -- a walk that stops before its end stops at a byte of a token
  start_byte : (left : ℕ) (comment : Bool) (k : ℕ) → start_from left comment text k < k + left →
      ends_token (byte_at text (start_from left comment text k)) ≡ false
  unfolding start_from
  start_byte zero comment k p = absurd (omega arith)
  start_byte (suc left) comment k p =
      go (comment || ends_token (byte_at text k)) refl p
      (start_byte left (comment_after comment (byte_at text k)) (k + 1))
    where
      on : ℕ
      on = start_from left (comment_after comment (byte_at text k)) text (k + 1)

      go : (b : Bool) → (comment || ends_token (byte_at text k)) ≡ b → cond b on k < k + suc left →
          (on < k + 1 + left → ends_token (byte_at text on) ≡ false) → ends_token (byte_at text (cond b on k)) ≡ false
      go true h q r = r (omega arith)
      go false h q r = or_right comment (ends_token (byte_at text k)) h

  start_least : (from : ℕ) → from ≤ token_start text from
  unfolding token_start
  start_least from = (start_walk (length text - from) false from).0

  pub start_most : (from : ℕ) → from ≤ length text → token_start text from ≤ length text
  unfolding token_start
  start_most from p = omega (arith, (start_walk (length text - from) false from).1)

  end_least : (start : ℕ) → start ≤ token_end text start
  unfolding token_end
  end_least start = (end_walk (length text - start) start).0

  end_most : (start : ℕ) → start ≤ length text → token_end text start ≤ length text
  unfolding token_end
  end_most start p = omega (arith, (end_walk (length text - start) start).1)

  -- a token is not empty
  end_past : (start : ℕ) → start < length text → ends_token (byte_at text start) ≡ false → start < token_end text start
  unfolding token_end
  end_past start p h = rw (end_on text start p h) (omega (arith, (end_walk (length text - (start + 1)) (start + 1)).0))

  start_past : (from : ℕ) → token_start text from < length text →
      token_start text from < token_end text (token_start text from)
  unfolding token_start
  start_past from p =
      end_past (token_start text from) p
      (start_byte (length text - from) false from (omega (arith, (start_walk (length text - from) false from).0)))

-- the next token lies within the text, after the place where it is sought, and is not empty where there is one
module _ (text : List ℕ) (from : ℕ) where
  pub token_from : from ≤ length text →
      token_after text from ≡ record { start = token_start text from; end = token_end text (token_start text from) }
  unfolding token_after
  token_from p =
      let e : min from (length text) ≡ from = omega arith in
      rw e

  pub token_ordered : (token_after text from).start ≤ (token_after text from).end
  unfolding token_after
  token_ordered = end_least text _

  pub token_within : (token_after text from).end ≤ length text
  unfolding token_after
  token_within = end_most text _ (start_most text (min from (length text)) (omega arith))

  pub token_inside : (token_after text from).start ≤ length text
  token_inside = omega (arith, token_ordered, token_within)

  pub token_later : from ≤ length text → from ≤ (token_after text from).start
  token_later p = rw (token_from p) (start_least text from)

  pub token_some : (token_after text from).start < length text →
      (token_after text from).start < (token_after text from).end
  unfolding token_after
  token_some p = start_past text (min from (length text)) p
