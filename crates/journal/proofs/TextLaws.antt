-- What stands in a text from a place on: its bytes, and the token that starts there. Assumes nothing.
use mathlib.Core.Path.{◌≡◌, refl, sym, ◌∙◌, ap}
use mathlib.Core.Bool.{Bool, true, false}
use mathlib.Core.List.{List, [], ◌∷◌, ◌++◌}
use Prim.Native.Nat.{ℕ, suc, ◌+◌, ◌-◌, ◌<◌, ◌≤◌}
use native.Mathlib.Nat.{add-zero}
use native.Mathlib.Omega.{arith}
use lib.ListN.{length, get_or, drop, length-drop, get_or-append}
use lib.Seq.{drop-drop, drop-append_seam, take-append_seam, get_or-drop}
use Rattle.text.specs.Text.{blank, line_end}
use Rattle.journal.specs.Token.{byte_at, ends_token, comment_after, start_from, token_start, end_from}
use Rattle.journal.specs.Token.{token_end, token_after, bytes_of}
use Rattle.journal.proofs.TokenLaws.{end_here, end_on, start_here, start_on, token_from}

module _ (text : List ℕ) (k : ℕ) (tail : List ℕ) (h : drop k text ≡ tail) where
  -- the bytes from a place on
  byte_on : (i : ℕ) → byte_at text (k + i) ≡ byte_at tail i
  byte_on i = sym (get_or-drop k text i 0) ∙ ap (λ (l : List ℕ). get_or l i 0) h

  pub byte_first : byte_at text k ≡ byte_at tail 0
  byte_first = ap (λ (i : ℕ). byte_at text i) (sym (add-zero k)) ∙ byte_on 0

  -- how many there are
  tail_length : length tail ≡ length text - k
  tail_length = ap length (sym h) ∙ length-drop k text

module _ (text : List ℕ) (k : ℕ) (token tail : List ℕ) (h : drop k text ≡ token ++ tail) where
  -- a byte of the first part, and what stands after it
  pub byte_of : (i : ℕ) → i < length token → byte_at text (k + i) ≡ byte_at token i
  byte_of i p = byte_on text k (token ++ tail) h i ∙ get_or-append token tail 0 i p

  stands_after : drop (k + length token) text ≡ tail
  stands_after =
      sym (drop-drop (length token) k text) ∙ ap (λ (l : List ℕ). drop (length token) l) h ∙ drop-append_seam token tail

pub one_after : (text : List ℕ) (k b : ℕ) (tail : List ℕ) → drop k text ≡ b ∷ tail → drop (k + 1) text ≡ tail
one_after text k b tail h = stands_after text k (b ∷ []) tail h

pub place_within : (text : List ℕ) (k b : ℕ) (tail : List ℕ) → drop k text ≡ b ∷ tail → k < length text
place_within text k b tail h = omega (arith, tail_length text k (b ∷ tail) h)

-- a blank or a line end before a token
pub record Gap (byte : ℕ) : Type 0 where
  pub ends : ends_token byte ≡ true
  pub outside : comment_after false byte ≡ false

pub blank_gap : Gap blank
blank_gap = record { ends = refl; outside = refl }

pub line_gap : Gap line_end
line_gap = record { ends = refl; outside = refl }

-- a text that ends the token before it
pub record Ends (tail : List ℕ) : Type 0 where
  pub ends : ends_token (byte_at tail 0) ≡ true

pub gap_ends : (b : ℕ) (tail : List ℕ) → Gap b → Ends (b ∷ tail)
gap_ends b tail g = record { ends = g.ends }

-- bytes that do not end a token
pub record Plain (token : List ℕ) : Type 0 where
  pub some : 0 < length token
  pub plain : (i : ℕ) → i < length token → ends_token (byte_at token i) ≡ false

end_walked : (text token tail : List ℕ) (k : ℕ) → drop k text ≡ token ++ tail →
    ((i : ℕ) → i < length token → ends_token (byte_at token i) ≡ false) → Ends tail →
    end_from (length text - k) text k ≡ k + length token
end_walked text [] tail k h p e =
    end_here text k (length text - k) (ap ends_token (byte_first text k tail h) ∙ e.ends) ∙ sym (add-zero k)
end_walked text (b ∷ token) tail k h p e =
    end_on text k (place_within text k b (token ++ tail) h)
    (ap ends_token (byte_first text k (b ∷ (token ++ tail)) h) ∙ p 0 (omega arith))
    ∙ end_walked text token tail (k + 1) (one_after text k b (token ++ tail) h) (λ i q. p (suc i) (omega arith)) e
    ∙ omega arith

-- the token that is found from a place, and what stands after it
pub record TokenStands (text : List ℕ) (from : ℕ) (token tail : List ℕ) : Type 0 where
  pub start : drop (token_after text from).start text ≡ token ++ tail
  pub end : (token_after text from).end ≡ (token_after text from).start + length token

module _ (text : List ℕ) (k : ℕ) (token tail : List ℕ) (p : Plain token) (e : Ends tail) where
  token_at : k ≤ length text → (start : ℕ) → token_start text k ≡ start → drop start text ≡ token ++ tail →
      TokenStands text k token tail
  unfolding token_end
  token_at q start s h =
      record {
        start = rw (token_from text k q, s) h;
        end = rw (token_from text k q, s) (end_walked text token tail start h p.plain e);
      }

  first_plain : (start : ℕ) → drop start text ≡ token ++ tail → ends_token (byte_at text start) ≡ false
  first_plain start h =
      ap (λ (i : ℕ). ends_token (byte_at text i)) (sym (add-zero start))
      ∙ ap ends_token (byte_of text start token tail h 0 p.some)
      ∙ p.plain 0 p.some

  -- a token that stands at the place itself
  pub token_same : drop k text ≡ token ++ tail → k ≤ length text →
      record { start = k; end = k + length token } ≡ token_after text k
  unfolding token_start token_end
  token_same h q =
      sym (token_from text k q
      ∙ rw (
        start_here text k false (length text - k) (first_plain k h),
        end_walked text token tail k h p.plain e,
      ) refl)

  -- a token after a blank or a line end
  pub token_next : (gap : ℕ) → Gap gap → drop k text ≡ gap ∷ (token ++ tail) → TokenStands text k token tail
  unfolding token_start
  token_next gap g h =
      let after : drop (k + 1) text ≡ token ++ tail = one_after text k gap (token ++ tail) h in
      let byte : byte_at text k ≡ gap = byte_first text k (gap ∷ (token ++ tail)) h in
      token_at (omega (arith, place_within text k gap (token ++ tail) h)) (k + 1)
      (start_on text k false (place_within text k gap (token ++ tail) h) (ap ends_token byte ∙ g.ends)
      ∙ ap (λ (c : Bool). start_from (length text - (k + 1)) c text (k + 1)) (ap (comment_after false) byte ∙ g.outside)
      ∙ start_here text (k + 1) false (length text - (k + 1)) (first_plain (k + 1) after))
      after

-- only a blank or a line end is left: no token follows
pub token_none : (text : List ℕ) (k gap : ℕ) → Gap gap → drop k text ≡ gap ∷ [] →
    record { start = length text; end = length text } ≡ token_after text k
unfolding token_start token_end start_from end_from
token_none text k gap g h =
    let inside : k < length text = place_within text k gap [] h in
    let left : length text - (k + 1) ≡ 0 = omega (arith, tail_length text k (gap ∷ []) h) in
    let last : k + 1 ≡ length text = omega (arith, tail_length text k (gap ∷ []) h) in
    let ended : length text - length text ≡ 0 = omega arith in
    sym (token_from text k (omega arith)
    ∙ rw (
      start_on text k false inside (ap ends_token (byte_first text k (gap ∷ []) h) ∙ g.ends),
      left,
      last,
      ended,
    ) refl)

module _ {text : List ℕ} {from : ℕ} {token tail : List ℕ} (t : TokenStands text from token tail) where
  abbrev start : ℕ
  start = (token_after text from).start

  abbrev end : ℕ
  end = (token_after text from).end

  pub token_after_lem : drop end text ≡ tail
  token_after_lem = rw t.end (stands_after text start token tail t.start)

  -- the token's bytes are those that stand there
  pub token_bytes : bytes_of text (token_after text from) ≡ token
  token_bytes =
      let size : end - start ≡ length token = omega (arith, t.end) in
      rw (size, t.start) (take-append_seam token tail)
