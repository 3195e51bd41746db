-- Signed prices and charges against unsigned bounds, and the greatest of several charges. Assumes nothing.
use mathlib.Core.Path.{◌≡◌, refl, sym, ◌∙◌, ap}
use mathlib.Core.Bool.{Bool, true, false, cond, true≢false}
use Prim.Native.Nat.{ℕ, zero, suc, ◌+◌, ◌-◌, ◌*◌, ◌≤◌, ◌<◌}
use native.Mathlib.Omega.{arith}
use lib.Dec.{leb→le, le→leb}
use borrow.Author.Tests.{leb-false}
use lib.IntN.{ℤ, pos, negsuc, neg_ℤ, sub_ℕ, ◌-ℤ◌, ◌*ℤ◌}
use lib.Signed.{lt_z, le_z, ◌≤ℤ◌, le_z_yes, lt_z_yes, lt_z_no, ≤ℤ_refl, <ℤ-≤ℤ_trans, clash_ℤ}
use Rattle.numbers.specs.Bounded.{sum_below}
use Rattle.numbers.specs.Signed.{positive_part, negative_part, signed_sum_below}
use Rattle.numbers.proofs.BoolLaws.{by_last}
use Rattle.numbers.proofs.SumLaws.{sum_le_sum}
use Rattle.numbers.proofs.SignedLaws.{sub_cases, pos_sub_zero, signed_sum_parts, pos_le}
use Rattle.fixing.specs.Charge.{greater, greatest_up_to}

signed_trans : {a b c : ℤ} → a ≤ℤ b → b ≤ℤ c → a ≤ℤ c
signed_trans {a} {b} {c} h k = go (lt_z c a) refl
  where
    go : (t : Bool) → lt_z c a ≡ t → a ≤ℤ c
    go true e = clash_ℤ (<ℤ-≤ℤ_trans (lt_z_yes (rw e tt)) h) k
    go false e = lt_z_no (rw e tt)

signed_total : (a b : ℤ) → le_z a b ≡ false → b ≤ℤ a
signed_total (pos a) (pos b) e = pos_le b a (omega (arith, leb-false a b e))
signed_total (pos a) (negsuc b) e = record { le = tt }
signed_total (negsuc a) (pos b) e = absurd (true≢false e)
signed_total (negsuc a) (negsuc b) e = record { le = le→leb a b (omega (arith, leb-false b a e)) }

-- the greater of two is the second where it is at least the first, and the first where that is
greater-cases {ℓ} : (P : ℤ → Type ℓ) (a b : ℤ) → (a ≤ℤ b → P b) → (b ≤ℤ a → P a) → P (greater a b)
unfolding greater
greater-cases P a b f g = go (le_z a b) refl
  where
    go : (t : Bool) → le_z a b ≡ t → P (cond t b a)
    go true e = f (le_z_yes (rw e tt))
    go false e = g (signed_total a b e)

-- the greatest: at least each of them, and at most what all are at most
pub greatest_at : (k : ℕ) (f : ℕ → ℤ) (i : ℕ) → i < suc k → f i ≤ℤ greatest_up_to k f
unfolding greatest_up_to
greatest_at zero f i p = let e : i ≡ 0 = omega arith in rw e (≤ℤ_refl (f 0))
greatest_at (suc k) f i p =
    let last = f (suc k) in
    let so_far = greatest_up_to k f in
    by_last (suc k) (λ j. f j ≤ℤ greater so_far last)
    (λ j q. greater-cases (λ z. f j ≤ℤ z) so_far last (signed_trans (greatest_at k f j q)) (λ h. greatest_at k f j q))
    (greater-cases (λ z. last ≤ℤ z) so_far last (λ h. ≤ℤ_refl last) (λ h. h))
    i p

pub greatest_le : (k : ℕ) (f : ℕ → ℤ) (z : ℤ) → ((i : ℕ) → i < suc k → f i ≤ℤ z) → greatest_up_to k f ≤ℤ z
unfolding greatest_up_to
greatest_le zero f z h = h 0 (omega arith)
greatest_le (suc k) f z h =
    greater-cases (λ x. x ≤ℤ z) (greatest_up_to k f) (f (suc k))
    (λ p. h (suc k) (omega arith))
    (λ p. greatest_le k f z (λ i q. h i (omega arith)))

-- a charge is a difference of unsigned numbers
charge_sub : (a b : ℕ) → pos a -ℤ pos b ≡ sub_ℕ a b
charge_sub a zero = ap pos (omega arith) ∙ sym (pos_sub_zero a)
charge_sub a (suc b) = refl

-- a price of at most the average and m more has a charge of at most m
pub charge_le : (a b m : ℕ) → a ≤ b + m → (pos a -ℤ pos b) ≤ℤ pos m
charge_le a b m h =
    rw (charge_sub a b) (sub_cases (λ z. z ≤ℤ pos m) a b (λ p. pos_le (a - b) m (omega arith))
    (λ p. record { le = tt }))

-- and the other way, for a price of either sign
pub price_le : (q : ℤ) (b m : ℕ) → (q -ℤ pos b) ≤ℤ pos m → positive_part q ≤ b + m
price_le (pos a) b m h =
    sub_cases (λ z. z ≤ℤ pos m → a ≤ b + m) a b
    (λ p l. omega (arith, leb→le (a - b) m l.le))
    (λ p l. omega arith)
    (rw (charge_sub a b) at h)
price_le (negsuc a) b m h = omega arith

-- a charge below 0 is of a price below the average
pub price_lt : (q : ℤ) (b m : ℕ) → 0 < b → (q -ℤ pos b) ≤ℤ negsuc m → positive_part q < b
price_lt (pos a) b m p h =
    sub_cases (λ z. z ≤ℤ negsuc m → a < b) a b (λ _ l. absurd l.le) (λ less l. less) (rw (charge_sub a b) at h)
price_lt (negsuc a) b m p h = p

pub part_le : (q : ℤ) (l : ℕ) → q ≤ℤ pos l → positive_part q ≤ l
part_le (pos a) l h = leb→le a l h.le
part_le (negsuc a) l h = omega arith

-- what signed prices collect is at most what their positive parts do
part_mul : (q : ℤ) (e : ℕ) → positive_part (q *ℤ pos e) ≤ positive_part q * e
part_mul (pos a) e = omega arith
part_mul (negsuc a) e = negative (suc a * e)
  where
    negative : (n : ℕ) → positive_part (neg_ℤ (pos n)) ≤ 0 * e
    negative zero = omega arith
    negative (suc n) = omega arith

pub signed_collect : (k a : ℕ) (q : ℕ → ℤ) (e : ℕ → ℕ) → pos a ≤ℤ signed_sum_below k (λ i. q i *ℤ pos (e i)) →
    a ≤ sum_below k (λ i. positive_part (q i) * e i)
signed_collect k a q e h =
    let product : ℕ → ℤ = λ i. q i *ℤ pos (e i) in
    let plus = sum_below k (λ i. positive_part (product i)) in
    let minus = sum_below k (λ i. negative_part (product i)) in
    let most : plus ≤ sum_below k (λ i. positive_part (q i) * e i) =
    sum_le_sum k (λ i. positive_part (product i)) (λ i. positive_part (q i) * e i) (λ i p. part_mul (q i) (e i)) in
    sub_cases (λ z. pos a ≤ℤ z → a ≤ sum_below k (λ i. positive_part (q i) * e i)) plus minus
    (λ p l. omega (arith, leb→le a (plus - minus) l.le))
    (λ p l. absurd l.le)
    (rw (signed_sum_parts k product) at h)
