-- Laws of signed numbers as differences of unsigned ones, by which proofs leave ℤ for ℕ; and how an i64 relates
-- to ℤ. Assumes nothing.
use mathlib.Core.Path.{◌≡◌, refl, sym, ◌∙◌, ap, ap₂}
use mathlib.Core.Bool.{Bool, true, false, cond, beq, true≢false, false≢true}
use Prim.Native.Nat.{ℕ, zero, suc, ◌+◌, ◌-◌, ◌*◌, ◌^◌, ◌<◌, ◌≤◌}
use native.Mathlib.Omega.{arith}
use native.Mathlib.Decide.{dec_lt}
use native.Mathlib.Numerals.{add-one}
use native.Mathlib.Nat.{zero-add, suc-add, suc-mul, mul-le-mul}
use lib.Dec.{T, le→leb, ltb}
use lib.IntN.{ℤ, pos, negsuc, neg_ℤ, sub_ℕ, nat_abs, ◌+ℤ◌, ◌-ℤ◌, ◌*ℤ◌, +ℤ_assoc, +ℤ_comm, +ℤ_idr}
use lib.Signed.{lt_z, le_z, non_neg, ◌≤ℤ◌}
use borrow.Author.Tests.{lt-ltb, le-ltb, ltb-true, leb-true, leb-false, le-leb, lt-leb}
use mir.Syntax.{w64}
use mir.Val.{SFits, to_z, of_z}
use mir.Facts.{to_z-of_z}
use Rattle.numbers.specs.Bounded.{sum_below}
use Rattle.numbers.specs.Signed.{
  is_negative,
  positive_part,
  negative_part,
  within_size,
  signed_sum_below,
  word_of,
  signed_of,
}

-- a difference by its sign
pub sub_ge : (a b : ℕ) → b ≤ a → sub_ℕ a b ≡ pos (a - b)
sub_ge a b h = rw (le-ltb a b h)

pub sub_lt : (a b : ℕ) → a < b → sub_ℕ a b ≡ negsuc (b - suc a)
sub_lt a b h = rw (lt-ltb a b h)

-- unsigned numbers in their order
pub pos_le : (a b : ℕ) → a ≤ b → pos a ≤ℤ pos b
pos_le a b h = record { le = le→leb a b h }

-- to prove P of a difference: where it is not negative, and where it is
pub sub_cases {ℓ} : (P : ℤ → Type ℓ) (a b : ℕ) → (b ≤ a → P (pos (a - b))) → (a < b → P (negsuc (b - suc a))) →
    P (sub_ℕ a b)
sub_cases P a b f g = go (dec_lt a b)
  where
    go : Dec (a < b) → P (sub_ℕ a b)
    go (yes h) = rw (sub_lt a b h) (g h)
    go (no h) = let k : b ≤ a = omega arith in rw (sub_ge a b k) (f k)

-- two differences are equal where the sums across are
pub sub_eq : (a b c d : ℕ) → a + d ≡ c + b → sub_ℕ a b ≡ sub_ℕ c d
sub_eq a b c d e =
    sub_cases (λ z. z ≡ sub_ℕ c d) a b
    (λ h. let k : d ≤ c = omega arith in rw (sub_ge c d k) (ap pos (omega arith)))
    (λ h. let k : c < d = omega arith in rw (sub_lt c d k) (ap negsuc (omega arith)))

pub neg_sub : (m : ℕ) → sub_ℕ 0 m ≡ neg_ℤ (pos m)
neg_sub zero = refl
neg_sub (suc m) = sub_lt 0 (suc m) (omega arith) ∙ ap negsuc (omega arith)

pub pos_sub_zero : (m : ℕ) → sub_ℕ m 0 ≡ pos m
pos_sub_zero m = sub_ge m 0 (omega arith) ∙ ap pos (omega arith)

-- each number is the difference of its two parts
pub parts : (z : ℤ) → z ≡ sub_ℕ (positive_part z) (negative_part z)
parts (pos n) = sym (pos_sub_zero n)
parts (negsuc n) = ap negsuc (omega arith) ∙ sym (sub_lt 0 (suc n) (omega arith))

pub parts_turned : (z : ℤ) → sub_ℕ (negative_part z) (positive_part z) ≡ neg_ℤ z
parts_turned (pos n) = neg_sub n
parts_turned (negsuc n) = pos_sub_zero (suc n)

-- a sum of differences is the difference of the sums
pub sub_add : (a b c d : ℕ) → sub_ℕ a b +ℤ sub_ℕ c d ≡ sub_ℕ (a + c) (b + d)
sub_add a b c d =
    sub_cases (λ z. z +ℤ sub_ℕ c d ≡ sub_ℕ (a + c) (b + d)) a b
    (λ h. sub_cases (λ w. pos (a - b) +ℤ w ≡ sub_ℕ (a + c) (b + d)) c d
    (λ k. ap pos (omega arith) ∙ sym (sub_ge (a + c) (b + d) (omega arith)))
    (λ k. sub_eq (a - b) (suc (d - suc c)) (a + c) (b + d) (omega arith)))
    (λ h. sub_cases (λ w. negsuc (b - suc a) +ℤ w ≡ sub_ℕ (a + c) (b + d)) c d
    (λ k. sub_eq (c - d) (suc (b - suc a)) (a + c) (b + d) (omega arith))
    (λ k. ap negsuc (omega arith) ∙ sym (sub_lt (a + c) (b + d) (omega arith))))

-- sizes
pub size_neg : (n : ℕ) → nat_abs (neg_ℤ (pos n)) ≡ n
size_neg zero = refl
size_neg (suc n) = refl

pub zero_size : (z : ℤ) → nat_abs z ≡ 0 → z ≡ pos 0
zero_size (pos n) h = ap pos h
zero_size (negsuc n) h = absurd (omega arith)

pub within_none : (z : ℤ) → within_size 0 z ≡ true → z ≡ pos 0
unfolding within_size
within_none z h = zero_size z (omega (arith, leb-true (nat_abs z) 0 h))

pub size_add : (y z : ℤ) → nat_abs (y +ℤ z) ≤ nat_abs y + nat_abs z
size_add (pos a) (pos b) = omega arith
size_add (pos a) (negsuc b) = sub_cases (λ z. nat_abs z ≤ a + suc b) a (suc b) (λ h. omega arith) (λ h. omega arith)
size_add (negsuc a) (pos b) = sub_cases (λ z. nat_abs z ≤ suc a + b) b (suc a) (λ h. omega arith) (λ h. omega arith)
size_add (negsuc a) (negsuc b) = omega arith

-- a difference of two numbers is at most the greater in size
pub size_sub_le : (a b most : ℕ) → a ≤ most → b ≤ most → nat_abs (sub_ℕ a b) ≤ most
size_sub_le a b most p q = sub_cases (λ z. nat_abs z ≤ most) a b (λ h. omega arith) (λ h. omega arith)

pub size_mul : (y z : ℤ) → nat_abs (y *ℤ z) ≡ nat_abs y * nat_abs z
size_mul (pos a) (pos b) = refl
size_mul (pos a) (negsuc b) = size_neg (a * suc b)
size_mul (negsuc a) (pos b) = size_neg (suc a * b)
size_mul (negsuc a) (negsuc b) = refl

-- sums of signed numbers
pub signed_sum_step : (k : ℕ) (f : ℕ → ℤ) → signed_sum_below (k + 1) f ≡ signed_sum_below k f +ℤ f k
unfolding signed_sum_below
signed_sum_step k f = rw add-one

pub signed_sum_parts : (k : ℕ) (f : ℕ → ℤ) →
    signed_sum_below k f ≡ sub_ℕ (sum_below k (λ j. positive_part (f j))) (sum_below k (λ j. negative_part (f j)))
unfolding signed_sum_below sum_below
signed_sum_parts zero f = refl
signed_sum_parts (suc k) f =
    ap₂ ◌+ℤ◌ (signed_sum_parts k f) (parts (f k))
    ∙ sub_add (sum_below k (λ j. positive_part (f j))) (sum_below k (λ j. negative_part (f j))) (positive_part (f k))
    (negative_part (f k))

-- k numbers of size at most b sum to a size of at most k * b
pub signed_sum_size : (k b : ℕ) (f : ℕ → ℤ) → ((j : ℕ) → j < k → nat_abs (f j) ≤ b) → nat_abs (signed_sum_below k f) ≤ k * b
unfolding signed_sum_below
signed_sum_size zero b f h = omega arith
signed_sum_size (suc k) b f h =
    let ih : nat_abs (signed_sum_below k f) ≤ k * b = signed_sum_size k b f (λ j p. h j (omega arith)) in
    rw suc-mul (omega (arith, size_add (signed_sum_below k f) (f k), h k (omega arith)))

-- an i64: a number whose size is below 2 ^ 63 fits
pub size_fits : (z : ℤ) → nat_abs z < 2 ^ 63 → SFits w64 z
size_fits (pos n) h = record { sfits = h }
size_fits (negsuc n) h = record { sfits = omega arith }

pub pos_sub : (p n : ℕ) → pos p -ℤ pos n ≡ sub_ℕ p n
pos_sub p zero = ap pos (omega arith) ∙ sym (pos_sub_zero p)
pos_sub p (suc n) = refl

-- what the machine computes of the bits of signed values
pub mul_bits : (x y : ℤ) → SFits w64 x → SFits w64 y → to_z w64 (of_z w64 x) *ℤ to_z w64 (of_z w64 y) ≡ x *ℤ y
mul_bits x y f g = ap₂ ◌*ℤ◌ (to_z-of_z f) (to_z-of_z g)

pub add_bits : (x y : ℤ) → SFits w64 x → SFits w64 y → to_z w64 (of_z w64 x) +ℤ to_z w64 (of_z w64 y) ≡ x +ℤ y
add_bits x y f g = ap₂ ◌+ℤ◌ (to_z-of_z f) (to_z-of_z g)

-- a turn of a loop that keeps a signed sum: its variable s holds the sum's bits
pub next_bits : (s j : ℕ) (f : ℕ → ℤ) (z : ℤ) → s ≡ of_z w64 (signed_sum_below j f) → z ≡ f j →
    SFits w64 (signed_sum_below j f) → SFits w64 (f j) → to_z w64 s +ℤ to_z w64 (of_z w64 z) ≡ signed_sum_below (j + 1) f
next_bits s j f z e h p q = rw (e, h) (add_bits (signed_sum_below j f) (f j) p q ∙ sym (signed_sum_step j f))

-- the tests of the sign
pub negative_is : (x : ℤ) → lt_z x (pos 0) ≡ is_negative x
unfolding is_negative
negative_is (pos n) = le-ltb n 0 (omega arith)
negative_is (negsuc n) = refl

-- 0 - x, of a negative x
pub neg_size : (x : ℤ) → lt_z x (pos 0) ≡ true → nat_abs x < 2 ^ 63 →
    (SFits w64 (pos 0 -ℤ x)) × T (non_neg (pos 0 -ℤ x)) × (nat_abs (pos 0 -ℤ x) ≡ nat_abs x)
neg_size (pos n) h k = absurd (omega (arith, ltb-true n 0 h))
neg_size (negsuc n) h k = (record { sfits = omega arith }, tt, omega arith)

pub pos_size : (x : ℤ) → lt_z x (pos 0) ≡ false → T (non_neg x)
pos_size (pos n) h = tt
pos_size (negsuc n) h = absurd (true≢false h)

-- the test of the size by two comparisons
pub within_both : (b : ℕ) (x : ℤ) → le_z (sub_ℕ 0 b) x ≡ true → le_z x (pos b) ≡ within_size b x
unfolding within_size
within_both b (pos n) h = refl
within_both zero (negsuc n) h = absurd (false≢true h)
within_both (suc b) (negsuc n) h =
    sym (le-leb (suc n) (suc b) (omega (arith, leb-true n b (rw (neg_sub (suc b)) at h))))

pub within_low : (b : ℕ) (x : ℤ) → le_z (sub_ℕ 0 b) x ≡ false → within_size b x ≡ false
unfolding within_size
within_low zero (pos n) h = absurd (true≢false (sym (le-leb 0 n (omega arith)) ∙ h))
within_low (suc b) (pos n) h = absurd (true≢false (sym (ap (λ z. le_z z (pos n)) (neg_sub (suc b))) ∙ h))
within_low zero (negsuc n) h = lt-leb (suc n) 0 (omega arith)
within_low (suc b) (negsuc n) h = lt-leb (suc n) (suc b) (omega (arith, leb-false n b (rw (neg_sub (suc b)) at h)))

-- a sum of differences is the difference of the sums
pub signed_sum_sub : (k : ℕ) (f g : ℕ → ℕ) →
    signed_sum_below k (λ j. sub_ℕ (f j) (g j)) ≡ sub_ℕ (sum_below k f) (sum_below k g)
unfolding signed_sum_below sum_below
signed_sum_sub zero f g = refl
signed_sum_sub (suc k) f g =
    ap (λ (z : ℤ). z +ℤ sub_ℕ (f k) (g k)) (signed_sum_sub k f g)
    ∙ sub_add (sum_below k f) (sum_below k g) (f k) (g k)

-- two sums of two, regrouped
pub add_across : (a b c d : ℤ) → (a +ℤ b) +ℤ (c +ℤ d) ≡ (a +ℤ c) +ℤ (b +ℤ d)
add_across a b c d =
    +ℤ_assoc a b (c +ℤ d)
    ∙ ap (λ (z : ℤ). a +ℤ z) (sym (+ℤ_assoc b c d) ∙ ap (λ (z : ℤ). z +ℤ d) (+ℤ_comm b c) ∙ +ℤ_assoc c b d)
    ∙ sym (+ℤ_assoc a c (b +ℤ d))

-- the two parts of a difference, and a difference added to a number
pub sub_parts : (a b : ℕ) → (positive_part (sub_ℕ a b) ≡ a - b) × (negative_part (sub_ℕ a b) ≡ b - a)
sub_parts a b =
    sub_cases (λ z. (positive_part z ≡ a - b) × (negative_part z ≡ b - a)) a b (λ h. omega arith) (λ h. omega arith)

pub add_sub : (z : ℤ) (a b : ℕ) → z +ℤ sub_ℕ a b ≡ sub_ℕ (positive_part z + a) (negative_part z + b)
add_sub z a b =
    ap (λ (y : ℤ). y +ℤ sub_ℕ a b) (parts z) ∙ sub_add (positive_part z) (negative_part z) a b

-- the size by the two parts, and the part of one sign
pub size_parts : (z : ℤ) → nat_abs z ≡ positive_part z + negative_part z
size_parts (pos n) = omega arith
size_parts (negsuc n) = omega arith

pub part_size : (negative : Bool) (z : ℤ) → beq (is_negative z) negative ≡ true →
    nat_abs z ≡ cond negative (negative_part z) (positive_part z)
unfolding is_negative
part_size true (pos n) h = absurd (false≢true h)
part_size false (pos n) h = refl
part_size true (negsuc n) h = refl
part_size false (negsuc n) h = absurd (false≢true h)

pub own_part_lem : (z : ℤ) → cond (is_negative z) (negative_part z) (positive_part z) ≡ nat_abs z
unfolding is_negative
own_part_lem (pos n) = refl
own_part_lem (negsuc n) = refl

pub part_most : (negative : Bool) (z : ℤ) → cond negative (negative_part z) (positive_part z) ≤ nat_abs z
part_most true z = omega (arith, size_parts z)
part_most false z = omega (arith, size_parts z)

pub part_none : (negative : Bool) (z : ℤ) → beq (is_negative z) negative ≡ false →
    cond negative (negative_part z) (positive_part z) ≡ 0
unfolding is_negative
part_none true (pos n) h = refl
part_none false (pos n) h = absurd (true≢false h)
part_none true (negsuc n) h = absurd (true≢false h)
part_none false (negsuc n) h = refl

-- a number whose part above zero is 0 fails the test of being above zero; the same below
pub not_above : (z : ℤ) → positive_part z ≡ 0 → lt_z (pos 0) z ≡ false
not_above (pos n) h = le-ltb 0 n (omega arith)
not_above (negsuc n) h = refl

pub not_below : (z : ℤ) → negative_part z ≡ 0 → is_negative z ≡ false
unfolding is_negative
not_below (pos n) h = refl
not_below (negsuc n) h = absurd (omega arith)

pub size_add_le : (y z : ℤ) {a b : ℕ} → nat_abs y ≤ a → nat_abs z ≤ b → nat_abs (y +ℤ z) ≤ a + b
size_add_le y z p q = omega (arith, size_add y z)

pub size_mul_le : (y z : ℤ) {a b : ℕ} → nat_abs y ≤ a → nat_abs z ≤ b → nat_abs (y *ℤ z) ≤ a * b
size_mul_le y z p q = rw (size_mul y z) (mul-le-mul p q)

-- values of the machine that are a and b: that one fits, what it adds and multiplies of two
pub is_fits : (x a : ℤ) → x ≡ a → nat_abs a < 2 ^ 63 → SFits w64 x
is_fits x a e h = rw e (size_fits a h)

module _ (x y a b : ℤ) (f : SFits w64 x) (g : SFits w64 y) (e : x ≡ a) (h : y ≡ b) where
  pub sum_bits : to_z w64 (of_z w64 x) +ℤ to_z w64 (of_z w64 y) ≡ a +ℤ b
  sum_bits = add_bits x y f g ∙ ap₂ ◌+ℤ◌ e h

  pub product_bits : to_z w64 (of_z w64 x) *ℤ to_z w64 (of_z w64 y) ≡ a *ℤ b
  product_bits = mul_bits x y f g ∙ ap₂ ◌*ℤ◌ e h

-- sums of two signed functions
pub signed_sum_add : (n : ℕ) (f g : ℕ → ℤ) →
    signed_sum_below n (λ i. f i +ℤ g i) ≡ signed_sum_below n f +ℤ signed_sum_below n g
unfolding signed_sum_below
signed_sum_add zero f g = refl
signed_sum_add (suc n) f g =
    ap (λ (z : ℤ). z +ℤ (f n +ℤ g n)) (signed_sum_add n f g)
    ∙ add_across (signed_sum_below n f) (signed_sum_below n g) (f n) (g n)

-- functions that agree below the bound have one sum
pub signed_sum_same : (k : ℕ) (f g : ℕ → ℤ) → ((i : ℕ) → i < k → f i ≡ g i) → signed_sum_below k f ≡ signed_sum_below k g
unfolding signed_sum_below
signed_sum_same zero f g h = refl
signed_sum_same (suc k) f g h =
    ap₂ (λ (y z : ℤ). y +ℤ z) (signed_sum_same k f g (λ i p. h i (omega arith))) (h k (omega arith))

-- places that hold 0 add nothing
sum_up : (n k : ℕ) (f : ℕ → ℤ) → ((i : ℕ) → n ≤ i → i < k + n → f i ≡ pos 0) →
    signed_sum_below (k + n) f ≡ signed_sum_below n f
unfolding signed_sum_below
sum_up n zero f h = rw zero-add
sum_up n (suc k) f h =
    rw suc-add
    (ap₂ (λ (y z : ℤ). y +ℤ z) (sum_up n k f (λ i p q. h i p (omega arith))) (h (k + n) (omega arith) (omega arith))
    ∙ +ℤ_idr (signed_sum_below n f))

pub sum_wide : (n m : ℕ) (f : ℕ → ℤ) → n ≤ m → ((i : ℕ) → n ≤ i → i < m → f i ≡ pos 0) →
    signed_sum_below m f ≡ signed_sum_below n f
sum_wide n m f p h =
    let e : m - n + n ≡ m = omega arith in
    rw e at (sum_up n (m - n) f (λ i q r. h i q (omega arith)))

pub negative_some : (z : ℤ) → is_negative z ≡ true → 1 ≤ nat_abs z
unfolding is_negative
negative_some (pos n) e = absurd (false≢true e)
negative_some (negsuc n) e = omega arith

-- std's word of a number is the definition's
pub word_is : (z : ℤ) → of_z w64 z ≡ word_of z
unfolding word_of
word_is (pos n) = refl
word_is (negsuc n) = omega arith

-- the number of a word by its cases: below 2 ^ 63, and from there on
pub signed_small : (w : ℕ) → w < 2 ^ 63 → signed_of w ≡ pos w
unfolding signed_of
signed_small w h = rw (lt-ltb w (2 ^ 63) h)

pub signed_large : (w : ℕ) → 2 ^ 63 ≤ w → signed_of w ≡ negsuc (2 ^ 64 - 1 - w)
unfolding signed_of
signed_large w h = rw (le-ltb w (2 ^ 63) h)

-- std's number of a word is the definition's
pub signed_is : (w : ℕ) → to_z w64 w ≡ signed_of w
unfolding signed_of
signed_is w = ap (λ n. cond (ltb w (2 ^ 63)) (pos w) (negsuc n)) (omega arith)

-- a number that fits in an i64 is read back from its word
pub word_signed : (z : ℤ) → SFits w64 z → signed_of (word_of z) ≡ z
unfolding word_of
word_signed (pos n) f = signed_small n f.sfits
word_signed (negsuc n) f =
    signed_large (2 ^ 64 - 1 - n) (omega (arith, f.sfits)) ∙ ap negsuc (omega (arith, f.sfits))

-- the word of a number that fits in an i64 has 64 bits
pub word_fits : (z : ℤ) → SFits w64 z → word_of z < 2 ^ 64
unfolding word_of
word_fits (pos n) f = omega (arith, f.sfits)
word_fits (negsuc n) f = omega arith
