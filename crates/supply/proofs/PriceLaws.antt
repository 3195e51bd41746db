-- Bounds of every number on the way from a line's base prices to its reference and its power price, so that nothing
-- leaves 64 bits; and what a line that passes has: indexed and purchase in 1 to 1,000,000, reference in 1,000 to
-- 2,000,000, of power 1 to 100,000,000; and which price it takes. Assumes nothing.
use mathlib.Core.Path.{◌≡◌, refl, sym, ◌∙◌, ap, ap₂}
use mathlib.Core.Bool.{Bool, true, false, cond, ◌&&◌, and-false, true≢false}
use mathlib.Core.List.{List}
use Rattle.std.specs.Prelude.{Option, Some, None, Ok, Err, IfSome, is_some, option_and_then}
use Rattle.std.proofs.lemmas.Option.{none-some, cond_some}
use Prim.Native.Nat.{ℕ, ◌*◌, ◌≤◌, ◌<◌}
use native.Mathlib.Omega.{arith}
use native.Mathlib.Nat.{mul-le-mul}
use native.Mathlib.Decide.{dec_lt}
use lib.Dec.{leb, ltb, eqb}
use lib.ListN.{length, get_or}
use borrow.Author.Tests.{lt-ltb, le-ltb}
use Rattle.numbers.specs.Required.{ValuesWithin}
use Rattle.numbers.specs.Rounding.{half_up}
use Rattle.numbers.specs.Bounded.{first_below}
use Rattle.numbers.specs.Units.{between, least_price, most_price, checked_price}
use Rattle.numbers.specs.declared.units.PesoPrice.{PesoPrice}
use Rattle.numbers.proofs.BoolLaws.{and_left, and_right, or_of}
use Rattle.numbers.proofs.FirstLaws.{first_none, first_is}
use Rattle.numbers.proofs.ListLaws.{filled_at}
use Rattle.numbers.proofs.CheckLaws.{Told, AllTold, none_told, met_told, check_told}
use Rattle.numbers.specs.declared.refusal.Refusal.TheVariants.{OutOfBounds, NoLineMoved}
use Rattle.numbers.specs.Checks.{verdict_of}
use Rattle.numbers.proofs.UnitLaws.{between_low, between_high}
use Rattle.numbers.proofs.SumLaws.{sum_same}
use Rattle.numbers.proofs.RoundingLaws.{half_up_le}
use Rattle.series.specs.Required.{most_mean}
use Rattle.supply.specs.Line.{most_lines, most_terms, most_power_price, power_term, term_places, line_count, line_of}
use Rattle.supply.specs.Line.{term_of, term_used}
use Rattle.supply.specs.Price.{ratio_of, term_ratio, weighted_ratio, index_factor, indexed_of, line_indexed}
use Rattle.supply.specs.Price.{most_index_factor, indexed_within, power_peso_of, power_indexed}
use Rattle.supply.specs.Price.{power_purchase, power_allowed, line_power, power_price}
use Rattle.supply.specs.Price.{price_in_force, moved, price_taken}
use Rattle.supply.specs.Price.{line_purchase, line_reference, indexed_allowed, reference_answer, price_answer}
use Rattle.supply.specs.Price.{answer_at, beyond_at, beyond_in, first_beyond, out_of_bounds_at, bounds_check}
use Rattle.supply.specs.Price.{any_line_moved, price_checks, price_or, reference_price, worked_prices, bounded_prices}
use Rattle.supply.specs.Listed.{price_within, indexed_by, indexed_answer, power_answer, line_words, price_words}
use Rattle.supply.specs.Required.{TermFacts, most_power_in_pesos}
use Rattle.supply.specs.declared.line.Term.{Term}
use Rattle.supply.specs.declared.line.Line.{Line}
use Rattle.supply.specs.declared.market.FixingNumbers.{FixingNumbers}
use Rattle.supply.specs.declared.price.LineWords.{LineWords}

module _ (mean : Term → ℕ) (term : Term) (small : mean term ≤ most_mean) where
  -- a ratio: at most the top value in millionths, since the base value is at least 1
  pub ratio_most : TermFacts term → term_ratio mean term ≤ 99999999000000
  unfolding term_ratio ratio_of
  ratio_most f =
      half_up_le (mean term * 1000000) (term.base_value * 100) (omega (arith, f.base)) 99999999000000
      (omega (arith, f.base))

  -- what a term adds, used or not
  pub weighted_most : (used : Bool) → (used ≡ true → TermFacts term) → weighted_ratio mean term used ≤ 999999990000000000
  unfolding weighted_ratio
  weighted_most true f = mul-le-mul (f refl).weight (ratio_most (f refl))
  weighted_most false f = omega arith

-- a line uses its power term, and every term below its count
pub power_used : (line : Line) → term_used line power_term ≡ true
unfolding term_used
power_used line = or_of (ltb power_term line.term_count) (eqb power_term power_term) (λ e. refl)

pub own_used : (line : Line) (k : ℕ) → ltb k line.term_count ≡ true → term_used line k ≡ true
unfolding term_used
own_used line k h = rw h

-- a price where a test holds: none where it does not
pub none_where : {A : Type 0} (b : Bool) (x : A) → cond b (Some x) None ≡ None → b ≡ false
none_where true x h = absurd (none-some x (sym h))
none_where false x h = refl

-- a price within its bounds
pub within_most : (most price x : ℕ) → price_within most price ≡ Some x → x ≤ most
unfolding price_within
within_most most price x h =
    let p = cond_some (between 1 most price) price x h in
    rw p.1 at (between_high 1 most price p.0)

-- a base price indexed by a factor
module _ (most base factor : ℕ) where
  pub indexed_bounds : indexed_within most base factor ≡ true →
      (1 ≤ indexed_of base factor) × (indexed_of base factor ≤ most)
  unfolding indexed_within
  indexed_bounds h =
      let b = and_right (leb factor most_index_factor) (between 1 most (indexed_of base factor)) h in
      (between_low 1 most (indexed_of base factor) b, between_high 1 most (indexed_of base factor) b)

pub indexed_most : (most base factor x : ℕ) → indexed_by most base factor ≡ Some x → x ≤ most
unfolding indexed_by
indexed_most most base factor x h =
    let p = cond_some (indexed_within most base factor) (indexed_of base factor) x h in
    rw p.1 at (indexed_bounds most base factor p.0).1

module _ (mean : Term → ℕ) (line : Line) where
  abbrev ratio : ℕ
  ratio = term_ratio mean (term_of line power_term)

  -- the power purchase price is worked from the indexed one
  pub power_stopped : indexed_by most_power_price line.power_base_price ratio ≡ None → power_answer mean line ≡ None
  unfolding power_answer power_allowed indexed_by
  power_stopped h = rw (none_where (indexed_within most_power_price line.power_base_price ratio) _ h)

  pub power_worked : (x : ℕ) → indexed_by most_power_price line.power_base_price ratio ≡ Some x →
      price_within most_power_price (line_purchase line x) ≡ power_answer mean line
  unfolding power_answer power_allowed power_purchase power_indexed indexed_by price_within
  power_worked x h =
      let p = cond_some (indexed_within most_power_price line.power_base_price ratio) _ x h in
      rw (p.0, p.1)

  -- in one: where that has none it has none
  pub power_word : option_and_then (λ x. price_within most_power_price (line_purchase line x))
      (indexed_by most_power_price line.power_base_price ratio) ≡ power_answer mean line
  power_word = go (indexed_by most_power_price line.power_base_price ratio) refl
    where
      go : (price : Option ℕ) → indexed_by most_power_price line.power_base_price ratio ≡ price →
          option_and_then (λ x. price_within most_power_price (line_purchase line x)) price ≡ power_answer mean line
      go None h = sym (power_stopped h)
      go (Some x) h = power_worked x h

  -- there is one where it is allowed, and nowhere else
  pub power_tells : is_some (power_answer mean line) ≡ power_allowed mean line
  unfolding power_answer
  power_tells = go (power_allowed mean line)
    where
      go : (b : Bool) → is_some (cond b (Some (power_purchase mean line)) None) ≡ b
      go true = refl
      go false = refl

  power_bound : power_allowed mean line ≡ true → power_purchase mean line ≤ most_power_price
  unfolding power_allowed
  power_bound h =
      between_high 1 most_power_price _
      (and_right (indexed_within most_power_price line.power_base_price ratio) _ h)

  -- a line's words: none where either price is none, else both
  pub words_unindexed : indexed_answer mean line ≡ None → line_words mean line ≡ None
  unfolding line_words indexed_answer indexed_by indexed_allowed
  words_unindexed h = rw (none_where (indexed_within 1000000 line.base_price (index_factor mean line)) _ h)

  pub words_unbought : power_answer mean line ≡ None → line_words mean line ≡ None
  unfolding line_words power_answer
  words_unbought h = rw (none_where (power_allowed mean line) _ h, and-false (indexed_allowed mean line))

  pub words_both : (indexed purchase : ℕ) → indexed_answer mean line ≡ Some indexed →
      power_answer mean line ≡ Some purchase →
      Some (record { indexed = indexed; purchase = purchase }) ≡ line_words mean line
  unfolding line_words indexed_answer indexed_by indexed_allowed line_indexed power_answer
  words_both indexed purchase h g =
      let p = cond_some (indexed_within 1000000 line.base_price (index_factor mean line)) _ indexed h in
      let q = cond_some (power_allowed mean line) _ purchase g in
      rw (p.0, q.0, p.1, q.1)

  allowed_bound : indexed_allowed mean line ≡ true → line_indexed mean line ≤ 1000000
  unfolding indexed_allowed line_indexed
  allowed_bound h = (indexed_bounds 1000000 line.base_price (index_factor mean line) h).1

  -- where it has them, both prices are allowed
  pub record Worded (words : LineWords) : Type 0 where
    pub allowed : indexed_allowed mean line ≡ true
    pub power : power_allowed mean line ≡ true
    pub indexed : words.indexed ≡ line_indexed mean line
    pub indexed_most : words.indexed ≤ 1000000
    pub purchase : words.purchase ≡ power_purchase mean line
    pub purchase_most : words.purchase ≤ most_power_price

  pub worded : (words : LineWords) → line_words mean line ≡ Some words → Worded words
  unfolding line_words
  worded words h =
      let p = cond_some (indexed_allowed mean line && power_allowed mean line) _ words h in
      let allowed = and_left (indexed_allowed mean line) _ p.0 in
      let power = and_right (indexed_allowed mean line) _ p.0 in
      let indexed : words.indexed ≡ line_indexed mean line = ap (λ (w : LineWords). w.indexed) (sym p.1) in
      let purchase : words.purchase ≡ power_purchase mean line = ap (λ (w : LineWords). w.purchase) (sym p.1) in
      record {
        allowed = allowed;
        power = power;
        indexed = indexed;
        indexed_most = rw indexed (allowed_bound allowed);
        purchase = purchase;
        purchase_most = rw purchase (power_bound power);
      }

  module _ (numbers : FixingNumbers) (old : Option ℕ) where
    -- a new indexed price is tested, taken or not
    answer_beyond : indexed_allowed mean line ≡ false → price_answer mean numbers line old ≡ None
    unfolding price_answer
    answer_beyond h = rw h

    -- where it is allowed, the price taken is gone on with
    answer_allowed : indexed_allowed mean line ≡ true →
        price_answer mean numbers line old ≡ reference_answer numbers line (price_taken old (line_indexed mean line))
    unfolding price_answer
    answer_allowed h = rw h

    -- the reference from the indexed price: where there is none, factor or price is out of bounds, and nowhere else
    abbrev pub indexed_reference : Option ℕ → Option PesoPrice
    indexed_reference None = None
    indexed_reference (Some indexed) = reference_answer numbers line (price_taken old indexed)

    pub indexed_reference_lem : indexed_reference (indexed_answer mean line) ≡ price_answer mean numbers line old
    unfolding indexed_answer indexed_by indexed_allowed line_indexed
    indexed_reference_lem = go (indexed_allowed mean line) refl
      where
        go : (b : Bool) → indexed_allowed mean line ≡ b →
            indexed_reference (cond b (Some (line_indexed mean line)) None) ≡ price_answer mean numbers line old
        go true e = sym (answer_allowed e)
        go false e = sym (answer_beyond e)

    -- a line without words is out of bounds, and one with them has the reference of the price that it takes
    pub wordless : (j : ℕ) → line_words mean line ≡ None →
        beyond_at j (price_answer mean numbers line old) (power_allowed mean line) ≡ Some j
    unfolding line_words
    wordless j = go (indexed_allowed mean line) refl (power_allowed mean line) (price_answer mean numbers line old) refl
      where
        go : (b : Bool) → indexed_allowed mean line ≡ b → (p : Bool) (a : Option PesoPrice) →
            price_answer mean numbers line old ≡ a →
            ◌≡◌ {A = Option LineWords} (cond (b && p)
            (Some (record { indexed = line_indexed mean line; purchase = power_purchase mean line })) None) None →
            beyond_at j a p ≡ Some j
        go b e p None f h = refl
        go true e true (Some a) f h = absurd (none-some _ (sym h))
        go true e false (Some a) f h = refl
        go false e p (Some a) f h = absurd (none-some _ (sym (answer_beyond e) ∙ f))

    pub words_answer : (words : LineWords) → line_words mean line ≡ Some words →
        reference_answer numbers line (price_taken old words.indexed) ≡ price_answer mean numbers line old
    words_answer words h =
        let w = worded words h in
        ap (λ x. reference_answer numbers line (price_taken old x)) w.indexed ∙ sym (answer_allowed w.allowed)

-- the words of a line stand at its place
pub words_at : (mean : Term → ℕ) (lines : List ℕ) (words : List (Option LineWords)) (j : ℕ) →
    words ≡ price_words mean lines → j < line_count lines → line_count lines ≤ most_lines →
    get_or words j None ≡ line_words mean (line_of lines j)
unfolding price_words
words_at mean lines words j e p few =
    ap (λ (w : List (Option LineWords)). get_or w j None) e
    ∙ filled_at most_lines None (λ i. line_words mean (line_of lines i)) (line_count lines) j p (omega arith)

-- by whether it moved: the new price, else the one in force
pub taken_new : (old : Option ℕ) (indexed : ℕ) → moved old indexed ≡ true → price_taken old indexed ≡ indexed
unfolding price_taken
taken_new None indexed h = refl
taken_new (Some old) indexed h = rw h

pub taken_old : (in_force : List ℕ) (j indexed : ℕ) → moved (price_in_force in_force j) indexed ≡ false →
    (j < length in_force) × (price_taken (price_in_force in_force j) indexed ≡ get_or in_force j 0)
unfolding moved price_taken price_in_force
taken_old in_force j indexed h = go (dec_lt j (length in_force))
  where
    go : Dec (j < length in_force) →
        (j < length in_force) × (price_taken (price_in_force in_force j) indexed ≡ get_or in_force j 0)
    go (yes p) = let e = lt-ltb j (length in_force) p in (p, rw (e, rw e at h))
    go (no p) = absurd (true≢false (rw (le-ltb j (length in_force) (omega arith)) at h))

-- a line's price in force keeps the bounds of an indexed price
pub in_force_most : (in_force : List ℕ) → ValuesWithin 1000000 in_force → (j : ℕ) →
    IfSome (price_in_force in_force j) (λ price. price ≤ 1000000)
unfolding price_in_force
in_force_most in_force facts j = go (ltb j (length in_force))
  where
    go : (b : Bool) → IfSome (cond b (Some (get_or in_force j 0)) None) (λ price. price ≤ 1000000)
    go true = facts.most j
    go false = tt

-- and so does the price taken
pub taken_most : (old : Option ℕ) (indexed : ℕ) → IfSome old (λ price. price ≤ 1000000) → indexed ≤ 1000000 →
    price_taken old indexed ≤ 1000000
unfolding price_taken
taken_most None indexed f h = h
taken_most (Some old) indexed f h = go (moved (Some old) indexed)
  where
    go : (b : Bool) → cond b indexed old ≤ 1000000
    go true = h
    go false = f

-- a checked price that is given lies in its bounds
checked_bounds : (x : ℕ) (p : PesoPrice) → checked_price x ≡ Some p → (least_price ≤ p.0) × (p.0 ≤ most_price)
unfolding checked_price
checked_bounds x p h = go (between least_price most_price x) refl h
  where
    bounds : x ≡ p.0 → between least_price most_price x ≡ true → (least_price ≤ p.0) × (p.0 ≤ most_price)
    bounds e b =
        (omega (arith, between_low least_price most_price x b), omega (arith, between_high least_price most_price x b))

    word : Some (record { 0 = x }) ≡ Some p → x ≡ p.0
    word q = let r : ◌≡◌ {A = PesoPrice} (record { 0 = x }) p = cc in ap (λ y. y.0) r

    go : (b : Bool) → between least_price most_price x ≡ b → cond b (Some (record { 0 = x })) None ≡ Some p →
        (least_price ≤ p.0) × (p.0 ≤ most_price)
    go true e q = bounds (word q) e
    go false e q = absurd (let z : ◌≡◌ {A = ℕ} 0 1 = cc in omega arith)

-- a reference that is given lies in the bounds of a peso price
reference_bounds : (numbers : FixingNumbers) (line : Line) (taken : ℕ) (p : PesoPrice) →
    reference_answer numbers line taken ≡ Some p →
    (least_price ≤ p.0) × (p.0 ≤ most_price)
unfolding reference_answer
reference_bounds numbers line taken p h = go (between 1 1000000 (line_purchase line taken)) h
  where
    go : (b : Bool) → cond b (checked_price (line_reference numbers line taken)) None ≡ Some p →
        (least_price ≤ p.0) × (p.0 ≤ most_price)
    go true q = checked_bounds (line_reference numbers line taken) p q
    go false q = absurd (let z : ◌≡◌ {A = ℕ} 0 1 = cc in omega arith)

-- so does that of a line, whose indexed price is allowed
answered_price : (mean : Term → ℕ) (numbers : FixingNumbers) (line : Line) (old : Option ℕ) (p : PesoPrice) →
    price_answer mean numbers line old ≡ Some p →
    (indexed_allowed mean line ≡ true) × ((least_price ≤ p.0) × (p.0 ≤ most_price))
answered_price mean numbers line old p h = go (indexed_allowed mean line) refl
  where
    go : (b : Bool) → indexed_allowed mean line ≡ b →
        (indexed_allowed mean line ≡ true) × ((least_price ≤ p.0) × (p.0 ≤ most_price))
    go true e = (
      e,
      reference_bounds numbers line (price_taken old (line_indexed mean line)) p
          (sym (answer_allowed mean line numbers old e) ∙ h),
    )
    go false e =
        let q : None ≡ Some p = sym (answer_beyond mean line numbers old e) ∙ h in
        absurd (let z : ◌≡◌ {A = ℕ} 0 1 = cc in omega arith)

module _ (mean : Term → ℕ) (numbers : FixingNumbers) (lines in_force : List ℕ) where
  -- where the search for a line out of bounds finds none, every line's indexed price and power price are allowed, and
  -- it has a reference within the bounds
  module _ (h : first_beyond mean numbers lines in_force ≡ None) (j : ℕ) (q : j < line_count lines) where
    searched : (indexed_allowed mean (line_of lines j) ≡ true)
        × ((least_price ≤ (reference_price mean numbers lines in_force j).0)
        × ((reference_price mean numbers lines in_force j).0 ≤ most_price))
        × (power_allowed mean (line_of lines j) ≡ true)
    unfolding first_beyond beyond_in reference_price answer_at
    searched =
        go (answer_at mean numbers lines in_force j) (power_allowed mean (line_of lines j)) refl refl
        (first_none (beyond_in mean numbers lines in_force) (line_count lines) h j q)
      where
        go : (a : Option PesoPrice) (b : Bool) → answer_at mean numbers lines in_force j ≡ a →
            power_allowed mean (line_of lines j) ≡ b → beyond_at j a b ≡ None →
            (indexed_allowed mean (line_of lines j) ≡ true)
            × ((least_price ≤ (price_or a).0) × ((price_or a).0 ≤ most_price))
            × (power_allowed mean (line_of lines j) ≡ true)
        go (Some p) true e f n =
            let energy = answered_price mean numbers (line_of lines j) (price_in_force in_force j) p e in
            (energy.0, energy.1, f)
        go (Some p) false e f n = absurd (let z : ◌≡◌ {A = ℕ} 0 1 = cc in omega arith)
        go None b e f n = absurd (let z : ◌≡◌ {A = ℕ} 0 1 = cc in omega arith)

    pub search_within : (least_price ≤ (reference_price mean numbers lines in_force j).0)
        × ((reference_price mean numbers lines in_force j).0 ≤ most_price)
    search_within = searched.1

    -- and its power price is at most so much at every dollar
    pub power_within : numbers.dollar ≤ 200000 → (power_price mean numbers lines j).0 ≤ most_power_in_pesos
    unfolding power_price line_power power_peso_of
    power_within most =
        half_up_le (power_purchase mean (line_of lines j) * numbers.dollar) 100 (omega arith) most_power_in_pesos
        (mul-le-mul {n₂ = most_power_price} (power_bound mean (line_of lines j) searched.2) most)

  -- the verdict: a line out of bounds is 11, whether any moved or not; then 14 where none did
  pub prices_beyond : (j : ℕ) → first_beyond mean numbers lines in_force ≡ Some j →
      verdict_of (price_checks mean numbers lines in_force) ≡ Err (OutOfBounds j)
  unfolding price_checks bounds_check verdict_of
  prices_beyond j h = rw h

  -- and what is answered: by it the refusal, else the prices
  pub bounded_beyond : (j : ℕ) → j < line_count lines → first_below j (beyond_in mean numbers lines in_force) ≡ None →
      beyond_in mean numbers lines in_force j ≡ Some j →
      Err (OutOfBounds j) ≡ bounded_prices mean numbers lines in_force
  unfolding bounded_prices first_beyond
  bounded_beyond j p h e =
      rw (prices_beyond j (first_is (beyond_in mean numbers lines in_force) j (line_count lines) j p h e)) refl

  module _ (h : first_beyond mean numbers lines in_force ≡ None) where
    pub prices_unmoved : any_line_moved mean lines in_force ≡ false →
        verdict_of (price_checks mean numbers lines in_force) ≡ Err NoLineMoved
    unfolding price_checks bounds_check verdict_of
    prices_unmoved e = rw (h, e)

    pub bounded_unmoved : any_line_moved mean lines in_force ≡ false →
        Err NoLineMoved ≡ bounded_prices mean numbers lines in_force
    unfolding bounded_prices
    bounded_unmoved e = rw (prices_unmoved e) refl

    pub bounded_passed : any_line_moved mean lines in_force ≡ true →
        Ok (worked_prices mean numbers lines in_force) ≡ bounded_prices mean numbers lines in_force
    unfolding bounded_prices price_checks bounds_check verdict_of
    bounded_passed e = rw (h, e) refl

  -- cause 11 has its number and its line, and 14 its number
  pub prices_told : AllTold (price_checks mean numbers lines in_force)
  unfolding price_checks bounds_check AllTold
  prices_told = (
    go (first_beyond mean numbers lines in_force),
    (check_told 14 (any_line_moved mean lines in_force) NoLineMoved refl, tt),
  )
    where
      go : (o : Option ℕ) → Told (record { number = 11; met = out_of_bounds_at o })
      go None = none_told 11
      go (Some line) = met_told 11 _ refl

  -- where cause 11 is not met, the search finds nothing
  pub bounds_passed : (bounds_check mean numbers lines in_force).met ≡ None → first_beyond mean numbers lines in_force ≡ None
  unfolding bounds_check
  bounds_passed = go (first_beyond mean numbers lines in_force)
    where
      go : (o : Option ℕ) → out_of_bounds_at o ≡ None → o ≡ None
      go None h = refl
      go (Some line) h = absurd (let z : ◌≡◌ {A = ℕ} 0 1 = cc in omega arith)

  -- what a line's words and its answer say to the search, and as a reference
  module _ (j : ℕ) where
    pub line_wordless : line_words mean (line_of lines j) ≡ None → beyond_in mean numbers lines in_force j ≡ Some j
    unfolding beyond_in answer_at
    line_wordless = wordless mean (line_of lines j) numbers (price_in_force in_force j) j

    pub line_answer : (words : LineWords) → line_words mean (line_of lines j) ≡ Some words →
        reference_answer numbers (line_of lines j) (price_taken (price_in_force in_force j) words.indexed)
        ≡ answer_at mean numbers lines in_force j
    unfolding answer_at
    line_answer = words_answer mean (line_of lines j) numbers (price_in_force in_force j)

    pub line_within : (p : PesoPrice) → answer_at mean numbers lines in_force j ≡ Some p →
        power_allowed mean (line_of lines j) ≡ true →
        beyond_in mean numbers lines in_force j ≡ None
    unfolding beyond_in
    line_within p h g = rw (h, g)

    pub line_beyond : answer_at mean numbers lines in_force j ≡ None →
        beyond_in mean numbers lines in_force j ≡ Some j
    unfolding beyond_in
    line_beyond h = rw h

    pub line_price : (p : PesoPrice) → answer_at mean numbers lines in_force j ≡ Some p →
        p ≡ reference_price mean numbers lines in_force j
    unfolding reference_price
    line_price p h = rw h

-- the same means of the terms that a line uses give the same prices
module _ (one other : Term → ℕ) (line : Line)
    (same : (k : ℕ) → k < term_places → term_used line k ≡ true → one (term_of line k) ≡ other (term_of line k)) where
  factor_same : index_factor one line ≡ index_factor other line
  unfolding index_factor weighted_ratio term_ratio
  factor_same =
      ap (λ s. cond (eqb line.term_count 0) 1000000 (half_up s 10000))
      (sum_same most_terms (λ k. weighted_ratio one (term_of line k) (ltb k line.term_count))
      (λ k. weighted_ratio other (term_of line k) (ltb k line.term_count))
      (λ k p. go k p (ltb k line.term_count) refl))
    where
      go : (k : ℕ) → k < most_terms → (used : Bool) → ltb k line.term_count ≡ used →
          weighted_ratio one (term_of line k) used ≡ weighted_ratio other (term_of line k) used
      go k p true e =
          ap (λ m. (term_of line k).weight * ratio_of m (term_of line k).base_value)
          (same k (omega arith) (own_used line k e))
      go k p false e = refl

  pub indexed_same : line_indexed one line ≡ line_indexed other line
  unfolding line_indexed
  indexed_same = ap (indexed_of line.base_price) factor_same

  pub price_same : (numbers : FixingNumbers) (old : Option ℕ) →
      price_answer one numbers line old ≡ price_answer other numbers line old
  unfolding price_answer indexed_allowed line_indexed
  price_same numbers old =
      ap (λ f. cond (indexed_within 1000000 line.base_price f)
      (reference_answer numbers line (price_taken old (indexed_of line.base_price f))) None)
      factor_same

  ratio_same : term_ratio one (term_of line power_term) ≡ term_ratio other (term_of line power_term)
  unfolding term_ratio
  ratio_same =
      ap (λ m. ratio_of m (term_of line power_term).base_value) (same power_term (omega arith) (power_used line))

  pub power_same : power_purchase one line ≡ power_purchase other line
  unfolding power_purchase power_indexed
  power_same = ap (λ r. line_purchase line (indexed_of line.power_base_price r)) ratio_same

  pub allowed_same : power_allowed one line ≡ power_allowed other line
  unfolding power_allowed
  allowed_same =
      ap₂ (λ r p. indexed_within most_power_price line.power_base_price r && between 1 most_power_price p) ratio_same
      power_same

-- a line's price in force: none past the list's end, else the word at its place
module _ (in_force : List ℕ) (j : ℕ) where
  pub none_in_force : length in_force ≤ j → price_in_force in_force j ≡ None
  unfolding price_in_force
  none_in_force p = rw (le-ltb j (length in_force) p)

  pub some_in_force : j < length in_force → price_in_force in_force j ≡ Some (get_or in_force j 0)
  unfolding price_in_force
  some_in_force p = rw (lt-ltb j (length in_force) p)
