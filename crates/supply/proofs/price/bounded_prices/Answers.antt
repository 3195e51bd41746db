-- The invariant: no line passed is out of bounds, the prices of the lines passed are filled in, and whether one moved.
use mathlib.Core.Path.{◌≡◌, refl, sym, ◌∙◌, ap, ap₂}
use mathlib.Core.Bool.{◌||◌}
use Rattle.std.specs.Prelude.{Option, Some, None, Result, Ok, Err}
use Rattle.std.specs.Option.{ok_or}
use Rattle.std.proofs.lemmas.Result.{err_from_is_err_and}
use Prim.Native.Nat.{ℕ, ◌*◌, ◌<◌, ◌≤◌}
use native.Mathlib.Omega.{arith}
use native.Mathlib.Nat.{mul-le-mul}
use Rattle.numbers.specs.Bounded.{any_below, first_below}
use Rattle.numbers.specs.Rounding.{half_up}
use Rattle.numbers.specs.Units.{no_price, no_power}
use Rattle.numbers.specs.declared.refusal.Refusal.{Refusal}
use Rattle.numbers.specs.declared.refusal.Refusal.TheVariants.{OutOfBounds}
use Rattle.numbers.specs.declared.units.PowerPrice.{PowerPrice}
use Rattle.numbers.proofs.FirstLaws.{first_step}
use Rattle.numbers.proofs.ListLaws.{filled_none, filled_next}
use Rattle.numbers.proofs.TestLaws.{any_step}
use Rattle.supply.specs.Line.{most_lines, most_power_price, line_count, line_of}
use Rattle.supply.specs.Listed.{listed_mean, line_words}
use Rattle.supply.specs.Price.{price_in_force, moved, price_taken, reference_answer, answer_at, beyond_in, first_beyond}
use Rattle.supply.specs.Price.{any_moved, any_line_moved, line_power, power_peso_of, reference_price}
use Rattle.supply.specs.Price.{power_price, reference_list, power_list, worked_prices}
use Rattle.supply.specs.declared.line.Term.{Term}
use Rattle.supply.specs.declared.price.LinePrices.{LinePrices}
use Rattle.supply.proofs.PriceLaws.{Worded, worded, words_at, line_wordless, line_answer, line_within, line_beyond}
use Rattle.supply.proofs.PriceLaws.{line_price, in_force_most, taken_most}
use Rattle.supply.proofs.PriceLaws.{bounded_beyond, bounded_unmoved, bounded_passed}
use Rattle.supply.proofs.price.bounded_prices.Goals as goal
use Rattle.supply.proofs.price.bounded_prices.Goals.{After-loop-j, After-reference_price, In_ok-line}

-- what `ok_or` says by its answer
module _ {A E : Type 0} where
  given : (o : Option A) (error : E) (x : A) → ok_or o error ≡ Ok x → o ≡ Some x
  given None error x h = absurd (let z : ◌≡◌ {A = ℕ} 0 1 = cc in omega arith)
  given (Some y) error x h = cc

  lacking : (o : Option A) (error given : E) → ok_or o error ≡ Err given → (o ≡ None) × (given ≡ error)
  lacking None error given h = (refl, cc)
  lacking (Some y) error given h = absurd (let z : ◌≡◌ {A = ℕ} 0 1 = cc in omega arith)

-- the line at hand, where it has words
module _ (c : In_ok-line) where
  abbrev mean : Term → ℕ
  mean = listed_mean c.args.means.now.values

  below : c.loop-j.j < line_count c.args.lines.now
  below = omega (arith, c.line_count-j-end.ensures)

  inside : c.loop-j.j < most_lines
  inside = omega (arith, below, c.requires.lines_checked.few)

  has : line_words mean (line_of c.args.lines.now c.loop-j.j) ≡ Some c.in_ok-line.line
  has =
      sym (words_at mean c.args.lines.now _ c.loop-j.j c.price_words-words.ensures below c.requires.lines_checked.few)
      ∙ given _ (OutOfBounds c.loop-j.j) c.in_ok-line.line (sym c.ok_or.ensures.value ∙ c.in_ok-line.was)

  says : Worded mean (line_of c.args.lines.now c.loop-j.j) c.in_ok-line.line
  says = worded mean (line_of c.args.lines.now c.loop-j.j) c.in_ok-line.line has

  turned : c.in_ok-line.line.purchase * c.args.numbers.dollar ≤ 20000000000000
  turned = mul-le-mul {n₂ = most_power_price} says.purchase_most c.requires.numbers_checked.dollar_most

-- its reference
answered : (c : After-reference_price) →
    line_words (listed_mean c.args.means.now.values) (line_of c.args.lines.now c.loop-j.j) ≡ Some c.in_ok-line.line →
    c.reference_price.result ≡ answer_at (listed_mean c.args.means.now.values) c.args.numbers c.args.lines.now
    c.args.in_force.now c.loop-j.j
answered c has =
    c.reference_price.ensures
    ∙ ap₂ (reference_answer c.args.numbers) c.checked_line.ensures
    (c.price_taken-taken.ensures ∙ ap (λ old. price_taken old c.in_ok-line.line.indexed) c.price_in_force-old.ensures)
    ∙ line_answer (listed_mean c.args.means.now.values) c.args.numbers c.args.lines.now c.args.in_force.now c.loop-j.j
    c.in_ok-line.line has

pub loop-j-init : goal.loop-j-init
unfolding first_below any_below
loop-j-init c =
    record {
      passed = refl;
      references = filled_none most_lines no_price _;
      power = filled_none most_lines no_power _;
      moved = refl;
    }

pub price_taken-taken-requires-clause-old_within : goal.price_taken-taken-requires-clause-old_within
price_taken-taken-requires-clause-old_within c =
    rw c.price_in_force-old.ensures (in_force_most c.args.in_force.now c.requires.in_force_within c.loop-j.j)

pub price_taken-taken-requires-clause-indexed_within : goal.price_taken-taken-requires-clause-indexed_within
price_taken-taken-requires-clause-indexed_within c =
    (says (goal.at.price_taken-taken-requires-clause-indexed_within c).In_ok-line).indexed_most

pub reference_price-requires-clause-taken_within : goal.reference_price-requires-clause-taken_within
reference_price-requires-clause-taken_within c =
    let ok = (goal.at.reference_price-requires-clause-taken_within c).In_ok-line in
    let old = in_force_most c.args.in_force.now c.requires.in_force_within c.loop-j.j in
    rw (c.price_taken-taken.ensures, c.price_in_force-old.ensures)
    (taken_most (price_in_force c.args.in_force.now c.loop-j.j) c.in_ok-line.line.indexed old (says ok).indexed_most)

pub has_moved-moved-requires-clause-old_within : goal.has_moved-moved-requires-clause-old_within
has_moved-moved-requires-clause-old_within c =
    rw c.price_in_force-old.ensures (in_force_most c.args.in_force.now c.requires.in_force_within c.loop-j.j)

pub has_moved-moved-requires-clause-indexed_within : goal.has_moved-moved-requires-clause-indexed_within
has_moved-moved-requires-clause-indexed_within c =
    (says (goal.at.has_moved-moved-requires-clause-indexed_within c).In_ok-line).indexed_most

pub overflow_mul-line : goal.overflow_mul-line
overflow_mul-line c = omega (arith, turned (goal.at.overflow_mul-line c).In_ok-line)

pub half_up-requires-clause-fact_2 : goal.half_up-requires-clause-fact_2
half_up-requires-clause-fact_2 c = omega (arith, turned (goal.at.half_up-requires-clause-fact_2 c).In_ok-line)

pub returns-in_err-line : goal.returns-in_err-line
returns-in_err-line c =
    let a = c.args in
    let mean = listed_mean a.means.now.values in
    let j = c.loop-j.j in
    let below : j < line_count a.lines.now = omega (arith, c.line_count-j-end.ensures) in
    let p = err_from_is_err_and c.from_residual.result c.from_residual.ensures.1 in
    let told = lacking _ (OutOfBounds j) c.in_err-line.field-0.0 (sym c.ok_or.ensures.value ∙ c.in_err-line.was) in
    rw (p.1, p.2, told.1)
    (bounded_beyond mean a.numbers a.lines.now a.in_force.now j below c.loop-j.invariant.passed
    (line_wordless mean a.numbers a.lines.now a.in_force.now j
    (sym (words_at mean a.lines.now _ j c.price_words-words.ensures below c.requires.lines_checked.few) ∙ told.0)))

pub returns-in_err-reference : goal.returns-in_err-reference
returns-in_err-reference c =
    let a = c.args in
    let mean = listed_mean a.means.now.values in
    let j = c.loop-j.j in
    let ok = (goal.at.returns-in_err-reference c).In_ok-line in
    let p = err_from_is_err_and c.from_residual-in_err-reference.result c.from_residual-in_err-reference.ensures.1 in
    let told =
    lacking _ (OutOfBounds j) c.in_err-reference.field-0.0
    (sym c.ok_or-in-loop-j.ensures.value ∙ c.in_err-reference.was) in
    rw (p.1, p.2, told.1)
    (bounded_beyond mean a.numbers a.lines.now a.in_force.now j (below ok) c.loop-j.invariant.passed
    (line_beyond mean a.numbers a.lines.now a.in_force.now j
    (sym (answered (goal.at.returns-in_err-reference c).After-reference_price (has ok)) ∙ told.0)))

pub loop-j-preserved : goal.loop-j-preserved
unfolding line_power power_price power_peso_of
loop-j-preserved c =
    let a = c.args in
    let mean = listed_mean a.means.now.values in
    let j = c.loop-j.j in
    let ok = (goal.at.loop-j-preserved c).In_ok-line in
    let told =
    given _ (OutOfBounds j) c.in_ok-reference.reference
    (sym c.ok_or-in-loop-j.ensures.value ∙ c.in_ok-reference.was) in
    let answer = sym (answered (goal.at.loop-j-preserved c).After-reference_price (has ok)) ∙ told in
    record {
      passed = first_step (beyond_in mean a.numbers a.lines.now a.in_force.now) j c.loop-j.invariant.passed
          ∙ line_within mean a.numbers a.lines.now a.in_force.now j _ answer (says ok).power;
      references = filled_next most_lines no_price j (reference_price mean a.numbers a.lines.now a.in_force.now) _ _
          (inside ok) c.loop-j.invariant.references (line_price mean a.numbers a.lines.now a.in_force.now j _ answer);
      power = filled_next most_lines no_power j (power_price mean a.numbers a.lines.now) _ _
          (inside ok) c.loop-j.invariant.power
          (ap {B = PowerPrice} (λ x. record { 0 = x })
          (c.half_up.ensures ∙ ap (λ x. half_up (x * a.numbers.dollar) 100) (says ok).purchase));
      moved = ap₂ ◌||◌ c.loop-j.invariant.moved
          (c.has_moved-moved.ensures ∙ ap₂ moved c.price_in_force-old.ensures (says ok).indexed)
          ∙ sym (any_step j _);
    }

-- past the last line
module _ (c : After-loop-j) where
  last : c.loop-j.j ≡ line_count c.args.lines.now
  last = omega (arith, c.line_count-j-end.ensures)

  none_beyond : first_beyond (listed_mean c.args.means.now.values) c.args.numbers c.args.lines.now
      c.args.in_force.now ≡ None
  unfolding first_beyond
  none_beyond = rw (← last) c.loop-j.invariant.passed

  some_moved : c.loop-j.moved ≡ any_line_moved (listed_mean c.args.means.now.values) c.args.lines.now
      c.args.in_force.now
  unfolding any_line_moved any_moved
  some_moved = rw (← last) c.loop-j.invariant.moved

  worked : ◌≡◌ {A = Result LinePrices Refusal}
      (Ok (record { references = c.loop-j.references; power = c.loop-j.power }))
      (Ok (worked_prices (listed_mean c.args.means.now.values) c.args.numbers c.args.lines.now c.args.in_force.now))
  unfolding worked_prices reference_list power_list
  worked = rw (← last, c.loop-j.invariant.references, c.loop-j.invariant.power) refl

pub returns-then-not-moved : goal.returns-then-not-moved
returns-then-not-moved c =
    let past = (goal.at.returns-then-not-moved c).After-loop-j in
    bounded_unmoved _ _ _ _ (none_beyond past) (sym (some_moved past) ∙ c.if-not-moved.true)

pub returns : goal.returns
returns c =
    let past = (goal.at.returns c).After-loop-j in
    worked past ∙ bounded_passed _ _ _ _ (none_beyond past) (sym (some_moved past) ∙ c.if-not-moved.false)
