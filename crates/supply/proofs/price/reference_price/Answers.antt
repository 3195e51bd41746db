-- Purchase, peso, reference: each product stays below 10^11, and each price is the definition's.
use mathlib.Core.Path.{◌≡◌, sym, ◌∙◌, ap}
use mathlib.Core.Bool.{true}
use Prim.Native.Nat.{ℕ, ◌*◌, ◌≤◌}
use native.Mathlib.Nat.{mul-le-mul}
use native.Mathlib.Omega.{arith}
use Rattle.numbers.specs.Rounding.{half_up}
use Rattle.numbers.specs.Units.{between, checked_price}
use Rattle.numbers.proofs.RoundingLaws.{half_up_le}
use Rattle.supply.specs.Price.{peso_of, reference_of, line_purchase, line_reference, reference_answer}
use Rattle.supply.proofs.PriceLaws.{within_most, none_where}
use Rattle.supply.specs.Listed.{price_within}
use Rattle.std.specs.Prelude.{Some}
use Rattle.std.proofs.lemmas.Option.{cond_some}
use Rattle.supply.proofs.price.reference_price.Goals as goal
use Rattle.supply.proofs.price.reference_price.Goals.{After-peso_price-peso, In_ok-purchase}

-- the purchase price is in its bounds
module _ (c : In_ok-purchase) where
  abbrev price : ℕ
  price = line_purchase c.args.checked.line c.args.taken

  given : price_within 1000000 price ≡ Some c.in_ok-purchase.purchase
  given = sym c.purchase_price.ensures ∙ c.in_ok-purchase.was

  within : between 1 1000000 price ≡ true
  unfolding price_within
  within = (cond_some (between 1 1000000 price) price _ given).0

  bought : c.in_ok-purchase.purchase ≡ price
  unfolding price_within
  bought = sym (cond_some (between 1 1000000 price) price _ given).1

  bought_most : c.in_ok-purchase.purchase ≤ 1000000
  bought_most = within_most 1000000 price _ given

-- the peso price is at most 2 * 10^6, and its product with the reference factor at most 4 * 10^10
module _ (c : After-peso_price-peso) where
  peso : c.peso_price-peso.result.0 ≡ peso_of c.in_ok-purchase.purchase c.args.numbers.dollar
  peso = ap (λ p. p.0) c.peso_price-peso.ensures

  peso_most : peso_of c.in_ok-purchase.purchase c.args.numbers.dollar ≤ 2000000
  unfolding peso_of
  peso_most =
      half_up_le (c.in_ok-purchase.purchase * c.args.numbers.dollar) 100000 (omega arith) 2000000
      (mul-le-mul {n₂ = 1000000} (bought_most c.before) c.requires.numbers_checked.dollar_most)

  turned_most : c.peso_price-peso.result.0 * c.args.numbers.reference_factor ≤ 40000000000
  turned_most = mul-le-mul {n₂ = 2000000} (omega (arith, peso, peso_most)) c.requires.numbers_checked.factor_most

  referred : half_up (c.peso_price-peso.result.0 * c.args.numbers.reference_factor)
      c.args.checked.line.purchase_factor ≡ line_reference c.args.numbers c.args.checked.line c.args.taken
  unfolding line_reference reference_of
  referred =
      ap (λ p. half_up (p * c.args.numbers.reference_factor) c.args.checked.line.purchase_factor)
      (peso ∙ ap (λ x. peso_of x c.args.numbers.dollar) (bought c.before))

pub returns-in_err-purchase : goal.returns-in_err-purchase
unfolding reference_answer price_within
returns-in_err-purchase c =
    rw (none_where _ _ (sym c.purchase_price.ensures ∙ c.in_err-purchase.was)) c.from_residual.ensures

pub peso_price-peso-requires-clause-purchase_within : goal.peso_price-peso-requires-clause-purchase_within
peso_price-peso-requires-clause-purchase_within c = bought_most c

pub half_up-reference-requires : goal.half_up-reference-requires
half_up-reference-requires c =
    omega (
      arith,
      turned_most (goal.at.half_up-reference-requires c).After-peso_price-peso,
      c.args.checked.facts.purchase,
      c.args.checked.facts.purchase_most,
    )

pub returns : goal.returns
unfolding reference_answer
returns c =
    rw (within (goal.at.returns c).In_ok-purchase)
    (c.checked.ensures.answered
    ∙ ap checked_price (c.half_up-reference.ensures ∙ referred (goal.at.returns c).After-peso_price-peso))

pub overflow_mul-peso : goal.overflow_mul-peso
overflow_mul-peso c = omega (arith, turned_most (goal.at.overflow_mul-peso c).After-peso_price-peso)
