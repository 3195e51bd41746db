-- The machine's products and their sum fit, so they are those of the definition.
use mathlib.Core.Path.{◌≡◌, ◌∙◌, ap, ap₂}
use mathlib.Core.List.{[]}
use Prim.Native.Nat.{ℕ, ◌*◌, ◌^◌, ◌≤◌, ◌<◌}
use native.Mathlib.Omega.{arith}
use native.Mathlib.Nat.{mul-le-mul}
use lib.IntN.{ℤ, pos, sub_ℕ, nat_abs, ◌+ℤ◌, ◌*ℤ◌}
use mir.Syntax.{w64}
use mir.Val.{SFits, to_z, of_z}
use mir.Facts.{to_z-of_z}
use borrow.Author.Rules.{sfits_of}
use Rattle.numbers.specs.Rounding.{half_away}
use Rattle.numbers.proofs.SignedLaws.{pos_sub_zero, is_fits, sum_bits, product_bits}
use Rattle.settlement.specs.Amount.{reading_of, high_loss_of, low_loss_of, high_net, low_net, energy_with_losses}
use Rattle.settlement.specs.Required.{BillingFacts}
use Rattle.settlement.proofs.AmountLaws.{high_product, low_product, products_size}
use Rattle.settlement.proofs.amount.Billing.energy_with_losses.Goals as goal
use Rattle.settlement.proofs.amount.Billing.energy_with_losses.Goals.{After-difference, After-difference-2}
use Rattle.settlement.proofs.amount.Billing.energy_with_losses.Goals.{After-low_loss-low_loss, Start}

-- a value as it is read back from its bits
abbrev back : ℤ → ℤ
back z = to_z w64 (of_z w64 z)

facts : (s : Start) → BillingFacts s.args.self.now.readings.now s.args.self.now.losses.now s.args.i
facts s = s.requires.allowed.facts s.args.i s.requires.known

-- a reading fits
small : (s : Start) (k reading : ℕ) → k < 4 →
    reading ≡ reading_of s.args.self.now.readings.now s.args.i s.args.s k → reading < 2 ^ 63
small s k reading p e = omega (arith, (facts s).reading s.args.s k s.requires.sector p)

-- the loss factors
module _ (c : After-low_loss-low_loss) where
  abbrev start : Start
  start = (goal.at.overflow_mul-high_loss c).Start

  high_loss : c.high_loss-high_loss.result ≡ high_loss_of c.args.self.now.losses.now c.args.i
  high_loss = c.high_loss-high_loss.ensures

  low_loss : c.low_loss-low_loss.result ≡ low_loss_of c.args.self.now.losses.now c.args.i
  low_loss = c.low_loss-low_loss.ensures

  most : (c.high_loss-high_loss.result ≤ 20000) × (c.low_loss-low_loss.result ≤ 20000)
  most = omega (arith, high_loss, low_loss, (facts start).high_most, (facts start).low_most)

  both : c.high_loss-high_loss.result * c.low_loss-low_loss.result ≤ 20000 * 20000
  both = mul-le-mul most.0 most.1

-- the net at high voltage, carried up: in the code, and in the definition
module _ (c : After-difference) where
  abbrev d : Start
  d = (goal.at.overflow_mul-carried c).Start

  abbrev l : After-low_loss-low_loss
  l = (goal.at.overflow_mul-carried c).After-low_loss-low_loss

  abbrev high_code : ℤ
  high_code = back c.difference-high.result *ℤ back c.difference.result

  abbrev high_part : ℤ
  high_part =
      high_net c.args.self.now.readings.now c.args.i c.args.s *ℤ pos
      (high_loss_of c.args.self.now.losses.now c.args.i * 10000)

  high : high_code ≡ high_part
  unfolding high_net
  high =
      product_bits _ _ _ _ (sfits_of c.difference-high.type_inv) (sfits_of c.difference.type_inv)
      (c.difference-high.ensures ∙ ap₂ sub_ℕ c.reading.ensures c.reading-2.ensures)
      (c.difference.ensures ∙ pos_sub_zero _ ∙ ap (λ x. pos (x * 10000)) (high_loss l))

  high_fits : SFits w64 high_code
  high_fits =
      is_fits high_code high_part high (omega (arith, high_product [] _ _ _ (facts d) c.args.s c.requires.sector))

-- the net at low voltage, carried up, and the two added up
module _ (c : After-difference-2) where
  abbrev b : Start
  b = (goal.at.overflow_mul-carried-2 c).Start

  abbrev m : After-low_loss-low_loss
  m = (goal.at.overflow_mul-carried-2 c).After-low_loss-low_loss

  abbrev h : After-difference
  h = (goal.at.overflow_mul-carried-2 c).After-difference

  abbrev low_code : ℤ
  low_code = back c.difference-low.result *ℤ back c.difference-2.result

  abbrev low_part : ℤ
  low_part =
      low_net c.args.self.now.readings.now c.args.i c.args.s *ℤ pos
      (high_loss_of c.args.self.now.losses.now c.args.i * low_loss_of c.args.self.now.losses.now c.args.i)

  low : low_code ≡ low_part
  unfolding low_net
  low =
      product_bits _ _ _ _ (sfits_of c.difference-low.type_inv) (sfits_of c.difference-2.type_inv)
      (c.difference-low.ensures ∙ ap₂ sub_ℕ c.reading-3.ensures c.reading-4.ensures)
      (c.difference-2.ensures ∙ pos_sub_zero _ ∙ ap₂ (λ x y. pos (x * y)) (high_loss m) (low_loss m))

  low_fits : SFits w64 low_code
  low_fits =
      is_fits low_code low_part low (omega (arith, low_product [] _ _ _ (facts b) c.args.s c.requires.sector))

  abbrev sum_code : ℤ
  sum_code = back (high_code h) +ℤ back low_code

  sum : sum_code ≡ high_part h +ℤ low_part
  sum = sum_bits (high_code h) low_code _ _ (high_fits h) low_fits (high h) low

  size : nat_abs (high_part h +ℤ low_part) ≤ 1200000000000000000
  size = products_size [] _ _ _ (facts b) c.args.s c.requires.sector

  fits : SFits w64 sum_code
  fits = is_fits sum_code (high_part h +ℤ low_part) sum (omega (arith, size))

  carried : back sum_code ≡ high_part h +ℤ low_part
  carried = to_z-of_z fits ∙ sum

pub difference-high-requires : goal.difference-high-requires
difference-high-requires c =
    let s = (goal.at.difference-high-requires c).Start in
    record {
      fact_1 = small s 0 _ (omega arith) c.reading.ensures;
      fact_2 = small s 1 _ (omega arith) c.reading-2.ensures;
    }

pub difference-low-requires : goal.difference-low-requires
difference-low-requires c =
    let s = (goal.at.difference-low-requires c).Start in
    record {
      fact_1 = small s 2 _ (omega arith) c.reading-3.ensures;
      fact_2 = small s 3 _ (omega arith) c.reading-4.ensures;
    }

pub overflow_mul-high_loss : goal.overflow_mul-high_loss
overflow_mul-high_loss c = omega (arith, most c)

pub overflow_mul-carried : goal.overflow_mul-carried
overflow_mul-carried c = high_fits c

pub overflow_mul-carried-2 : goal.overflow_mul-carried-2
overflow_mul-carried-2 c = low_fits c

pub overflow_add-carried : goal.overflow_add-carried
overflow_add-carried c = fits c

pub half_away-requires : goal.half_away-requires
half_away-requires c = omega (arith, ap nat_abs (carried c), size c)

pub returns : goal.returns
unfolding energy_with_losses
returns c =
    let d = (goal.at.returns c).After-difference-2 in
    to_z-of_z {w = w64} (sfits_of c.half_away.type_inv) ∙ c.half_away.ensures
    ∙ ap (λ z. half_away z 100000000) (carried d)
