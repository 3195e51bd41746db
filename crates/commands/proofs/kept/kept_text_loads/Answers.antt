-- A ledger of the machine has numbers that fit, and lists of their lengths.
use mathlib.Core.Path.{◌≡◌}
use mathlib.Core.List.{List, [], ◌∷◌}
use Prim.Native.Nat.{ℕ, zero, suc, ◌<◌}
use native.Mathlib.Omega.{arith}
use lib.IntN.{ℤ, pos}
use lib.ListN.{length, get_or}
use mir.Syntax.{w64}
use mir.Val.{Fits, SFits, Val}
use Rattle.numbers.specs.Sizes.{most_distributors, sector_places}
use Rattle.numbers.specs.Units.{no_money}
use Rattle.numbers.specs.contracts.units.Pesos as amount
use Rattle.settlement.specs.Month.{money_at}
use Rattle.ledger.specs.Ledger.{charge_in, count_at}
use Rattle.store.proofs.StoreLaws.{mapped}
use denote.Array.{each}
use denote.Shadow.{shadow}
use denote.Signed.{SInt}
use Rattle.commands.proofs.SavedLaws.{saved_text_loads}
use base.Fml.{Fml}
use borrow.Author.Rules.{rules}
use Rattle.commands.proofs.kept.kept_text_loads.Goals as goal
use Rattle.commands.proofs.kept.kept_text_loads.Goals.{Start}

-- an element of an array of which each tells that its amount fits
element_fits : {A : Type 0} (amount : A → ℤ) (empty : A) (f : A → List Val → Fml) (xs : List A) (us : List Val) →
    shadow (each A f xs us) → ((x : A) (vs : List Val) → shadow (f x vs) → SFits w64 (amount x)) → (i : ℕ) →
    i < length xs → SFits w64 (amount (get_or xs i empty))
element_fits amount empty f [] us s tells i p = absurd (omega arith)
element_fits amount empty f (x ∷ xs) [] s tells i p = absurd s
element_fits amount empty f (x ∷ xs) (u ∷ us) s tells zero p = tells x (u ∷ []) s.0
element_fits amount empty f (x ∷ xs) (u ∷ us) s tells (suc i) p =
    element_fits amount empty f xs us s.1 tells i (omega arith)

signed_fits : (xs : List ℤ) (us : List Val) → shadow (each ℤ (SInt w64).own_val xs us) → (i : ℕ) →
    i < length xs → SFits w64 (get_or xs i (pos 0))
signed_fits xs us s i p =
    element_fits (λ v. v) (pos 0) (SInt w64).own_val xs us s (λ x vs t. record { sfits = t.1 }) i p

module _ (c : Start) where
  all_balances : length c.args.ledger.balances ≡ most_distributors
  all_balances = search (rules, mapped)

  force_charged : length c.args.ledger.force.charges ≡ sector_places
  force_charged = search rules

  force_charges : (k : ℕ) → k < sector_places → SFits w64 (charge_in c.args.ledger.force k)
  force_charges k p = search (rules, signed_fits, force_charged)

  older_charged : length c.args.ledger.older.charges ≡ sector_places
  older_charged = search rules

  older_charges : (k : ℕ) → k < sector_places → SFits w64 (charge_in c.args.ledger.older k)
  older_charges k p = search (rules, signed_fits, older_charged)

  balance_fits : (i : ℕ) → i < most_distributors → SFits w64 (money_at c.args.ledger.balances i)
  balance_fits i p =
      element_fits (λ x. x.0) no_money (amount.the_row).own_val c.args.ledger.balances _
      c.well_formed.0.1.1.1.1.1.1.1.1.1.1.0.1.1 (λ x vs s. record { sfits = s.1.1.0.1 }) i
      (omega (arith, all_balances))

  count_fits : (i : ℕ) → Fits w64 (count_at c.args.ledger.counts i)
  count_fits i = search rules

pub returns : goal.returns
returns c =
    saved_text_loads c.args.ledger
    (record {
      n = search rules;
      last = search rules;
      month = search rules;
      day = search rules;
      force = record { presences = search rules; charged = force_charged c; charges = force_charges c };
      older = record { presences = search rules; charged = older_charged c; charges = older_charges c };
      balanced = all_balances c;
      counted = search rules;
      balances = balance_fits c;
      counts = λ i p. (count_fits c i).fits;
    })
