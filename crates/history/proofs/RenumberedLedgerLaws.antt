-- A ledger whose entries are moved along to new numbers (W-207 of document 02) is as sound as it was, and each
-- distributor's entries stand under its new number. Assumes nothing.
use mathlib.Core.Path.{◌≡◌, refl, sym, ◌∙◌, ap, ap₂}
use mathlib.Core.Bool.{Bool, true, false, cond, not, ◌&&◌}
use mathlib.Core.List.{List}
use Prim.Native.Nat.{ℕ, ◌+◌, ◌≤◌, ◌<◌}
use native.Mathlib.Omega.{arith}
use lib.Dec.{ltb, eqb, leb}
use lib.IntN.{pos}
use lib.Signed.{lt_z}
use borrow.Author.Tests.{le-ltb}
use Rattle.numbers.specs.Bounded.{any_below}
use Rattle.numbers.specs.Renumbering.{Renumbering, place_by, moved_along}
use Rattle.numbers.specs.Signed.{is_negative}
use Rattle.numbers.specs.Sizes.{most_distributors, sector_count, sector_places}
use Rattle.numbers.specs.Units.{bound_where, no_money}
use Rattle.numbers.specs.declared.units.Pesos.{Pesos}
use Rattle.numbers.proofs.RenumberingLaws.{turned, number_test, all_renumbered, any_renumbered, places, place_one}
use Rattle.numbers.proofs.RenumberingLaws.{place_test_lem, moved_at, moved_stands}
use Rattle.fixing.specs.Sector.{no_charges, renumbered_charges}
use Rattle.fixing.specs.declared.sector.SectorCharges.{SectorCharges}
use Rattle.fixing.proofs.RenumberedLaws.{none_renumbered}
use Rattle.settlement.specs.Settlement.{one_sign}
use Rattle.settlement.specs.Month.{money_at}
use Rattle.ledger.specs.Ledger.{count_at, any_settled, makes_older, stays_older, older_beside}
use Rattle.ledger.specs.Sound.{places_held, place_test, place_sound, force_sound, older_sound, fixings_sound, count_test}
use Rattle.ledger.specs.Sound.{counts_sound, balance_test, balance_sound, each_balance, balances_sound, sound}
use Rattle.ledger.specs.declared.ledger.Ledger.{Ledger}
use Rattle.history.specs.Renumbered.{moved_ledger, ChargesUnder, EntriesUnder}

module _ {n : ℕ} (r : Renumbering n) (few : n ≤ most_distributors) where
  -- the sectors' places
  held_renumbered : (kept : Bool) (k : ℕ) →
      ltb k (places_held n kept) ≡ ltb (place_by n r.old sector_count k) (places_held n kept)
  unfolding places_held bound_where
  held_renumbered true k = sym (place_test_lem r sector_count k (omega arith))
  held_renumbered false k = le-ltb k 0 (omega arith) ∙ sym (le-ltb (place_by n r.old sector_count k) 0 (omega arith))

  place_renumbered : (kept : Bool) (force : SectorCharges) (k : ℕ) → k < sector_places →
      place_sound (places_held n kept) (renumbered_charges r force) k ≡ place_sound (places_held n kept) force
      (place_by n r.old sector_count k)
  unfolding place_sound place_test renumbered_charges
  place_renumbered kept force k p =
      rw (
        moved_at r sector_count false sector_places force.present k p,
        moved_at r sector_count (pos 0) sector_places force.charges k p,
        held_renumbered kept k,
      )

  force_renumbered : (kept : Bool) (force : SectorCharges) →
      force_sound (places_held n kept) (renumbered_charges r force) ≡ force_sound (places_held n kept) force
  unfolding force_sound
  force_renumbered kept force =
      all_renumbered (places sector_count r most_distributors few) _ _ (place_renumbered kept force)

  -- counts and balances
  module _ (counts : List ℕ) where
    abbrev moved_counts : List ℕ
    moved_counts = moved_along r 1 0 most_distributors counts

    count_renumbered : (i : ℕ) → i < most_distributors → count_at moved_counts i ≡ count_at counts (place_by n r.old 1 i)
    count_renumbered i p = moved_at r 1 0 most_distributors counts i p

    settled_renumbered : any_below most_distributors (λ i. not (eqb (count_at moved_counts i) 0)) ≡ any_below
        most_distributors (λ i. not (eqb (count_at counts i) 0))
    settled_renumbered =
        any_renumbered (places 1 r most_distributors few) _ _
        (λ i p. ap (λ x. not (eqb x 0)) (count_renumbered i p))

    counts_renumbered : (last : ℕ) → counts_sound n last moved_counts ≡ counts_sound n last counts
    unfolding counts_sound count_test
    counts_renumbered last =
        all_renumbered (places 1 r most_distributors few) _ _
        (λ i p. ap₂ (λ x b. leb x (bound_where b (last + 1))) (count_renumbered i p)
        (sym (ap (λ k. ltb k n) (place_one n r.old i) ∙ number_test (turned r) i)))

    module _ (balances : List Pesos) where
      abbrev moved_balances : List Pesos
      moved_balances = moved_along r 1 no_money most_distributors balances

      money_renumbered : (i : ℕ) → i < most_distributors →
          money_at moved_balances i ≡ money_at balances (place_by n r.old 1 i)
      money_renumbered i p = ap (λ (x : Pesos). x.0) (moved_at r 1 no_money most_distributors balances i p)

      balances_renumbered : balances_sound moved_counts moved_balances ≡ balances_sound counts balances
      unfolding balances_sound each_balance balance_sound one_sign
      balances_renumbered =
          let place = places 1 r most_distributors few in
          ap₂ ◌&&◌
          (all_renumbered place _ _ (λ i p. ap₂ balance_test (count_renumbered i p) (money_renumbered i p)))
          (ap₂ (λ a b. not (a && b))
          (any_renumbered place _ _ (λ i p. ap (lt_z (pos 0)) (money_renumbered i p)))
          (any_renumbered place _ _ (λ i p. ap is_negative (money_renumbered i p))))

module _ (ledger : Ledger) (r : Renumbering ledger.n) (few : ledger.n ≤ most_distributors) where
  pub any_settled_moved : any_settled (moved_ledger r ledger) ≡ any_settled ledger
  unfolding any_settled moved_ledger
  any_settled_moved = settled_renumbered r few ledger.counts

  pub sound_moved : sound (moved_ledger r ledger) ≡ sound ledger
  unfolding sound fixings_sound older_sound moved_ledger
  sound_moved =
      rw (
        any_settled_moved,
        force_renumbered r few ledger.fixed ledger.force,
        force_renumbered r few ledger.has_older ledger.older,
        counts_renumbered r few ledger.counts ledger.last,
        balances_renumbered r few ledger.counts ledger.balances,
      )

  -- the older fixing beside a new one
  pub beside_moved : (month : ℕ) → older_beside (moved_ledger r ledger) month ≡ renumbered_charges r
      (older_beside ledger month)
  unfolding older_beside makes_older stays_older moved_ledger
  beside_moved month =
      go (ledger.fixed && ltb ledger.month month) (ledger.has_older && eqb month ledger.month)
    where
      go : (makes stays : Bool) →
          cond makes (renumbered_charges r ledger.force) (cond stays (renumbered_charges r ledger.older) no_charges)
          ≡ renumbered_charges r (cond makes ledger.force (cond stays ledger.older no_charges))
      go true stays = refl
      go false true = refl
      go false false = sym (none_renumbered r few)

-- entry by entry
pub entries_moved : {n : ℕ} (r : Renumbering n) → n ≤ most_distributors → (ledger : Ledger) →
    EntriesUnder r ledger (moved_ledger r ledger)
unfolding moved_ledger renumbered_charges
entries_moved r few ledger =
    let charges : (force : SectorCharges) → ChargesUnder r force (renumbered_charges r force) =
    λ force. record {
      present = moved_stands r sector_count false sector_places force.present (omega arith);
      charges = moved_stands r sector_count (pos 0) sector_places force.charges (omega arith);
    } in
    record {
      force = charges ledger.force;
      older = charges ledger.older;
      balances = moved_stands r 1 no_money most_distributors ledger.balances (omega arith);
      counts = moved_stands r 1 0 most_distributors ledger.counts (omega arith);
    }
