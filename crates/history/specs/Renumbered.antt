-- "Renumbered sheets" (W-207 of document 02): what a renumbering of the distributors does to a fixing's call and to a
-- ledger, and what the fixing of the one and of the other hand back alike. Assumes nothing.
use Rattle.std.specs.Prelude.{◌≡◌, true, false, cond, ℕ, ◌*◌, eqb, length, pos}
use Rattle.numbers.specs.Renumbering.{Renumbering, moved_along, StandUnder}
use Rattle.numbers.specs.Sizes.{most_distributors, sector_count}
use Rattle.numbers.specs.Units.{no_money}
use Rattle.supply.specs.Line.{renumbered_lines}
use Rattle.fixing.specs.Input.{FixingInput}
use Rattle.fixing.specs.Sector.{renumbered_charges}
use Rattle.fixing.specs.declared.sector.SectorCharges.{SectorCharges}
use Rattle.ledger.specs.Sound.{sound}
use Rattle.ledger.specs.Fix.{FixingCall, lines_whole, HandedBack, IsAccepted}
use Rattle.ledger.specs.declared.ledger.Ledger.{Ledger}

-- "its lines naming the new numbers in their old places, its sectors .. moved along"; "lists of another length .. stay
-- as they are"
unfoldable pub renumbered_input : {n : ℕ} → Renumbering n → FixingInput → FixingInput
renumbered_input {n = n} r input =
    record {
      numbers = input.numbers;
      series = input.series;
      lines = cond (lines_whole input.lines) (renumbered_lines r input.lines) input.lines;
      sectors =
          cond (eqb (length input.sectors) (n * sector_count))
          (moved_along r sector_count 0 (n * sector_count) input.sectors)
          input.sectors;
      in_force = input.in_force;
    }

-- a call with such an input, regular or interim as the other; its lent lists are as long, and hold whatever they hold
pub record RenumberedCall {n : ℕ} (r : Renumbering n) (one other : FixingCall) : Type 0 where
  pub input : other.input ≡ renumbered_input r one.input
  pub is_interim : other.is_interim ≡ one.is_interim
  pub prices : length other.prices ≡ length one.prices
  pub power : length other.power ≡ length one.power

-- "the ledger's entries moved along"
unfoldable pub moved_ledger : {n : ℕ} → Renumbering n → Ledger → Ledger
moved_ledger r ledger =
    record {
      n = ledger.n;
      last = ledger.last;
      fixed = ledger.fixed;
      month = ledger.month;
      day = ledger.day;
      force = renumbered_charges r ledger.force;
      has_older = ledger.has_older;
      older = renumbered_charges r ledger.older;
      balances = moved_along r 1 no_money most_distributors ledger.balances;
      counts = moved_along r 1 0 most_distributors ledger.counts;
    }

-- "unsound ledgers .. stay as they are"
unfoldable pub renumbered_ledger : {n : ℕ} → Renumbering n → Ledger → Ledger
renumbered_ledger r ledger = cond (sound ledger) (moved_ledger r ledger) ledger

-- each distributor's presences and charges stand under its new number
pub record ChargesUnder {n : ℕ} (r : Renumbering n) (one other : SectorCharges) : Type 0 where
  pub present : StandUnder r sector_count false one.present other.present
  pub charges : StandUnder r sector_count (pos 0) one.charges other.charges

-- and all that a ledger has of it
pub record EntriesUnder {n : ℕ} (r : Renumbering n) (one other : Ledger) : Type 0 where
  pub force : ChargesUnder r one.force other.force
  pub older : ChargesUnder r one.older other.older
  pub balances : StandUnder r 1 no_money one.balances other.balances
  pub counts : StandUnder r 1 0 one.counts other.counts

-- what two fixings hand back that differ in the distributors' numbers alone
pub record SameUnder {n : ℕ} (r : Renumbering n) (one other : HandedBack) : Type 0 where
  -- "the same limit, surcharge, rounds and residue"; "Where a fixing is refused, the renumbered one is refused too,
  -- with the same number", and with the same line and term
  pub answer : other.answer ≡ one.answer
  -- the ledger handed back is the ledger handed back renumbered
  pub ledger : other.ledger ≡ renumbered_ledger r one.ledger
  pub entries : sound one.ledger ≡ true → EntriesUnder r one.ledger other.ledger
  -- "each distributor the same average, final price and charge", and power average, under its new number
  pub prices : IsAccepted one → StandUnder r 3 (pos 0) one.prices other.prices
  pub power : IsAccepted one → StandUnder r 1 0 one.power other.power
