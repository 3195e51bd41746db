-- The ledger of document 01 ("Taken and handed back by value"), with a count of settled months for each distributor
-- (W-205 of document 02) and an older fixing beside the one in force (W-206): how it opens, and how an accepted fixing,
-- a settled month and a join change it. Assumes nothing.
use Rattle.std.specs.Prelude.{◌≡◌, Bool, true, false, cond, not, ◌&&◌, ◌||◌, List, [], ◌∷◌, ℕ, ◌+◌, ltb, eqb, get_or, set, replicate, ℤ, pos}
use Rattle.numbers.specs.Bounded.{any_below, filled_below}
use Rattle.numbers.specs.Refusal.{is_passed}
use Rattle.numbers.specs.Checks.{Check, check, verdict_of, Judged}
use Rattle.numbers.specs.Sizes.{most_distributors}
use Rattle.numbers.specs.Units.{between, no_money}
use Rattle.numbers.specs.declared.refusal.Refusal.TheVariants.{WrongCount}
use Rattle.numbers.specs.Refusal.{Verdict}
use Rattle.numbers.specs.declared.units.Pesos.{Pesos}
use Rattle.supply.specs.declared.market.FixingNumbers.{FixingNumbers}
use Rattle.fixing.specs.Sector.{no_charges}
use Rattle.fixing.specs.declared.sector.SectorCharges.{SectorCharges}
use Rattle.settlement.specs.Month.{money_below}
use Rattle.ledger.specs.declared.ledger.Ledger.{Ledger}

-- presence and charge at place k of a fixing's
abbrev pub present_in : SectorCharges → ℕ → Bool
present_in force k = get_or force.present k false

abbrev pub charge_in : SectorCharges → ℕ → ℤ
charge_in force k = get_or force.charges k (pos 0)

-- no balances, and no months counted
unfoldable pub no_balances : List Pesos
no_balances = money_below 0 (λ i. pos 0)

abbrev pub no_counts : List ℕ
no_counts = replicate most_distributors 0

-- a ledger of n distributors with no fixing, in force or older
unfoldable pub unfixed_ledger : ℕ → ℕ → List Pesos → List ℕ → Ledger
unfixed_ledger n last balances counts =
    record {
      n = n;
      last = last;
      fixed = false;
      month = 0;
      day = 0;
      force = no_charges;
      has_older = false;
      older = no_charges;
      balances = balances;
      counts = counts;
    }

-- and with nothing else set; of none, the all-zero ledger
unfoldable pub empty_ledger : ℕ → Ledger
empty_ledger n = unfixed_ledger n 0 no_balances no_counts

-- one distributor's count of settled months
abbrev pub count_at : List ℕ → ℕ → ℕ
count_at counts i = get_or counts i 0

-- "a month is settled once any count isn't zero", and the month that comes next
unfoldable pub any_settled : Ledger → Bool
any_settled ledger = any_below most_distributors (λ i. not (eqb (count_at ledger.counts i) 0))

unfoldable pub next_month : Ledger → ℕ
next_month ledger = ledger.last + 1

-- "A fixing for a later month makes the one in force the older"
unfoldable pub makes_older : Ledger → ℕ → Bool
makes_older ledger month = ledger.fixed && ltb ledger.month month

-- "one for the same month replaces only that in force", and so an older one stays
unfoldable pub stays_older : Ledger → ℕ → Bool
stays_older ledger month = ledger.has_older && eqb month ledger.month

-- whether an older fixing "would stand beside the new one" for a month, and its presences and charges; "one for an
-- earlier month drops both"
unfoldable pub older_stands : Ledger → ℕ → Bool
older_stands ledger month = makes_older ledger month || stays_older ledger month

unfoldable pub older_beside : Ledger → ℕ → SectorCharges
older_beside ledger month =
    cond (makes_older ledger month) ledger.force (cond (stays_older ledger month) ledger.older no_charges)

-- "The latest fixing is in force": its month, first day, presences and charges replace those before
unfoldable pub fixed_ledger : Ledger → FixingNumbers → SectorCharges → Ledger
fixed_ledger ledger numbers force =
    record {
      n = ledger.n;
      last = ledger.last;
      fixed = true;
      month = numbers.month;
      day = numbers.day;
      force = force;
      has_older = older_stands ledger numbers.month;
      older = older_beside ledger numbers.month;
      balances = ledger.balances;
      counts = ledger.counts;
    }

-- "a settlement raises all" the counts of n distributors
unfoldable pub raised_counts : ℕ → List ℕ → List ℕ
raised_counts n counts = filled_below most_distributors 0 n (λ i. count_at counts i + 1)

-- a settled month raises the counts, is the last month, and moves the balances
unfoldable pub settled_ledger : Ledger → ℕ → List Pesos → Ledger
settled_ledger ledger month balances =
    record {
      n = ledger.n;
      last = month;
      fixed = ledger.fixed;
      month = ledger.month;
      day = ledger.day;
      force = ledger.force;
      has_older = ledger.has_older;
      older = ledger.older;
      balances = balances;
      counts = raised_counts ledger.n ledger.counts;
    }

-- "A join call adds one at the end with balance 0, and no fixing is then in force", nor an older one kept; its count is
-- "zero on joining"
unfoldable pub joined_ledger : Ledger → Ledger
joined_ledger ledger =
    unfixed_ledger (ledger.n + 1) ledger.last (set ledger.balances ledger.n no_money)
    (set ledger.counts ledger.n 0)

-- the check of an opening: "opening, n not 1 to 40"
unfoldable pub opening_checks : ℕ → List Check
opening_checks n = check 1 (between 1 most_distributors n) WrongCount ∷ []

unfoldable pub opening_verdict : ℕ → Verdict
opening_verdict n = verdict_of (opening_checks n)

-- "Opening gives zero balances"; a refused one returns the "all-zero ledger"
unfoldable pub opening_ledger : ℕ → Ledger
opening_ledger n = cond (is_passed (opening_verdict n)) (empty_ledger n) (empty_ledger 0)

-- what the open call promises, for every count: verdict with its number and values, and ledger
pub record OpeningPromise (n : ℕ) (verdict : Verdict) (next : Ledger) : Type 0 where
  pub judged : Judged verdict (opening_checks n)
  pub opened : next ≡ opening_ledger n
