-- Kept ledgers (docs/JOURNAL.md, `save` and `load`): a ledger as the parts of the form `load`, and those parts as a
-- ledger. Assumes nothing.
use Rattle.std.specs.Prelude.{Bool, true, false, cond, not, ◌&&◌, ◌||◌, ◌≡◌, List, [], ◌∷◌, ℕ, ◌+◌, ◌-◌, ◌*◌, ◌/◌, ◌%◌, leb, ltb, eqb, length, get_or, take, drop}
use Rattle.numbers.specs.Bounded.{all_below, list_below}
use Rattle.numbers.specs.Signed.{word_of, signed_of}
use Rattle.numbers.specs.Sizes.{most_distributors, sector_count, sector_places}
use Rattle.fixing.specs.Sector.{filled_places}
use Rattle.fixing.specs.declared.sector.SectorCharges.{SectorCharges}
use Rattle.settlement.specs.Month.{money_at, money_below}
use Rattle.ledger.specs.Ledger.{present_in, charge_in, count_at}
use Rattle.ledger.specs.declared.ledger.Ledger.{Ledger}
use Rattle.journal.specs.Form.{Held, held_of, held_in, parts_in, FormHeld}
use Rattle.journal.specs.Command.{load_form}
use Rattle.journal.specs.declared.form.Parts.{Parts}

-- "FIXED, OLDER and the words of `present` and `olderpresent` are 0 or 1"
abbrev pub truth_word : Bool → ℕ
truth_word true = 1
truth_word false = 0

abbrev pub word_truth : ℕ → Bool
word_truth word = not (eqb word 0)

-- word k of a list; "parts not given being zero"
abbrev pub word_at : List ℕ → ℕ → ℕ
word_at words k = get_or words k 0

-- where the older fixing, the balances and the counts stand after the fixing in force, and how many words there are; a
-- fixing has its presences and its charges
abbrev pub older_from : ℕ
older_from = sector_places + sector_places

abbrev pub balances_from : ℕ
balances_from = older_from + older_from

abbrev pub counts_from : ℕ
counts_from = balances_from + most_distributors

abbrev pub kept_words : ℕ
kept_words = counts_from + most_distributors

-- word k of a fixing's: presences, then charges
unfoldable pub charges_word : SectorCharges → ℕ → ℕ
charges_word fixing k =
    cond (ltb k sector_places) (truth_word (present_in fixing k)) (word_of (charge_in fixing (k - sector_places)))

-- word k of a ledger's: the fixing in force, the older one, balances and counts, one list after the other
unfoldable pub ledger_word : Ledger → ℕ → ℕ
ledger_word ledger k =
    cond (ltb k older_from) (charges_word ledger.force k)
    (cond (ltb k balances_from) (charges_word ledger.older (k - older_from))
    (cond (ltb k counts_from) (word_of (money_at ledger.balances (k - balances_from)))
    (count_at ledger.counts (k - counts_from))))

unfoldable pub ledger_words : Ledger → List ℕ
ledger_words ledger = list_below kept_words (ledger_word ledger)

-- the distributor whose word it is: by places in the lists of the fixings, then one word for each
unfoldable pub word_owner : ℕ → ℕ
word_owner k =
    cond (ltb k balances_from) (k % sector_places / sector_count) ((k - balances_from) % most_distributors)

-- whether the words past n distributors are zero
unfoldable pub zero_past : ℕ → List ℕ → Bool
zero_past n words = all_below kept_words (λ k. ltb (word_owner k) n || eqb (word_at words k) 0)

-- "where N is above 40 or a word past N is not zero, all 320, 320, 320, 320, 40 and 40": for how many distributors
-- words are kept
unfoldable pub kept_among : ℕ → List ℕ → ℕ
kept_among n words = cond (leb n most_distributors && zero_past n words) n most_distributors

unfoldable pub kept_count : Ledger → ℕ
kept_count ledger = kept_among ledger.n (ledger_words ledger)

-- a list of so many words from a place on
abbrev pub kept_list : List ℕ → ℕ → ℕ → Held
kept_list words from size = held_of size (take size (drop from words))

-- "N LAST FIXED MONTH DAY OLDER on the first line, then a line each for present, charges, olderpresent, oldercharges
-- (the first 8N), balances and counts (the first N)": the ledger's parts
unfoldable pub ledger_parts : Ledger → List Held
ledger_parts ledger =
    let count = kept_count ledger in
    let places = count * sector_count in
    let words = ledger_words ledger in
    held_of ledger.n [] ∷ held_of ledger.last [] ∷ held_of (truth_word ledger.fixed) []
    ∷ held_of ledger.month [] ∷ held_of ledger.day [] ∷ held_of (truth_word ledger.has_older) []
    ∷ kept_list words 0 places ∷ kept_list words sector_places places
    ∷ kept_list words older_from places ∷ kept_list words (older_from + sector_places) places
    ∷ kept_list words balances_from count ∷ kept_list words counts_from count ∷ []

-- a ledger that was saved: its parts
pub record Saved (ledger : Ledger) (saved : Parts) (words : List ℕ) : Type 0 where
  pub parts : parts_in saved words ≡ ledger_parts ledger
  pub held : FormHeld load_form saved (length words)

-- a fixing by the words of its presences and its charges
unfoldable pub loaded_charges : List ℕ → List ℕ → SectorCharges
loaded_charges present charges =
    filled_places sector_places (λ k. word_truth (word_at present k)) (λ k. signed_of (word_at charges k))

-- "`load` sets the ledger as given, sound or not"
unfoldable pub loaded_ledger : List Held → Ledger
loaded_ledger parts =
    record {
      n = (held_in parts 0).number;
      last = (held_in parts 1).number;
      fixed = word_truth (held_in parts 2).number;
      month = (held_in parts 3).number;
      day = (held_in parts 4).number;
      force = loaded_charges (held_in parts 6).words (held_in parts 7).words;
      has_older = word_truth (held_in parts 5).number;
      older = loaded_charges (held_in parts 8).words (held_in parts 9).words;
      balances = money_below most_distributors (λ i. signed_of (word_at (held_in parts 10).words i));
      counts = list_below most_distributors (word_at (held_in parts 11).words);
    }
