-- A supply line of document 01 ("Supply lines") with the power words of W-204 of document 02: of its 30 words these are
-- the places; and lines that name new numbers (W-207). Assumes nothing.
use Rattle.std.specs.Prelude.{◌≡◌, Bool, cond, ◌||◌, List, [], ◌∷◌, ℕ, ◌+◌, ◌*◌, ◌/◌, ◌%◌, ◌<◌, ltb, eqb, get_or, length}
use Rattle.numbers.specs.Bounded.{list_below}
use Rattle.numbers.specs.Renumbering.{Renumbering, number_by}
use Rattle.series.specs.Series.{cpi_series}
use Rattle.supply.specs.declared.line.Term.{Term}
use Rattle.supply.specs.declared.line.Line.{Line}

-- "From word 6, five words a term", four terms at most
abbrev pub terms_start : ℕ
terms_start = 6

abbrev pub term_words : ℕ
term_words = 5

abbrev pub most_terms : ℕ
most_terms = 4

-- "The lines grow by these four words, in this order, after the old 26"
abbrev pub power_start : ℕ
power_start = terms_start + most_terms * term_words

-- "1 to 256 lines", of so many words each
abbrev pub line_words : ℕ
line_words = power_start + 4

abbrev pub most_lines : ℕ
most_lines = 256

-- how many whole lines the lent words hold
abbrev pub line_count : List ℕ → ℕ
line_count words = length words / line_words

-- the word at a place of the lent ones
abbrev pub word_at : List ℕ → ℕ → ℕ
word_at words at = get_or words at 0

-- a term: "series, weight, lag, window, base value"
unfoldable pub term_from : List ℕ → ℕ → Term
term_from words at =
    record {
      series = word_at words at;
      weight = word_at words (at + 1);
      lag = word_at words (at + 2);
      window = word_at words (at + 3);
      base_value = word_at words (at + 4);
    }

-- weights are ten-thousandths of the whole
abbrev pub whole_weight : ℕ
whole_weight = 10000

-- "one CPI term (lag, window, base value)": CPI has the whole weight
unfoldable pub power_term_from : List ℕ → ℕ → Term
power_term_from words at =
    record {
      series = cpi_series;
      weight = whole_weight;
      lag = word_at words at;
      window = word_at words (at + 1);
      base_value = word_at words (at + 2);
    }

-- line j: "0 distributor; 1 base price; 2 offer factor and 3 purchase factor; 4 energy; 5 term count", then its terms;
-- "a power base price .. and one CPI term", which stands after them
unfoldable pub line_of : List ℕ → ℕ → Line
line_of words j =
    let at = j * line_words in
    let terms = at + terms_start in
    let power = at + power_start in
    record {
      distributor = word_at words at;
      base_price = word_at words (at + 1);
      offer_factor = word_at words (at + 2);
      purchase_factor = word_at words (at + 3);
      energy = word_at words (at + 4);
      term_count = word_at words (at + 5);
      power_base_price = word_at words power;
      terms =
          term_from words terms
          ∷ term_from words (terms + term_words)
          ∷ term_from words (terms + 2 * term_words)
          ∷ term_from words (terms + 3 * term_words)
          ∷ power_term_from words (power + 1)
          ∷ [];
    }

-- "a power base price, 1 to 100,000,000"; "indexed and purchase results 1 to 100,000,000"
abbrev pub most_power_price : ℕ
most_power_price = 100000000

-- "10 (term 4)": the power term's number, whatever the line's count, and how many terms a line has places for
abbrev pub power_term : ℕ
power_term = most_terms

abbrev pub term_places : ℕ
term_places = power_term + 1

-- term k of a line, and a term of zeros
abbrev pub no_term : Term
no_term = record { series = 0; weight = 0; lag = 0; window = 0; base_value = 0 }

abbrev pub term_of : Line → ℕ → Term
term_of line k = get_or line.terms k no_term

-- whether a line uses term k: those below its count, and always the power term
unfoldable pub term_used : Line → ℕ → Bool
term_used line k = ltb k line.term_count || eqb k power_term

-- "lines naming the new numbers in their old places": the first word of each line, its distributor, is renumbered
unfoldable pub renumbered_lines : {n : ℕ} → Renumbering n → List ℕ → List ℕ
renumbered_lines {n = n} r lines =
    list_below (length lines)
    (λ at. cond (eqb (at % line_words) 0) (number_by n r.new (word_at lines at)) (word_at lines at))

-- lines that agree in all but their power words: as many words, and in each line the words before those of power
pub record SameEnergyWords (one other : List ℕ) : Type 0 where
  pub long : length one ≡ length other
  pub words : (j k : ℕ) → k < power_start → word_at one (j * line_words + k) ≡ word_at other (j * line_words + k)
