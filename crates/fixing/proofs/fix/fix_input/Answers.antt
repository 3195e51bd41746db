-- Each test is the check of its cause, made where those before it are passed; what passes all four is priced.
use mathlib.Core.Path.{◌≡◌, refl, sym, ◌∙◌, ap}
use mathlib.Core.Bool.{true}
use Rattle.std.proofs.lemmas.Result.{err_from_is_err_and}
use Rattle.numbers.specs.declared.refusal.Refusal.TheVariants.{OutOfRange, ValueTooLarge, WrongSector, NoLine}
use Rattle.numbers.proofs.CheckLaws.{FirstPass, passes, refused_unless}
use Rattle.series.specs.Series.{values_in_range}
use Rattle.fixing.specs.Average.{every_energy}
use Rattle.fixing.specs.Required.{OwnLines, CheckedInput}
use Rattle.fixing.specs.Sector.{sectors_allowed}
use Rattle.fixing.specs.Input.{FixingInput, input_of, ranged, supplied, input_checks}
use Rattle.fixing.proofs.AverageLaws.{energies_tell}
use Rattle.fixing.proofs.VerdictLaws.{no_line, ranged_own, checked_own, checked_numbers, checked_in_force}
use Rattle.fixing.proofs.VerdictLaws.{checked_table}
use Rattle.fixing.proofs.VerdictLaws.{input_refused, priced_refused, priced_accepted, priced_power}
use Rattle.fixing.proofs.VerdictLaws.{priced_worked}
use borrow.Author.Rules.{rules}
use Rattle.fixing.proofs.fix.fix_input.Goals as goal
use Rattle.fixing.proofs.fix.fix_input.Goals.{After-every_energy, Else-not-every_energy, Else-not-input_in_range}
use Rattle.fixing.proofs.fix.fix_input.Goals.{Else-not-sectors_allowed, Else-not-values_in_range, Start}

abbrev input : Start → FixingInput
input s =
    input_of s.args.numbers s.args.series.now s.args.lines.now s.args.sectors.now
    s.args.in_force.now

-- what is known where a check is passed
passed_six : (c : Else-not-input_in_range) → ranged c.args.n (input (goal.at.values_in_range-requires c).Start) ≡ true
passed_six c = sym c.input_in_range.ensures ∙ c.if-not-input_in_range.false

passed_seven : (c : Else-not-values_in_range) → values_in_range c.args.series.now ≡ true
passed_seven c = sym c.values_in_range.ensures ∙ c.if-not-values_in_range.false

module _ (c : Else-not-sectors_allowed) where
  passed_eight : sectors_allowed c.args.n c.args.sectors.now ≡ true
  passed_eight = sym c.sectors_allowed.ensures ∙ c.if-not-sectors_allowed.false

  own : OwnLines c.args.lines.now
  own =
      let at = goal.at.energies-energies-requires c in
      ranged_own _ (input at.Start) c.requires (passed_six at.Else-not-input_in_range)

-- the energies tell who has a line
everyone : (c : After-every_energy) → OwnLines c.args.lines.now →
    c.every_energy.result ≡ supplied c.args.n (input_of c.args.numbers c.args.series.now c.args.lines.now
    c.args.sectors.now c.args.in_force.now)
everyone c own =
    c.every_energy.ensures
    ∙ ap (every_energy c.args.n) c.energies-energies.ensures
    ∙ energies_tell c.args.n c.args.lines.now c.requires.few own

passed_nine : (c : Else-not-every_energy) →
    CheckedInput c.args.n (input (goal.at.fill-requires c).Start)
passed_nine c =
    let at = goal.at.fill-requires c in
    record {
      lengths = c.requires;
      ranges = passed_six at.Else-not-input_in_range;
      small = passed_seven at.Else-not-values_in_range;
      sectored = passed_eight at.Else-not-sectors_allowed;
      everyone = sym (everyone at.After-every_energy (own at.Else-not-sectors_allowed)) ∙ c.if-not-every_energy.false;
    }

pub returns-then-not-input_in_range : goal.returns-then-not-input_in_range
unfolding input_checks FirstPass
returns-then-not-input_in_range c =
    let at = goal.at.returns-then-not-input_in_range c in
    input_refused c.args.n (input at.Start) OutOfRange
    (refused_unless 0 (input_checks c.args.n (input at.Start)) 6 _ OutOfRange _ tt refl
    (sym c.input_in_range.ensures ∙ c.if-not-input_in_range.true))

pub returns-then-not-values_in_range : goal.returns-then-not-values_in_range
unfolding input_checks FirstPass
returns-then-not-values_in_range c =
    let at = goal.at.returns-then-not-values_in_range c in
    input_refused c.args.n (input at.Start) ValueTooLarge
    (refused_unless 1 (input_checks c.args.n (input at.Start)) 7 _ ValueTooLarge _
    (passes OutOfRange (passed_six at.Else-not-input_in_range), tt) refl
    (sym c.values_in_range.ensures ∙ c.if-not-values_in_range.true))

pub returns-then-not-sectors_allowed : goal.returns-then-not-sectors_allowed
unfolding input_checks FirstPass
returns-then-not-sectors_allowed c =
    let at = goal.at.returns-then-not-sectors_allowed c in
    input_refused c.args.n (input at.Start) WrongSector
    (refused_unless 2 (input_checks c.args.n (input at.Start)) 8 _ WrongSector _ (
      passes OutOfRange (passed_six at.Else-not-input_in_range),
      (passes ValueTooLarge (passed_seven at.Else-not-values_in_range), tt),
    ) refl
    (sym c.sectors_allowed.ensures ∙ c.if-not-sectors_allowed.true))

pub energies-energies-requires : goal.energies-energies-requires
energies-energies-requires c = own c

pub returns-then-not-every_energy : goal.returns-then-not-every_energy
returns-then-not-every_energy c =
    let at = goal.at.returns-then-not-every_energy c in
    input_refused c.args.n (input at.Start) NoLine
    (no_line c.args.n (input at.Start) (passed_six at.Else-not-input_in_range) (passed_seven at.Else-not-values_in_range)
    (passed_eight at.Else-not-sectors_allowed)
    (sym (everyone at.After-every_energy (own at.Else-not-sectors_allowed)) ∙ c.if-not-every_energy.true))

pub price_lines-requires : goal.price_lines-requires
price_lines-requires c =
    let at = goal.at.price_lines-requires c in
    let ok = passed_nine at.Else-not-every_energy in
    record {
      table_in_range = checked_table _ (input at.Start) ok _ c.fill.ensures;
      numbers_checked = checked_numbers _ (input at.Start) ok;
      lines_checked = (checked_own _ (input at.Start) ok).checked;
      in_force_within = checked_in_force _ (input at.Start) ok;
    }

-- what the pricing of the lines says
pub returns-in_err-priced : goal.returns-in_err-priced
returns-in_err-priced c =
    let at = goal.at.returns-in_err-priced c in
    let p = err_from_is_err_and c.from_residual.result c.from_residual.ensures.1 in
    rw (p.1, p.2)
    (priced_refused _ (input at.Start) (passed_nine at.Else-not-every_energy) _ c.fill.ensures _ c.in_err-priced.ensures)

pub accepted-requires : goal.accepted-requires
accepted-requires c =
    let at = goal.at.accepted-requires c in
    let ok = passed_nine at.Else-not-every_energy in
    record {
      checked = priced_accepted _ (input at.Start) ok _ c.fill.ensures _ c.in_ok-priced.ensures;
      power_priced = priced_power _ (input at.Start) ok _ c.fill.ensures _ c.in_ok-priced.ensures;
      supplied = c.energies-energies.ensures;
      lent = ok.lengths.factors;
      allowed = ok.sectored;
    }

pub returns : goal.returns
returns c =
    let at = goal.at.returns c in
    priced_worked _ (input at.Start) (passed_nine at.Else-not-every_energy) _ c.fill.ensures _ c.in_ok-priced.ensures _
    c.accepted.ensures

pub values_in_range-requires : goal.values_in_range-requires
values_in_range-requires c = search rules

pub fill-requires : goal.fill-requires
fill-requires c = search rules
