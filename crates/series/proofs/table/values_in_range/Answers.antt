-- Every word is tested, and there are 240.
use mathlib.Core.Path.{◌∙◌}
use Rattle.numbers.proofs.UnitLaws.{between_zero}
use Rattle.series.specs.Series.{word_count, most_value, values_in_range}
use Rattle.series.proofs.table.values_in_range.Goals as goal

pub returns : goal.returns
unfolding values_in_range
returns c =
    c.all_between.ensures ∙ between_zero most_value c.args.words.now word_count
    c.requires
