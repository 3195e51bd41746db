use mathlib.Core.Path.{◌∙◌}
use mir.Facts.{to_z-of_z}
use mir.Syntax.{w64}
use borrow.Author.Rules.{sfits_of}
use Rattle.numbers.proofs.SignedLaws.{signed_is}
use Rattle.numbers.proofs.signed.signed_of.Goals as goal

pub returns : goal.returns
returns c =
    to_z-of_z {w = w64} (sfits_of c.cast_signed.type_inv) ∙ c.cast_signed.ensures ∙ signed_is c.args.word
