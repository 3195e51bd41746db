-- How long the text of a form is at most. Assumes nothing.
use mathlib.Core.Bool.{Bool, true, false}
use mathlib.Core.List.{List}
use Prim.Native.Nat.{ℕ, ◌+◌, ◌*◌, ◌≤◌, ◌<◌}
use native.Mathlib.Omega.{arith}
use lib.ListN.{length, length-append}
use Rattle.text.proofs.NameLaws.{name_size}
use Rattle.text.proofs.SizeLaws.{word_size, words_size, texts_size}
use Rattle.journal.specs.Form.{part_count, part_at, Held, held_in, list_text, part_text_by, part_text, form_text}
use Rattle.journal.specs.declared.form.Kind.{Kind}
use Rattle.journal.specs.declared.form.Kind.TheVariants.{Nothing, Number, List as Words, Signed, Length}
use Rattle.journal.specs.declared.form.Part.{Part}

part_size : (part : Part) (held : Held) → length (part_text part held) ≤ 34 + length held.words * 22
unfolding part_text list_text
part_size part held = go part.1
  where
    line : (signed : Bool) →
        length (list_text part.0 signed held.number held.words) ≤ 34 + length held.words * 22
    line signed =
        rw (length-append, length-append)
        (omega (arith, name_size part.0, word_size held.number, words_size signed held.words))

    go : (kind : Kind) → length (part_text_by kind part.0 held) ≤ 34 + length held.words * 22
    go Nothing = omega arith
    go (Number most) = omega (arith, word_size held.number)
    go (Words longest most) = line false
    go (Signed longest) = line true
    go (Length longest) = line false

pub form_size : (name : List ℕ) (form : List Part) (parts : List Held) (most : ℕ) →
    ((k : ℕ) → k < part_count → length (held_in parts k).words ≤ most) →
    length (form_text name form parts) ≤ 421 + most * 264
unfolding form_text
form_size name form parts most s =
    rw (length-append, length-append)
    (omega (
      arith,
      name_size name,
      texts_size part_count (34 + most * 22) (λ k. part_text (part_at form k) (held_in parts k))
          (λ k q. omega (arith, part_size (part_at form k) (held_in parts k), s k q)),
    ))
