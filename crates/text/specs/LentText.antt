-- A lent buffer as what bytes are written to. Assumes nothing.
use Rattle.std.specs.Prelude.{◌≡◌, List, [], ◌++◌, ℕ}
use mathlib.Core.Path.{refl, ◌∙◌, ap}
use Rattle.text.specs.Lent.{Buffer, buffer_of, filled, filled_more}
use Rattle.text.specs.declared.lent.LentText.{LentText}

-- what a lent text holds of its buffer
abbrev pub held_of : LentText → Buffer
held_of lent = buffer_of lent.buffer.now lent.count

-- the same lent text, when its buffer is left so
abbrev pub left_as : LentText → Buffer → LentText
left_as lent buffer = record lent { buffer = record lent.buffer { now = buffer.bytes }; count = buffer.count }

-- a lent text after a text
unfoldable pub lent_after : List ℕ → LentText → LentText
lent_after text lent = left_as lent (filled text (held_of lent))

pub lent_none : (lent : LentText) → lent_after [] lent ≡ lent
unfolding lent_after filled
lent_none lent = refl

lent_more : (a b : List ℕ) (lent : LentText) → lent_after b (lent_after a lent) ≡ lent_after (a ++ b) lent
unfolding lent_after
lent_more a b lent = ap (left_as lent) (filled_more a b (held_of lent))

pub lent_both : (a b : List ℕ) (lent next last : LentText) → next ≡ lent_after a lent → last ≡ lent_after b next →
    last ≡ lent_after (a ++ b) lent
lent_both a b lent next last p q = q ∙ ap (lent_after b) p ∙ lent_more a b lent
