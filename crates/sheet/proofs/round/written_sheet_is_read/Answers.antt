-- The bytes that an accepted write says it used are the sheet of its readings, which passes and is read as them.
use Rattle.sheet.proofs.RoundLaws.{written_is_read}
use Rattle.sheet.proofs.round.written_sheet_is_read.Goals as goal

pub returns : goal.returns
returns c n readings buffer left lent list used verdict promise e read =
    written_is_read n readings buffer used left promise lent list verdict e read
