-- The tokens of a journal: blanks, comments, where a token starts and where it ends. Assumes nothing.
use Rattle.std.specs.Prelude.{Bool, false, cond, not, ◌&&◌, ◌||◌, List, ℕ, zero, suc, ◌+◌, ◌-◌, min, eqb, length}
use Rattle.std.specs.Prelude.{get_or, take, drop}
use Rattle.journal.specs.declared.token.Token.{Token}

-- a text's byte; past its end 0
abbrev pub byte_at : List ℕ → ℕ → ℕ
byte_at text k = get_or text k 0

-- "blanks, tabs or line ends"; "a carriage return is a blank"
abbrev pub is_blank : ℕ → Bool
is_blank byte = eqb byte 32 || (eqb byte 9 || (eqb byte 10 || eqb byte 13))

-- "`#` starts a comment to the end of its line", and ends a token
abbrev pub ends_token : ℕ → Bool
ends_token byte = is_blank byte || eqb byte 35

-- whether the byte after this one is in a comment, where this one is (or is not)
abbrev pub comment_after : Bool → ℕ → Bool
comment_after comment byte = not (eqb byte 10) && (comment || eqb byte 35)

-- from place k: the first byte of a token, among so many bytes that are left
unfoldable pub start_from : ℕ → Bool → List ℕ → ℕ → ℕ
start_from zero comment text k = k
start_from (suc left) comment text k =
    cond (comment || ends_token (byte_at text k))
    (start_from left (comment_after comment (byte_at text k)) text (k + 1)) k

-- where the next token starts; the text's length where there is none
unfoldable pub token_start : List ℕ → ℕ → ℕ
token_start text from = start_from (length text - from) false text from

-- from place k: the first byte that ends a token, among so many bytes that are left
unfoldable pub end_from : ℕ → List ℕ → ℕ → ℕ
end_from zero text k = k
end_from (suc left) text k = cond (ends_token (byte_at text k)) k (end_from left text (k + 1))

-- where the token that starts at a place ends
unfoldable pub token_end : List ℕ → ℕ → ℕ
token_end text start = end_from (length text - start) text start

-- the next token from a place on; at the text's end where there is none
unfoldable pub token_after : List ℕ → ℕ → Token
token_after text from =
    let start = token_start text (min from (length text)) in
    record { start = start; end = token_end text start }

-- its bytes
abbrev pub bytes_of : List ℕ → Token → List ℕ
bytes_of text token = take (token.end - token.start) (drop token.start text)
