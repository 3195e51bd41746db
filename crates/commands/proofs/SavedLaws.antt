-- The text that `save` prints, read as a journal, loads the same ledger, sound or not. Assumes nothing.
use mathlib.Core.Path.{◌≡◌, refl, sym, ◌∙◌, ap}
use mathlib.Core.Bool.{true}
use mathlib.Core.List.{List, [], ◌∷◌, ◌++◌, append_assoc}
use Prim.Native.Nat.{ℕ, ◌*◌, ◌-◌, ◌≤◌}
use native.Mathlib.Nat.{sub-zero}
use native.Mathlib.Omega.{arith}
use lib.ListN.{length, take, drop, length-take}
use Rattle.numbers.specs.Bounded.{all_below, list_below}
use Rattle.numbers.specs.Sizes.{most_distributors, sector_count}
use Rattle.ledger.specs.Ledger.{empty_ledger}
use Rattle.ledger.specs.declared.ledger.Ledger.{Ledger}
use Rattle.store.specs.Store.{kept_count, ledger_parts, loaded_ledger}
use Rattle.store.proofs.StoreLaws.{kept_most, MachineLedger, loaded_back, parts_taken, parts_whole}
use Rattle.text.specs.Text.{bytes, line_end, before_blank, name_text, text_below}
use Rattle.std.specs.Prelude.{Ok, Some, None}
use Rattle.journal.specs.Cursor.{read_of}
use Rattle.journal.specs.Form.{part_count, part_at, Held, held_in, form_after, part_text, form_text}
use Rattle.journal.specs.Command.{load_form, command_named, command_after}
use Rattle.journal.specs.declared.command.Command.TheVariants.{Load}
use Rattle.journal.proofs.TextLaws.{line_gap, gap_ends, Ends, Plain, place_within, token_same, token_none}
use Rattle.journal.proofs.StandsLaws.{ReadStands, texts_ends}
use Rattle.journal.proofs.CommandLaws.{command_none, command_some}
use Rattle.journal.proofs.FormLaws.{each_part}
use Rattle.journal.proofs.SizeLaws.{form_size}
use Rattle.journal.proofs.BackLaws.{names_plain, plain_test, plain_of, part_ends, form_back}
use Rattle.commands.specs.Replay.{saving_text, ledger_after, read_with, replay_from, replayed}
use Rattle.commands.proofs.ReplayLaws.{replay_none, replay_on, short}

abbrev load_name : List ℕ
load_name = bytes "load"

-- it is no longer than the buffer for an answer
pub saving_size : (ledger : Ledger) → length (saving_text ledger) ≤ 262144
unfolding saving_text ledger_parts
saving_size ledger =
    let few : kept_count ledger ≤ most_distributors = kept_most ledger in
    let places : ℕ = kept_count ledger * sector_count in
    let short : (n : ℕ) (l : List ℕ) → n ≤ 320 → length (take n l) ≤ 320 = λ n l p. rw length-take (omega arith) in
    let held : (l : List ℕ) → length (take places l) ≤ 320 = λ l. short places l (omega (arith, few)) in
    let kept : (l : List ℕ) → length (take (kept_count ledger) l) ≤ 320 = λ l. short (kept_count ledger) l
    (omega (arith, few)) in
    let none : 0 ≤ 320 = omega arith in
    omega (
      arith,
      form_size (bytes "load        ") load_form (ledger_parts ledger) 320
          (each_part (λ k. length (held_in (ledger_parts ledger) k).words ≤ 320) none none none none none none
          (held _) (held _) (held _) (held _) (kept _) (kept _)),
    )

load_plain : Plain load_name
unfolding plain_test all_below
load_plain = plain_of load_name refl

load_shows : names_plain load_form ≡ true
unfolding names_plain plain_test all_below name_text before_blank
load_shows = refl

-- the word `load` at the start of a text
load_command : (tail : List ℕ) → Ends tail →
    Ok (Some (read_of Load (length load_name))) ≡ command_after (load_name ++ tail) 0
unfolding command_named before_blank name_text
load_command tail e =
    command_some (load_name ++ tail) 0 _
    (token_same (load_name ++ tail) 0 load_name tail load_plain e refl (omega arith)) (λ q. omega (arith, q))

-- only a line end is left: no command follows
end_command : (text : List ℕ) (at : ℕ) → drop at text ≡ line_end ∷ [] → Ok None ≡ command_after text at
end_command text at h = command_none text at _ (token_none text at line_end line_gap h) refl

module _ (ledger : Ledger) (m : MachineLedger ledger) where
  abbrev parts : List Held
  parts = ledger_parts ledger

  abbrev parts_text : List ℕ
  parts_text = text_below part_count (λ k. part_text (part_at load_form k) (held_in parts k)) ++ line_end ∷ []

  saved_text : saving_text ledger ≡ load_name ++ parts_text
  unfolding saving_text form_text name_text before_blank
  saved_text =
      append_assoc load_name (text_below part_count (λ k. part_text (part_at load_form k) (held_in parts k))) (line_end ∷ [])

  line_ends : Ends (line_end ∷ [])
  line_ends = gap_ends line_end [] line_gap

  parts_end : Ends parts_text
  parts_end =
      texts_ends (λ k. part_text (part_at load_form k) (held_in parts k))
      (λ k rest b. part_ends (part_at load_form k) (held_in parts k) rest b) part_count (line_end ∷ []) line_ends

  module _ (text : List ℕ) (e : text ≡ load_name ++ parts_text) where
    read : ReadStands text (form_after load_form text (length load_name)) (list_below part_count (held_in parts))
        (line_end ∷ [])
    read =
        form_back load_form parts text (length load_name) (line_end ∷ []) load_shows (parts_taken ledger m) line_ends
        (ap (λ (t : List ℕ). drop (length load_name) t) e)

    loaded : Ok (read_of ledger read.next) ≡ ledger_after text 0 (empty_ledger 0)
    unfolding ledger_after
    loaded =
        let found = load_command parts_text parts_end ∙ ap (λ (t : List ℕ). command_after t 0) (sym e) in
        let same = ap loaded_ledger (parts_whole ledger) ∙ loaded_back ledger m in
        rw (← found, read.read) (ap (λ (l : Ledger). Ok (read_of l read.next)) (sym same))

    ended : Ok (read_of ledger (length text)) ≡ ledger_after text read.next ledger
    unfolding ledger_after
    ended = rw (← end_command text read.next read.after) refl

    read_back : replay_from (length text) text 0 (empty_ledger 0) ≡ read_with ledger (length text)
    read_back =
        ap (λ (k : ℕ). replay_from k text 0 (empty_ledger 0)) (sym (sub-zero (length text)))
        ∙ replay_on text 0 (rw e (omega arith)) (empty_ledger 0) (read_of ledger read.next) loaded
        ∙ replay_on text read.next (place_within text read.next line_end [] read.after) ledger
        (read_of ledger (length text)) ended
        ∙ replay_none (length text - length text) text (length text) ledger (omega arith)

-- what `save` prints, a journal takes back as the same ledger
pub saved_text_loads : (ledger : Ledger) → MachineLedger ledger →
    replayed (saving_text ledger) ≡ read_with ledger (length (saving_text ledger))
saved_text_loads ledger m =
    sym (short (saving_text ledger) (omega (arith, saving_size ledger))
    (sym (read_back ledger m (saving_text ledger) (saved_text ledger m))))
