-- The invariant: the first k parts are read, each list where the longest ones before it would end;
-- the words from there on are as they were lent.
use mathlib.Core.Path.{◌≡◌, ap}
use Prim.Native.Nat.{◌+◌, ◌*◌, ◌^◌, ◌≤◌, ◌<◌}
use native.Mathlib.Omega.{arith}
use lib.ListN.{length}
use Rattle.journal.specs.Form.{part_count, place_of}
use Rattle.journal.proofs.FormLaws.{form_none, form_fits, few_words, few_broken, form_broken, form_more, form_whole}
use Rattle.journal.proofs.form.form_after.Goals as goal
use Rattle.journal.proofs.form.form_after.Goals.{After-room, At-loop-k}

pub loop-k-init : goal.loop-k-init
loop-k-init c = rw c.of_number-parts.ensures (form_none _ _ _ _)

-- the words of the whole form have room, in fewer than 2^63 bytes
module _ (a : At-loop-k) where
  room : place_of a.args.form.now part_count ≤ length a.loop-k.words
  room = omega (arith, a.requires.room, a.loop-k.auto.words)

  short : length a.loop-k.words * 8 < 2 ^ 63
  short = omega (arith, a.well_formed.1.1.1.0.1, a.loop-k.auto.words)

-- the part's room lies within the words
module _ (r : After-room) where
  inside : r.loop-k.k < part_count
  inside = omega (arith, r.requires.few)

  fits : r.loop-k.start + r.room.result ≤ length r.loop-k.words
  fits =
      rw r.room.ensures
      (form_fits _ _ _ _ r.loop-k.invariant (omega (arith, r.requires.room, r.loop-k.auto.words)) inside)

pub overflow_add-room : goal.overflow_add-room
overflow_add-room c =
    let g = goal.at.overflow_add-room c in omega (arith, fits g.After-room, short g.At-loop-k)

pub offset_bounds-words-start : goal.offset_bounds-words-start
offset_bounds-words-start c =
    let g = goal.at.offset_bounds-words-start c in omega (arith, fits g.After-room, short g.At-loop-k)

pub slice_bounds-read-end : goal.slice_bounds-read-end
slice_bounds-read-end c = fits (goal.at.slice_bounds-read-end c).After-room

pub overflow_add-end-in-Err : goal.overflow_add-end-in-Err
overflow_add-end-in-Err c =
    let r = (goal.at.overflow_add-end-in-Err c).After-room in
    let broken = rw c.in-Err.is at c.read.ensures in
    omega (
      arith,
      short (goal.at.overflow_add-end-in-Err c).At-loop-k,
      c.count-in-Err.ensures,
      fits r,
      few_broken _ _ _ _ c.loop-k.invariant (inside r) _ (ap (λ room. c.loop-k.start + room) c.room.ensures) (fits r) _
          broken,
    )

pub returns-in-Err : goal.returns-in-Err
returns-in-Err c =
    let r = (goal.at.returns-in-Err c).After-room in
    form_broken _ _ _ _ c.loop-k.invariant (inside r) _ (ap (λ room. c.loop-k.start + room) c.room.ensures) (fits r)
    c.read.new.into (rw c.in-Err.is at c.read.ensures) (omega arith) _
    (ap (λ count. c.loop-k.start + count) c.count-in-Err.ensures)

pub overflow_add-end : goal.overflow_add-end
overflow_add-end c =
    let r = (goal.at.overflow_add-end c).After-room in
    omega (
      arith,
      short (goal.at.overflow_add-end c).At-loop-k,
      c.count.ensures,
      fits r,
      few_words _ _ _ _ c.loop-k.invariant (inside r) _ (ap (λ room. c.loop-k.start + room) c.room.ensures) (fits r) _ _
          (rw c.in-Ok.is at c.read.ensures),
    )

pub loop-k-preserved : goal.loop-k-preserved
loop-k-preserved c =
    let r = (goal.at.loop-k-preserved c).After-room in
    form_more _ _ _ _ c.loop-k.invariant (inside r) _ (ap (λ room. c.loop-k.start + room) c.room.ensures) (fits r) _ _
    (rw c.in-Ok.is at c.read.ensures) _ (ap (λ count. c.loop-k.start + count) c.count.ensures)

pub returns : goal.returns
returns c =
    let last : c.loop-k.k ≡ length c.args.form.now = omega arith in
    form_whole _ _ _ _ (rw last at c.loop-k.invariant) c.requires.few (room (goal.at.returns c).At-loop-k)
