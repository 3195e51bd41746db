-- The invariant: the rest of the journal leads from the ledger at hand to the journal's ledger.
use mathlib.Core.Path.{◌≡◌, sym, ◌∙◌, ap₂}
use Prim.Native.Nat.{◌-◌, ◌<◌}
use native.Mathlib.Omega.{arith}
use lib.ListN.{length}
use Rattle.commands.specs.Replay.{replay_from}
use Rattle.commands.proofs.ReplayLaws.{ledger_later, replay_none, replay_broken, replay_on, opened_none, short}
use Rattle.commands.proofs.run.run_commands.Goals as goal

pub loop-at-init : goal.loop-at-init
loop-at-init c =
    let text = c.args.text.now in
    let whole : length text - 0 ≡ length text = omega arith in
    ap₂ (λ k ledger. replay_from k text 0 ledger) whole (c.open.ensures.opened ∙ opened_none)

pub loop-at-smaller : goal.loop-at-smaller
loop-at-smaller c =
    let inside : c.loop-at.at < length c.args.text.now = omega arith in
    let later = ledger_later c.args.text.now c.loop-at.at inside c.loop-at.ledger c.in-Ok.after (sym c.in-Ok.ensures.booked) in
    omega (arith, inside, later)

pub loop-at-preserved : goal.loop-at-preserved
loop-at-preserved c =
    sym (replay_on c.args.text.now c.loop-at.at (omega arith) c.loop-at.ledger c.in-Ok.after c.in-Ok.ensures.booked)
    ∙ c.loop-at.invariant

pub returns-in-Err : goal.returns-in-Err
returns-in-Err c =
    short c.args.text.now c.requires
    (sym (replay_broken c.args.text.now c.loop-at.at (omega arith) c.loop-at.ledger c.in-Err.broken c.in-Err.ensures.booked)
    ∙ c.loop-at.invariant)

pub returns : goal.returns
returns c =
    let text = c.args.text.now in
    short text c.requires
    (sym (replay_none (length text - c.loop-at.at) text c.loop-at.at c.loop-at.ledger (omega arith))
    ∙ c.loop-at.invariant)
