-- The smaller total is what the definition transfers, and the month moved by both sides' shares is the month settled.
use mathlib.Core.Path.{◌≡◌, ◌∙◌, ap₂}
use mathlib.Core.Bool.{true, false}
use Prim.Native.Nat.{ℕ, min}
use native.Mathlib.Omega.{arith}
use lib.IntN.{ℤ}
use Rattle.settlement.specs.Share.{side_total}
use Rattle.settlement.specs.Settlement.{owing, owed, side_size, transferred}
use Rattle.settlement.specs.Month.{money_at, share_list, moved_month}
use Rattle.settlement.specs.Required.{Side}
use Rattle.settlement.proofs.MonthLaws.{sizes_total, sizes_within, shares_within, moved_settled}
use Rattle.settlement.proofs.month.settle_positions.Goals as goal
use Rattle.settlement.proofs.month.settle_positions.Goals.{After-side_sizes-owed, After-min-transferred}

-- the two sides
module _ (c : After-side_sizes-owed) where
  owing_side : Side c.args.n c.side_sizes-owing.result
  owing_side = sizes_within c.args.n c.args.positions c.requires false _ c.side_sizes-owing.ensures

  owed_side : Side c.args.n c.side_sizes-owed.result
  owed_side = sizes_within c.args.n c.args.positions c.requires true _ c.side_sizes-owed.ensures

-- their totals, and the smaller one
module _ (c : After-min-transferred) where
  abbrev n : ℕ
  n = c.args.n

  abbrev position : ℕ → ℤ
  position = money_at c.args.positions

  owing_total : c.side_total-owing_total.result ≡ side_total n (owing position)
  unfolding side_size
  owing_total =
      sizes_total n c.requires.few (side_size false position) _ _ c.side_sizes-owing.ensures
      c.side_total-owing_total.ensures

  owed_total : c.side_total-owed_total.result ≡ side_total n (owed position)
  unfolding side_size
  owed_total =
      sizes_total n c.requires.few (side_size true position) _ _ c.side_sizes-owed.ensures
      c.side_total-owed_total.ensures

  smaller : c.min-transferred.result ≡ transferred n position
  unfolding transferred
  smaller = c.min-transferred.ensures ∙ ap₂ min owing_total owed_total

pub side_total-owing_total-requires : goal.side_total-owing_total-requires
side_total-owing_total-requires c = owing_side (goal.at.side_total-owing_total-requires c).After-side_sizes-owed

pub side_total-owed_total-requires : goal.side_total-owed_total-requires
side_total-owed_total-requires c = owed_side (goal.at.side_total-owed_total-requires c).After-side_sizes-owed

pub shares-paid-requires : goal.shares-paid-requires
shares-paid-requires c =
    record {
      side = owing_side (goal.at.shares-paid-requires c).After-side_sizes-owed;
      whole = c.side_total-owing_total.ensures;
      most = omega arith;
    }

pub shares-received-requires : goal.shares-received-requires
shares-received-requires c =
    record {
      side = owed_side (goal.at.shares-received-requires c).After-side_sizes-owed;
      whole = c.side_total-owed_total.ensures;
      most = omega arith;
    }

pub moved-requires : goal.moved-requires
moved-requires c =
    let s = (goal.at.moved-requires c).After-side_sizes-owed in
    let t = (goal.at.moved-requires c).After-min-transferred in
    record {
      within = c.requires;
      paid = shares_within (n t) _ _ (owing_side s) (omega arith) _
          c.shares-paid.ensures;
      received = shares_within (n t) _ _ (owed_side s) (omega arith) _
          c.shares-received.ensures;
    }

pub returns : goal.returns
returns c =
    let t = (goal.at.returns c).After-min-transferred in
    c.moved.ensures
    ∙ ap₂ (moved_month (n t) c.args.positions)
    (c.shares-paid.ensures ∙ ap₂ (share_list (n t)) c.side_sizes-owing.ensures (smaller t))
    (c.shares-received.ensures ∙ ap₂ (share_list (n t)) c.side_sizes-owed.ensures (smaller t))
    ∙ moved_settled (n t) c.args.positions c.requires
