-- `pack::row` meets its contract. Assumes nothing.
use Rattle.std.proofs.Common.{◌≡◌, ◌≤◌, refl, length, rules, arith}
use Rattle.std.proofs.lemmas.List.{take_rest}
use Rattle.network.proofs.SoundTests.Holding.{length_mapped}
use Rattle.network.proofs.Offers.Packing.{packing_start, packing_next, packing_end, arms_within}
use Rattle.network.proofs.pack.row.Goals as goal

pub loop-i-init : goal.loop-i-init
loop-i-init c = rw c.from.ensures (packing_start _ _ _ _ refl)

pub slice_bounds-checkers-count : goal.slice_bounds-checkers-count
slice_bounds-checkers-count c = omega (arith, arms_within _ _ _ c.bound_first-arms.ensures)

pub slice_bounds-checkers-start : goal.slice_bounds-checkers-start
slice_bounds-checkers-start c =
    let within : c.from-in-loop-i.result ≤ length c.loop-i.checkers.now = omega (arith, arms_within _ _ _ c.bound_first-arms.ensures) in
    search (rules, within)

pub loop-i-preserved : goal.loop-i-preserved
loop-i-preserved c =
    let calls : length c.args.state.calls ≡ 16 = search (rules, length_mapped) in
    rw (take_rest, c.from-in-loop-i.ensures) (packing_next _ _ _ _ _ _ c.loop-i.invariant (omega arith) (omega arith) calls _ _ c.bound_first-arms.ensures _ c.put.ensures)

pub returns : goal.returns
returns c = packing_end _ _ _ _ _ _ c.loop-i.invariant (omega arith)
