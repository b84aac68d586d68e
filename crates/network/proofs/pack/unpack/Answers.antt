-- `pack::unpack` meets its contract. Assumes nothing.
use Rattle.std.proofs.Common.{refl, arith}
use Rattle.network.proofs.Offers.Packing.{arms_few, unpacking_start, unpacking_next, unpacking_end}
use Rattle.network.proofs.pack.unpack.Goals as goal

pub loop-i-init : goal.loop-i-init
loop-i-init c = unpacking_start _ _ _ _ _ (rw c.no_call-calls.ensures) refl

pub append-living-requires : goal.append-living-requires
append-living-requires c = (omega arith, arms_few _ _ (omega arith) _ c.arms_at-arms.ensures)

pub loop-i-preserved : goal.loop-i-preserved
loop-i-preserved c = unpacking_next _ _ _ _ _ _ _ c.loop-i.invariant (omega arith) (omega arith) _ c.call_at-call.ensures _ c.arms_at-arms.ensures _ _ c.append-living.ensures

pub returns : goal.returns
returns c =
    let a = c.args in
    unpacking_end a.run a.row.now a.variables.now a.programs a.monitors _ _ _ _ c.loop-i.invariant (omega arith) _ _ c.front.ensures c.eight-w.ensures
