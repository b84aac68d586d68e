-- `pack::row` meets its contract. Assumes nothing.
use Rattle.std.proofs.Common.{◌≡◌, refl, length, rules, arith}
use Rattle.monitor.proofs.SoundTests.Checks.{length_mapped}
use Rattle.monitor.proofs.Offers.Packed.{packing_start, packing_next}
use Rattle.monitor.proofs.pack.row.Goals as goal

pub loop-i-init : goal.loop-i-init
loop-i-init c = packing_start _ _ _ _ refl

pub loop-i-preserved : goal.loop-i-preserved
loop-i-preserved c =
    let w = c.args.state in
    let calls : length w.calls ≡ 16 = search (rules, length_mapped) in
    let arms : length w.arms ≡ 16 = search (rules, length_mapped) in
    packing_next _ _ _ _ _ c.loop-i.invariant (omega arith) (omega arith) calls arms _ _ _ c.from.ensures _ c.put.ensures
