-- `write::back` meets its contract. Assumes nothing.
use native.Mathlib.Omega.{arith}
use Rattle.translation.proofs.Sheets.Adding.{back_none, back_room, back_some}
use Rattle.translation.proofs.write.back.Goals as goal

pub returns-then-count-eq0 : goal.returns-then-count-eq0
returns-then-count-eq0 c =
    let a = c.args in
    back_none a.f a.state a.unit _ a.s.now c.count.ensures c.if-count-eq0.true _ _

pub base-next-requires : goal.base-next-requires
base-next-requires c =
    let start = c in
    let room = back_room start.args.f start.args.state start.args.unit _ start.args.s.now c.count.ensures c.if-count-eq0.false _ start.requires.1 in
    omega (arith, room)

pub with_pairs-requires : goal.with_pairs-requires
with_pairs-requires c =
    let start = c in
    let room = back_room start.args.f start.args.state start.args.unit _ start.args.s.now c.count.ensures c.if-count-eq0.false _ start.requires.1 in
    (start.requires.0, omega (arith, room, c.base-next.ensures.next))

pub returns : goal.returns
returns c =
    let a = c.args in
    back_some a.f a.state a.unit _ a.s.now c.count.ensures
    c.if-count-eq0.false a.spot c.base-next.ensures c.with_pairs.ensures
