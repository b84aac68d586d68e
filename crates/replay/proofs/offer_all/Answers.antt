-- `offer_all` meets its contract. Assumes nothing.
use native.Mathlib.Omega.{arith}
use Rattle.replay.proofs.Following.{offering_start, offering_end, offering_room, offering_next}
use Rattle.replay.proofs.offer_all.Goals as goal

pub loop-at-init : goal.loop-at-init
loop-at-init c =
    let b = c in
    let a = b.args in
    offering_start a.network.now a.programs a.log.now a.answers.now _ _ b.requires.0 c.record_size-size.ensures c.word_at-end.ensures c.word_at-end.type_inv _ c.fresh-fresh.ensures.state_value

pub overflow_add-i : goal.overflow_add-i
overflow_add-i c =
    let g = c.loop-at.invariant in
    omega (arith, g.low, g.fits, c.loop-at-test.true)

pub overflow_add-at : goal.overflow_add-at
overflow_add-at c =
    let (room, some) = offering_room _ _ _ _ _ _ _ _ _ _ c.loop-at.invariant c.loop-at-test.true in
    omega (arith, room, c.loop-at.invariant.fits)

pub loop-at-smaller : goal.loop-at-smaller
loop-at-smaller c =
    let (room, some) = offering_room _ _ _ _ _ _ _ _ _ _ c.loop-at.invariant c.loop-at-test.true in
    omega (arith, room, some)

pub loop-at-preserved : goal.loop-at-preserved
loop-at-preserved c = offering_next _ _ _ _ _ _ _ _ _ _ c.loop-at.invariant c.loop-at-test.true c.offer_at-next.result c.offer_at-next.ensures.answer_value c.offer_at-next.ensures.state_value _ c.number.ensures _ c.put.ensures

pub returns : goal.returns
returns c = offering_end _ _ _ _ _ _ _ _ _ _ c.loop-at.invariant c.loop-at-test.false
