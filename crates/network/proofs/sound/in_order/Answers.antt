-- `sound::in_order` meets its contract. Assumes nothing.
use Rattle.network.proofs.SoundTests.Counting.{falls_end, falls_next, falls_fails}
use Rattle.network.proofs.sound.in_order.Goals as goal
use Rattle.network.proofs.sound.in_order.Invariants.{call_of}

pub returns-then-place-last : goal.returns-then-place-last
returns-then-place-last c = falls_fails (call_of c.args.calls.now) _ _ _ _ c.loop-h.invariant _ c.loop-h-test.true _ c.call_place-place.ensures c.if-place-last.true

pub loop-h-preserved : goal.loop-h-preserved
loop-h-preserved c = falls_next (call_of c.args.calls.now) _ _ _ _ c.loop-h.invariant _ c.loop-h-test.true _ c.call_place-place.ensures c.if-place-last.false

pub returns : goal.returns
returns c = falls_end (call_of c.args.calls.now) _ _ _ _ c.loop-h.invariant c.loop-h-test.false
