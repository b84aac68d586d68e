-- `event::lowest_failing` meets its contract. Assumes nothing.
use mathlib.Core.Path.{◌≡◌}
use Prim.Native.Nat.{◌+◌, ◌≤◌}
use borrow.Author.Rules.{rules}
use native.Mathlib.Omega.{arith}
use lib.ListN.{length}
use Rattle.engine.proofs.InWords.Failing.{judging_start, judging_end, judging_fits, judging_fails, judging_holds}
use Rattle.engine.proofs.event.lowest_failing.Goals as goal
use Rattle.engine.proofs.event.lowest_failing.Goals.{else-held, then-held}

pub loop-i-init : goal.loop-i-init
loop-i-init c = judging_start _ _ _ _ _ _ _ _

pub overflow_add-evaluated : goal.overflow_add-evaluated
overflow_add-evaluated c =
    let a = c.args in
    let long : length a.row.now ≡ 256 = search rules in
    let room : a.at + 16 ≤ length a.row.now = omega (arith, long, c.requires) in
    let small = judging_fits _ _ _ _ _ _ _ _ _ _ _ c.loop-i.invariant c.loop-i-test.true c.four-count.ensures.1 room _ c.post.ensures _ _ c.holds-held.ensures in
    search (rules, small)

pub loop-i-preserved : goal.loop-i-preserved
loop-i-preserved c =
    let a = c.args in
    let long : length a.row.now ≡ 256 = search rules in
    let room : a.at + 16 ≤ length a.row.now = omega (arith, long, c.requires) in
    let g = c.loop-i.invariant in
    let h = c.loop-i-test.true in
    let few = c.four-count.ensures.1 in
    elim c.if-held.branch [ then-held w ↦ rw w.number-is (judging_holds _ _ _ _ _ _ _ _ _ _ _ g h few room _ c.post.ensures _ _ c.holds-held.ensures w.if-held.true) | else-held w ↦ rw w.number-is (judging_fails _ _ _ _ _ _ _ _ _ _ _ g h few room _ c.post.ensures _ _ c.holds-held.ensures w.if-held.false _ w.lesser-number.ensures) ]

pub returns : goal.returns
returns c = judging_end _ _ _ _ _ _ _ _ _ _ _ c.loop-i.invariant c.loop-i-test.false c.four-count.ensures.0 _ c.from.ensures c.front-kept.ensures
