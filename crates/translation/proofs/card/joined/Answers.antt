-- `card::joined` meets its contract. Assumes nothing.
use mathlib.Core.Path.{sym, ◌∙◌}
use native.Mathlib.Omega.{arith}
use Rattle.translation.proofs.Cards.Joining.{joining_start, joining_small, joining_there, joining_room_two, joining_room_old, joining_next, joining_other, joining_room_own, joining_end}
use Rattle.translation.proofs.card.joined.Goals as goal
use Rattle.translation.proofs.card.joined.Goals.{else-same, then-same}

pub loop-init : goal.loop-init
loop-init c = joining_start c.requires.0 _ _ _ _

pub put-next-requires : goal.put-next-requires
put-next-requires c =
    let pre = c.requires in
    joining_room_two pre.0 _ _ _ _ _ _ _ _ c.loop.invariant c.loop-test.true pre.1 _ c.transition_at-u.ensures (sym c.same.ensures ∙ c.if-same.true) pre.3

pub condition-here-requires : goal.condition-here-requires
condition-here-requires c =
    let pre = c.requires in
    let g = c.loop.invariant in
    let h = c.loop-test.true in
    let e = c.transition_at-u.ensures in
    (pre.0, joining_there pre.0 _ _ _ _ _ _ _ _ g h pre.1 _ e, joining_room_old pre.0 _ _ _ _ _ _ _ _ g h pre.1 _ e (sym c.same.ensures ∙ c.if-same.true) _ _ c.put-next.ensures pre.3)

pub size_at-place-requires : goal.size_at-place-requires
size_at-place-requires c = (joining_small c.requires.0 _ _ _ _ _ _ _ _ c.loop.invariant c.loop-test.true c.requires.1).0

pub overflow_add-place : goal.overflow_add-place
overflow_add-place c = record { fits = omega (arith, (joining_small c.requires.0 _ _ _ _ _ _ _ _ c.loop.invariant c.loop-test.true c.requires.1).1, c.size_at-place.ensures.0) }

pub loop-preserved : goal.loop-preserved
loop-preserved c =
    let pre = c.requires in
    let g = c.loop.invariant in
    let h = c.loop-test.true in
    let e = c.transition_at-u.ensures in
    let s = c.same.ensures in
    rw c.size_at-place.ensures.0
    (elim c.if-same.branch [ then-same w ↦ rw (w.out-is, w.here-is) (joining_next pre.0 _ _ _ _ _ _ _ _ g h pre.1 _ e (sym s ∙ w.if-same.true) _ _ w.put-next.ensures _ _ w.condition-here.ensures) | else-same w ↦ rw (w.out-is, w.here-is) (joining_other pre.0 _ _ _ _ _ _ _ _ g h pre.1 _ e (sym s ∙ w.if-same.false)) ])

pub condition-requires : goal.condition-requires
condition-requires c =
    let pre = c.requires in
    (pre.0, pre.2, joining_room_own pre.0 _ _ _ _ _ _ _ _ c.loop.invariant c.loop-test.false pre.3)

pub returns : goal.returns
returns c = joining_end c.requires.0 _ _ _ _ _ _ _ _ c.loop.invariant c.loop-test.false _ _ c.condition.ensures
