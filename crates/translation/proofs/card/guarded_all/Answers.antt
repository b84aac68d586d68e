-- `card::guarded_all` meets its contract. Assumes nothing.
use native.Mathlib.Omega.{arith}
use Rattle.translation.proofs.Cards.Guarding.{guards_start, guards_within, guards_room, guards_next, guards_end}
use Rattle.translation.proofs.card.guarded_all.Goals as goal

pub loop-k-init : goal.loop-k-init
loop-k-init c = guards_start _ _ _ _ _ _

pub guarded-here-requires : goal.guarded-here-requires
guarded-here-requires c =
    let pre = c.requires in
    (guards_within _ _ _ _ _ _ _ _ _ _ c.loop-k.invariant c.loop-k-test.true pre.0, pre.1, guards_room _ _ _ _ _ _ _ _ _ _ c.loop-k.invariant c.loop-k-test.true pre.3)

pub size_at-place-requires : goal.size_at-place-requires
size_at-place-requires c =
    let pre = c.requires in
    let within = guards_within _ _ _ _ _ _ _ _ _ _ c.loop-k.invariant c.loop-k-test.true pre.0 in
    omega (arith, within, pre.1)

pub overflow_add-place : goal.overflow_add-place
overflow_add-place c =
    let pre = c.requires in
    let within = guards_within _ _ _ _ _ _ _ _ _ _ c.loop-k.invariant c.loop-k-test.true pre.0 in
    record { fits = omega (arith, within, pre.1, c.size_at-place.ensures.0) }

pub loop-k-preserved : goal.loop-k-preserved
loop-k-preserved c = guards_next _ _ _ _ _ _ _ _ _ _ c.loop-k.invariant c.loop-k-test.true _ c.size_at-place.ensures.0 _ _ c.guarded-here.ensures

pub returns : goal.returns
returns c = guards_end _ _ _ _ _ _ _ _ _ _ c.loop-k.invariant c.loop-k-test.false
