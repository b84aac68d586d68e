-- `plan::places` meets its contract. Assumes nothing.
use native.Mathlib.Omega.{arith}
use Rattle.engine.proofs.Plans.Linking.{placing_start, placing_near, placing_next, placing_end}
use Rattle.engine.proofs.plan.places.Goals as goal

pub loop-i-init : goal.loop-i-init
loop-i-init c = placing_start _ _ _ _ c.requires.1 c.requires.0

pub size-here-requires : goal.size-here-requires
size-here-requires c = placing_near _ _ _ _ c.requires.1 c.requires.0 _ _ _ c.loop-i.invariant

pub overflow_add-here : goal.overflow_add-here
overflow_add-here c = record { fits = omega (arith, c.size-here.ensures.1, placing_near _ _ _ _ c.requires.1 c.requires.0 _ _ _ c.loop-i.invariant) }

pub loop-i-preserved : goal.loop-i-preserved
loop-i-preserved c = placing_next _ _ _ _ c.requires.1 c.requires.0 _ _ _ c.loop-i.invariant c.loop-i-test.true _ c.size-here.ensures.0 c.size-here.ensures.1

pub returns : goal.returns
returns c = placing_end _ _ _ _ c.requires.1 c.requires.0 _ _ _ c.loop-i.invariant c.loop-i-test.false
