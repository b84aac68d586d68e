-- `plan::triples` meets its contract. Assumes nothing.
use native.Mathlib.Omega.{arith}
use Rattle.engine.proofs.Plans.Linking.{tripling_start, tripling_few, tripling_next, tripling_end}
use Rattle.engine.proofs.plan.triples.Goals as goal

pub loop-i-init : goal.loop-i-init
loop-i-init c = tripling_start _ _ _ _ _

pub overflow_sub-here : goal.overflow_sub-here
overflow_sub-here c = omega (arith, c.loop-i.invariant.there, c.loop-i-test.true)

pub triple-requires : goal.triple-requires
triple-requires c =
    let b = c in
    omega (arith, b.requires.0, tripling_few _ _ _ _ _ _ _ _ c.loop-i.invariant, c.loop-i-test.true)

pub loop-i-preserved : goal.loop-i-preserved
loop-i-preserved c = tripling_next _ _ _ _ _ _ _ _ c.loop-i.invariant c.loop-i-test.true _ c.triple.ensures

pub returns : goal.returns
returns c = tripling_end _ _ _ _ _ _ _ _ c.loop-i.invariant c.loop-i-test.false
