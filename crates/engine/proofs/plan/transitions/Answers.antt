-- `plan::transitions` meets its contract. Assumes nothing.
use native.Mathlib.Omega.{arith}
use borrow.Author.Tests.{leb-true}
use lib.Dec.{leb}
use Rattle.sheet.proofs.Tables.{every_at}
use Rattle.engine.proofs.Plans.Linking.{turn_alone, turn_paired, turning_start, turning_few, turning_next, turning_end}
use Rattle.engine.proofs.plan.transitions.Goals as goal

pub loop-i-init : goal.loop-i-init
loop-i-init c = turning_start _ _ _ _ _ _ c.requires.1 _

pub offset_bounds-places-i : goal.offset_bounds-places-i
offset_bounds-places-i c = record { fits = omega (arith, c.requires.0, turning_few _ _ _ _ _ _ c.requires.1 _ _ _ c.loop-i.invariant) }

pub bounds-places-i : goal.bounds-places-i
bounds-places-i c = omega (arith, c.requires.0, turning_few _ _ _ _ _ _ c.requires.1 _ _ _ c.loop-i.invariant, c.loop-i-test.true)

pub transition-requires : goal.transition-requires
transition-requires c = omega (arith, c.requires.0, turning_few _ _ _ _ _ _ c.requires.1 _ _ _ c.loop-i.invariant, c.loop-i-test.true)

pub pairs-requires : goal.pairs-requires
pairs-requires c =
    let start = c in
    let few = turning_few _ _ _ _ _ _ start.requires.1 _ _ _ c.loop-i.invariant in
    (omega (arith, start.requires.0, few, c.loop-i-test.true), leb-true _ 1000000 (every_at (λ x. leb x 1000000) start.args.places.now _ 0 start.requires.2 (omega (arith, start.requires.1, few, c.loop-i-test.true))))

pub loop-i-preserved-then-paired : goal.loop-i-preserved-then-paired
loop-i-preserved-then-paired c =
    let start = c in
    turning_next _ _ _ _ _ _ start.requires.1 _ _ _ c.loop-i.invariant c.loop-i-test.true _ (turn_paired _ _ _ _ _ _ _ _ c.transition.ensures c.if-paired.true _ c.pairs.ensures)

pub loop-i-preserved : goal.loop-i-preserved
loop-i-preserved c =
    let start = c in
    turning_next _ _ _ _ _ _ start.requires.1 _ _ _ c.loop-i.invariant c.loop-i-test.true _ (turn_alone _ _ _ _ _ _ _ _ c.transition.ensures c.if-paired.false)

pub returns : goal.returns
returns c = turning_end _ _ _ _ _ _ c.requires.1 _ _ _ c.loop-i.invariant c.loop-i-test.false
