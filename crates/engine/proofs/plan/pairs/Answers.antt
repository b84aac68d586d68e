-- `plan::pairs` meets its contract. Assumes nothing.
use mathlib.Core.Path.{ap, ◌∙◌}
use Prim.Native.Nat.{ℕ, min}
use Rattle.engine.proofs.Plans.Linking.{pairing_start, pairing_next, pairing_end}
use Rattle.engine.proofs.plan.pairs.Goals as goal

pub loop-left-init : goal.loop-left-init
loop-left-init c = pairing_start _ _ _ _ _ _

pub loop-left-preserved : goal.loop-left-preserved
loop-left-preserved c = pairing_next _ _ _ _ _ _ _ _ _ _ c.loop-left.invariant c.loop-left-test.true _ c.pair_at-p.ensures _ c.text.ensures _ c.from.ensures _ c.pick.ensures

pub returns : goal.returns
returns c =
    let a = c.args in
    pairing_end a.s.now a.conditions.now a.i a.at _ a.plan.now _ _ _ _ c.loop-left.invariant c.loop-left-test.false (c.at_most-n.ensures.0 ∙ ap (λ (m : ℕ). min m 4) c.byte_at.ensures) _ c.pick-2.ensures
