-- `text::text` meets its contract. Assumes nothing.
use mathlib.Core.Logic.{inl, inr}
use native.Mathlib.Omega.{arith}
use Rattle.lines.proofs.Texts.{text_start, text_next, text_end}
use Rattle.lines.proofs.text.text.Goals as goal
use Rattle.lines.proofs.text.text.Goals.{else-at-i, then-at-i}

pub loop-i-init : goal.loop-i-init
loop-i-init c = text_start _ _ _

pub loop-i-preserved : goal.loop-i-preserved
loop-i-preserved c = text_next _ _ _ _ _ c.loop-i.invariant c.loop-i-test.true _ (elim c.if-at-i.branch [ then-at-i w ↦ inl (w.if-at-i.true, w.out-is) | else-at-i w ↦ inr (w.if-at-i.false, w.out-is) ])

pub returns : goal.returns
returns c = text_end _ _ _ _ _ c.loop-i.invariant c.requires.1 (omega (arith, c.loop-i-test.false, c.loop-i.auto.i-end))
