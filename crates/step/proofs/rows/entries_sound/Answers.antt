-- `rows::entries_sound` meets its contract. Assumes nothing.
use Rattle.step.specs.declared.Call.{Call}
use Rattle.step.proofs.OnLists.Rising.{climbs_start, climbing_end, climbing_next, climbing_low, climbing_high}
use Rattle.step.proofs.rows.entries_sound.Goals as goal

pub loop-c-init : goal.loop-c-init
loop-c-init c = climbs_start _ _

pub returns-then-c-last : goal.returns-then-c-last
returns-then-c-last c = climbing_low (λ (x : Call). x.entry) _ _ _ _ c.loop-c.invariant _ c.loop-c-test.true c.if-c-last.true

pub returns-then-position-c : goal.returns-then-position-c
returns-then-position-c c = climbing_high (λ (x : Call). x.entry) _ _ _ _ c.loop-c.invariant _ c.loop-c-test.true c.if-position-c.true

pub loop-c-preserved : goal.loop-c-preserved
loop-c-preserved c = climbing_next (λ (x : Call). x.entry) _ _ _ _ c.loop-c.invariant _ c.loop-c-test.true c.if-c-last.false c.if-position-c.false

pub returns : goal.returns
returns c = climbing_end (λ (x : Call). x.entry) _ _ _ _ c.loop-c.invariant c.loop-c-test.false
