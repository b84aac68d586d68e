-- `event::moved` meets its contract. Assumes nothing.
use mathlib.Core.Path.{◌∙◌}
use Rattle.engine.proofs.InWords.Taking.{stays, leads, no_action, action_taken}
use Rattle.engine.proofs.event.moved.Goals as goal
use Rattle.engine.proofs.event.moved.Goals.{else-at-eq0, then-at-eq0}

pub returns-after-at-eq0 : goal.returns-after-at-eq0
returns-after-at-eq0 c =
    let a = c.args in
    let h = c.if-t-lt96.true in
    let e = c.from-at.ensures in
    let main = leads a.s.now a.plan.now a.t a.main a.values.now a.variables.now h in
    elim c.if-at-eq0.branch [
      | then-at-eq0 w ↦ let r = no_action a.s.now a.plan.now a.t a.main a.values.now a.variables.now h _ e w.if-at-eq0.true in
          (main, w.variables-is ∙ r.0, w.count-is ∙ r.1)
      | else-at-eq0 w ↦ let r = action_taken a.s.now a.plan.now a.t a.main a.values.now a.variables.now h _ e w.if-at-eq0.false _ w.from.ensures _ w.front-program.ensures _ w.from-else-at-eq0.ensures _ _ w.perform_at-count.ensures in
          (main, w.variables-is ∙ r.0, w.count-is ∙ r.1)
    ]

pub returns-else-t-lt96 : goal.returns-else-t-lt96
returns-else-t-lt96 c =
    let a = c.args in
    stays a.s.now a.plan.now a.t a.main a.values.now a.variables.now c.if-t-lt96.false
