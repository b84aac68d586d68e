-- `event::arm` meets its contract. Assumes nothing.
use mathlib.Core.List.{[]}
use native.Mathlib.Omega.{arith}
use borrow.Author.Rules.{rules}
use Rattle.condition.specs.Meaning.{environment}
use Rattle.engine.proofs.InWords.Chains.{armed_past, armed_here, armed_behind, asked_next, asked_fits, asked_end}
use Rattle.engine.proofs.InWords.Arming.{storing_start, storing_store, storing_past, storing_leave, storing_end}
use Rattle.engine.proofs.event.arm.Goals as goal
use Rattle.engine.proofs.event.arm.Goals.{else-count-lt-MOST_ARMED, else-held, then-count-lt-MOST_ARMED, then-held}

pub loop-i-init : goal.loop-i-init
loop-i-init c = (storing_start _ _ _ _, omega arith)

pub overflow_add-evaluated : goal.overflow_add-evaluated
overflow_add-evaluated c =
    let small = asked_fits _ _ _ _ _ _ c.loop-i.invariant.1 c.loop-i-test.true _ c.from-asked.ensures _ c.holds-held.ensures.1 in
    search (rules, small)

pub loop-i-preserved : goal.loop-i-preserved
loop-i-preserved c =
    let a = c.args in
    let E = environment a.program.now a.monitor.now [] in
    let (g, counted) = c.loop-i.invariant in
    let i = c.loop-i.i in
    let h = c.loop-i-test.true in
    let e = c.from-asked.ensures in
    let (held, much) = c.holds-held.ensures in
    let next = c.from-in-loop-i.ensures in
    let all = asked_next a.s.now a.plan.now E _ i _ counted h _ e _ much _ next in
    elim c.if-held.branch [
      | then-held w ↦ let t = armed_here a.s.now a.plan.now E i h _ e _ held _ next w.if-held.true in
          elim w.if-count-lt-MOST_ARMED.branch [ then-count-lt-MOST_ARMED v ↦ rw (w.row-is, w.count-is, w.to-is, v.row-is, v.to-is) (storing_store _ _ _ _ _ _ _ _ g _ _ t _ _ v.from.ensures v.if-count-lt-MOST_ARMED.true, all) | else-count-lt-MOST_ARMED v ↦ rw (w.row-is, w.count-is, w.to-is, v.row-is, v.to-is) (storing_past _ _ _ _ _ _ _ _ g _ _ t _ v.if-count-lt-MOST_ARMED.false, all) ]
      | else-held w ↦ rw (w.row-is, w.count-is, w.to-is) (storing_leave _ _ _ _ _ _ _ _ g _ (armed_behind a.s.now a.plan.now E i h _ e _ held _ next w.if-held.false) _, all)
    ]

pub returns : goal.returns
returns c =
    let a = c.args in
    let E = environment a.program.now a.monitor.now [] in
    let (g, counted) = c.loop-i.invariant in
    record { value = asked_end a.s.now a.plan.now E _ _ _ counted c.loop-i-test.false; row_after = storing_end _ _ _ _ _ _ _ _ g (armed_past a.s.now a.plan.now E _ c.loop-i-test.false) }
