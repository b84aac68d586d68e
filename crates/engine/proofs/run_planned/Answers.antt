-- `run_planned` meets its contract. Assumes nothing.
use mathlib.Core.Path.{◌≡◌, ap, ◌∙◌}
use Prim.Native.Nat.{ℕ}
use borrow.Author.Rules.{rules}
use Rattle.sheet.specs.Bytes.{byte}
use Rattle.sheet.specs.Log.{events_of}
use Rattle.sheet.specs.declared.Header.{Header}
use Rattle.step.specs.Answers.{ran_answer}
use Rattle.step.proofs.OnEvents.Runs.{log_accepted, unlogged_run}
use Rattle.engine.specs.Runs.{follow_in, follow_count, ends_by}
use Rattle.engine.proofs.run_planned.Goals as goal

pub follow-requires : goal.follow-requires
follow-requires c =
    let b = c in
    let a = b.args in
    let programs : c.header_of-h.result.programs ≡ byte a.s.now 5 = ap (λ (h : Header). h.programs) c.header_of-h.ensures in
    rw programs (log_accepted a.s.now a.log.now _ c.header_of-h.ensures c.read_log.result c.read_log.ensures _ c.in-Ok.is, b.requires)

pub returns-in-Ok : goal.returns-in-Ok
returns-in-Ok c =
    let a = c.args in
    let programs : c.header_of-h.result.programs ≡ byte a.s.now 5 = ap (λ (h : Header). h.programs) c.header_of-h.ensures in
    let read = log_accepted a.s.now a.log.now _ c.header_of-h.ensures c.read_log.result c.read_log.ensures _ c.in-Ok.is in
    record { answer_value = rw read (c.follow.ensures.answer_value ∙ ap (λ (n : ℕ). ran_answer ends_by (follow_in a.s.now a.plan.now (events_of n a.log.now))) programs); count_value = rw read (c.follow.ensures.count_value ∙ ap (λ (n : ℕ). follow_count a.s.now a.plan.now (events_of n a.log.now)) programs) }

pub returns-in-Err : goal.returns-in-Err
returns-in-Err c =
    let a = c.args in
    let all = unlogged_run a.s.now a.log.now _ c.header_of-h.ensures c.read_log.result c.read_log.ensures _ (search rules) (ran_answer ends_by (follow_in a.s.now a.plan.now (events_of (byte a.s.now 5) a.log.now))) (follow_count a.s.now a.plan.now (events_of (byte a.s.now 5) a.log.now)) in
    rw c.unread.ensures record { answer_value = all.0; count_value = all.1 }
