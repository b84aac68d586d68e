-- `offer` meets its contract. Assumes nothing.
use borrow.Author.Rules.{rules}
use Rattle.sheet.proofs.Answers.{answer_accepted}
use Rattle.step.specs.Calls.{event_of}
use Rattle.engine.specs.Prepared.{sheet_into}
use Rattle.engine.proofs.Plans.Preparing.{planned}
use Rattle.monitor.proofs.Offers.Answering.{offer_unread}
use Rattle.monitor.proofs.offer.Goals as goal

pub offer_accepted-requires : goal.offer_accepted-requires
offer_accepted-requires c =
    let a = c.args in
    let h = answer_accepted _ c.prepare_sheet.result c.prepare_sheet.ensures.result_value (search rules) in
    (h, planned _ h (sheet_into a.s.now) _ c.prepare_sheet.ensures.plan_after)

pub returns-in-Err : goal.returns-in-Err
returns-in-Err c =
    let a = c.args in
    let all = offer_unread a.s.now a.state (event_of a.event a.values.now) c.prepare_sheet.result c.prepare_sheet.ensures.result_value _ (search rules) in
    record { answer_value = all.0; state_value = all.1.0; count_value = all.1.1 }
