-- `run_sheet` meets its contract. Assumes nothing.
use borrow.Author.Rules.{rules}
use Rattle.sheet.specs.Reading.{sheet_layout}
use Rattle.sheet.proofs.Answers.{answer_accepted}
use Rattle.engine.specs.Prepared.{sheet_into}
use Rattle.engine.proofs.Plans.Preparing.{planned}
use Rattle.engine.proofs.OverLogs.Ran.{few_programs_lem, sheet_unread, sheet_ran}
use Rattle.engine.proofs.run_sheet.Goals as goal

pub run_planned-requires : goal.run_planned-requires
run_planned-requires c =
    let a = c.args in
    few_programs_lem sheet_layout a.s.now (answer_accepted _ c.prepare_sheet.result c.prepare_sheet.ensures.result_value (search rules))

pub returns-in-Ok : goal.returns-in-Ok
returns-in-Ok c =
    let a = c.args in
    let h = answer_accepted _ c.prepare_sheet.result c.prepare_sheet.ensures.result_value (search rules) in
    sheet_ran a.s.now a.log.now _ _ _ c.run_planned.ensures.answer_value c.run_planned.ensures.count_value h (planned _ h (sheet_into a.s.now) _ c.prepare_sheet.ensures.plan_after)

pub returns-in-Err : goal.returns-in-Err
returns-in-Err c =
    let a = c.args in
    rw c.unread.ensures (sheet_unread a.s.now a.log.now c.prepare_sheet.result _ (search rules) c.prepare_sheet.ensures.result_value)
