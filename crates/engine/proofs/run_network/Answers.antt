-- `run_network` meets its contract. Assumes nothing.
use borrow.Author.Rules.{rules}
use Rattle.sheet.specs.Reading.{network_layout}
use Rattle.sheet.proofs.Answers.{answer_accepted}
use Rattle.engine.specs.Prepared.{network_into}
use Rattle.engine.proofs.Plans.Preparing.{planned}
use Rattle.engine.proofs.OverLogs.Ran.{few_programs_lem, network_unread, network_ran}
use Rattle.engine.proofs.run_network.Goals as goal

pub run_planned-requires : goal.run_planned-requires
run_planned-requires c =
    let a = c.args in
    few_programs_lem network_layout a.s.now (answer_accepted _ c.prepare_network.result c.prepare_network.ensures.result_value (search rules))

pub returns-in-Ok : goal.returns-in-Ok
returns-in-Ok c =
    let a = c.args in
    let h = answer_accepted _ c.prepare_network.result c.prepare_network.ensures.result_value (search rules) in
    network_ran a.s.now a.log.now _ _ _ c.run_planned.ensures.answer_value c.run_planned.ensures.count_value h _ c.length_said-size.ensures.0 c.length_said-size.ensures.1 (planned _ h (network_into a.s.now) _ c.prepare_network.ensures.plan_after)

pub returns-in-Err : goal.returns-in-Err
returns-in-Err c =
    let a = c.args in
    rw c.unread.ensures (network_unread a.s.now a.log.now c.prepare_network.result _ (search rules) c.prepare_network.ensures.result_value)
