-- `prepare_network` meets its contract. Assumes nothing.
use Rattle.std.proofs.lemmas.Result.{err_from_is_err_and}
use Rattle.sheet.specs.Reading.{reading, network_layout}
use Rattle.sheet.proofs.Answers.{answer_accepted}
use Rattle.engine.specs.Prepared.{network_into}
use Rattle.engine.proofs.Plans.Preparing.{put_accepted, kept_refused}
use Rattle.engine.proofs.prepare_network.Goals as goal

pub of_network-requires : goal.of_network-requires
of_network-requires c = answer_accepted _ c.read_network.result c.read_network.ensures c.in_ok-read_network.was

pub returns : goal.returns
returns c =
    let a = c.args in
    let all = put_accepted (reading network_layout a.s.now) c.read_network.result c.read_network.ensures c.in_ok-read_network.was a.plan.now _ _ c.of_network.ensures in
    record { result_value = all.0; plan_after = all.1 }

pub returns-in_err-read_network : goal.returns-in_err-read_network
returns-in_err-read_network c =
    let a = c.args in
    let all = kept_refused (reading network_layout a.s.now) c.read_network.result c.read_network.ensures _ c.in_err-read_network.was a.plan.now (network_into a.s.now a.plan.now) in
    let e = err_from_is_err_and c.from_residual.result c.from_residual.ensures.1 in
    rw (e.1, e.2) record { result_value = all.0; plan_after = all.1 }
