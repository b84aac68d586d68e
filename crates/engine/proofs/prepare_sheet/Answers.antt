-- `prepare_sheet` meets its contract. Assumes nothing.
use Rattle.std.proofs.lemmas.Result.{err_from_is_err_and}
use Rattle.sheet.specs.Reading.{reading, sheet_layout}
use Rattle.sheet.proofs.Answers.{answer_accepted}
use Rattle.engine.specs.Prepared.{sheet_into}
use Rattle.engine.proofs.Plans.Preparing.{put_accepted, kept_refused}
use Rattle.engine.proofs.prepare_sheet.Goals as goal

pub of_sheet-requires : goal.of_sheet-requires
of_sheet-requires c = answer_accepted _ c.read_sheet.result c.read_sheet.ensures c.in_ok-read_sheet.was

pub returns : goal.returns
returns c =
    let a = c.args in
    let all = put_accepted (reading sheet_layout a.s.now) c.read_sheet.result c.read_sheet.ensures c.in_ok-read_sheet.was a.plan.now _ _ c.of_sheet.ensures in
    record { result_value = all.0; plan_after = all.1 }

pub returns-in_err-read_sheet : goal.returns-in_err-read_sheet
returns-in_err-read_sheet c =
    let a = c.args in
    let all = kept_refused (reading sheet_layout a.s.now) c.read_sheet.result c.read_sheet.ensures _ c.in_err-read_sheet.was a.plan.now (sheet_into a.s.now a.plan.now) in
    let e = err_from_is_err_and c.from_residual.result c.from_residual.ensures.1 in
    rw (e.1, e.2) record { result_value = all.0; plan_after = all.1 }
