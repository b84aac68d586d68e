-- `translate` meets its contract. Assumes nothing.
use Rattle.std.proofs.lemmas.Result.{err_from_is_err_and}
use Rattle.sheet.proofs.Answers.{answer_accepted}
use Rattle.translation.proofs.Sheets.Filling.{unread}
use Rattle.translation.proofs.translate.Goals as goal

pub translate-requires : goal.translate-requires
translate-requires c = answer_accepted _ c.read_sheet.result c.read_sheet.ensures c.in_ok-read_sheet.was

pub returns-in_err-read_sheet : goal.returns-in_err-read_sheet
returns-in_err-read_sheet c =
    let e = err_from_is_err_and c.from_residual.result c.from_residual.ensures.1 in
    rw (e.1, e.2) (unread _ _ c.read_sheet.result c.read_sheet.ensures _ c.in_err-read_sheet.was)
