-- `lines` meets its contract. Assumes nothing.
use mathlib.Core.Path.{sym}
use lib.Seq.{length-take-le}
use Rattle.lines.proofs.Printing.{print_long, print_lines}
use Rattle.lines.proofs.lines.Goals as goal

pub returns-then-input-gt65536 : goal.returns-then-input-gt65536
returns-then-input-gt65536 c =
    let all = print_long _ c.if-input-gt65536.true c.text.ensures in
    record { value = all.0; out_after = all.1 }

pub slice_bounds-sheet-end : goal.slice_bounds-sheet-end
slice_bounds-sheet-end c = sym (length-take-le _ _ c.sheet_size-n.ensures.1)

pub returns : goal.returns
returns c =
    let all = print_lines _ _ _ _ c.if-input-gt65536.false c.sheet_size-n.ensures.0 c.sheet_run.ensures c.network_run.ensures c.line-next.ensures c.line.ensures in
    record { value = all.0; out_after = all.1 }
