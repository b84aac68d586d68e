-- `network_run` meets its contract. Assumes nothing.
use borrow.Author.Rules.{rules}
use native.Mathlib.Omega.{arith}
use Rattle.translation.proofs.Cut.{written_short, written_cut}
use Rattle.lines.proofs.Printing.{written_run, refused_run}
use Rattle.lines.proofs.network_run.Goals as goal

pub slice_bounds-buffer-end : goal.slice_bounds-buffer-end
slice_bounds-buffer-end c = omega (arith, written_short _ _ c.translate.result c.translate.ensures.0 c.in-Ok.n c.in-Ok.is)

pub slice_bounds-run-end : goal.slice_bounds-run-end
slice_bounds-run-end c = written_cut _ _ c.translate.result c.translate.ensures.0 c.in-Ok.n c.in-Ok.is _ c.translate.ensures.1

pub returns-in-Ok : goal.returns-in-Ok
returns-in-Ok c = written_run _ _ c.translate.result c.translate.ensures.0 c.in-Ok.n c.in-Ok.is _ c.translate.ensures.1 _ _ c.run-ran.ensures.0

pub returns-in-Err : goal.returns-in-Err
returns-in-Err c = refused_run _ _ c.translate.result c.translate.ensures.0 (search rules) _ (search rules) _
