-- `event::exited` meets its contract. Assumes nothing.
use Prim.Native.Nat.{◌+◌, ◌<◌}
use borrow.Author.Rules.{rules}
use native.Mathlib.Omega.{arith}
use Rattle.engine.proofs.InWords.Chains.{found_few}
use Rattle.engine.proofs.InWords.Taking.{action_few}
use Rattle.engine.proofs.InWords.Failing.{low_few}
use Rattle.engine.proofs.InWords.Answering.{exited_there}
use Rattle.engine.proofs.event.exited.Goals as goal

pub overflow_sub-run : goal.overflow_sub-run
overflow_sub-run c = omega (arith, c.requires.0)

pub after-requires : goal.after-requires
after-requires c = c.requires.2

pub overflow_add-result : goal.overflow_add-result
overflow_add-result c =
    let small : c.lowest_failing-low.result.count + c.find-found.result.count < 4294967296 = omega (arith, low_few _ _ _ _ _ _ _ c.lowest_failing-low.ensures.1, found_few _ _ _ _ _ c.find-found.ensures.2) in
    search (rules, small)

pub overflow_add-result-2 : goal.overflow_add-result-2
overflow_add-result-2 c =
    let a = c.args in
    let small : c.lowest_failing-low.result.count + c.find-found.result.count + c.moved-to.result.count < 4294967296 = omega (arith, low_few _ _ _ _ _ _ _ c.lowest_failing-low.ensures.1, found_few _ _ _ _ _ c.find-found.ensures.2, action_few a.s.now a.plan.now c.find-found.result.transition a.values.now a.variables.now _ c.moved-to.ensures.2) in
    search (rules, small)

pub returns : goal.returns
returns c =
    let a = c.args in
    let all = exited_there a.s.now a.plan.now a.run a.row.now a.variables.now a.values.now _ c.from.ensures _ c.front-program.ensures _ c.from-2.ensures _ c.front-monitor.ensures a.leaving.unit _ c.cell_of-cell.ensures.0 _ _ _ c.from-4.ensures _ _ c.find-found.ensures _ c.moved-to.ensures a.leaving.place _ _ c.lowest_failing-low.ensures _ c.from-3.ensures _ c.close.ensures _ c.after.ensures in
    record { variables_after = all.0; count_value = all.1 }
