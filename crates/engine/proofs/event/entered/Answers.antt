-- `event::entered` meets its contract. Assumes nothing.
use mathlib.Core.Path.{refl}
use Prim.Native.Nat.{◌+◌, ◌<◌}
use native.Mathlib.Omega.{arith}
use borrow.Author.Rules.{rules}
use Rattle.engine.proofs.InWords.Chains.{found_few, asked_few}
use Rattle.engine.proofs.InWords.Taking.{action_few}
use Rattle.engine.proofs.InWords.Answering.{entered_there}
use Rattle.engine.proofs.event.entered.Goals as goal

pub overflow_add-run : goal.overflow_add-run
overflow_add-run c = search (rules, c.requires.1)

pub arm-asked-requires : goal.arm-asked-requires
arm-asked-requires c = (c.candidate-first.ensures.1, omega (arith, c.from-at.ensures, c.requires.0))

pub overflow_add-run-2 : goal.overflow_add-run-2
overflow_add-run-2 c = search (rules, c.requires.0)

pub after-requires : goal.after-requires
after-requires c = c.requires.1

pub overflow_add-result : goal.overflow_add-result
overflow_add-result c =
    let small : c.find-found.result.count + c.arm-asked.result < 4294967296 = omega (arith, found_few _ _ _ _ _ c.find-found.ensures.2, asked_few _ _ _ _ _ c.arm-asked.ensures.value) in
    search (rules, small)

pub overflow_add-result-2 : goal.overflow_add-result-2
overflow_add-result-2 c =
    let a = c.args in
    let small : c.find-found.result.count + c.arm-asked.result + c.moved-to.result.count < 4294967296 = omega (arith, found_few _ _ _ _ _ c.find-found.ensures.2, asked_few _ _ _ _ _ c.arm-asked.ensures.value, action_few a.s.now a.plan.now c.find-found.result.transition a.values.now a.variables.now _ c.moved-to.ensures.2) in
    search (rules, small)

pub returns : goal.returns
returns c =
    let a = c.args in
    let all = entered_there a.s.now a.plan.now a.run a.row.now a.variables.now a.values.now _ c.from.ensures _ c.front-program.ensures _ c.from-2.ensures _ c.front-monitor.ensures a.given.unit _ c.cell_of-cell.ensures.0 _ _ _ c.from-3.ensures _ _ c.find-found.ensures _ c.moved-to.ensures a.given refl _ c.from-at.ensures _ c.candidate-first.ensures.0 _ c.put.ensures _ _ (c.arm-asked.ensures.value, c.arm-asked.ensures.row_after) _ c.after.ensures in
    record { variables_after = all.0; count_value = all.1 }
