-- `entry::entry_values` meets its contract. Assumes nothing.
use Rattle.std.proofs.Common.{rules, tests, arith, eqb, get_or}
use Rattle.std.proofs.lemmas.Iterator.{YieldsList-from_slice, YieldsList-from_take}
use Rattle.std.proofs.lemmas.Iterator.Search.{find_from_yields_List}
use Rattle.step.specs.declared.Call.{Call}
use Rattle.network.specs.Padded.{zero_checker}
use Rattle.network.proofs.Offers.Entries.{entry_past, entry_found}
use Rattle.network.proofs.entry.entry_values.Goals as goal

pub returns-in-Some : goal.returns-in-Some
returns-in-Some c =
    let w = c.args.state in
    let n = (get_or w.checkers c.args.i zero_checker).number in
    entry_found w c.args.i (omega arith) (omega arith) c.in-Some.is (find_from_yields_List (λ (x : Call). eqb x.number n) _ _ c.find.result c.find.ensures.ran (YieldsList-from_take {s = c.take.result} w.opened (YieldsList-from_slice w.calls cc) cc) (λ x b q k. search (rules, tests)))

pub returns-in_default : goal.returns-in_default
returns-in_default c =
    let w = c.args.state in
    let n = (get_or w.checkers c.args.i zero_checker).number in
    entry_found w c.args.i (omega arith) (omega arith) c.in_default.is (find_from_yields_List (λ (x : Call). eqb x.number n) _ _ c.find.result c.find.ensures.ran (YieldsList-from_take {s = c.take.result} w.opened (YieldsList-from_slice w.calls cc) cc) (λ x b q k. search (rules, tests)))

pub returns-else-i-min : goal.returns-else-i-min
returns-else-i-min c = entry_past c.args.state c.args.i (omega arith)
