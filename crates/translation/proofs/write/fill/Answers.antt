-- `write::fill` meets its contract. Assumes nothing.
use Prim.Native.Nat.{◌<◌}
use borrow.Author.Rules.{rules}
use native.Mathlib.Omega.{arith}
use Rattle.translation.proofs.Sheets.Filling.{network_small, few_texts, few_transitions, filled}
use Rattle.translation.proofs.write.fill.Goals as goal

pub overflow_add-n : goal.overflow_add-n
overflow_add-n c =
    let p = c.requires in
    let small = few_transitions p.0 _ c.from.ensures _ p.1 in
    search (rules, small)

pub overflow_add-net : goal.overflow_add-net
overflow_add-net c = record { fits = omega (arith, (few_texts c.requires.0).0) }

pub overflow_add-net-2 : goal.overflow_add-net-2
overflow_add-net-2 c = record { fits = omega (arith, (few_texts c.requires.0).1) }

pub overflow_cast-net : goal.overflow_cast-net
overflow_cast-net c =
    let p = c.requires in
    let small = few_transitions p.0 _ c.from.ensures _ p.1 in
    search (rules, small)

pub overflow_cast-size : goal.overflow_cast-size
overflow_cast-size c =
    let b = c in
    let p = b.requires in
    let small : b.args.size.at < 65536 = omega (arith, p.1.size, network_small p.0) in
    search (rules, small)

pub tables-requires : goal.tables-requires
tables-requires c = (c.requires.0, c.header-at.ensures.next)

pub returns : goal.returns
returns c =
    let p = c.requires in
    filled p.0 _ p.1 _ c.from.ensures _ p.2 _ _ c.header-at.ensures _ _ c.tables.ensures
