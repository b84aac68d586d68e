-- `write::transition` meets its contract. Assumes nothing.
use Rattle.translation.proofs.Sheets.Adding.{entry_room, entry_then, exit_then}
use Rattle.translation.proofs.write.transition.Goals as goal

pub with_pairs-requires : goal.with_pairs-requires
with_pairs-requires c =
    let start = c in (
      start.requires.0,
      entry_room start.args.s.now start.args.f _ _ c.transition_at-t.ensures c.base-next.ensures c.if-t-eq0.true start.requires.1,
    )

pub returns-then-t-eq0 : goal.returns-then-t-eq0
returns-then-t-eq0 c =
    let a = c.args in
    entry_then a.s.now a.f _ _ c.transition_at-t.ensures c.base-next.ensures
    c.if-t-eq0.true c.with_pairs.ensures

pub returns-else-t-eq0 : goal.returns-else-t-eq0
returns-else-t-eq0 c =
    let a = c.args in
    exit_then a.s.now a.f _ _ c.transition_at-t.ensures c.base-next.ensures
    c.if-t-eq0.false c.put.ensures
