-- `card::guarded` meets its contract. Assumes nothing.
use Rattle.translation.proofs.Cards.Guarding.{guarded_room, guarded_then}
use Rattle.translation.proofs.card.guarded.Goals as goal

pub put-requires : goal.put-requires
put-requires c =
    let start = c in
    let pre = start.requires in
    guarded_room _ start.args.place start.args.number pre.0 _ c.transition_at-t.ensures _ c.size_at.ensures.0 c.base-next.ensures pre.2

pub returns : goal.returns
returns c =
    let start = c in
    guarded_then _ start.args.place start.args.number start.requires.0 _ c.transition_at-t.ensures _ c.size_at.ensures.0 c.base-next.ensures c.put.ensures
