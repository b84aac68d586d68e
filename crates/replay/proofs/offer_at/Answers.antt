-- `offer_at` meets its contract. Assumes nothing.
use Rattle.replay.proofs.Following.{values_many, offered_there}
use Rattle.replay.proofs.offer_at.Goals as goal

pub slice_bounds-offer-end : goal.slice_bounds-offer-end
slice_bounds-offer-end c =
    let b = c in
    let a = b.args in
    rw c.from.ensures (values_many a.programs a.log.now a.at b.requires.0 _ c.record_at-event.ensures _ c.words_at-words.ensures)

pub returns : goal.returns
returns c =
    let b = c in
    let a = b.args in
    let all = offered_there a.programs a.log.now a.at b.requires.0 _ c.record_at-event.ensures _ c.words_at-words.ensures _ _ c.offer.result (rw c.from.ensures at c.offer.ensures.answer_value) (rw c.from.ensures at c.offer.ensures.state_value) in
    record { answer_value = all.0; state_value = all.1 }
