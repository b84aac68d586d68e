-- `plan::transition` meets its contract. Assumes nothing.
use Rattle.engine.proofs.Plans.Storing.{transition_words_lem}
use Rattle.engine.proofs.plan.transition.Goals as goal

pub returns : goal.returns
returns c =
    let a = c.args in
    transition_words_lem a.s.now a.conditions.now a.plan.now a.i a.at a.actions.now _ c.transition_at-t.ensures _ c.key_of-key.ensures.0
    _ c.behind-gap.ensures _ c.text.ensures _ c.action.ensures _ c.from.ensures
