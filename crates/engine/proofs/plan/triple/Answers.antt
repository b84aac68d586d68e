-- `plan::triple` meets its contract. Assumes nothing.
use Rattle.engine.proofs.Plans.Storing.{triple_words_lem}
use Rattle.engine.proofs.plan.triple.Goals as goal

pub returns : goal.returns
returns c =
    let a = c.args in
    triple_words_lem a.s.now a.conditions.now a.plan.now a.i a.at _ c.triple_at-t.ensures _ c.cell_of-cell.ensures.0 _ c.behind-gap.ensures _ c.text.ensures
