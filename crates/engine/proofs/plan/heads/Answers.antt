-- `plan::heads` meets its contract. Assumes nothing.
use Rattle.engine.proofs.Plans.Storing.{head_words_lem}
use Rattle.engine.proofs.plan.heads.Goals as goal

pub returns : goal.returns
returns c =
    let a = c.args in
    head_words_lem a.plan.now a.h a.paired a.last _ _ _ c.from.ensures c.from-2.ensures c.from-3.ensures
