-- `follow::initial` meets its contract. Assumes nothing.
use Rattle.engine.proofs.OverLogs.Followed.{variables_started}
use Rattle.engine.proofs.follow.initial.Goals as goal

pub returns : goal.returns
returns c = variables_started _ _ c.header_of-h.ensures _ c.words_at-w.ensures
