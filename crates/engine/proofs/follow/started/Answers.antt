-- `follow::started` meets its contract. Assumes nothing.
use Rattle.engine.proofs.OverLogs.Followed.{run_started}
use Rattle.engine.proofs.follow.started.Goals as goal

pub returns : goal.returns
returns c = run_started _ _ c.header_of-h.ensures
