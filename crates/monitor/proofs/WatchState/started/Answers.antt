-- `started` meets its contract. Assumes nothing.
use Rattle.monitor.proofs.States.Starting.{started_found}
use Rattle.monitor.proofs.WatchState.started.Goals as goal

pub returns : goal.returns
returns c = started_found _ _ _ _ c.header_of-h.ensures c.words_at-w.ensures c.zero-state.ensures
