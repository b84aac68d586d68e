-- `NetworkState::started` meets its contract. Assumes nothing.
use Rattle.network.proofs.States.Starting.{started_found}
use Rattle.network.proofs.NetworkState.started.Goals as goal

pub returns : goal.returns
returns c = started_found _ _ _ _ c.header_of-h.ensures c.words_at-w.ensures c.zero-state.ensures
