-- `NetworkState::fresh` meets its contract. Assumes nothing.
use Rattle.network.proofs.States.Starting.{fresh_accepted, fresh_refused}
use borrow.Author.Rules.{rules}
use Rattle.network.proofs.NetworkState.fresh.Goals as goal

pub returns-in-Ok : goal.returns-in-Ok
returns-in-Ok c =
    let all = fresh_accepted _ c.read_network.result c.read_network.ensures _ (search rules) c.started.ensures in
    record { reading_value = all.0; state_value = all.1 }

pub returns-in-Err : goal.returns-in-Err
returns-in-Err c =
    let all = fresh_refused _ c.read_network.result c.read_network.ensures _ _ (search rules) c.zero.ensures in
    record { reading_value = all.0; state_value = all.1 }
