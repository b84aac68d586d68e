-- `on_network` meets its contract. Assumes nothing.
use borrow.Author.Rules.{rules}
use Rattle.replay.proofs.Replaying.{log_accepted, log_replayed, log_turned_away}
use Rattle.replay.proofs.on_network.Goals as goal

pub offer_all-requires : goal.offer_all-requires
offer_all-requires c = (log_accepted _ _ c.read_log.result c.read_log.ensures _ c.in-Ok.is, c.requires)

pub returns-in-Ok : goal.returns-in-Ok
returns-in-Ok c = log_replayed _ _ c.read_log.result c.read_log.ensures _ c.in-Ok.is _ _ _ _ c.offer_all.ensures

pub returns-in-Err : goal.returns-in-Err
returns-in-Err c = log_turned_away _ _ c.read_log.result c.read_log.ensures _ (search rules) _ _ _ c.turned_away.ensures
