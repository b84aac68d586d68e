-- `pack::call_at` meets its contract. Assumes nothing.
use Rattle.engine.proofs.Packed.{no_call_there, call_there}
use Rattle.engine.proofs.pack.call_at.Goals as goal

pub returns-else-i-lt-CALLS : goal.returns-else-i-lt-CALLS
returns-else-i-lt-CALLS c = no_call_there _ _ _ c.if-i-lt-CALLS.false _ c.no_call.ensures

pub returns : goal.returns
returns c = call_there _ _ _ c.if-i-lt-CALLS.true _ _ c.front.ensures c.eight.ensures
