-- `write::with_pairs` meets its contract. Assumes nothing.
use Rattle.translation.proofs.Sheets.Adding.{counted_then}
use Rattle.translation.proofs.write.with_pairs.Goals as goal

pub returns : goal.returns
returns c = counted_then _ c.count.ensures c.put-next.ensures c.pairs.ensures
