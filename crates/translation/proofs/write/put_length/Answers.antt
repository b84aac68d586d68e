-- `write::put_length` meets its contract. Assumes nothing.
use Rattle.translation.proofs.Writing.{half_is}
use Rattle.translation.proofs.write.put_length.Goals as goal

pub returns-then-wide : goal.returns-then-wide
returns-then-wide c = rw c.if-wide.true (rw (half_is _ c.from.type_inv _ c.to_be_bytes.ensures, c.from.ensures) at c.put.ensures)
