-- `row::place_of` meets its contract. Assumes nothing.
use Prim.Native.Nat.{◌*◌}
use Rattle.engine.proofs.InWords.Rowing.{Looking}
use Rattle.engine.proofs.row.place_of.Given as goal

abbrev pub invariant-loop-i : goal.invariant-loop-i
invariant-loop-i l = Looking l.number l.opened l.row (16 * l.i)
