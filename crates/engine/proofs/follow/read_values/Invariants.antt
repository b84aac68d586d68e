-- `follow::read_values` meets its contract. Assumes nothing.
use Rattle.engine.proofs.OverLogs.Followed.{Filling}
use Rattle.engine.proofs.follow.read_values.Given as goal

abbrev pub invariant-loop-i : goal.invariant-loop-i
invariant-loop-i l = Filling l.n l.log l.at l.initial.values l.values l.i l.here
