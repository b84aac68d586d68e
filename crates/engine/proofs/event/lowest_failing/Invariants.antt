-- `event::lowest_failing` meets its contract. Assumes nothing.
use Rattle.engine.proofs.InWords.Failing.{Judging}
use Rattle.engine.proofs.event.lowest_failing.Given as goal

abbrev pub invariant-loop-i : goal.invariant-loop-i
invariant-loop-i l = Judging l.s l.plan l.row l.at l.program l.monitor l.kept l.count l.number l.evaluated l.i
