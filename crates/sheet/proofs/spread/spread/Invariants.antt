-- `spread::spread` meets its contract. Assumes nothing.
use Rattle.sheet.proofs.Readers.Tallies.{Tallying}
use Rattle.sheet.proofs.spread.spread.Given as goal

abbrev pub invariant-loop : goal.invariant-loop
invariant-loop l = Tallying l.n l.s l.at l.counts l.place l.counter
