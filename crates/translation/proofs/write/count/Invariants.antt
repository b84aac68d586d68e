-- `write::count` meets its contract. Assumes nothing.
use Rattle.translation.proofs.Sheets.Pairing.{Tally}
use Rattle.translation.proofs.write.count.Given as goal

abbrev pub invariant-loop : goal.invariant-loop
invariant-loop l = Tally l.state l.unit l.fn.f.count l.s l.fn.f.triples l.found l.counter l.place
