-- `write::pairs` meets its contract. Assumes nothing.
use Rattle.translation.proofs.Sheets.Pairing.{Listing}
use Rattle.translation.proofs.write.pairs.Given as goal

abbrev pub invariant-loop-i : goal.invariant-loop-i
invariant-loop-i l = Listing l.state l.unit l.fn.f.count l.s l.fn.f.triples l.initial.out l.at l.out l.i l.place l.here
