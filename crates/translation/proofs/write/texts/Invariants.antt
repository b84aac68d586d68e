-- `write::texts` meets its contract. Assumes nothing.
use Rattle.translation.proofs.Sheets.Texts.{WritingTexts}
use Rattle.translation.proofs.write.texts.Given as goal

abbrev pub invariant-loop : goal.invariant-loop
invariant-loop l = WritingTexts l.wide l.s l.from l.n l.initial.out l.at l.out l.counter l.place l.here
