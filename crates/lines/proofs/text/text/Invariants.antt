-- `text::text` meets its contract. Assumes nothing.
use Rattle.lines.proofs.Texts.{Storing}
use Rattle.lines.proofs.text.text.Given as goal

abbrev pub invariant-loop-i : goal.invariant-loop-i
invariant-loop-i l = Storing l.initial.out l.at l.t l.out l.i
