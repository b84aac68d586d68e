-- `read` takes one word for each turn. Assumes nothing.
use Rattle.std.proofs.Common.{◌≡◌, length}
use Rattle.frames.proofs.LentWords.read.Given as goal

abbrev pub invariant-loop-i : goal.invariant-loop-i
invariant-loop-i l = length l.words.items ≡ l.i
