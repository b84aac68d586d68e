-- `words` reads four bytes for each word. Assumes nothing.
use Rattle.std.proofs.Common.{◌≡◌, ◌*◌, length, drop}
use Rattle.frames.proofs.Reader.words.Given as goal

abbrev pub invariant-loop : goal.invariant-loop
invariant-loop l = (length l.words.items ≡ l.counter) × (l.self ≡ drop (4 * l.counter) l.initial.self)
