-- The loop's invariant of `least`: the search from the byte on finds what the search from `from` on finds. Assumes nothing.
use mathlib.Core.Path.{◌≡◌}
use Rattle.bench.specs.Walk.{sought, least}
use Rattle.bench.proofs.search.least.Given as goal

abbrev pub invariant-loop-byte : goal.invariant-loop-byte
invariant-loop-byte l = sought l.p l.k l.byte-end l.byte ≡ least l.p l.k l.from
