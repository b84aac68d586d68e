-- The loop's invariant of `complete`: what is still to be stored makes of the bytes what it makes of the given ones. Assumes nothing.
use mathlib.Core.Path.{◌≡◌}
use Prim.Native.Nat.{◌-◌}
use Rattle.bench.specs.Walk.{Small, completed, stored}
use Rattle.bench.proofs.search.complete.Given as goal

abbrev pub invariant-loop-i : goal.invariant-loop-i
invariant-loop-i l = Small l.p × (stored l.out l.i (completed (l.n - l.i) l.p) ≡ stored l.initial.out l.at (completed (l.n - l.at) l.initial.p))
