-- The loop's invariant of `accepts`: what is left of the bytes is what is pending where all of them are one condition. Assumes nothing.
use mathlib.Core.Path.{◌≡◌}
use lib.ListN.{take, drop}
use Rattle.bench.specs.Walk.{Small, one_condition, accepts}
use Rattle.bench.proofs.search.accepts.Given as goal

abbrev pub invariant-loop-i : goal.invariant-loop-i
invariant-loop-i l = Small l.p × (accepts l.p (drop l.i (take l.n l.given)) ≡ accepts one_condition (take l.n l.given))
