-- `rows::numbers_distinct` meets its contract. Assumes nothing.
use Rattle.std.proofs.Common.{◌≡◌, map, drop}
use Rattle.step.specs.declared.Call.{Call}
use Rattle.step.specs.Lists.{distinct}
use Rattle.step.proofs.rows.numbers_distinct.Given as goal

abbrev pub invariant-loop-i : goal.invariant-loop-i
invariant-loop-i l = distinct (map (λ (x : Call). x.number) (drop l.i l.calls)) ≡ distinct (map (λ (x : Call). x.number) l.calls)
