-- `rows::entries_sound` meets its contract. Assumes nothing.
use Rattle.std.proofs.Common.{map, drop}
use Rattle.step.specs.declared.Call.{Call}
use Rattle.step.proofs.OnLists.Rising.{Climbs}
use Rattle.step.proofs.rows.entries_sound.Given as goal

abbrev pub invariant-loop-c : goal.invariant-loop-c
invariant-loop-c l = Climbs l.position (map (λ (x : Call). x.entry) l.calls) l.last (map (λ (x : Call). x.entry) (drop l.c-index l.calls))
