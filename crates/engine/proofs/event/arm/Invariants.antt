-- `event::arm` meets its contract. Assumes nothing.
use mathlib.Core.Path.{◌≡◌}
use mathlib.Core.List.{[]}
use Prim.Native.Nat.{◌+◌, ◌-◌}
use Rattle.condition.specs.Meaning.{environment}
use Rattle.engine.specs.Walk.{armed_in, armed_count}
use Rattle.engine.proofs.InWords.Arming.{Storing}
use Rattle.engine.proofs.event.arm.Given as goal

abbrev pub invariant-loop-i : goal.invariant-loop-i
invariant-loop-i l = Storing (armed_in l.s l.plan l.first (environment l.program l.monitor [])) l.initial.row l.at (armed_in l.s l.plan l.i (environment l.program l.monitor [])) l.row l.count l.to l.i × (l.evaluated + armed_count l.s l.plan l.i (environment l.program l.monitor []) ≡ armed_count l.s l.plan l.first (environment l.program l.monitor []))

abbrev pub decreases-loop-i : goal.decreases-loop-i
decreases-loop-i l = 384 - l.i
