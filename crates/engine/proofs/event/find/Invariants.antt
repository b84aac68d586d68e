-- `event::find` meets its contract. Assumes nothing.
use mathlib.Core.List.{[]}
use Prim.Native.Nat.{◌-◌}
use Rattle.condition.specs.Meaning.{environment}
use Rattle.engine.proofs.InWords.Chains.{Seeking}
use Rattle.engine.proofs.event.find.Given as goal

abbrev pub invariant-loop-t : goal.invariant-loop-t
invariant-loop-t l = Seeking l.s l.plan (environment l.program l.monitor []) l.first l.t l.count

abbrev pub decreases-loop-t : goal.decreases-loop-t
decreases-loop-t l = 96 - l.t
