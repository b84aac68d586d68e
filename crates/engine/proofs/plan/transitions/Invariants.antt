-- `plan::transitions` meets its contract. Assumes nothing.
use lib.ListN.{take}
use Rattle.engine.proofs.Plans.Linking.{Linking, turn_of}
use Rattle.engine.proofs.plan.transitions.Given as goal

abbrev pub invariant-loop-i : goal.invariant-loop-i
invariant-loop-i l = Linking (turn_of l.s l.conditions l.actions l.paired) (take l.n l.places) l.initial.plan l.plan l.i
