-- `write::states` meets its contract. Assumes nothing.
use Rattle.translation.specs.Translate.{joined}
use Rattle.translation.specs.Walk.{back_at}
use Rattle.translation.proofs.Sheets.Adding.{Adding}
use Rattle.translation.proofs.write.states.Given as goal

abbrev pub invariant-loop-state : goal.invariant-loop-state
invariant-loop-state l = Adding (λ q. joined l.m (back_at l.s l.f q)) l.n l.initial.out l.initial.here l.out l.state l.here
