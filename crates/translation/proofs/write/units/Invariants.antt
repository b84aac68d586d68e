-- `write::units` meets its contract. Assumes nothing.
use Rattle.translation.specs.Walk.{back_at}
use Rattle.translation.proofs.Sheets.Adding.{Adding}
use Rattle.translation.proofs.write.units.Given as goal

abbrev pub invariant-loop-unit : goal.invariant-loop-unit
invariant-loop-unit l = Adding (back_at l.s l.f l.state) l.n l.initial.out l.initial.here l.out l.unit l.here
