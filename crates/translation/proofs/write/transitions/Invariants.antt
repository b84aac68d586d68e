-- `write::transitions` meets its contract. Assumes nothing.
use Rattle.sheet.specs.Decode.{transition_form}
use Rattle.sheet.specs.Encode.{paired_bytes}
use Rattle.translation.specs.Walk.{copied_at, copied_bytes}
use Rattle.translation.proofs.Sheets.Putting.{Putting}
use Rattle.translation.proofs.write.transitions.Given as goal

abbrev pub invariant-loop : goal.invariant-loop
invariant-loop l = Putting (λ t. paired_bytes (copied_at l.s l.f t)) transition_form l.s l.initial.out l.at (copied_bytes l.s l.f l.from l.n) l.n l.out l.counter l.place l.here
