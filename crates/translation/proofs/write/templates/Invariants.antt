-- `write::templates` meets its contract. Assumes nothing.
use mathlib.Core.List.{List}
use Prim.Native.Nat.{ℕ}
use Rattle.sheet.specs.declared.Triple.{Triple}
use Rattle.sheet.specs.Decode.{triple_form}
use Rattle.sheet.specs.Encode.{template_bytes}
use Rattle.translation.specs.Translate.{template_of}
use Rattle.translation.specs.Walk.{templates_at}
use Rattle.translation.proofs.Sheets.Putting.{Putting}
use Rattle.translation.proofs.write.templates.Given as goal

abbrev pub bytes : Triple → List ℕ
bytes t = template_bytes (template_of t)

abbrev pub invariant-loop : goal.invariant-loop
invariant-loop l = Putting bytes triple_form l.s l.initial.out l.at (templates_at l.s l.fn.f) l.fn.f.count l.out l.counter l.place l.here
