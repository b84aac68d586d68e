-- `write::templates` meets its contract. Assumes nothing.
use mathlib.Core.Path.{refl}
use native.Mathlib.Omega.{arith}
use borrow.Author.Rules.{rules}
use Rattle.sheet.specs.Decode.{triple_form}
use Rattle.sheet.specs.Encode.{template_bytes}
use Rattle.translation.specs.Translate.{template_of}
use Rattle.translation.proofs.Sheets.Putting.{putting_start, putting_room, putting_next, putting_end, written_map}
use Rattle.translation.proofs.write.templates.Goals as goal
use Rattle.translation.proofs.write.templates.Invariants.{bytes}

pub loop-init : goal.loop-init
loop-init c = putting_start bytes triple_form _ _ _ _ _ _ (written_map template_bytes template_of _) c.requires.0 (search rules)

pub put-here-requires : goal.put-here-requires
put-here-requires c = putting_room bytes triple_form _ _ _ _ _ _ _ _ _ c.loop.invariant 4 (λ s. refl) c.loop-test.true _ c.triple_at-t.ensures c.requires.1

pub loop-preserved : goal.loop-preserved
loop-preserved c = putting_next bytes triple_form _ _ _ _ _ _ _ _ _ c.loop.invariant 4 (λ s. refl) c.loop-test.true _ c.triple_at-t.ensures (omega arith) _ _ c.put-here.ensures

pub returns : goal.returns
returns c = putting_end bytes triple_form _ _ _ _ _ _ _ _ _ c.loop.invariant c.loop-test.false
