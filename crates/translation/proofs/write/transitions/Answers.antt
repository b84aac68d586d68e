-- `write::transitions` meets its contract. Assumes nothing.
use mathlib.Core.Path.{refl}
use native.Mathlib.Omega.{arith}
use borrow.Author.Rules.{rules}
use Rattle.sheet.specs.Decode.{transition_form}
use Rattle.sheet.specs.Encode.{paired_bytes}
use Rattle.translation.specs.Walk.{copied_at}
use Rattle.translation.proofs.Sheets.Putting.{putting_start, putting_room, putting_next, putting_end, written_map}
use Rattle.translation.proofs.write.transitions.Goals as goal

pub loop-init : goal.loop-init
loop-init c = putting_start _ transition_form _ _ _ _ _ _ (written_map paired_bytes _ _) c.requires.1 (search rules)

pub transition-here-requires : goal.transition-here-requires
transition-here-requires c =
    let start = c in
    (start.requires.0, putting_room (λ t. paired_bytes (copied_at start.args.s.now start.args.f t)) transition_form _ _ _ _ _ _ _ _ _ c.loop.invariant 6 (λ s. refl) c.loop-test.true _ refl start.requires.2)

pub loop-preserved : goal.loop-preserved
loop-preserved c =
    let a = c.args in
    putting_next (λ t. paired_bytes (copied_at a.s.now a.f t)) transition_form _ _ _ _ _ _ _ _ _ c.loop.invariant 6 (λ s. refl) c.loop-test.true _ refl (omega arith) _ _
    c.transition-here.ensures

pub returns : goal.returns
returns c = putting_end _ transition_form _ _ _ _ _ _ _ _ _ c.loop.invariant c.loop-test.false
