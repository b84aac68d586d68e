-- `write::texts` meets its contract. Assumes nothing.
use native.Mathlib.Omega.{arith}
use Rattle.translation.proofs.Sheets.Texts.{texts_start, texts_within, length_room, text_room, texts_next, texts_end}
use Rattle.translation.proofs.write.texts.Goals as goal

pub loop-init : goal.loop-init
loop-init c = texts_start _ _ _ _ _ _

pub put_length-next-requires : goal.put_length-next-requires
put_length-next-requires c = length_room _ _ _ _ _ _ _ _ _ _ c.loop.invariant c.loop-test.true _ c.byte_at-size.ensures c.requires.0 c.requires.2

pub put-here-requires : goal.put-here-requires
put-here-requires c = text_room _ _ _ _ _ _ _ _ _ _ c.loop.invariant c.loop-test.true _ c.byte_at-size.ensures c.requires.0 _ _ c.put_length-next.ensures _ c.action_at.ensures c.requires.2

pub overflow_add-place-in-loop : goal.overflow_add-place-in-loop
overflow_add-place-in-loop c =
    let within = texts_within _ _ _ _ _ _ _ _ _ _ c.loop.invariant c.loop-test.true _ c.byte_at-size.ensures c.requires.0 in
    record { fits = omega (arith, within, c.from.ensures, c.requires.1) }

pub loop-preserved : goal.loop-preserved
loop-preserved c = rw c.from.ensures (texts_next _ _ _ _ _ _ _ _ _ _ c.loop.invariant c.loop-test.true _ c.byte_at-size.ensures c.requires.0 _ _ c.put_length-next.ensures _ c.action_at.ensures _ _ c.put-here.ensures)

pub returns : goal.returns
returns c = texts_end _ _ _ _ _ _ _ _ _ _ c.loop.invariant c.loop-test.false
