-- `write::words` meets its contract. Assumes nothing.
use mathlib.Core.Path.{refl}
use borrow.Author.Rules.{rules}
use native.Mathlib.Omega.{arith}
use Rattle.sheet.specs.Decode.{word_form}
use Rattle.sheet.specs.Encode.{word_bytes}
use Rattle.translation.proofs.Sheets.Putting.{putting_start, putting_room, putting_next, putting_end}
use Rattle.translation.proofs.Writing.{word_is}
use Rattle.translation.proofs.write.words.Goals as goal

pub loop-init : goal.loop-init
loop-init c = putting_start word_bytes word_form _ _ _ _ _ _ refl c.requires.0 (search rules)

pub put-here-requires : goal.put-here-requires
put-here-requires c =
    rw (word_is _ c.word_at.type_inv _ c.to_be_bytes.ensures) (putting_room word_bytes word_form _ _ _ _ _ _ _ _ _ c.loop.invariant 4 (λ s. refl) c.loop-test.true _ c.word_at.ensures c.requires.1)

pub loop-preserved : goal.loop-preserved
loop-preserved c =
    let w = rw (word_is _ c.word_at.type_inv _ c.to_be_bytes.ensures) at c.put-here.ensures in
    putting_next word_bytes word_form _ _ _ _ _ _ _ _ _ c.loop.invariant 4 (λ s. refl) c.loop-test.true _ c.word_at.ensures (omega arith) _ _ w

pub returns : goal.returns
returns c = putting_end word_bytes word_form _ _ _ _ _ _ _ _ _ c.loop.invariant c.loop-test.false
