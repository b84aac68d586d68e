-- `write::words` meets its contract. Assumes nothing.
use Rattle.sheet.specs.Table.{table}
use Rattle.sheet.specs.Decode.{word_form}
use Rattle.sheet.specs.Encode.{word_bytes, written}
use Rattle.translation.proofs.Sheets.Putting.{Putting}
use Rattle.translation.proofs.write.words.Given as goal

abbrev pub invariant-loop : goal.invariant-loop
invariant-loop l = Putting word_bytes word_form l.s l.initial.out l.at (written word_bytes (table word_form l.n l.s l.from)) l.n l.out l.counter l.place l.here
