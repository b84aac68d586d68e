-- Sheet A's networks, by computation. Assumes nothing.
use mathlib.Core.Path.{refl}
use Rattle.sheet.specs.Encode as Encode
use Rattle.sheet.specs.Decode as Decode
use Rattle.sheet.specs.Table as Table
use Rattle.condition.specs.Word as Word
use Rattle.translation.specs.Translate.{pairs_from, joined, added, extended, translate}
use Rattle.translation.specs.Card.{joined_text, joined_from, guarded_from, with_conditions, separated, card}
use Rattle.translation.specs.Answer.{network_bytes, card_bytes}
use Rattle.translation.specs.Rows.{Rows}

pub rows_hold : Rows
unfolding network_bytes card_bytes card separated with_conditions guarded_from joined_from joined_text pairs_from joined added extended translate Decode.sheet_of Decode.common_of Decode.conditions_at Decode.actions_at Decode.transitions_at Decode.last_at Table.records Table.extent Encode.encode Encode.table_bytes Encode.written Word.big_endian
rows_hold = (refl, refl)
