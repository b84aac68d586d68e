-- Reading's refusals, row by row, and the bytes of A's networks. Assumes nothing.
use mathlib.Core.Path.{refl}
use Rattle.condition.specs.Word.{big_endian}
use Rattle.condition.specs.Tree.{condition_names, value_names, action_names, is_monitor, is_at_entry}
use Rattle.condition.specs.Parse.{is_lent, literal, numbered, condition_operator, value_operator, condition_from, value_from, parse_condition, assignment_from, run_from, parse_action}
use Rattle.condition.specs.Answer.{condition_which, action_which}
use Rattle.sheet.specs.Table.{records, extent, every}
use Rattle.sheet.specs.Decode.{conditions_at, actions_at, transitions_at, last_at, common_of, network_of}
use Rattle.sheet.specs.Reading.{reading, whole, counted, tabled, formed, roled, ranged, transition_ranged, triple_ranged, together, pair_ranged, template_ranged}
use Rattle.sheet.specs.Encode.{written, table_bytes, encode}
use Rattle.sheet.specs.Rows.{Rows, Encoded}

pub rows_hold : Rows
unfolding reading whole counted tabled formed roled ranged transition_ranged triple_ranged together pair_ranged template_ranged records extent every conditions_at actions_at transitions_at last_at common_of big_endian condition_names value_names action_names is_monitor is_at_entry is_lent literal numbered condition_operator value_operator condition_from value_from parse_condition assignment_from run_from parse_action condition_which action_which written
rows_hold = refl

pub encoded_holds : Encoded
unfolding network_of common_of records extent conditions_at actions_at transitions_at last_at big_endian written table_bytes encode
encoded_holds = (refl, refl)
