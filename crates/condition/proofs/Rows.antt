-- The starred rows and the counted ones hold, by computation. Assumes nothing.
use Rattle.std.proofs.Common.{refl}
use Rattle.condition.specs.Word.{signed, unsigned, low_end, high_end, clamp, big_endian, plus_word, minus_word, less_word, within_word, difference}
use Rattle.condition.specs.Parse.{is_lent, parse_condition, parse_value, parse_action, condition_from, value_from, run_from, assignment_from, condition_operator, value_operator, literal, numbered}
use Rattle.condition.specs.Meaning.{value_of, holds, word, assigned}
use Rattle.condition.specs.Count.{condition_count, value_count, action_count}
use Rattle.condition.specs.Answer.{condition_outcome, value_outcome, condition_counted, value_counted, action_counted, run_counted}
use Rattle.condition.specs.Rows.{All, rows, AllCounted, counted_rows}

pub rows_hold : All rows
unfolding condition_outcome value_outcome parse_condition parse_value condition_from value_from condition_operator value_operator literal holds word signed big_endian plus_word minus_word unsigned clamp low_end high_end less_word within_word difference
rows_hold = (refl, (refl, (refl, (refl, (refl, (refl, (refl, (refl, (refl, (refl, (refl, (refl, tt))))))))))))

pub counted_hold : AllCounted counted_rows
unfolding is_lent value_of numbered condition_counted value_counted action_counted run_counted condition_count value_count action_count parse_condition parse_value parse_action condition_from value_from run_from assignment_from condition_operator value_operator literal holds word signed big_endian plus_word minus_word unsigned clamp low_end high_end less_word within_word difference assigned
counted_hold = (refl, (refl, (refl, (refl, (refl, (refl, (refl, (refl, (refl, (refl, (refl, (refl, (refl, (refl, (refl, (refl, (refl, (refl, (refl, (refl, (refl, (refl, (refl, (refl, tt))))))))))))))))))))))))
