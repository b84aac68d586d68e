-- The starred rows, by computation. Assumes nothing.
use mathlib.Core.Path.{◌≡◌, refl}
use Rattle.condition.specs.Word.{big_endian, equal_word}
use Rattle.condition.specs.Tree.{condition_names, value_names, action_names, is_monitor, is_at_entry}
use Rattle.condition.specs.Parse.{is_lent, literal, numbered, condition_operator, value_operator, condition_from, value_from, parse_condition, assignment_from, run_from, parse_action}
use Rattle.condition.specs.Meaning.{holds, word, value_of, performed}
use Rattle.condition.specs.Count.{condition_count, value_count, action_count}
use Rattle.condition.specs.Answer.{condition_which, action_which}
use Rattle.sheet.specs.Table.{records, extent, every, fit}
use Rattle.sheet.specs.Decode.{conditions_at, actions_at, transitions_at, last_at, common_of, sheet_of}
use Rattle.sheet.specs.Reading.{reading, sheet_layout, whole, counted, tabled, formed, roled, ranged, transition_ranged, triple_ranged, together}
use Rattle.sheet.specs.Encode.{written}
use Rattle.sheet.specs.Log.{log_reading, records_in, events_of}
use Rattle.step.specs.Lists.{any, first, keep, up_to, total, numbers, least, distinct, rising, beside}
use Rattle.step.specs.Meets.{meets, meets_count, acted, acted_count}
use Rattle.step.specs.Moves.{enabled, moved, tried, moved_count}
use Rattle.step.specs.Calls.{refusals, lowest}
use Rattle.step.specs.Padding.{clear}
use Rattle.step.specs.Runs as Runs
use Rattle.monitor.specs.Monitor.{fresh, offer, refusal, entered, exited, arms, armed_by, fails, run, precondition_count, count, run_count}
use Rattle.monitor.specs.Answers.{run_of, count_of, run_count_of}
use Rattle.monitor.specs.Padded.{pad, view, tidy, sound_state, fresh_of}
use Rattle.monitor.specs.Sound.{sound}
use Rattle.monitor.specs.Rows.{Rows, CountedRows, fullest, Fullest}

pub rows_hold : Rows
unfolding run_of log_reading reading whole counted tabled formed roled ranged transition_ranged triple_ranged together every condition_names value_names action_names is_monitor is_at_entry assignment_from run_from condition_which action_which run Runs.run_from fresh offer refusal refusals lowest any first keep numbers least entered exited arms armed_by fails moved enabled meets acted events_of records_in sheet_of common_of conditions_at actions_at transitions_at last_at records extent big_endian parse_condition parse_action condition_from value_from condition_operator value_operator literal numbered is_lent performed holds word equal_word value_of
rows_hold = refl

pub counted_hold : CountedRows
unfolding run_count_of run_count count precondition_count Runs.run_count_from moved_count tried up_to total meets_count acted_count condition_count value_count action_count log_reading reading whole counted tabled formed roled ranged transition_ranged triple_ranged together every condition_names value_names action_names is_monitor is_at_entry assignment_from run_from condition_which action_which run Runs.run_from fresh offer refusal refusals lowest any first keep numbers least entered exited arms armed_by fails moved enabled meets acted events_of records_in sheet_of common_of conditions_at actions_at transitions_at last_at records extent big_endian parse_condition parse_action condition_from value_from condition_operator value_operator literal numbered is_lent performed holds word equal_word value_of
counted_hold = refl

fullest_read : reading sheet_layout fullest ≡ 0
unfolding written reading whole counted tabled formed roled ranged transition_ranged triple_ranged together every condition_names value_names action_names is_monitor is_at_entry assignment_from run_from condition_which action_which common_of conditions_at actions_at transitions_at last_at records extent big_endian parse_condition parse_action condition_from value_from condition_operator value_operator literal numbered is_lent
fullest_read = refl

pub fullest_counted : Fullest
unfolding written count_of count precondition_count Runs.run_count_from moved_count tried up_to total meets_count acted_count condition_count value_count action_count log_reading reading whole counted tabled formed roled ranged transition_ranged triple_ranged together every condition_names value_names action_names is_monitor is_at_entry assignment_from run_from condition_which action_which run Runs.run_from fresh offer refusal refusals lowest any first keep numbers least entered exited arms armed_by fails moved enabled meets acted events_of records_in sheet_of common_of conditions_at actions_at transitions_at last_at records extent big_endian parse_condition parse_action condition_from value_from condition_operator value_operator literal numbered is_lent performed holds word equal_word value_of fresh_of sound_state pad tidy fit clear sound view beside distinct rising
fullest_counted = (fullest_read, refl)
