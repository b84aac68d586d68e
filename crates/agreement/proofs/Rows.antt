-- The rows: what the definition shows by computation, what the networks show by demand 3. Assumes nothing.
use mathlib.Core.Path.{◌≡◌, refl, ◌∙◌}
use mathlib.Core.Bool.{true}
use mathlib.Core.List.{map}
use lib.Dec.{leb}
use lib.ListN.{length}
use Rattle.condition.specs.Word.{big_endian, signed, unsigned, clamp, low_end, high_end, plus_word, less_word, equal_word}
use Rattle.condition.specs.Tree.{condition_names, value_names, action_names, is_monitor, is_at_entry}
use Rattle.condition.specs.Parse.{is_lent, literal, numbered, condition_operator, value_operator, condition_from, value_from, parse_condition, assignment_from, run_from, parse_action}
use Rattle.condition.specs.Meaning.{holds, word, value_of, assigned, performed}
use Rattle.condition.specs.Count.{condition_count, value_count, action_count}
use Rattle.condition.specs.Answer.{condition_which, action_which}
use Rattle.sheet.specs.Table.{records, extent, every}
use Rattle.sheet.specs.Decode.{conditions_at, actions_at, transitions_at, last_at, common_of, sheet_of, network_of}
use Rattle.sheet.specs.Reading.{reading, whole, counted, tabled, formed, roled, ranged, transition_ranged, triple_ranged, together, pair_ranged, template_ranged, sheet_layout}
use Rattle.sheet.specs.Log.{log_reading, records_in, events_of}
use Rattle.sheet.specs.Rows.{sheet_b, network_a, card_a}
use Rattle.step.specs.Lists.{any, first, keep, up_to, total, numbers, least}
use Rattle.step.specs.Meets.{meets, meets_count, acted, acted_count}
use Rattle.step.specs.Moves.{enabled, moved, tried, moved_count}
use Rattle.step.specs.Calls.{refusals, lowest}
use Rattle.step.specs.Runs as Runs
use Rattle.translation.specs.Translate.{pairs_from, joined, added, extended, translate}
use Rattle.translation.specs.Card.{joined_text, joined_from, joined_conditions}
use Rattle.translation.specs.Answer.{card_bytes}
use Rattle.monitor.specs.Monitor.{fresh, offer, refusal, entered, exited, arms, armed_by, fails}
use Rattle.monitor.specs.Rows as OnSheet
use Rattle.network.specs.Network as Network
use Rattle.network.specs.Answers.{run_of, run_count_of}
use Rattle.agreement.specs.Shown.{follow, defined, armed_row, shown_by_sheet}
use Rattle.agreement.specs.Demand.{AsDefined}
use Rattle.agreement.specs.Rows.{Row, rows, Rows}
use Rattle.agreement.proofs.Agreement.{network_defined}
use Rattle.agreement.proofs.Card.{card_agrees}

defined_rows : map (λ (r : Row). shown_by_sheet (defined (sheet_of sheet_b) r.events)) rows ≡ map (λ (r : Row). r.shown) rows
unfolding defined follow shown_by_sheet armed_row fresh offer refusal refusals lowest any first keep numbers least entered exited arms armed_by fails moved enabled meets acted sheet_of common_of conditions_at actions_at transitions_at last_at records extent big_endian parse_condition parse_action condition_from value_from condition_operator value_operator literal numbered is_lent assignment_from run_from performed assigned holds word equal_word less_word plus_word signed unsigned clamp low_end high_end value_of
defined_rows = refl

sheet_read : reading sheet_layout sheet_b ≡ 0
unfolding reading whole counted tabled formed roled ranged transition_ranged triple_ranged together records extent every conditions_at actions_at transitions_at last_at common_of big_endian condition_names value_names action_names is_monitor is_at_entry is_lent literal numbered condition_operator value_operator condition_from value_from parse_condition assignment_from run_from parse_action condition_which action_which
sheet_read = refl

network_runs : map (λ (r : OnSheet.Row). run_of network_a (OnSheet.log r.records)) OnSheet.rows ≡ map (λ (r : OnSheet.Row). r.expected) OnSheet.rows
unfolding run_of log_reading reading whole counted tabled formed roled ranged transition_ranged pair_ranged template_ranged every condition_names value_names action_names is_monitor is_at_entry assignment_from run_from condition_which action_which Network.run Runs.run_from Network.fresh Network.offer Network.refusal refusals lowest any first keep least Network.entered Network.exited Network.created Network.fails moved enabled meets acted events_of records_in network_of common_of conditions_at actions_at transitions_at last_at records extent big_endian parse_condition parse_action condition_from value_from condition_operator value_operator literal numbered is_lent performed holds word equal_word value_of
network_runs = refl

network_counts : map (λ (r : OnSheet.Row). run_count_of network_a (OnSheet.log r.records)) OnSheet.rows ≡ map (λ (r : OnSheet.Row). r.counted) OnSheet.rows
unfolding run_count_of log_reading reading whole counted tabled formed roled ranged transition_ranged pair_ranged template_ranged every condition_names value_names action_names is_monitor is_at_entry assignment_from run_from condition_which action_which Network.run_count Network.count Network.pair_count Runs.run_count_from moved_count tried up_to total meets_count acted_count condition_count value_count action_count Network.fresh Network.offer Network.refusal refusals lowest any first keep least Network.entered Network.exited Network.created Network.fails moved enabled meets acted events_of records_in network_of common_of conditions_at actions_at transitions_at last_at records extent big_endian parse_condition parse_action condition_from value_from condition_operator value_operator literal numbered is_lent performed holds word equal_word value_of
network_counts = refl

card_counts_lem : map (λ (r : OnSheet.Row). run_count_of card_a (OnSheet.log r.records)) OnSheet.rows ≡ map (λ (r : OnSheet.Row). r.counted) OnSheet.rows
unfolding run_count_of log_reading reading whole counted tabled formed roled ranged transition_ranged pair_ranged template_ranged every condition_names value_names action_names is_monitor is_at_entry assignment_from run_from condition_which action_which Network.run_count Network.count Network.pair_count Runs.run_count_from moved_count tried up_to total meets_count acted_count condition_count value_count action_count Network.fresh Network.offer Network.refusal refusals lowest any first keep least Network.entered Network.exited Network.created Network.fails moved enabled meets acted events_of records_in network_of common_of conditions_at actions_at transitions_at last_at records extent big_endian parse_condition parse_action condition_from value_from condition_operator value_operator literal numbered is_lent performed holds word equal_word value_of
card_counts_lem = refl

short : every (λ t. leb (length t) 1024) (joined_conditions (translate (sheet_of sheet_b))) ≡ true
unfolding every joined_from joined_text pairs_from joined added extended translate sheet_of common_of conditions_at actions_at transitions_at last_at records extent big_endian
short = refl

card_defined : AsDefined sheet_b (card_bytes sheet_b)
card_defined = (card_agrees sheet_b sheet_read short).defined

pub rows_hold : Rows
unfolding keep meets parse_condition condition_from condition_operator holds network_of common_of conditions_at actions_at transitions_at records extent big_endian
rows_hold =
    record {
      defined = defined_rows;
      network = (λ i. map (λ (r : Row). ((network_defined sheet_b sheet_read).agrees r.events).shown i) rows) ∙ defined_rows;
      card = (λ i. map (λ (r : Row). (card_defined.agrees r.events).shown i) rows) ∙ defined_rows;
      runs = network_runs;
      counts = network_counts;
      card_counts = card_counts_lem;
      exclusive = (refl, refl, refl, refl, refl, refl);
    }
