-- Answers are told by their paper's words; how long sheets and networks are; networks read back. Assumes nothing.
use mathlib.Core.Path.{refl, subst}
use mathlib.Core.Bool.{Bool}
use Prim.Native.Nat.{◌≤◌}
use lib.ListN.{length}
use Rattle.condition.specs.Word.{big_endian}
use Rattle.condition.specs.Tree.{condition_names, value_names, action_names, is_monitor, is_at_entry}
use Rattle.condition.specs.Parse.{is_lent, literal, numbered, condition_operator, value_operator, condition_from, value_from, parse_condition, assignment_from, run_from, parse_action}
use Rattle.condition.specs.Answer.{condition_which, action_which}
use Rattle.sheet.specs.Table.{records, extent, every}
use Rattle.sheet.specs.Decode.{conditions_at, actions_at, transitions_at, last_at, common_of}
use Rattle.sheet.specs.Reading.{reading, whole, counted, tabled, formed, roled, ranged, transition_ranged, triple_ranged, together, pair_ranged, template_ranged}
use Rattle.sheet.specs.Encode.{written}
use Rattle.sheet.proofs.Answers.{reading_injective, log_injective}
use Rattle.sheet.specs.Claims.{Told, Longest, ReadBack}
use Rattle.sheet.proofs.Encoding.{admitted_decode, reading_encode}
use Rattle.sheet.proofs.Limits.{sheet_longest, most_network, network_longest}
use Rattle.sheet.specs.Rows.{longest_sheet, longest_network}

pub told : Told
told = record { readings = reading_injective; logs = log_injective }

pub longest : Longest
unfolding reading whole counted tabled formed roled ranged transition_ranged triple_ranged together pair_ranged template_ranged records extent every conditions_at actions_at transitions_at last_at common_of big_endian condition_names value_names action_names is_monitor is_at_entry is_lent literal numbered condition_operator value_operator condition_from value_from parse_condition assignment_from run_from parse_action condition_which action_which written
longest =
    record {
      sheet = sheet_longest;
      sheet_reached = (longest_sheet, refl, refl);
      network = λ n h w. subst (λ (v : Bool). length n ≤ most_network v) w (network_longest n h);
      network_reached = (longest_network, refl, refl, refl);
    }

pub read_back : ReadBack
read_back w N h = (admitted_decode w N h, reading_encode w N h)
