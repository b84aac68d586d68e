-- The starred rows as they are printed, by computation. Assumes nothing.
use mathlib.Core.Path.{◌≡◌, refl, ap, ap₂, ◌∙◌}
use mathlib.Core.List.{List, [], ◌∷◌, ◌++◌, map, append_assoc}
use mathlib.Core.Bool.{true}
use Prim.Native.Nat.{ℕ}
use borrow.Author.Tests.{leb-true}
use lib.Dec.{leb}
use lib.ListN.{length, get_or}
use Rattle.condition.specs.Word.{big_endian, equal_word}
use Rattle.condition.specs.Tree.{condition_names, value_names, action_names, is_monitor, is_at_entry}
use Rattle.condition.specs.Parse.{is_lent, literal, numbered, condition_operator, value_operator, condition_from, value_from, parse_condition, assignment_from, run_from, parse_action}
use Rattle.condition.specs.Meaning.{holds, word, value_of, performed}
use Rattle.condition.specs.Answer.{condition_which, action_which}
use Rattle.sheet.specs.Table.{records, extent, every}
use Rattle.sheet.specs.Decode.{conditions_at, actions_at, transitions_at, last_at, common_of, sheet_of}
use Rattle.sheet.specs.Reading as Reading
use Rattle.sheet.specs.Reading.{reading, counted, tabled, formed, roled, ranged, transition_ranged, triple_ranged, together}
use Rattle.sheet.specs.Log.{log_reading, records_in, events_of}
use Rattle.step.specs.Lists.{any, first, keep, numbers, least}
use Rattle.step.specs.Meets.{meets, acted}
use Rattle.step.specs.Moves.{enabled, moved}
use Rattle.step.specs.Calls.{refusals, lowest}
use Rattle.step.specs.Runs as Runs
use Rattle.monitor.specs.Monitor.{fresh, offer, refusal, entered, exited, arms, armed_by, fails, run}
use Rattle.monitor.specs.Answers.{run_of}
use Rattle.lines.specs.Text.{decimal_from, decimal, line}
use Rattle.sheet.specs.Rows.{sheet_a}
use Rattle.monitor.specs.Rows.{log}
use Rattle.lines.specs.Lines.{most_input, sheet_size, sheet_in, log_in, lines_of}
use Rattle.lines.specs.Rows.{Row, rows, whole, Rows}
use Rattle.lines.proofs.Claims.{two_lines}

-- each row by itself
abbrev Printed : List Row → Type 0
Printed [] = Unit {0}
Printed (r ∷ l) = (lines_of (sheet_a ++ log r.records) ≡ whole r.line) × Printed l

all : (l : List Row) → Printed l → map (λ (r : Row). lines_of (sheet_a ++ log r.records)) l ≡ map (λ (r : Row). whole r.line) l
all [] h = refl
all (r ∷ l) h = ap₂ (λ (x : List ℕ) (y : List (List ℕ)). x ∷ y) h.0 (all l h.1)

-- the two lines are the sheet's run twice
printed : (r : Row) → leb (length (sheet_a ++ log r.records)) most_input ≡ true → line (run_of (sheet_in (sheet_a ++ log r.records)) (log_in (sheet_a ++ log r.records))) ≡ r.line ++ 10 ∷ [] → lines_of (sheet_a ++ log r.records) ≡ whole r.line
printed r h e = (two_lines (sheet_a ++ log r.records) (leb-true _ _ h)).equal ∙ ap (λ (x : List ℕ). x ++ x) e ∙ append_assoc r.line (10 ∷ []) (r.line ++ 10 ∷ [])

abbrev row : ℕ → Row
row k = get_or rows k (record { records = []; line = [] })

pub rows_hold : Rows
unfolding sheet_size line decimal decimal_from run_of log_reading reading Reading.whole counted tabled formed roled ranged transition_ranged triple_ranged together every condition_names value_names action_names is_monitor is_at_entry assignment_from run_from condition_which action_which run Runs.run_from fresh offer refusal refusals lowest any first keep numbers least entered exited arms armed_by fails moved enabled meets acted events_of records_in sheet_of common_of conditions_at actions_at transitions_at last_at records extent big_endian parse_condition parse_action condition_from value_from condition_operator value_operator literal numbered is_lent performed holds word equal_word value_of
rows_hold = all rows (printed (row 0) refl refl, (printed (row 1) refl refl, (printed (row 2) refl refl, (printed (row 3) refl refl, (printed (row 4) refl refl, (printed (row 5) refl refl, (printed (row 6) refl refl, (printed (row 7) refl refl, tt))))))))
