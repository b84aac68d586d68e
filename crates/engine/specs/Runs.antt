-- A run in words, and what running a log answers (document 01, "What each operation turns away").
use Rattle.std.specs.Prelude.{List, ℕ, ◌+◌, take, replicate}
use Rattle.condition.specs.Answer.{most_variables}
use Rattle.sheet.specs.Bytes.{byte, half}
use Rattle.sheet.specs.Table.{table, fit}
use Rattle.sheet.specs.Decode.{word_form, sheet_of, network_of}
use Rattle.sheet.specs.Reading.{reading, sheet_layout, network_layout}
use Rattle.sheet.specs.Log.{Event}
use Rattle.std.specs.Prelude.{None}
use Rattle.step.specs.Verdicts.{verdict_in}
use Rattle.step.specs.Runs.{Offered, Ran, run_from, run_count_from}
use Rattle.step.specs.Answers.{Ending, clean, clean_in, ran_on, ran_count}
use Rattle.engine.specs.declared.Given.{Given}
use Rattle.engine.specs.Machine.{State, run, run_count}
use Rattle.engine.specs.Machines.{of_sheet, of_network}
use Rattle.engine.specs.Walk.{Words, words, offer_in, event_count_in, given_of, eight_of}

abbrev pub offer_by : List ℕ → List ℕ → Words → Event → Offered Words
offer_by s p σ e = offer_in s p σ (given_of e) (eight_of e)

-- the words before the first event: the start state, the initial values, no calls
unfoldable pub start_in : List ℕ → Words
start_in s = words (record { main = byte s 7; opened = 0; position = 0; outcome = None }) (replicate 256 0) (take most_variables (fit 8 0 (table word_form (byte s 6) s 14)))

unfoldable pub follow_in : List ℕ → List ℕ → List Event → Ran Words
follow_in s p es = run_from (offer_by s p) (λ σ. verdict_in σ.run.outcome) 1 (start_in s) es

abbrev pub event_count_by : List ℕ → List ℕ → Words → Event → ℕ
event_count_by s p σ e = event_count_in s p σ (given_of e) (eight_of e)

unfoldable pub follow_count : List ℕ → List ℕ → List Event → ℕ
follow_count s p es = run_count_from (offer_by s p) (λ σ. verdict_in σ.run.outcome) (event_count_by s p) (start_in s) es

abbrev pub ends_by : Words → Ending
ends_by σ = clean σ.run.position σ.run.main σ.run.opened

-- a clean end on a machine
abbrev pub ends_in : State → Ending
ends_in σ = clean_in σ.position σ.configuration σ.calls

-- running a log on a sheet and on a network
unfoldable pub sheet_run : List ℕ → List ℕ → Ending
sheet_run s log = ran_on (reading sheet_layout s) (byte s 5) log ends_in (run (of_sheet (sheet_of s)))

unfoldable pub network_run : List ℕ → List ℕ → Ending
network_run s log = ran_on (reading network_layout s) (byte s 5) log ends_in (run (of_network (network_of s)))

unfoldable pub sheet_count : List ℕ → List ℕ → ℕ
sheet_count s log = ran_count (reading sheet_layout s) (byte s 5) log (run_count (of_sheet (sheet_of s)))

unfoldable pub network_count : List ℕ → List ℕ → ℕ
network_count s log = ran_count (reading network_layout s) (byte s 5) log (run_count (of_network (network_of s)))

-- the record at a place of a log, for so many values
abbrev pub given_at : List ℕ → ℕ → ℕ → Given
given_at log at programs = record { kind = byte log at; unit = byte log (at + 1); number = half log (at + 2); count = programs }
