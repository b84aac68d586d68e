-- What offering an event and running a log answer (document 01, "What each operation turns away").
use Rattle.std.specs.Prelude.{List, ℕ}
use Rattle.sheet.specs.Bytes.{byte}
use Rattle.sheet.specs.Decode.{sheet_of}
use Rattle.sheet.specs.Reading.{reading, sheet_layout}
use Rattle.sheet.specs.Log.{Event}
use Rattle.step.specs.Runs.{Offered}
use Rattle.step.specs.Answers.{Ending, offered_on, clean_in, ran_on, counted_on, ran_count}
use Rattle.monitor.specs.declared.WatchState.{WatchState}
use Rattle.monitor.specs.Monitor as Monitor
use Rattle.monitor.specs.Padded.{pad, view, sound_state}

-- "One event, on sheet or network": the refusal's number or 0, and the state that comes back
unfoldable pub offer_of : List ℕ → WatchState → Event → Offered WatchState
offer_of s w e = offered_on (reading sheet_layout s) (sound_state (sheet_of s) w) (Monitor.refusal (sheet_of s) (view (sheet_of s) w) e) w (pad (Monitor.offer (sheet_of s) (view (sheet_of s) w) e).state)

-- running a log from the fresh state
unfoldable pub run_of : List ℕ → List ℕ → Ending
run_of s log = ran_on (reading sheet_layout s) (byte s 5) log (λ σ. clean_in σ.position σ.configuration σ.calls) (Monitor.run (sheet_of s))

-- document 02, request 3: how much an event, and running a log, evaluates
unfoldable pub count_of : List ℕ → WatchState → Event → ℕ
count_of s w e = counted_on (reading sheet_layout s) (sound_state (sheet_of s) w) (Monitor.count (sheet_of s) (view (sheet_of s) w) e)

unfoldable pub run_count_of : List ℕ → List ℕ → ℕ
run_count_of s log = ran_count (reading sheet_layout s) (byte s 5) log (Monitor.run_count (sheet_of s))
