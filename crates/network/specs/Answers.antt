-- What offering an event and running a log answer (document 01, "What each operation turns away"), and what a checker was created with.
use Rattle.std.specs.Prelude.{cond, ◌&&◌, List, ℕ, eqb, ltb, get_or, replicate, take}
use Rattle.std.proofs.Math.Option.{Option, none, some}
use Rattle.sheet.specs.Bytes.{byte}
use Rattle.sheet.specs.Decode.{network_of}
use Rattle.sheet.specs.Reading.{reading, network_layout}
use Rattle.sheet.specs.Log.{Event}
use Rattle.step.specs.declared.Call.{Call}
use Rattle.step.specs.Lists.{first}
use Rattle.step.specs.Calls.{most_values}
use Rattle.step.specs.Runs.{Offered}
use Rattle.step.specs.Answers.{Ending, offered_on, clean_in, ran_on, counted_on, ran_count}
use Rattle.network.specs.declared.NetworkState.{NetworkState}
use Rattle.network.specs.Network.{refusal, offer, run, count, run_count}
use Rattle.network.specs.Padded.{zero_checker, most_checkers, pad, view, sound_state}

-- "One event, on sheet or network": the refusal's number or 0, and the state that comes back
unfoldable pub offer_of : List ℕ → NetworkState → Event → Offered NetworkState
offer_of n w e = offered_on (reading network_layout n) (sound_state (network_of n) w) (refusal (network_of n) (view (network_of n) w) e) w (pad (offer (network_of n) (view (network_of n) w) e).state)

-- running a log from the fresh state
unfoldable pub run_of : List ℕ → List ℕ → Ending
run_of n log = ran_on (reading network_layout n) (byte n 5) log (λ σ. clean_in σ.position σ.configuration σ.calls) (run (network_of n))

-- document 02, request 3: how much an event, and running a log, evaluates
unfoldable pub count_of : List ℕ → NetworkState → Event → ℕ
count_of n w e = counted_on (reading network_layout n) (sound_state (network_of n) w) (count (network_of n) (view (network_of n) w) e)

unfoldable pub run_count_of : List ℕ → List ℕ → ℕ
run_count_of n log = ran_count (reading network_layout n) (byte n 5) log (run_count (network_of n))

-- "its kept values": those of the open call that a checker is bound to, for the checker at a place of the row
abbrev pub kept_by : Option Call → List ℕ
kept_by none = replicate most_values 0
kept_by (some c) = c.kept

unfoldable pub entry_values : NetworkState → ℕ → List ℕ
entry_values w i = cond (ltb i w.living && ltb i most_checkers) (kept_by (first (λ (c : Call). eqb c.number (get_or w.checkers i zero_checker).number) (take w.opened w.calls))) (replicate most_values 0)
