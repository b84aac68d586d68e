-- The records of a log offered to a sheet's network (document 01, "Network layout and translation"): "Demand 3's list holds calls that offer one event to a
-- network, whatever its kind, unit, call number and values, and no others. All use the network as translating wrote it, cut to its length. The first gets the fresh
-- state made from it, each later one the state handed back before, untouched between." What comes of it is said here from the sheet and the log alone.
use Rattle.std.specs.Prelude.{List, [], map, ℕ, zero, suc, Result, Ok, Err}
use Rattle.sheet.specs.Bytes.{byte}
use Rattle.sheet.specs.Decode.{sheet_of}
use Rattle.sheet.specs.Reading.{or_else, reading, sheet_layout}
use Rattle.sheet.specs.Log.{log_reading, records_in, events_of}
use Rattle.step.specs.Answers.{Response, taken, declined, unless_taken}
use Rattle.monitor.specs.Monitor as Monitor
use Rattle.network.specs.declared.NetworkState.{NetworkState}
use Rattle.network.specs.Padded.{zero_state, pad}
use Rattle.network.specs.Grouped.{ungrouped}
use Rattle.agreement.specs.Shown.{Followed, defined}
use Rattle.refusal.specs.declared.Refusal.{Refusal}
use Rattle.refusal.specs.Numbers as Numbers

-- The paper's words for the answer: how many records were offered, or the refusal's number.
pub data Replaying : Type 0 where
  offered : ℕ → Replaying
  refused : ℕ → Replaying

abbrev pub replay_paper : Result ℕ Refusal → Replaying
replay_paper (Ok n) = offered n
replay_paper (Err r) = refused (Numbers.number_of r)

-- by the number of the refusal; 0 stands for none
abbrev pub replay_with : ℕ → ℕ → Replaying
replay_with zero count = offered count
replay_with (suc n) count = refused (suc n)

-- "the reading refusals; 16: ..; 17: ..; 18: .."
unfoldable pub replay_refusal : List ℕ → List ℕ → ℕ
replay_refusal s log = or_else (reading sheet_layout s) (log_reading (byte s 5) log)

-- "The definition is fed the sheet and the events' arguments, nothing of the network or its answers"
unfoldable pub defined_over : List ℕ → List ℕ → Followed Monitor.State
defined_over s log = defined (sheet_of s) (events_of (byte s 5) log)

-- "each answer (taken, or the refusal's number)", taken as 0
abbrev pub number_of : Response → ℕ
number_of taken = 0
number_of (declined n) = n

unfoldable pub replay_of : List ℕ → List ℕ → Replaying
replay_of s log = replay_with (replay_refusal s log) (records_in (byte s 5) log)

-- The last state: the definition's, "template for triple", as a network holds it; "an all-zero state" on a refusal.
unfoldable pub replayed_state : List ℕ → List ℕ → NetworkState
replayed_state s log = unless_taken (replay_refusal s log) zero_state (pad (ungrouped (defined_over s log).state))

-- The answers: the definition's; none on a refusal.
unfoldable pub replayed_answers : List ℕ → List ℕ → List ℕ
replayed_answers s log = unless_taken (replay_refusal s log) [] (map number_of (defined_over s log).answers)
