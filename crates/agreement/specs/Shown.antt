-- What is shown after a list of events (document 01, "Network layout and translation"): by the definition on a sheet, and by a network.
use Rattle.std.proofs.Math.Option.{Option, none, some}
use Rattle.std.specs.Prelude.{List, [], ◌∷◌, ◌++◌, map, ℕ}
use Rattle.sheet.specs.Parts.{Sheet}
use Rattle.sheet.specs.Decode.{network_of}
use Rattle.sheet.specs.Log.{Event}
use Rattle.step.specs.declared.Verdict.{Verdict}
use Rattle.step.specs.Lists.{first}
use Rattle.step.specs.Calls.{Call}
use Rattle.step.specs.Verdicts.{cause_state, cause_triple}
use Rattle.step.specs.Runs.{Offered}
use Rattle.step.specs.Answers.{Response, answer_of}
use Rattle.monitor.specs.Monitor as Monitor
use Rattle.network.specs.declared.Checker.{Checker}
use Rattle.network.specs.declared.NetworkState.{NetworkState}
use Rattle.network.specs.Network.{State, of_number}
use Rattle.network.specs.Padded.{view, fresh_of}
use Rattle.network.specs.Answers.{offer_of}

-- Offering the events of a list one after another, each to the state that came back before: the answers, and the last state.
pub record Followed (W : Type 0) : Type 0 where
  pub answers : List Response
  pub state : W

unfoldable pub follow : {W : Type 0} → (W → Event → Offered W) → W → List Event → Followed W
follow offer w [] = record { answers = []; state = w }
follow offer w (e ∷ es) =
    let o = offer w e in
    let rest = follow offer o.state es in
    record { answers = answer_of o.answer ∷ rest.answers; state = rest.state }

-- "The definition is fed the sheet and the events' arguments, nothing of the network or its answers, and starts from the sheet's fresh state."
unfoldable pub defined : Sheet → List Event → Followed Monitor.State
defined S es = follow (Monitor.offer S) (Monitor.fresh S) es

-- "All use the network as translating wrote it .. The first gets the fresh state made from it, each later one the state handed back before, untouched between."
unfoldable pub offered_to : List ℕ → List Event → Followed NetworkState
offered_to n es = follow (offer_of n) (fresh_of n) es

-- A verdict: "the event's position", "the bad state, the lowest failing triple, or both". An open call: "number and unit". A living checker: "call number, triple
-- number and the values at entry", "template for triple". Each with the position of the call's entry (document 02, request 4).
pub record Told : Type 0 where
  pub position : ℕ
  pub state : Option ℕ
  pub triple : Option ℕ
  pub entry : ℕ

pub record Opened : Type 0 where
  pub number : ℕ
  pub unit : ℕ
  pub entry : ℕ

pub record Living : Type 0 where
  pub number : ℕ
  pub triple : ℕ
  pub entry : ℕ
  pub values : List ℕ

-- "each answer (taken, or the refusal's number) and, after the list, verdict, position, main state, variables, open calls (number and unit, in order of
-- entry) and the row of living checkers"
pub record Shown : Type 0 where
  pub answers : List Response
  pub verdict : Option Told
  pub position : ℕ
  pub main : ℕ
  pub variables : List ℕ
  pub calls : List Opened
  pub checkers : List Living

abbrev pub told : Option Verdict → Option Told
told none = none
told (some v) = some (record { position = v.position; state = cause_state v.cause; triple = cause_triple v.cause; entry = v.entry })

abbrev pub open_call : Call → Opened
open_call c = record { number = c.number; unit = c.unit; entry = c.entry }

-- By the definition: "one for each triple armed, by calls in order of entry, then in triple order, with call number, triple number and the values at entry"
unfoldable pub armed_row : List Monitor.Armed → List Living
armed_row [] = []
armed_row (a ∷ l) = map (λ i. record { number = a.call.number; triple = i; entry = a.call.entry; values = a.call.kept }) a.armed ++ armed_row l

unfoldable pub shown_by_sheet : Followed Monitor.State → Shown
shown_by_sheet r =
    let σ = r.state in
    record {
      answers = r.answers;
      verdict = told σ.verdict;
      position = σ.position;
      main = σ.configuration.main;
      variables = σ.configuration.variables;
      calls = map (λ (a : Monitor.Armed). open_call a.call) σ.calls;
      checkers = armed_row σ.calls;
    }

-- By the network: what its state shows, each checker with the values that its call keeps.
abbrev pub kept_by : Option Call → List ℕ
kept_by none = []
kept_by (some c) = c.kept

abbrev pub living : List Call → Checker → Living
living calls h = record { number = h.number; triple = h.template; entry = h.entry; values = kept_by (first (of_number h.number) calls) }

abbrev pub shown_in : List Response → State → Shown
shown_in answers σ =
    record {
      answers = answers;
      verdict = told σ.verdict;
      position = σ.position;
      main = σ.configuration.main;
      variables = σ.configuration.variables;
      calls = map open_call σ.calls;
      checkers = map (living σ.calls) σ.checkers;
    }

unfoldable pub shown_by_network : List ℕ → Followed NetworkState → Shown
shown_by_network n r = shown_in r.answers (view (network_of n) r.state)
