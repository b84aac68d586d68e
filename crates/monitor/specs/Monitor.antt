-- One event and a run of them on a sheet (document 01, "One event"), on states without padding.
use Rattle.std.specs.Prelude.{Bool, not, cond, ◌&&◌, List, [], ◌∷◌, ◌++◌, map, ℕ, ◌+◌, eqb, get_or}
use Rattle.std.proofs.Math.Option.{Option, none, some}
use Rattle.condition.specs.Meaning.{environment}
use Rattle.sheet.specs.declared.Triple.{Triple}
use Rattle.sheet.specs.Parts.{Sheet}
use Rattle.sheet.specs.Log.{Event}
use Rattle.step.specs.Lists.{first, keep, numbers, least, total}
use Rattle.step.specs.Meets.{meets, meets_count}
use Rattle.step.specs.Moves.{Configuration, seen, moved, moved_count}
use Rattle.step.specs.Calls.{Call, is_entry, entry_for, refusals, lowest}
use Rattle.step.specs.Verdicts.{verdict, is_judged}
use Rattle.step.specs.Runs.{Offered, offered, Ran, run_from, run_count_from}
use Rattle.step.specs.Answers.{unless_taken}
use Rattle.engine.specs.Machine as Machine

-- an open call with the numbers of the triples armed for it, and a state: those of every machine
abbrev pub Armed : Type 0
Armed = Machine.Armed

abbrev pub State : Type 0
State = Machine.State

-- "start state, initial values"
abbrev pub initial : Sheet → Configuration
initial S = record { main = S.common.start; variables = S.common.initial }

-- "A fresh state ..: start state, initial values, no calls, position 0, no verdict."
unfoldable pub fresh : Sheet → State
fresh S = record { configuration = initial S; calls = []; position = 0; verdict = none }

-- a triple by its number
abbrev pub triple_in : Sheet → ℕ → Triple
triple_in S i = get_or S.triples i (record { state = 0; unit = 0; precondition = 0; postcondition = 0 })

-- "in the state held before the event, every triple of that state and unit whose precondition holds is armed for this call"
unfoldable pub arms : Sheet → Configuration → Event → Triple → Bool
arms S k e t = eqb t.state k.main && (eqb t.unit e.unit && meets S.common t.precondition (seen e k))

unfoldable pub armed_by : Sheet → Configuration → Event → List ℕ
armed_by S k e = numbers (arms S k e) 0 S.triples

-- "has its postcondition judged on the exit values, with the kept ones as values at entry"
unfoldable pub fails : Sheet → Configuration → Event → Call → ℕ → Bool
fails S k e c i = not (meets S.common (triple_in S i).postcondition (environment e.values k.variables c.kept))

-- the lowest triple that fails at the exit of a call
abbrev pub failing : Sheet → Configuration → Event → Option Armed → Option ℕ
failing S k e none = none
failing S k e (some a) = least (keep (fails S k e a.call) a.armed)

abbrev pub of_number : ℕ → Armed → Bool
of_number n a = eqb a.call.number n

-- an entry: "the P values are kept"; request 4: its position is remembered
unfoldable pub entered : Sheet → State → Event → State
entered S σ e =
    let to = moved S.common S.transitions σ.configuration e in
    record {
      configuration = to;
      calls = σ.calls ++ record { call = record { number = e.number; unit = e.unit; entry = σ.position + 1; kept = e.values }; armed = armed_by S σ.configuration e } ∷ [];
      position = σ.position + 1;
      verdict = verdict S.common.bad (σ.position + 1) to.main none 0;
    }

-- an exit: "every triple armed for this call ..; the call's place is then free"
unfoldable pub exited : Sheet → State → Event → State
exited S σ e =
    let to = moved S.common S.transitions σ.configuration e in
    record {
      configuration = to;
      calls = keep (λ a. not (of_number e.number a)) σ.calls;
      position = σ.position + 1;
      verdict = verdict S.common.bad (σ.position + 1) to.main (failing S σ.configuration e (first (of_number e.number) σ.calls)) (entry_for e.number (map (λ a. a.call) σ.calls));
    }

-- the lowest of refusals 10 to 15, or 0
unfoldable pub refusal : Sheet → State → Event → ℕ
refusal S σ e = lowest (refusals S.common (is_judged σ.verdict) σ.position (map (λ a. a.call) σ.calls) e)

unfoldable pub offer : Sheet → State → Event → Offered State
offer S σ e = offered (refusal S σ e) σ (cond (is_entry e) (entered S σ e) (exited S σ e))

unfoldable pub run : Sheet → List Event → Ran State
run S es = run_from (offer S) (λ σ. σ.verdict) 1 (fresh S) es

-- Document 02, request 3: "One event on a sheet adds up the conditions tried, the values assigned and the pre- and postconditions judged": at an entry the
-- preconditions of every triple of the state and unit, at an exit the postconditions of every triple armed for the call.
unfoldable pub precondition_count : Sheet → Configuration → Event → ℕ
precondition_count S k e = total (λ (t : Triple). meets_count S.common t.precondition (seen e k)) (keep (λ (t : Triple). eqb t.state k.main && eqb t.unit e.unit) S.triples)

abbrev pub postcondition_count : Sheet → Configuration → Event → Option Armed → ℕ
postcondition_count S k e none = 0
postcondition_count S k e (some a) = total (λ i. meets_count S.common (triple_in S i).postcondition (environment e.values k.variables a.call.kept)) a.armed

-- "(A refused event .. counts 0.)"
unfoldable pub count : Sheet → State → Event → ℕ
count S σ e =
    let k = σ.configuration in
    let judged = cond (is_entry e) (precondition_count S k e) (postcondition_count S k e (first (of_number e.number) σ.calls)) in
    unless_taken (refusal S σ e) 0 (moved_count S.common S.transitions k e + judged)

unfoldable pub run_count : Sheet → List Event → ℕ
run_count S es = run_count_from (offer S) (λ σ. σ.verdict) (count S) (fresh S) es
