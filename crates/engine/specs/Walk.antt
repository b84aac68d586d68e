-- What the operations on the bytes, the plan and the words of a state answer, for all of them. Where the plan is that of accepted bytes and the state is sound they
-- are the definitions of Machine.
use Rattle.std.specs.Prelude.{Bool, true, not, cond, ◌&&◌, List, [], ◌∷◌, map, ℕ, zero, suc, ◌+◌, ◌-◌, ◌*◌, ◌%◌, eqb, ltb, leb, length, get_or, set, take, drop}
use Rattle.std.specs.Prelude.{Result, Ok, Err}
use Rattle.std.proofs.Math.Option.{Option, none, some}
use Rattle.std.proofs.lemmas.List.Edits.{sets}
use Rattle.std.proofs.Math.Seq.{slice}
use Rattle.refusal.specs.declared.Refusal.{Refusal}
use Rattle.refusal.specs.Numbers as Numbers
use Rattle.condition.specs.Meaning.{Environment, environment}
use Rattle.condition.specs.Answer.{performed_on, action_outcome, action_counted, holds_from, count_from, text_from}
use Rattle.sheet.specs.Table.{fit}
use Rattle.sheet.specs.Log.{Event}
use Rattle.step.specs.Lists.{first, keep, up_to, total, place_of}
use Rattle.step.specs.Calls.{most_calls, most_values, most_armed, last_position}
use Rattle.step.specs.Verdicts.{is_judged, verdict, outcome_of, verdict_in}
use Rattle.step.specs.Runs.{Offered, offered}
use Rattle.step.specs.Answers.{unless_taken}
use Rattle.step.specs.Walk.{least_of, number_in}
use Rattle.engine.specs.declared.Running.{Running}
use Rattle.engine.specs.declared.Given.{Given}
use Rattle.engine.specs.declared.Advanced.{Advanced}
use Rattle.engine.specs.Plan.{units_in, programs_in, monitors_in, bad_in, cell_of, first_of, guard_of, action_of, target_of, gap_of, candidate_of, asked_of, number_of, behind_of, post_of}

-- the number of the refusal, 0 where there is none
abbrev pub code_of : Result (Unit {0}) Refusal → ℕ
code_of (Ok done) = 0
code_of (Err r) = Numbers.number_of r

-- What an event was answered: the number of the refusal, or 0; what it counts, and what is beside the calls and variables then.
pub record Answered : Type 0 where
  pub answer : ℕ
  pub count : ℕ
  pub run : Running

abbrev pub answered : Running → Result Advanced Refusal → Answered
answered run (Ok a) = record { answer = 0; count = a.count; run = a.run }
answered run (Err r) = record { answer = Numbers.number_of r; count = 0; run = run }

-- a condition by the place of its text, 0 for `true`
abbrev pub holds_by : List ℕ → ℕ → Environment → Bool
holds_by s at E = cond (eqb at 0) true (holds_from s at E)

-- and how much of it is evaluated
abbrev pub count_by : List ℕ → ℕ → Environment → ℕ
count_by s at E = cond (eqb at 0) 1 (count_from s at E)

-- The numbers in a chain, from one on: each with how many stand between it and the next, as long as they are below a limit.
unfoldable pub chain : (ℕ → ℕ) → ℕ → ℕ → ℕ → List ℕ
chain gap most zero i = []
chain gap most (suc k) i = cond (ltb i most) (i ∷ chain gap most k (suc (i + gap i))) []

abbrev pub otherwise : ℕ → Option ℕ → ℕ
otherwise d none = d
otherwise d (some n) = n

-- the first transition of a chain whose condition holds, or 96
unfoldable pub found_in : List ℕ → List ℕ → ℕ → Environment → ℕ
found_in s p t E = otherwise 96 (first (λ i. holds_by s (guard_of p i) E) (chain (gap_of p) 96 96 t))

-- how much is evaluated until it is found
unfoldable pub found_count : List ℕ → List ℕ → ℕ → Environment → ℕ
found_count s p t E = total (λ i. count_by s (guard_of p i) E) (up_to (λ i. holds_by s (guard_of p i) E) (chain (gap_of p) 96 96 t))

-- the numbers of the candidates of a chain whose condition holds
unfoldable pub armed_in : List ℕ → List ℕ → ℕ → Environment → List ℕ
armed_in s p i E = map (number_of p) (keep (λ j. holds_by s (asked_of p j) E) (chain (behind_of p) 384 384 i))

unfoldable pub armed_count : List ℕ → List ℕ → ℕ → Environment → ℕ
armed_count s p i E = total (λ j. count_by s (asked_of p j) E) (chain (behind_of p) 384 384 i)

-- The words of a call are sixteen: its number, its unit, how many are armed, four of them, the position of its entry, the eight values kept.
unfoldable pub entries : ℕ → List ℕ → List (List ℕ)
entries zero l = []
entries (suc n) l = take 16 l ∷ entries n (drop 16 l)

-- where the words of the call of a number begin
abbrev pub place_in : ℕ → ℕ → List ℕ → ℕ
place_in number opened row = 16 * place_of (λ w. eqb (get_or w 0 0) number) (entries opened row)

-- what is lent of the event's values and of the variables
abbrev pub seen_in : List ℕ → List ℕ → List ℕ → Environment
seen_in p values variables = environment (take (programs_in p) values) (take (monitors_in p) variables) []

-- the lowest number armed for the call at a place whose postcondition fails, or 256
abbrev pub armed_at : List ℕ → ℕ → List ℕ
armed_at row at = take (get_or row (at + 2) 0) (take most_armed (drop (at + 3) row))

abbrev pub kept_at : List ℕ → List ℕ → ℕ → List ℕ
kept_at p row at = take (programs_in p) (take most_values (drop (at + 8) row))

unfoldable pub low_in : List ℕ → List ℕ → List ℕ → ℕ → List ℕ → List ℕ → ℕ
low_in s p row at values variables = least_of 256 (keep (λ n. not (holds_by s (post_of p n) (environment values variables (kept_at p row at)))) (armed_at row at))

unfoldable pub low_count : List ℕ → List ℕ → List ℕ → ℕ → List ℕ → List ℕ → ℕ
low_count s p row at values variables = total (λ n. count_by s (post_of p n) (environment values variables (kept_at p row at))) (armed_at row at)

-- the main state and the variables after a transition
abbrev pub main_after : List ℕ → ℕ → ℕ → ℕ
main_after p t main = cond (ltb t 96) (target_of p t % 256) main

abbrev pub performed_at : List ℕ → ℕ → List ℕ → ℕ → List ℕ → List ℕ
performed_at s at program count variables = cond (eqb at 0) variables (performed_on count variables (action_outcome (text_from s at) (environment program (take count variables) [])))

abbrev pub variables_after : List ℕ → List ℕ → ℕ → List ℕ → List ℕ → List ℕ
variables_after s p t values variables = cond (ltb t 96) (performed_at s (action_of p t) (take (programs_in p) values) (monitors_in p) variables) variables

-- how much is evaluated of the values that it assigns
abbrev pub action_count_at : List ℕ → ℕ → List ℕ → ℕ → List ℕ → ℕ
action_count_at s at program count variables = cond (eqb at 0) 0 (action_counted (text_from s at) (environment program (take count variables) []))

abbrev pub action_count_after : List ℕ → List ℕ → ℕ → List ℕ → List ℕ → ℕ
action_count_after s p t values variables = cond (ltb t 96) (action_count_at s (action_of p t) (take (programs_in p) values) (monitors_in p) variables) 0

-- A state in words: what stands beside its calls and variables, the row of its calls, its variables.
pub record Words : Type 0 where
  pub run : Running
  pub row : List ℕ
  pub variables : List ℕ

abbrev pub words : Running → List ℕ → List ℕ → Words
words r row variables = record { run = r; row = row; variables = variables }

-- the lowest refusal, or 0
unfoldable pub entry_refusal : ℕ → ℕ → ℕ
entry_refusal opened at = cond (ltb at (16 * opened)) 13 (cond (ltb opened most_calls) 0 14)

unfoldable pub exit_refusal : List ℕ → ℕ → ℕ → ℕ → ℕ
exit_refusal row opened at unit = cond (ltb at (16 * opened)) (cond (eqb (get_or row (at + 1) 0) unit) 0 15) 15

unfoldable pub refusal_in : List ℕ → Running → List ℕ → Given → ℕ → ℕ
refusal_in p r row g at =
    cond (is_judged (verdict_in r.outcome)) 10 (cond (not (leb g.kind 1 && (ltb g.unit (units_in p) && eqb g.count (programs_in p)))) 11
    (cond (eqb r.position last_position) 12 (cond (eqb g.kind 0) (entry_refusal r.opened at) (exit_refusal row r.opened at g.unit))))

-- what stands beside the calls and variables after an event, for the lowest number that fails and the position of the entry of its call
abbrev pub run_after : List ℕ → ℕ → ℕ → ℕ → ℕ → ℕ → Running
run_after p position main opened low entry = record { main = main; opened = opened; position = position + 1; outcome = outcome_of (verdict (bad_in p) (position + 1) main (number_in low) entry) }

-- the row with a call behind the others: its number and unit, the position of its entry and its values, and what is armed for it
unfoldable pub row_with : List ℕ → ℕ → ℕ → ℕ → ℕ → List ℕ → List ℕ → List ℕ
row_with row at number unit entry values armed = set (sets (sets (sets row at (number ∷ unit ∷ [])) (at + 7) (entry ∷ values)) (at + 3) (take most_armed armed)) (at + 2) (length armed)

unfoldable pub entered_in : List ℕ → List ℕ → Words → Given → List ℕ → Words
entered_in s p σ g values =
    let r = σ.run in
    let E = seen_in p values σ.variables in
    let cell = cell_of r.main g.unit in
    let t = found_in s p (first_of p (2 * cell)) E in
    words (run_after p r.position (main_after p t r.main) (r.opened + 1) 256 0) (row_with σ.row (16 * r.opened) g.number g.unit (r.position + 1) values (armed_in s p (candidate_of p cell t) E)) (variables_after s p t values σ.variables)

-- the row without the call at a place
unfoldable pub row_without : List ℕ → ℕ → ℕ → List ℕ
row_without row at opened = sets row at (slice (at + 16) (16 * opened) row)

unfoldable pub exited_in : List ℕ → List ℕ → Words → ℕ → ℕ → List ℕ → Words
exited_in s p σ unit at values =
    let r = σ.run in
    let E = seen_in p values σ.variables in
    let t = found_in s p (first_of p (2 * cell_of r.main unit + 1)) E in
    words (run_after p r.position (main_after p t r.main) (r.opened - 1) (low_in s p σ.row at E.programs E.monitors) (get_or σ.row (at + 7) 0)) (row_without σ.row at r.opened) (variables_after s p t values σ.variables)

-- A row has room for sixteen calls: a state with more is refused with 9. Else "an event that meets one of 10-15 is refused with the lowest and changes nothing; any
-- other is taken".
abbrev pub taken_in : List ℕ → List ℕ → Words → Given → ℕ → List ℕ → Words
taken_in s p σ g at values = cond (eqb g.kind 0) (entered_in s p σ g values) (exited_in s p σ g.unit at values)

unfoldable pub offer_in : List ℕ → List ℕ → Words → Given → List ℕ → Offered Words
offer_in s p σ g values =
    let at = place_in g.number σ.run.opened σ.row in
    offered (cond (leb σ.run.opened most_calls) (refusal_in p σ.run σ.row g at) 9) σ (taken_in s p σ g at values)

-- how much is evaluated at an entry, at an exit, and at an event
unfoldable pub entered_count : List ℕ → List ℕ → Words → Given → List ℕ → ℕ
entered_count s p σ g values =
    let E = seen_in p values σ.variables in
    let cell = cell_of σ.run.main g.unit in
    let t = found_in s p (first_of p (2 * cell)) E in
    found_count s p (first_of p (2 * cell)) E + armed_count s p (candidate_of p cell t) E + action_count_after s p t values σ.variables

unfoldable pub exited_count : List ℕ → List ℕ → Words → ℕ → ℕ → List ℕ → ℕ
exited_count s p σ unit at values =
    let E = seen_in p values σ.variables in
    let first = first_of p (2 * cell_of σ.run.main unit + 1) in
    low_count s p σ.row at E.programs E.monitors + found_count s p first E + action_count_after s p (found_in s p first E) values σ.variables

abbrev pub taken_count_in : List ℕ → List ℕ → Words → Given → ℕ → List ℕ → ℕ
taken_count_in s p σ g at values = cond (eqb g.kind 0) (entered_count s p σ g values) (exited_count s p σ g.unit at values)

unfoldable pub event_count_in : List ℕ → List ℕ → Words → Given → List ℕ → ℕ
event_count_in s p σ g values = unless_taken (offer_in s p σ g values).answer 0 (taken_count_in s p σ g (place_in g.number σ.run.opened σ.row) values)

-- an event as it is given: with how many values, and eight words of them
abbrev pub given_of : Event → Given
given_of e = record { kind = e.kind; unit = e.unit; number = e.number; count = length e.values }

abbrev pub eight_of : Event → List ℕ
eight_of e = fit most_values 0 e.values
