-- One event and a run of them on a network (document 01, "Network layout and translation"), on states without padding.
use Rattle.std.specs.Prelude.{Bool, not, cond, List, [], ◌∷◌, ◌++◌, map, ℕ, ◌+◌, eqb, get_or}
use Rattle.std.proofs.Math.Option.{Option, none, some}
use Rattle.condition.specs.Meaning.{environment}
use Rattle.sheet.specs.declared.Pair.{Pair}
use Rattle.sheet.specs.declared.Template.{Template}
use Rattle.sheet.specs.Parts.{Paired, Network, bases}
use Rattle.sheet.specs.Reading.{no_template}
use Rattle.sheet.specs.Log.{Event}
use Rattle.step.specs.declared.Verdict.{Verdict}
use Rattle.step.specs.Lists.{first, keep, least, total}
use Rattle.step.specs.Meets.{meets, meets_count}
use Rattle.step.specs.Moves.{Configuration, seen, enabled, moved, moved_count}
use Rattle.step.specs.Calls.{Call, is_entry, entry_for, refusals, lowest}
use Rattle.step.specs.Verdicts.{is_judged, verdict}
use Rattle.step.specs.Runs.{Offered, offered, Ran, run_from, run_count_from}
use Rattle.step.specs.Answers.{unless_taken}
use Rattle.network.specs.declared.Checker.{Checker}

-- A checker has the number of its call, and its template; its values at entry are those that the call keeps.
pub record State : Type 0 where
  pub configuration : Configuration
  pub calls : List Call
  pub checkers : List Checker
  pub position : ℕ
  pub verdict : Option Verdict

-- "start state, initial values, no calls, position 0, no verdict", and no checkers
unfoldable pub fresh : Network → State
fresh N = record { configuration = record { main = N.common.start; variables = N.common.initial }; calls = []; checkers = []; position = 0; verdict = none }

-- a template by its number
abbrev pub template_in : Network → ℕ → Template
template_in N i = get_or N.templates i no_template

abbrev pub pairs_in : Option Paired → List Pair
pairs_in none = []
pairs_in (some t) = t.pairs

-- "A taken entry transition creates, in pair order, for each pair whose condition holds, a checker bound to this call"; request 4: "Checkers carry it too", the
-- position of the entry
unfoldable pub created : Network → Configuration → ℕ → Event → List Checker
created N k position e =
    let taken = first (λ (t : Paired). enabled N.common k e t.base) N.transitions in
    map (λ (p : Pair). record { number = e.number; template = p.template; entry = position }) (keep (λ (p : Pair). meets N.common p.condition (seen e k)) (pairs_in taken))

abbrev pub bound_to : ℕ → Checker → Bool
bound_to n h = eqb h.number n

-- "it judges the postcondition at this call's exit", with the kept values as values at entry
unfoldable pub fails : Network → Configuration → Event → Call → Checker → Bool
fails N k e c h = not (meets N.common (template_in N h.template).postcondition (environment e.values k.variables c.kept))

-- the lowest template whose checker fails at the exit of a call
abbrev pub failing : Network → Configuration → Event → List Checker → Option Call → Option ℕ
failing N k e l none = none
failing N k e l (some c) = least (map (λ (h : Checker). h.template) (keep (fails N k e c) (keep (bound_to c.number) l)))

abbrev pub of_number : ℕ → Call → Bool
of_number n c = eqb c.number n

unfoldable pub entered : Network → State → Event → State
entered N σ e =
    let to = moved N.common (bases N) σ.configuration e in
    record {
      configuration = to;
      calls = σ.calls ++ record { number = e.number; unit = e.unit; entry = σ.position + 1; kept = e.values } ∷ [];
      checkers = σ.checkers ++ created N σ.configuration (σ.position + 1) e;
      position = σ.position + 1;
      verdict = verdict N.common.bad (σ.position + 1) to.main none 0;
    }

-- at this call's exit a checker "ends"
unfoldable pub exited : Network → State → Event → State
exited N σ e =
    let to = moved N.common (bases N) σ.configuration e in
    record {
      configuration = to;
      calls = keep (λ c. not (of_number e.number c)) σ.calls;
      checkers = keep (λ h. not (bound_to e.number h)) σ.checkers;
      position = σ.position + 1;
      verdict = verdict N.common.bad (σ.position + 1) to.main (failing N σ.configuration e σ.checkers (first (of_number e.number) σ.calls)) (entry_for e.number σ.calls);
    }

-- "Order, refusals and verdict are as above": the lowest of refusals 10 to 15, or 0
unfoldable pub refusal : Network → State → Event → ℕ
refusal N σ e = lowest (refusals N.common (is_judged σ.verdict) σ.position σ.calls e)

unfoldable pub offer : Network → State → Event → Offered State
offer N σ e = offered (refusal N σ e) σ (cond (is_entry e) (entered N σ e) (exited N σ e))

unfoldable pub run : Network → List Event → Ran State
run N es = run_from (offer N) (λ σ. σ.verdict) 1 (fresh N) es

-- Document 02, request 3: "A network event counts by the same rule": at an entry the conditions of every pair of the transition that is taken, at an exit the
-- postconditions of every checker of the call.
unfoldable pub pair_count : Network → Configuration → Event → ℕ
pair_count N k e = total (λ (p : Pair). meets_count N.common p.condition (seen e k)) (pairs_in (first (λ (t : Paired). enabled N.common k e t.base) N.transitions))

abbrev pub postcondition_count : Network → Configuration → Event → List Checker → Option Call → ℕ
postcondition_count N k e l none = 0
postcondition_count N k e l (some c) = total (λ (h : Checker). meets_count N.common (template_in N h.template).postcondition (environment e.values k.variables c.kept)) (keep (bound_to c.number) l)

-- "(A refused event .. counts 0.)"
unfoldable pub count : Network → State → Event → ℕ
count N σ e =
    let k = σ.configuration in
    let judged = cond (is_entry e) (pair_count N k e) (postcondition_count N k e σ.checkers (first (of_number e.number) σ.calls)) in
    unless_taken (refusal N σ e) 0 (moved_count N.common (bases N) k e + judged)

unfoldable pub run_count : Network → List Event → ℕ
run_count N es = run_count_from (offer N) (λ σ. σ.verdict) (count N) (fresh N) es
