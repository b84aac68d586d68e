-- What the words of a state show, and what the engine rests on.
use Rattle.std.specs.Prelude.{◌≡◌, true, List, map, ◌++◌, ℕ, ◌+◌, ◌*◌, ◌≤◌, ◌<◌, eqb, ltb, length, get_or, take, drop}
use Rattle.condition.specs.Meaning.{environment}
use Rattle.sheet.specs.Parts.{Common}
use Rattle.sheet.specs.Table.{every}
use Rattle.sheet.specs.Log.{Event}
use Rattle.step.specs.Lists.{distinct}
use Rattle.step.specs.Meets.{meets, meets_count}
use Rattle.step.specs.Moves.{Configuration, seen, moved, moved_count}
use Rattle.step.specs.Calls.{Call, most_calls, most_values, most_armed}
use Rattle.step.specs.Verdicts.{verdict_in}
use Rattle.engine.specs.Machine.{Machine, Armed, State, arming, asked_count}
use Rattle.engine.specs.Plan.{units_in, programs_in, monitors_in, bad_in, cell_of, first_of, candidate_of, post_of}
use Rattle.engine.specs.Walk.{holds_by, count_by, found_in, found_count, armed_in, armed_count, entries, main_after, variables_after, action_count_after, Words, eight_of}

-- a call by its words
abbrev pub call_of : ℕ → List ℕ → Call
call_of programs w = record { number = get_or w 0 0; unit = get_or w 1 0; entry = get_or w 7 0; kept = take programs (take most_values (drop 8 w)) }

unfoldable pub armed_of : ℕ → List ℕ → Armed
armed_of programs w = record { call = call_of programs w; armed = take (get_or w 2 0) (take most_armed (drop 3 w)) }

abbrev pub held_by : Common → Words → Configuration
held_by C σ = record { main = σ.run.main; variables = take C.monitors σ.variables }

-- of a call the first P kept values and what is armed; the first V variables and the first `opened` calls
unfoldable pub shown_by : Common → Words → State
shown_by C σ =
    record {
      configuration = held_by C σ;
      calls = map (armed_of C.programs) (entries σ.run.opened σ.row);
      position = σ.run.position;
      verdict = verdict_in σ.run.outcome;
    }

-- What the engine rests on in a state, for so many numbers that may be armed.
pub record Steady (C : Common) (last : ℕ) (σ : State) : Type 0 where
  pub main : σ.configuration.main < C.states
  pub variables : length σ.configuration.variables ≡ C.monitors
  pub few : length σ.calls ≤ most_calls
  pub apart : distinct (map (λ (a : Armed). a.call.number) σ.calls) ≡ true
  pub kept : every (λ (a : Armed). eqb (length a.call.kept) C.programs) σ.calls ≡ true
  pub there : every (λ (a : Armed). every (λ i. ltb i last) a.armed) σ.calls ≡ true

-- A configuration and an event that fit what is declared.
pub record Fits (C : Common) (k : Configuration) (e : Event) : Type 0 where
  pub main : k.main < C.states
  pub unit : e.unit < C.units
  pub kind : e.kind ≤ 1
  pub values : length e.values ≡ C.programs
  pub variables : length k.variables ≡ C.monitors

-- the transition that a plan finds
abbrev pub found_by : List ℕ → List ℕ → Configuration → Event → ℕ
found_by s p k e = found_in s p (first_of p (2 * cell_of k.main e.unit + e.kind)) (seen e k)

-- and how much is evaluated until it is found
abbrev pub found_count_by : List ℕ → List ℕ → Configuration → Event → ℕ
found_count_by s p k e = found_count s p (first_of p (2 * cell_of k.main e.unit + e.kind)) (seen e k)

-- Bytes with a plan that carry a machine.
pub record Carries (M : Machine) (last : ℕ) (s p : List ℕ) : Type 0 where
  pub units : units_in p ≡ M.common.units
  pub programs : programs_in p ≡ M.common.programs
  pub monitors : monitors_in p ≡ M.common.monitors
  pub bad : bad_in p ≡ M.common.bad
  pub few_programs : M.common.programs ≤ most_values
  pub few_last : last ≤ 32
  pub moves : (k : Configuration) (e : Event) → Fits M.common k e → main_after p (found_by s p k e) k.main ≡ (moved M.common M.transitions k e).main
  pub alters : (k : Configuration) (e : Event) → Fits M.common k e → (variables : List ℕ) → take M.common.monitors variables ≡ k.variables
      → variables_after s p (found_by s p k e) (eight_of e) variables ≡ (moved M.common M.transitions k e).variables ++ drop M.common.monitors variables
  pub stays : (k : Configuration) (e : Event) → k.main < M.common.states → (moved M.common M.transitions k e).main < M.common.states
  pub arms : (k : Configuration) (e : Event) → Fits M.common k e → e.kind ≡ 0 → armed_in s p (candidate_of p (cell_of k.main e.unit) (found_by s p k e)) (seen e k) ≡ arming M k e
  pub few_arms : (k : Configuration) (e : Event) → length (arming M k e) ≤ most_armed
  pub arms_there : (k : Configuration) (e : Event) → every (λ i. ltb i last) (arming M k e) ≡ true
  pub judges : (i : ℕ) → i < last → (values variables kept : List ℕ) → length values ≡ M.common.programs → length variables ≡ M.common.monitors → length kept ≡ M.common.programs
      → holds_by s (post_of p i) (environment values variables kept) ≡ meets M.common (M.postcondition i) (environment values variables kept)
  pub move_counts : (k : Configuration) (e : Event) → Fits M.common k e → (variables : List ℕ) → take M.common.monitors variables ≡ k.variables
      → found_count_by s p k e + action_count_after s p (found_by s p k e) (eight_of e) variables ≡ moved_count M.common M.transitions k e
  pub ask_counts : (k : Configuration) (e : Event) → Fits M.common k e → e.kind ≡ 0 → armed_count s p (candidate_of p (cell_of k.main e.unit) (found_by s p k e)) (seen e k) ≡ asked_count M k e
  pub judge_counts : (i : ℕ) → i < last → (values variables kept : List ℕ) → length values ≡ M.common.programs → length variables ≡ M.common.monitors → length kept ≡ M.common.programs
      → count_by s (post_of p i) (environment values variables kept) ≡ meets_count M.common (M.postcondition i) (environment values variables kept)
