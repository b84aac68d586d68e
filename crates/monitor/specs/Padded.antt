-- States as the operations hold them: arrays with zeros behind what is there.
use Rattle.std.specs.Prelude.{Bool, ◌&&◌, List, map, ℕ, eqb, leb, length, replicate, take, drop}
use Rattle.condition.specs.Answer.{most_variables}
use Rattle.sheet.specs.Table.{every, fit}
use Rattle.sheet.specs.Parts.{Sheet}
use Rattle.sheet.specs.Decode.{sheet_of}
use Rattle.sheet.specs.Reading.{reading, sheet_layout}
use Rattle.step.specs.declared.Call.{Call}
use Rattle.std.specs.Prelude.{None}
use Rattle.step.specs.Lists.{beside}
use Rattle.step.specs.Calls.{most_calls, most_values, most_armed}
use Rattle.step.specs.Verdicts.{outcome_of, verdict_in}
use Rattle.step.specs.Answers.{unless_taken}
use Rattle.step.specs.Padding.{unpad, zero_call, pad_call, clear, padded, is_zero_call}
use Rattle.monitor.specs.declared.Arms.{Arms}
use Rattle.monitor.specs.declared.WatchState.{WatchState}
use Rattle.monitor.specs.Monitor.{Armed, State, fresh}
use Rattle.monitor.specs.Sound.{sound}

abbrev pub zero_arms : Arms
zero_arms = record { count = 0; triples = replicate most_armed 0 }

-- "an all-zero state"
abbrev pub zero_state : WatchState
zero_state = record { main = 0; variables = replicate most_variables 0; opened = 0; calls = replicate most_calls zero_call; arms = replicate most_calls zero_arms; position = 0; outcome = None }

abbrev pub pad_arms : List ℕ → Arms
pad_arms l = record { count = length l; triples = fit most_armed 0 l }

-- "calls fill the first places ..; unused places and variables are zero"
unfoldable pub pad : State → WatchState
pad σ =
    record {
      main = σ.configuration.main;
      variables = fit most_variables 0 σ.configuration.variables;
      opened = length σ.calls;
      calls = fit most_calls zero_call (map (λ (a : Armed). pad_call a.call) σ.calls);
      arms = fit most_calls zero_arms (map (λ (a : Armed). pad_arms a.armed) σ.calls);
      position = σ.position;
      outcome = outcome_of σ.verdict;
    }

-- What a state shows: of a call the first P kept values and the triples armed; the first V variables and the first `opened` calls.
abbrev pub unpad_armed : ℕ → Call → Arms → Armed
unpad_armed programs c a = record { call = unpad programs c; armed = take a.count a.triples }

unfoldable pub view : Sheet → WatchState → State
view S w =
    record {
      configuration = record { main = w.main; variables = take S.common.monitors w.variables };
      calls = beside (unpad_armed S.common.programs) (take w.opened w.calls) (take w.opened w.arms);
      position = w.position;
      verdict = verdict_in w.outcome;
    }

-- nothing armed; at most four armed, and zeros behind them
abbrev pub is_zero_arms : Arms → Bool
is_zero_arms a = eqb a.count 0 && clear 0 a.triples

abbrev pub tidy_arms : Arms → Bool
tidy_arms a = leb a.count most_armed && padded most_armed a.count a.triples

-- "unused places and variables are zero"; the lengths are those of the code's types, which a list does not know
unfoldable pub tidy : Sheet → WatchState → Bool
tidy S w =
    padded most_variables S.common.monitors w.variables && (eqb (length w.calls) most_calls && (eqb (length w.arms) most_calls
    && (every (λ (c : Call). padded most_values S.common.programs c.kept) w.calls && (every tidy_arms w.arms && (every is_zero_call (drop w.opened w.calls) && every is_zero_arms (drop w.opened w.arms))))))

-- "A state is sound if ..": what it shows is, and the rest is zero
unfoldable pub sound_state : Sheet → WatchState → Bool
sound_state S w = leb w.opened most_calls && (tidy S w && sound S (view S w))

-- "Making a fresh state: the reading refusals, with an all-zero state."
unfoldable pub fresh_of : List ℕ → WatchState
fresh_of s = unless_taken (reading sheet_layout s) zero_state (pad (fresh (sheet_of s)))
