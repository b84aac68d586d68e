-- States as the operations hold them: arrays with zeros behind what is there.
use Rattle.std.specs.Prelude.{Bool, ◌&&◌, List, map, ℕ, eqb, leb, length, replicate, take, drop}
use Rattle.condition.specs.Answer.{most_variables}
use Rattle.sheet.specs.Table.{every, fit}
use Rattle.sheet.specs.Parts.{Network}
use Rattle.sheet.specs.Decode.{network_of}
use Rattle.sheet.specs.Reading.{reading, network_layout}
use Rattle.step.specs.declared.Call.{Call}
use Rattle.std.specs.Prelude.{None}
use Rattle.step.specs.Calls.{most_calls, most_values}
use Rattle.step.specs.Verdicts.{outcome_of, verdict_in}
use Rattle.step.specs.Padding.{unpad, zero_call, pad_call, padded, is_zero_call}
use Rattle.step.specs.Answers.{unless_taken}
use Rattle.network.specs.declared.Checker.{Checker}
use Rattle.network.specs.declared.NetworkState.{NetworkState}
use Rattle.network.specs.Network.{State, fresh}
use Rattle.network.specs.Sound.{sound}

abbrev pub zero_checker : Checker
zero_checker = record { number = 0; template = 0; entry = 0 }

-- "at most four a call", and at most 16 calls
abbrev pub most_checkers : ℕ
most_checkers = 64

-- "an all-zero state"
abbrev pub zero_state : NetworkState
zero_state = record { main = 0; variables = replicate most_variables 0; opened = 0; calls = replicate most_calls zero_call; living = 0; checkers = replicate most_checkers zero_checker; position = 0; outcome = None }

-- "calls fill the first places ..; unused places and variables are zero"
unfoldable pub pad : State → NetworkState
pad σ =
    record {
      main = σ.configuration.main;
      variables = fit most_variables 0 σ.configuration.variables;
      opened = length σ.calls;
      calls = fit most_calls zero_call (map pad_call σ.calls);
      living = length σ.checkers;
      checkers = fit most_checkers zero_checker σ.checkers;
      position = σ.position;
      outcome = outcome_of σ.verdict;
    }

-- What a state shows: the first V variables, the first `opened` calls with P kept values each, and the first `living` checkers.
unfoldable pub view : Network → NetworkState → State
view N w =
    record {
      configuration = record { main = w.main; variables = take N.common.monitors w.variables };
      calls = map (unpad N.common.programs) (take w.opened w.calls);
      checkers = take w.living w.checkers;
      position = w.position;
      verdict = verdict_in w.outcome;
    }

abbrev pub is_zero_checker : Checker → Bool
is_zero_checker h = eqb h.number 0 && (eqb h.template 0 && eqb h.entry 0)

-- "unused places and variables are zero"; the lengths are those of the code's types, which a list does not know
unfoldable pub tidy : Network → NetworkState → Bool
tidy N w =
    padded most_variables N.common.monitors w.variables && (eqb (length w.calls) most_calls && (eqb (length w.checkers) most_checkers
    && (every (λ (c : Call). padded most_values N.common.programs c.kept) w.calls && (every is_zero_call (drop w.opened w.calls) && every is_zero_checker (drop w.living w.checkers)))))

-- what it shows is sound, and the rest is zero
unfoldable pub sound_state : Network → NetworkState → Bool
sound_state N w = leb w.opened most_calls && (leb w.living most_checkers && (tidy N w && sound N (view N w)))

-- "Making a fresh state: the reading refusals, with an all-zero state."
unfoldable pub fresh_of : List ℕ → NetworkState
fresh_of n = unless_taken (reading network_layout n) zero_state (pad (fresh (network_of n)))
