-- States as the engine's words, and back.
use Rattle.std.specs.Prelude.{List, map, ℕ, take}
use Rattle.condition.specs.Answer.{most_variables}
use Rattle.sheet.specs.Table.{fit}
use Rattle.step.specs.Lists.{beside}
use Rattle.step.specs.Calls.{most_calls}
use Rattle.step.specs.Padding.{zero_call}
use Rattle.engine.specs.declared.Running.{Running}
use Rattle.engine.specs.declared.pack.Arms as Engine
use Rattle.engine.specs.Packed.{words_of, call_in, arms_in}
use Rattle.engine.specs.Walk.{Words, entries}
use Rattle.monitor.specs.declared.Arms.{Arms}
use Rattle.monitor.specs.declared.WatchState.{WatchState}
use Rattle.monitor.specs.Padded.{zero_arms}

-- what stands beside the calls and variables
abbrev pub running_of : WatchState → Running
running_of w = record { main = w.main; opened = w.opened; position = w.position; outcome = w.outcome }

-- what is armed, by the engine's name and by this one
abbrev pub to_numbers : Arms → Engine.Arms
to_numbers a = record { count = a.count; numbers = a.triples }

abbrev pub to_triples : Engine.Arms → Arms
to_triples a = record { count = a.count; triples = a.numbers }

-- the words of the open calls
abbrev pub call_words : WatchState → List (List ℕ)
call_words w = beside (λ c a. words_of c (to_numbers a)) (take w.opened w.calls) (take w.opened w.arms)

-- the state of words, with so many values a call and so many variables
unfoldable pub unpacked : ℕ → ℕ → Words → WatchState
unpacked programs monitors σ =
    let ws = entries σ.run.opened σ.row in
    record {
      main = σ.run.main;
      variables = fit most_variables 0 (take monitors σ.variables);
      opened = σ.run.opened;
      calls = fit most_calls zero_call (map (call_in programs) ws);
      arms = fit most_calls zero_arms (map (λ w. to_triples (arms_in w)) ws);
      position = σ.run.position;
      outcome = σ.run.outcome;
    }
