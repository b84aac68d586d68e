-- States as the engine's words, and back.
use Rattle.std.specs.Prelude.{Bool, cond, List, [], ◌∷◌, ◌++◌, map, ℕ, zero, suc, length, take, drop}
use Rattle.condition.specs.Answer.{most_variables}
use Rattle.sheet.specs.Table.{fit}
use Rattle.step.specs.declared.Call.{Call}
use Rattle.step.specs.Calls.{most_calls, most_armed}
use Rattle.step.specs.Padding.{zero_call}
use Rattle.engine.specs.declared.Running.{Running}
use Rattle.engine.specs.declared.pack.Arms.{Arms}
use Rattle.engine.specs.Packed.{words_of, call_in, arms_in}
use Rattle.engine.specs.Walk.{Words, entries}
use Rattle.network.specs.declared.Checker.{Checker}
use Rattle.network.specs.declared.NetworkState.{NetworkState}
use Rattle.network.specs.Network.{bound_to}
use Rattle.network.specs.Grouped.{checker}
use Rattle.network.specs.Padded.{zero_checker, most_checkers}

-- what stands beside the calls, checkers and variables
abbrev pub running_of : NetworkState → Running
running_of w = record { main = w.main; opened = w.opened; position = w.position; outcome = w.outcome }

-- the first elements of a list, at most so many, up to one that does not pass a test
unfoldable pub front : {A : Type 0} → (A → Bool) → ℕ → List A → List A
front p zero l = []
front p (suc n) [] = []
front p (suc n) (x ∷ l) = cond (p x) (x ∷ front p n l) []

-- the templates of the checkers of a call that a row begins with, at most four
abbrev pub own_of : ℕ → List Checker → List ℕ
own_of n l = map (λ (h : Checker). h.template) (front (bound_to n) most_armed l)

abbrev pub arms_of : List ℕ → Arms
arms_of l = record { count = length l; numbers = fit most_armed 0 l }

-- the words of calls, whose checkers follow each other in a row
unfoldable pub words_in : List Call → List Checker → List (List ℕ)
words_in [] l = []
words_in (c ∷ calls) l = words_of c (arms_of (own_of c.number l)) ∷ words_in calls (drop (length (own_of c.number l)) l)

-- the words of the open calls
abbrev pub call_words : NetworkState → List (List ℕ)
call_words w = words_in (take w.opened w.calls) (take w.living w.checkers)

-- the checkers of calls, by what is armed for each
abbrev pub checkers_for : Call → Arms → List Checker
checkers_for c a = map (checker c.number c.entry) (take a.count a.numbers)

unfoldable pub checkers_in : List (List ℕ) → List Checker
checkers_in [] = []
checkers_in (w ∷ ws) = checkers_for (call_in 0 w) (arms_in w) ++ checkers_in ws

-- the state of words, with so many values a call and so many variables
unfoldable pub unpacked : ℕ → ℕ → Words → NetworkState
unpacked programs monitors σ =
    let ws = entries σ.run.opened σ.row in
    record {
      main = σ.run.main;
      variables = fit most_variables 0 (take monitors σ.variables);
      opened = σ.run.opened;
      calls = fit most_calls zero_call (map (call_in programs) ws);
      living = length (checkers_in ws);
      checkers = fit most_checkers zero_checker (checkers_in ws);
      position = σ.run.position;
      outcome = σ.run.outcome;
    }
