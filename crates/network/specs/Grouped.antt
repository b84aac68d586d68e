-- The states of a network's machine as states of the network, what is armed for the calls in a row of checkers, and back.
use Rattle.std.specs.Prelude.{List, [], ◌∷◌, ◌++◌, map, ℕ}
use Rattle.step.specs.Lists.{keep}
use Rattle.step.specs.Calls.{Call}
use Rattle.engine.specs.Machine as Engine
use Rattle.engine.specs.Machine.{Armed}
use Rattle.network.specs.declared.Checker.{Checker}
use Rattle.network.specs.Network.{State, bound_to}

-- "a checker bound to this call": by the call's number, with the position of its entry, and the number of its template
abbrev pub checker : ℕ → ℕ → ℕ → Checker
checker n entry i = record { number = n; template = i; entry = entry }

-- "its checkers stand in their calls' order"
unfoldable pub row_of : List Armed → List Checker
row_of [] = []
row_of (a ∷ l) = map (checker a.call.number a.call.entry) a.armed ++ row_of l

-- the calls and, in a row of their own, the checkers
unfoldable pub ungrouped : Engine.State → State
ungrouped τ = record { configuration = τ.configuration; calls = map (λ (a : Armed). a.call) τ.calls; checkers = row_of τ.calls; position = τ.position; verdict = τ.verdict }

-- the templates of the checkers that are bound to a call
abbrev pub templates_of : ℕ → List Checker → List ℕ
templates_of n l = map (λ (h : Checker). h.template) (keep (bound_to n) l)

-- each call with those of its checkers
abbrev pub grouped_calls : List Call → List Checker → List Armed
grouped_calls calls l = map (λ (c : Call). record { call = c; armed = templates_of c.number l }) calls

unfoldable pub grouped : State → Engine.State
grouped σ = record { configuration = σ.configuration; calls = grouped_calls σ.calls σ.checkers; position = σ.position; verdict = σ.verdict }
