-- Transitions (document 01, "One event"; source document 003, definition 3).
use Rattle.std.specs.Prelude.{Bool, ◌&&◌, List, [], ℕ, ◌+◌, eqb}
use Rattle.std.proofs.Math.Option.{Option, none, some}
use Rattle.condition.specs.Meaning.{Environment, environment}
use Rattle.sheet.specs.declared.Transition.{Transition}
use Rattle.sheet.specs.Parts.{Common}
use Rattle.sheet.specs.Log.{Event}
use Rattle.step.specs.Lists.{first, keep, up_to, total}
use Rattle.step.specs.Meets.{meets, meets_count, acted, acted_count}

-- "configuration (q, ν)": the main state and the monitor variables
pub record Configuration : Type 0 where
  pub main : ℕ
  pub variables : List ℕ

-- "A condition on a transition sees the event's values and the monitor variables before the action"; a precondition "reads them as they stood before the
-- event" (document 02, request 13)
abbrev pub seen : Event → Configuration → Environment
seen e k = environment e.values k.variables []

-- a transition "with this state, kind and unit whose condition holds"
unfoldable pub enabled : Common → Configuration → Event → Transition → Bool
enabled C k e t = eqb t.from k.main && (eqb t.kind e.kind && (eqb t.unit e.unit && meets C t.condition (seen e k)))

-- "is taken: action, then new state. If none holds, state and variables stay."
abbrev pub after : Common → Configuration → Event → Option Transition → Configuration
after C k e none = k
after C k e (some t) = record { main = t.to; variables = acted C t.action (seen e k) }

-- "the first transition in sheet order"
unfoldable pub moved : Common → List Transition → Configuration → Event → Configuration
moved C ts k e = after C k e (first (enabled C k e) ts)

-- Document 02, request 3: "the conditions tried", of the transitions with this state, kind and unit, in order, up to and with the one that is taken.
unfoldable pub tried : Common → List Transition → Configuration → Event → List Transition
tried C ts k e = up_to (λ (t : Transition). meets C t.condition (seen e k)) (keep (λ (t : Transition). eqb t.from k.main && (eqb t.kind e.kind && eqb t.unit e.unit)) ts)

-- "the values assigned", where one is taken
abbrev pub after_count : Common → Configuration → Event → Option Transition → ℕ
after_count C k e none = 0
after_count C k e (some t) = acted_count C t.action (seen e k)

unfoldable pub moved_count : Common → List Transition → Configuration → Event → ℕ
moved_count C ts k e = total (λ (t : Transition). meets_count C t.condition (seen e k)) (tried C ts k e) + after_count C k e (first (enabled C k e) ts)
