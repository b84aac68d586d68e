-- The published definition of counterexamples (source document 003, definitions 1 to 5), on traces.
use Rattle.std.specs.Prelude.{◌≡◌, ◌⊎◌, true, false, not, List, [], ◌∷◌, ◌++◌, ℕ, ◌<◌, eqb, length}
use Rattle.std.proofs.Math.Option.{some}
use Rattle.condition.specs.Meaning.{environment}
use Rattle.sheet.specs.declared.Transition.{Transition}
use Rattle.sheet.specs.Parts.{Sheet}
use Rattle.sheet.specs.Table.{every}
use Rattle.sheet.specs.Reading.{is_bad}
use Rattle.sheet.specs.Log.{Event}
use Rattle.step.specs.Lists.{Among}
use Rattle.step.specs.Meets.{meets}
use Rattle.step.specs.Moves.{Configuration, seen, enabled, after, moved}
use Rattle.monitor.specs.Monitor.{initial, triple_in}

-- Definition 3 by sheet order, as document 01 fixes it: a trace shifts a configuration to another
unfoldable pub shift : Sheet → Configuration → List Event → Configuration
shift S k [] = k
shift S k (e ∷ w) = shift S (moved S.common S.transitions k e) w

abbrev pub reached : Sheet → List Event → Configuration
reached S w = shift S (initial S) w

-- Definition 3 as it is printed: a transition of the sheet that starts in this state, on this kind of event and unit, and whose condition holds
abbrev pub Enabled : Sheet → Configuration → Event → Transition → Type 0
Enabled S k e t = Among t S.transitions × (enabled S.common k e t ≡ true)

-- "there are q, c, a .. or there are none", for one event
abbrev pub Step : Sheet → Configuration → Event → Configuration → Type 0
Step S k e k' = ((t : Transition) × Enabled S k e t × (k' ≡ after S.common k e (some t))) ⊎ (((t : Transition) → Enabled S k e t → ⊥) × (k' ≡ k))

-- "(q, v) -w-> (q', v')"
abbrev pub Shifts : Sheet → Configuration → List Event → Configuration → Type 0
Shifts S k [] k' = k ≡ k'
Shifts S k (e ∷ w) k' = (j : Configuration) × Step S k e j × Shifts S j w k'

-- To which configurations a trace leads from the start: by sheet order to one; as definition 3 is printed to each that transitions whose conditions hold lead to.
abbrev pub Leading : Type 1
Leading = List Event → Configuration → Type 0

abbrev pub in_order : Sheet → Leading
in_order S w k = k ≡ reached S w

abbrev pub as_printed : Sheet → Leading
as_printed S w k = Shifts S (initial S) w k

-- Definition 3: "a counter example if both (q0, v0) -w-> (q, v) and q in B"
abbrev pub ReachesBad : Sheet → Leading → List Event → Type 0
ReachesBad S R w = (k : Configuration) × R w k × (is_bad S.common.bad k.main ≡ true)

-- Definition 5 (ii), for the triple of number i: "w can be decomposed into four parts"
pub record Breaks (S : Sheet) (R : Leading) (w : List Event) (i : ℕ) : Type 0 where
  pub w₁ : List Event
  pub entry : Event
  pub w₂ : List Event
  pub exit : Event
  pub parts : w ≡ w₁ ++ entry ∷ (w₂ ++ exit ∷ [])
  pub is_entry : entry.kind ≡ 0
  pub is_exit : exit.kind ≡ 1
  pub same_number : exit.number ≡ entry.number
  pub same_unit : exit.unit ≡ entry.unit
  -- "ensures .. that the call's identifier does not appear in w2"
  pub apart : every (λ e. not (eqb e.number entry.number)) w₂ ≡ true
  -- (a): "(q0, v0) -w1-> (q, v)"
  pub before : Configuration
  pub leads : R w₁ before
  -- (b): "There is a Hoare triple .. enforced in state q"
  pub there : i < length S.triples
  pub in_state : (triple_in S i).state ≡ before.main
  pub of_unit : (triple_in S i).unit ≡ entry.unit
  -- (c): the entry's values satisfy the precondition, with the monitor variables "as they stood before the event" (document 02, request 13)
  pub precondition : meets S.common (triple_in S i).precondition (seen entry before) ≡ true
  -- (d): the exit's values do not satisfy the postcondition
  pub postcondition : meets S.common (triple_in S i).postcondition (environment exit.values [] entry.values) ≡ false

-- Definition 5: "a counter example if either (i) .. or (ii)"
abbrev pub Counterexample : Sheet → Leading → List Event → Type 0
Counterexample S R w = ReachesBad S R w ⊎ ((i : ℕ) × Breaks S R w i)
