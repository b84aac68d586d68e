-- Verdicts (document 01, "One event").
use Rattle.std.specs.Prelude as Prelude
use Rattle.std.specs.Prelude.{Bool, true, false, not, cond, ◌&&◌, ℕ, eqb, leb, ltb, Some, None}
use Rattle.std.proofs.Math.Option.{Option, none, some}
use Rattle.sheet.specs.Reading.{is_bad}
use Rattle.step.specs.declared.Cause.{Cause}
use Rattle.step.specs.declared.Cause.TheVariants as cause
use Rattle.step.specs.declared.Verdict.{Verdict}

-- "its cause: the bad state, the lowest failing triple, or both"
abbrev pub cause_of : Option ℕ → Option ℕ → Option Cause
cause_of none none = none
cause_of none (some t) = some (cause.Triple t)
cause_of (some q) none = some (cause.BadState q)
cause_of (some q) (some t) = some (cause.Both q t)

abbrev pub placed : ℕ → ℕ → Option Cause → Option Verdict
placed position entry none = none
placed position entry (some c) = some (record { position = position; cause = c; entry = entry })

abbrev pub bad_state : ℕ → ℕ → Option ℕ
bad_state bad q = cond (is_bad bad q) (some q) none

-- document 02, request 4: "a verdict with a triple carries it", the position of the call's entry; one without carries 0
abbrev pub carried : Option ℕ → ℕ → ℕ
carried none entry = 0
carried (some t) entry = entry

-- "A verdict is complete at an event if the new state is bad or an armed postcondition fails. It holds the event's position"
abbrev pub verdict : ℕ → ℕ → ℕ → Option ℕ → ℕ → Option Verdict
verdict bad position main triple entry = placed position (carried triple entry) (cause_of (bad_state bad main) triple)

abbrev pub is_judged : Option Verdict → Bool
is_judged none = false
is_judged (some v) = true

-- The paper's state and triple for each case of a cause.
abbrev pub cause_state : Cause → Option ℕ
cause_state (cause.BadState q) = some q
cause_state (cause.Triple t) = none
cause_state (cause.Both q t) = some q

abbrev pub cause_triple : Cause → Option ℕ
cause_triple (cause.BadState q) = none
cause_triple (cause.Triple t) = some t
cause_triple (cause.Both q t) = some t

abbrev pub if_there : Option ℕ → (ℕ → Bool) → Bool
if_there none p = true
if_there (some n) p = p n

-- request 4: 9 also covers "a verdict's that with a triple isn't from 1 to below its own, without one isn't 0"
abbrev pub entry_fits : Option ℕ → ℕ → ℕ → Bool
entry_fits none position entry = eqb entry 0
entry_fits (some t) position entry = leb 1 entry && ltb entry position

-- Sound, for some bad states and so many triples: "a verdict's position is the state's, any bad state in it is the main state and is bad, its triple
-- exists, and one of the two is there" (a cause has one); "without a verdict the main state isn't bad"
abbrev pub verdict_fits : ℕ → ℕ → ℕ → ℕ → Option Verdict → Bool
verdict_fits bad triples main position none = not (is_bad bad main)
verdict_fits bad triples main position (some v) =
    eqb v.position position && (if_there (cause_state v.cause) (λ q. eqb q main && is_bad bad q) && (if_there (cause_triple v.cause) (λ t. ltb t triples)
    && entry_fits (cause_triple v.cause) v.position v.entry))

-- a verdict as a state holds it
abbrev pub outcome_of : Option Verdict → Prelude.Option Verdict
outcome_of none = None
outcome_of (some v) = Some v

abbrev pub verdict_in : Prelude.Option Verdict → Option Verdict
verdict_in None = none
verdict_in (Some v) = some v
