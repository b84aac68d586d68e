-- Demand 2: what running a log answers, by the published definition, on traces alone.
use Rattle.std.specs.Prelude.{◌≡◌, ◌↔◌, Bool, false, not, cond, ◌&&◌, List, [], ◌∷◌, ◌++◌, ℕ, ◌+◌, ◌≤◌, eqb, length}
use Rattle.std.proofs.Math.Option.{Option, none, some}
use Rattle.sheet.specs.declared.Transition.{Transition}
use Rattle.sheet.specs.Bytes.{byte}
use Rattle.sheet.specs.Parts.{Sheet}
use Rattle.sheet.specs.Decode.{sheet_of}
use Rattle.sheet.specs.Reading.{reading, sheet_layout}
use Rattle.sheet.specs.Log.{Event, log_reading, events_of}
use Rattle.step.specs.Lists.{any}
use Rattle.step.specs.Moves.{Configuration}
use Rattle.step.specs.Calls.{Call, is_entry, is_exit, refusals, lowest}
use Rattle.step.specs.Verdicts.{bad_state}
use Rattle.step.specs.Answers.{Ending, violated, clean, refused, refused_at}
use Rattle.monitor.specs.Published.{Leading, in_order, as_printed, Enabled, Breaks, Counterexample}
use Rattle.monitor.specs.Answers.{run_of}

-- "A call is open from entry to exit": an entry whose call is not left in the events after it
abbrev pub stays_open : Event → List Event → Bool
stays_open e after = is_entry e && not (any (λ x. is_exit x && eqb e.number x.number) after)

-- the call that an entry at a position opens
abbrev pub opened_by : ℕ → Event → Call
opened_by position e = record { number = e.number; unit = e.unit; entry = position; kept = e.values }

-- the calls of the entries of a trace that have not been left since, in their order; the first event stands at a position
unfoldable pub open_from : ℕ → List Event → List Call
open_from position [] = []
open_from position (e ∷ w) = cond (stays_open e w) (opened_by position e ∷ open_from (position + 1) w) (open_from (position + 1) w)

abbrev pub still_open : List Event → List Call
still_open w = open_from 1 w

-- The lowest of refusals 10 to 15 that an event meets after a trace of taken events, with or without a verdict; 0 for none.
unfoldable pub refusal_after : Sheet → Bool → List Event → Event → ℕ
refusal_after S judged w e = lowest (refusals S.common judged (length w) (still_open w) e)

-- Each event of the trace is taken after those before it.
abbrev pub Taken : Sheet → List Event → Type 0
Taken S w = (u : List Event) (e : Event) (v : List Event) → w ≡ u ++ e ∷ v → refusal_after S false u e ≡ 0

-- The lowest triple that a trace breaks, if it breaks one.
pub record Lowest (S : Sheet) (R : Leading) (w : List Event) (t : Option ℕ) : Type 0 where
  pub unbroken : t ≡ none → (i : ℕ) → Breaks S R w i → ⊥
  pub broken : (i : ℕ) → t ≡ some i → Breaks S R w i × ((j : ℕ) → Breaks S R w j → i ≤ j)

-- document 02, request 4: "where the call started" that broke a triple: how many events there are up to and with its entry; 0 where none is broken
abbrev pub Began : Sheet → Leading → List Event → Option ℕ → ℕ → Type 0
Began S R w none entry = entry ≡ 0
Began S R w (some i) entry = (b : Breaks S R w i) × (entry ≡ length b.w₁ + 1)

-- No prefix of the trace is a counterexample.
abbrev pub Clear : Sheet → Leading → List Event → Type 0
Clear S R w = (u v : List Event) → w ≡ u ++ v → Counterexample S R u → ⊥

-- The verdict that belongs to a counterexample: "the event's position", "the bad state" that it reaches, if it reaches one, and "the lowest failing triple", if it
-- breaks one, with the position of the entry of the call that broke it.
pub record Finds (S : Sheet) (R : Leading) (w : List Event) (position : ℕ) (state triple : Option ℕ) (entry : ℕ) : Type 0 where
  pub counterexample : Counterexample S R w
  pub counted : position ≡ length w
  pub to : Configuration
  pub leads : R w to
  pub bad : state ≡ bad_state S.common.bad to.main
  pub lowest : Lowest S R w triple
  pub began : Began S R w triple entry

-- "first event at which a violation is complete, bad state if any, lowest broken triple if any": the events up to it are taken, with no counterexample among the
-- prefixes before it, and with it they are one.
pub record Violated (S : Sheet) (R : Leading) (es : List Event) (position : ℕ) (state triple : Option ℕ) (entry : ℕ) : Type 0 where
  pub w : List Event
  pub e : Event
  pub rest : List Event
  pub parts : es ≡ w ++ e ∷ rest
  pub taken : Taken S (w ++ e ∷ [])
  pub before : Clear S R w
  pub finds : Finds S R (w ++ e ∷ []) position state triple entry

-- "the refusal and its place": the events before this one are taken, with no counterexample among their prefixes, and this one is refused.
pub record Refused (S : Sheet) (R : Leading) (es : List Event) (number place : ℕ) : Type 0 where
  pub w : List Event
  pub e : Event
  pub rest : List Event
  pub parts : es ≡ w ++ e ∷ rest
  pub taken : Taken S w
  pub before : Clear S R w
  pub refused : refusal_after S false w e ≡ number
  pub some : number ≡ 0 → ⊥
  pub at : place ≡ length w + 1

-- "else clean", with "events, main state, open calls": all events are taken, and no prefix of them is a counterexample.
pub record Clean (S : Sheet) (R : Leading) (es : List Event) (events main calls : ℕ) : Type 0 where
  pub taken : Taken S es
  pub clear : Clear S R es
  pub counted : events ≡ length es
  pub to : Configuration
  pub leads : R es to
  pub state : main ≡ to.main
  pub still_open : calls ≡ length (still_open es)

-- What a run over some events answers: just what is found of them.
pub record Published (S : Sheet) (R : Leading) (es : List Event) (r : Ending) : Type 0 where
  pub when_violated : (position : ℕ) (state triple : Option ℕ) (entry : ℕ) → r ≡ violated position state triple entry ↔ Violated S R es position state triple entry
  pub when_refused : (number place : ℕ) → r ≡ refused_at number place ↔ Refused S R es number place
  pub when_clean : (events main calls : ℕ) → r ≡ clean events main calls ↔ Clean S R es events main calls
  pub read : (number : ℕ) → r ≡ refused number → ⊥

-- Demand 2, for every accepted sheet and every log that is read.
abbrev pub Demand2 : Type 0
Demand2 = (s log : List ℕ) → reading sheet_layout s ≡ 0 → log_reading (byte s 5) log ≡ 0 → Published (sheet_of s) (in_order (sheet_of s)) (events_of (byte s 5) log) (run_of s log)

-- "003 wants exclusive conditions": "if q -e|c→a-> q' and q -e|c'→a'-> q'' and q' ≠ q'', then c and c' are mutually exclusive", and also where the actions differ,
-- which leave other variables
abbrev pub Exclusive : Sheet → Type 0
Exclusive S = (k : Configuration) (e : Event) (t u : Transition) → Enabled S k e t → Enabled S k e u → (t.to ≡ u.to) × (t.action ≡ u.action)

-- "sheet order agrees with it there": 003's own definition, which takes any transition whose condition holds, gives the answer too.
abbrev pub OrderAgrees : Type 0
OrderAgrees = (s log : List ℕ) → reading sheet_layout s ≡ 0 → log_reading (byte s 5) log ≡ 0 → Exclusive (sheet_of s)
    → Published (sheet_of s) (as_printed (sheet_of s)) (events_of (byte s 5) log) (run_of s log)
