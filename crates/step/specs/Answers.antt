-- The answers of the engines: the paper's words and numbers for each case, and what both engines make of a refusal.
use Rattle.std.specs.Prelude.{Bool, cond, List, ℕ, zero, suc, length, Result, Ok, Err}
use Rattle.std.proofs.Math.Option.{Option}
use Rattle.sheet.specs.Reading.{unless, or_else}
use Rattle.sheet.specs.Log.{Event, log_reading, events_of}
use Rattle.refusal.specs.declared.Refusal.{Refusal}
use Rattle.refusal.specs.Numbers.{number_of}
use Rattle.step.specs.declared.RunAnswer.{RunAnswer}
use Rattle.step.specs.declared.RunAnswer.TheVariants as run
use Rattle.step.specs.Verdicts.{cause_state, cause_triple}
use Rattle.step.specs.Moves.{Configuration}
use Rattle.step.specs.Runs as runs
use Rattle.step.specs.Runs.{Offered, offered, Ran}

-- "each answer (taken, or the refusal's number)"
pub data Response : Type 0 where
  taken : Response
  declined : ℕ → Response

abbrev pub answer_paper : Result (Unit {0}) Refusal → Response
answer_paper (Ok done) = taken
answer_paper (Err r) = declined (number_of r)

-- "`violated N state S triple T entry E`" (position; `-` for none; E is 0 where no triple failed), "`clean N state S open K` (events, main state, open calls), `refused N`, or `refused N at R`"
pub data Ending : Type 0 where
  violated : ℕ → Option ℕ → Option ℕ → ℕ → Ending
  clean : ℕ → ℕ → ℕ → Ending
  refused : ℕ → Ending
  refused_at : ℕ → ℕ → Ending

abbrev pub run_paper : RunAnswer → Ending
run_paper (run.Violated v) = violated v.position (cause_state v.cause) (cause_triple v.cause) v.entry
run_paper (run.Clean n q k) = clean n q k
run_paper (run.Refused r) = refused (number_of r)
run_paper (run.RefusedAt r i) = refused_at (number_of r) i

-- by the number of the refusal; 0 stands for taken
abbrev pub answer_of : ℕ → Response
answer_of zero = taken
answer_of (suc n) = declined (suc n)

-- what an operation makes of a state, or, where it is refused, that state: "The state comes back as it went in."
abbrev pub unless_taken : {W : Type 0} → ℕ → W → W → W
unless_taken zero w τ = τ
unless_taken (suc n) w τ = w

-- "One event, on sheet or network: its reading refusals; 9: state not sound; 10: .. 15": the number, and the state that comes back
abbrev pub offered_on : {W : Type 0} → ℕ → Bool → ℕ → W → W → Offered W
offered_on reading sound refusal w τ = offered (or_else reading (unless sound 9 refusal)) w τ

-- a clean end: "events, main state, open calls"
abbrev pub clean_in : {A : Type 0} → ℕ → Configuration → List A → Ending
clean_in position k calls = clean position k.main (length calls)

-- what a run comes to, in words; the first argument says what a clean end is
abbrev pub ran_answer : {S : Type 0} → (S → Ending) → Ran S → Ending
ran_answer ends (runs.violated v) = run_paper (run.Violated v)
ran_answer ends (runs.clean σ) = ends σ
ran_answer ends (runs.refused_at n i) = refused_at n i

-- what a run answers where nothing is refused before it
abbrev pub unless_refused : ℕ → Ending → Ending
unless_refused zero rest = rest
unless_refused (suc n) rest = refused (suc n)

-- "Running it from fresh: the reading refusals; 16 ..; 17 ..; 18 .. Then events until a verdict"
abbrev pub ran_on : {S : Type 0} → ℕ → ℕ → List ℕ → (S → Ending) → (List Event → Ran S) → Ending
ran_on reading programs log ends run = unless_refused reading (unless_refused (log_reading programs log) (ran_answer ends (run (events_of programs log))))

-- Document 02, request 3: "A refused event or evaluation counts 0"; what an event counts on sheet or network, and what running a log counts
abbrev pub counted_on : ℕ → Bool → ℕ → ℕ
counted_on reading sound count = unless_taken reading 0 (cond sound count 0)

abbrev pub ran_count : ℕ → ℕ → List ℕ → (List Event → ℕ) → ℕ
ran_count reading programs log count = unless_taken reading 0 (unless_taken (log_reading programs log) 0 (count (events_of programs log)))
