-- One event and a run of them, on states of any kind (document 01, "One event").
use Rattle.std.proofs.Math.Option.{Option, none, some}
use Rattle.std.specs.Prelude.{List, [], ◌∷◌, ℕ, zero, suc, ◌+◌}
use Rattle.sheet.specs.Log.{Event}
use Rattle.step.specs.declared.Verdict.{Verdict}

-- what an event comes to: 0 where it is taken, or the refusal's number, and the state that comes back
pub record Offered (S : Type 0) : Type 0 where
  pub answer : ℕ
  pub state : S

-- "An event that meets one of 10-15 is refused with the lowest and changes nothing; any other is taken"
abbrev pub offered : {S : Type 0} → ℕ → S → S → Offered S
offered zero σ τ = record { answer = 0; state = τ }
offered (suc n) σ τ = record { answer = suc n; state = σ }

-- what a run comes to
pub data Ran (S : Type 0) : Type 0 where
  violated : Verdict → Ran S
  clean : S → Ran S
  refused_at : ℕ → ℕ → Ran S

abbrev pub unless_judged : {S : Type 0} → Option Verdict → Ran S → Ran S
unless_judged none rest = rest
unless_judged (some v) rest = violated v

abbrev pub unless_refused_at : {S : Type 0} → ℕ → ℕ → Ran S → Ran S
unless_refused_at zero i rest = rest
unless_refused_at (suc n) i rest = refused_at (suc n) i

-- "Then events until a verdict; a refused event ends the run with its number and record, from 1. Records after a verdict aren't judged."
unfoldable pub run_from : {S : Type 0} → (S → Event → Offered S) → (S → Option Verdict) → ℕ → S → List Event → Ran S
run_from offer verdict i σ [] = clean σ
run_from offer verdict i σ (e ∷ es) =
    let o = offer σ e in
    let rest = run_from offer verdict (suc i) o.state es in
    unless_refused_at o.answer i (unless_judged (verdict o.state) rest)

-- what is counted behind an event: nothing where it is refused or completes a verdict
abbrev pub unless_ended : ℕ → Option Verdict → ℕ → ℕ
unless_ended (suc n) v rest = 0
unless_ended zero (some v) rest = 0
unless_ended zero none rest = rest

-- Document 02, request 3: of a run, the sum over its events; a refused one "counts 0". The third argument says what an event counts.
unfoldable pub run_count_from : {S : Type 0} → (S → Event → Offered S) → (S → Option Verdict) → (S → Event → ℕ) → S → List Event → ℕ
run_count_from offer verdict count σ [] = 0
run_count_from offer verdict count σ (e ∷ es) =
    let o = offer σ e in
    count σ e + unless_ended o.answer (verdict o.state) (run_count_from offer verdict count o.state es)
