-- A run in words answers and counts what the definition's run does of the machine that the plan carries, from what the words show on. Assumes nothing.
use mathlib.Core.Path.{◌≡◌, refl, sym, ap, ap₂, subst, ◌∙◌}
use mathlib.Core.Bool.{Bool, true, false, cond}
use mathlib.Core.Option.{Option, none, some}
use mathlib.Core.List.{List, [], ◌∷◌}
use Prim.Native.Nat.{ℕ, zero, suc, ◌+◌, ◌*◌}
use lib.Dec.{eqb, leb}
use lib.ListN.{length, take, length-set}
use lib.Seq.{sets, slice, length-sets}
use Rattle.sheet.specs.Log.{Event}
use Rattle.step.specs.declared.Verdict.{Verdict}
use Rattle.step.specs.Verdicts.{verdict_in}
use Rattle.step.specs.Runs.{Ran, offered, unless_judged, unless_refused_at, unless_ended, run_from, run_count_from}
use Rattle.step.specs.Answers.{clean, ran_answer}
use Rattle.engine.specs.Machine.{Machine, State, offer, count}
use Rattle.engine.specs.Walk.{Words, place_in, row_with, row_without, refusal_in, entered_in, exited_in, offer_in, given_of, eight_of}
use Rattle.engine.specs.Showing.{shown_by, Steady, Carries}
use Rattle.engine.specs.Runs.{offer_by, event_count_by, ends_by, ends_in}
use Rattle.engine.proofs.OnMachines.Keeps.{offer_steady}
use Rattle.engine.proofs.OnMachines.Shown.{shown_count, offer_answer, offer_shown}
use Rattle.engine.proofs.OnMachines.Counted.{count_shown}

-- an event keeps the row's length
row_with_lem : (row : List ℕ) (at number unit entry : ℕ) (values armed : List ℕ) → length (row_with row at number unit entry values armed) ≡ length row
unfolding row_with
row_with_lem row at number unit entry values armed =
    let r₁ = sets row at (number ∷ unit ∷ []) in
    let r₂ = sets r₁ (at + 7) (entry ∷ values) in
    let r₃ = sets r₂ (at + 3) (take 4 armed) in
    length-set r₃ (at + 2) (length armed) ∙ length-sets r₂ (at + 3) (take 4 armed) ∙ length-sets r₁ (at + 7) (entry ∷ values) ∙ length-sets row at (number ∷ unit ∷ [])

row_without_lem : (row : List ℕ) (at opened : ℕ) → length (row_without row at opened) ≡ length row
unfolding row_without
row_without_lem row at opened = length-sets row at (slice (at + 16) (16 * opened) row)

pub row_kept : (s p : List ℕ) (σ : Words) (e : Event) → length (offer_by s p σ e).state.row ≡ length σ.row
unfolding offer_in entered_in exited_in
row_kept s p σ e = go (cond (leb σ.run.opened 16) (refusal_in p σ.run σ.row (given_of e) at) 9) (eqb e.kind 0)
  where
    at : ℕ
    at = place_in e.number σ.run.opened σ.row

    go : (n : ℕ) (b : Bool) → length (offered n σ (cond b (entered_in s p σ (given_of e) (eight_of e)) (exited_in s p σ e.unit at (eight_of e)))).state.row ≡ length σ.row
    go zero true = row_with_lem σ.row _ _ _ _ _ _
    go zero false = row_without_lem σ.row _ _
    go (suc n) b = refl

-- two runs that go on alike answer alike
goes_alike : (n i : ℕ) (v : Option Verdict) (x : Ran Words) (y : Ran State) → ran_answer ends_by x ≡ ran_answer ends_in y
    → ran_answer ends_by (unless_refused_at n i (unless_judged v x)) ≡ ran_answer ends_in (unless_refused_at n i (unless_judged v y))
goes_alike zero i none x y e = e
goes_alike zero i (some v) x y e = refl
goes_alike (suc n) i v x y e = refl

-- what is shown after an event, and that it is steady
stays_steady : (M : Machine) (last : ℕ) (s p : List ℕ) → Carries M last s p → (σ : Words) (e : Event) → Steady M.common last (shown_by M.common σ) → length σ.row ≡ 256
    → (shown_by M.common (offer_by s p σ e).state ≡ (offer M (shown_by M.common σ) e).state) × Steady M.common last (shown_by M.common (offer_by s p σ e).state)
stays_steady M last s p c σ e h long =
    let shown = offer_shown M last s p σ e c h long in
    (shown, subst (Steady M.common last) (sym shown) (offer_steady M last s p c (shown_by M.common σ) e h))

pub run_shown : (M : Machine) (last : ℕ) (s p : List ℕ) → Carries M last s p → (es : List Event) (i : ℕ) (σ : Words) → Steady M.common last (shown_by M.common σ) → length σ.row ≡ 256
    → ran_answer ends_by (run_from (offer_by s p) (λ σ. verdict_in σ.run.outcome) i σ es) ≡ ran_answer ends_in (run_from (offer M) (λ σ. σ.verdict) i (shown_by M.common σ) es)
unfolding run_from shown_by
run_shown M last s p c [] i σ h long = ap (clean σ.run.position σ.run.main) (sym (shown_count M.common σ))
run_shown M last s p c (e ∷ es) i σ h long =
    let to = (offer_by s p σ e).state in
    let answer = offer_answer M last s p σ e c h long in
    let (shown, steady) = stays_steady M last s p c σ e h long in
    let rest = run_shown M last s p c es (suc i) to steady (row_kept s p σ e ∙ long) in
    goes_alike (offer_by s p σ e).answer i (verdict_in to.run.outcome) _ _ rest
    ∙ (λ j. ran_answer ends_in (unless_refused_at (answer j) i (unless_judged (shown j).verdict (run_from (offer M) (λ (τ : State). τ.verdict) (suc i) (shown j) es))))

-- and counts what the definition's run counts
pub run_count_shown : (M : Machine) (last : ℕ) (s p : List ℕ) → Carries M last s p → (es : List Event) (σ : Words) → Steady M.common last (shown_by M.common σ) → length σ.row ≡ 256
    → run_count_from (offer_by s p) (λ σ. verdict_in σ.run.outcome) (event_count_by s p) σ es ≡ run_count_from (offer M) (λ σ. σ.verdict) (count M) (shown_by M.common σ) es
unfolding run_count_from shown_by
run_count_shown M last s p c [] σ h long = refl
run_count_shown M last s p c (e ∷ es) σ h long =
    let to = (offer_by s p σ e).state in
    let answer = offer_answer M last s p σ e c h long in
    let (shown, steady) = stays_steady M last s p c σ e h long in
    let rest = run_count_shown M last s p c es to steady (row_kept s p σ e ∙ long) in
    ap₂ (λ (m n : ℕ). m + n) (count_shown M last s p σ e c h long)
    (ap (unless_ended (offer_by s p σ e).answer (verdict_in to.run.outcome)) rest ∙ (λ j. unless_ended (answer j) (shown j).verdict (run_count_from (offer M) (λ (τ : State). τ.verdict) (count M) (shown j) es)))
