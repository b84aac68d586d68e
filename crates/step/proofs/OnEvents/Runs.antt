-- Laws of offering an event, of one turn of a run, and of what is answered where reading is refused. Assumes nothing.
use mathlib.Core.Path.{◌≡◌, refl, ap, ◌∙◌}
use mathlib.Core.Bool.{Bool, true}
use mathlib.Core.Option.{Option, none, some}
use mathlib.Core.List.{List, ◌∷◌}
use Prim.Native.Nat.{ℕ, zero, suc}
use Rattle.sheet.specs.declared.Header.{Header}
use Rattle.std.specs.Prelude.{Result, Ok, Err}
use Rattle.refusal.specs.declared.Refusal.{Refusal}
use Rattle.refusal.specs.Numbers.{number_of}
use Rattle.sheet.specs.Bytes.{byte}
use Rattle.sheet.specs.Reading.{or_else}
use Rattle.sheet.specs.Log.{Event, log_reading, records_in}
use Rattle.sheet.specs.Answer.{reading_paper, log_paper, read_of, answer, header_of}
use Rattle.sheet.proofs.Answers.{answer_refused, log_read, log_refused}
use Rattle.step.specs.declared.Verdict.{Verdict}
use Rattle.step.specs.Answers.{Ending, declined, refused, answer_of, unless_taken, unless_refused}
use Rattle.step.specs.Runs.{Offered, offered, violated, refused_at, run_from}

-- What an event comes to: its refusal's number, and a state of which holds what held before it and what holds after it where it is taken.
pub offered_answer : {S : Type 0} (n : ℕ) (σ τ : S) → (offered n σ τ).answer ≡ n
offered_answer zero σ τ = refl
offered_answer (suc n) σ τ = refl

pub offered_keeps : {S : Type 0} (p : S → Bool) (n : ℕ) (σ τ : S) → p σ ≡ true → (n ≡ 0 → p τ ≡ true) → p (offered n σ τ).state ≡ true
offered_keeps p zero σ τ h k = k refl
offered_keeps p (suc n) σ τ h k = h

-- a refused event: its number in words, and the state as it was
pub refused_with_lem : {W : Type 0} (n : ℕ) → (n ≡ 0 → ⊥) → (w τ : W) → (declined n ≡ answer_of (offered n w τ).answer) × (w ≡ (offered n w τ).state)
refused_with_lem zero k w τ = absurd (k refl)
refused_with_lem (suc n) k w τ = (refl, refl)

-- bytes that are not read, and a log that is not
module _ (n : ℕ) (r : Result (Unit {0}) Refusal) (e : reading_paper r ≡ answer n) (m : Refusal) (h : r ≡ Err m) where
  pub unread_offer : {W : Type 0} (rest : ℕ) (w τ : W) → (declined (number_of m) ≡ answer_of (offered (or_else n rest) w τ).answer) × (w ≡ (offered (or_else n rest) w τ).state)
  unread_offer rest w τ =
      let (k, g, x) = answer_refused n r e m h in
      rw g (ap declined x, refl)

  pub unread_run : (rest : Ending) → refused (number_of m) ≡ unless_refused n rest
  unread_run rest =
      let (k, g, x) = answer_refused n r e m h in
      rw g (ap refused x)

-- by the header that is lent
module _ (s l : List ℕ) (h : Header) (eh : h ≡ header_of s) (r : Result ℕ Refusal) (er : log_paper r ≡ read_of (log_reading h.programs l) (records_in h.programs l)) where
  answered : log_paper r ≡ read_of (log_reading (byte s 5) l) (records_in (byte s 5) l)
  answered = er ∙ ap (λ (x : Header). read_of (log_reading x.programs l) (records_in x.programs l)) eh

  pub log_accepted : (m : ℕ) → r ≡ Ok m → log_reading (byte s 5) l ≡ 0
  log_accepted m e = log_read (log_reading (byte s 5) l) (records_in (byte s 5) l) r answered m e

  pub unlogged_run : (m : Refusal) → r ≡ Err m → (rest : Ending) (count : ℕ) → (refused (number_of m) ≡ unless_refused (log_reading (byte s 5) l) rest) × (0 ≡ unless_taken (log_reading (byte s 5) l) 0 count)
  unlogged_run m e rest count =
      let (j, g, x) = log_refused (log_reading (byte s 5) l) (records_in (byte s 5) l) r answered m e in
      rw g (ap refused x, refl)

-- One turn of a run.
module _ {S : Type 0} (offer : S → Event → Offered S) (verdict : S → Option Verdict) (i : ℕ) (σ : S) (e : Event) (es : List Event) where
  pub turn_refused : (n : ℕ) → (offer σ e).answer ≡ suc n → run_from offer verdict i σ (e ∷ es) ≡ refused_at (suc n) i
  unfolding run_from
  turn_refused n h = rw h

  module _ (h : (offer σ e).answer ≡ 0) where
    pub turn_judged : (v : Verdict) → verdict (offer σ e).state ≡ some v → run_from offer verdict i σ (e ∷ es) ≡ violated v
    unfolding run_from
    turn_judged v q = rw (h, q)

    pub turn_on : verdict (offer σ e).state ≡ none → run_from offer verdict i σ (e ∷ es) ≡ run_from offer verdict (suc i) (offer σ e).state es
    unfolding run_from
    turn_on q = rw (h, q)
