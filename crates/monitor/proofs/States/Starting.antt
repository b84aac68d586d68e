-- The fresh state, from the header and the words behind it. Assumes nothing.
use mathlib.Core.Path.{◌≡◌, refl, ap}
use mathlib.Core.List.{List}
use Prim.Native.Nat.{ℕ}
use Rattle.sheet.specs.declared.Header.{Header}
use Rattle.std.specs.Prelude.{Result, Ok, Err}
use Rattle.refusal.specs.declared.Refusal.{Refusal}
use Rattle.refusal.specs.Numbers.{number_of}
use Rattle.sheet.specs.Table.{table, fit}
use Rattle.sheet.specs.Decode.{word_form, common_of, sheet_of}
use Rattle.sheet.specs.Reading.{reading, sheet_layout}
use Rattle.sheet.specs.Answer as paper
use Rattle.sheet.specs.Answer.{reading_paper, header_of, answer}
use Rattle.sheet.proofs.Answers.{answer_accepted, answer_refused}
use Rattle.step.proofs.OnLists.Rooms.{four, four_of_eight}
use Rattle.monitor.specs.declared.WatchState.{WatchState}
use Rattle.monitor.specs.Monitor.{fresh}
use Rattle.monitor.specs.Padded.{zero_state, pad, fresh_of}

pub started_found : (s : List ℕ) (h : Header) (w : List ℕ) (z : WatchState) → h ≡ header_of s → w ≡ fit 8 0 (table word_form h.monitors s 14) → z ≡ zero_state
    → record { main = h.start; variables = four w; opened = z.opened; calls = z.calls; arms = z.arms; position = z.position; outcome = z.outcome } ≡ pad (fresh (sheet_of s))
unfolding pad fresh sheet_of common_of fit
started_found s h w z e f g = rw (g, f, e, four_of_eight (table word_form (header_of s).monitors s 14))

-- what reading answers settles what is made
module _ (s : List ℕ) (r : Result (Unit {0}) Refusal) (e : reading_paper r ≡ answer (reading sheet_layout s)) (τ : WatchState) where
  pub fresh_accepted : r ≡ Ok tt → τ ≡ pad (fresh (sheet_of s)) → (paper.accepted tt ≡ answer (reading sheet_layout s)) × (τ ≡ fresh_of s)
  unfolding fresh_of
  fresh_accepted h f = rw (answer_accepted (reading sheet_layout s) r e h, f) (refl, refl)

  pub fresh_refused : (m : Refusal) → r ≡ Err m → τ ≡ zero_state → (paper.refused (number_of m) ≡ answer (reading sheet_layout s)) × (τ ≡ fresh_of s)
  unfolding fresh_of
  fresh_refused m h f =
      let (k, g, x) = answer_refused (reading sheet_layout s) r e m h in
      rw (g, f) (ap paper.refused x, refl)
