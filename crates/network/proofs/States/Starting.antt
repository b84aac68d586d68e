-- The fresh state, from the header and the words behind it. Assumes nothing.
use mathlib.Core.Path.{◌≡◌, refl, ap}
use mathlib.Core.List.{List}
use Prim.Native.Nat.{ℕ}
use Rattle.sheet.specs.declared.Header.{Header}
use Rattle.std.specs.Prelude.{Result, Ok, Err}
use Rattle.refusal.specs.declared.Refusal.{Refusal}
use Rattle.refusal.specs.Numbers.{number_of}
use Rattle.sheet.specs.Table.{table, fit}
use Rattle.sheet.specs.Decode.{word_form, common_of, network_of}
use Rattle.sheet.specs.Reading.{reading, network_layout}
use Rattle.sheet.specs.Answer as paper
use Rattle.sheet.specs.Answer.{reading_paper, header_of, answer}
use Rattle.sheet.proofs.Answers.{answer_accepted, answer_refused}
use Rattle.step.proofs.OnLists.Rooms.{four, four_of_eight}
use Rattle.network.specs.declared.NetworkState.{NetworkState}
use Rattle.network.specs.Network.{fresh}
use Rattle.network.specs.Padded.{zero_state, pad, fresh_of}

pub started_found : (s : List ℕ) (h : Header) (w : List ℕ) (z : NetworkState) → h ≡ header_of s → w ≡ fit 8 0 (table word_form h.monitors s 14) → z ≡ zero_state
    → record { main = h.start; variables = four w; opened = z.opened; calls = z.calls; living = z.living; checkers = z.checkers; position = z.position; outcome = z.outcome } ≡ pad (fresh (network_of s))
unfolding pad fresh network_of common_of fit
started_found s h w z e f g = rw (g, f, e, four_of_eight (table word_form (header_of s).monitors s 14))

-- what reading answers settles what is made
module _ (s : List ℕ) (r : Result (Unit {0}) Refusal) (e : reading_paper r ≡ answer (reading network_layout s)) (τ : NetworkState) where
  pub fresh_accepted : r ≡ Ok tt → τ ≡ pad (fresh (network_of s)) → (paper.accepted tt ≡ answer (reading network_layout s)) × (τ ≡ fresh_of s)
  unfolding fresh_of
  fresh_accepted h f = rw (answer_accepted (reading network_layout s) r e h, f) (refl, refl)

  pub fresh_refused : (m : Refusal) → r ≡ Err m → τ ≡ zero_state → (paper.refused (number_of m) ≡ answer (reading network_layout s)) × (τ ≡ fresh_of s)
  unfolding fresh_of
  fresh_refused m h f =
      let (k, g, x) = answer_refused (reading network_layout s) r e m h in
      rw (g, f) (ap paper.refused x, refl)
