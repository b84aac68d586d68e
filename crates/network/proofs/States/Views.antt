-- What a state shows, and its padded form: each is the other's inverse on sound states. Assumes nothing.
use mathlib.Core.Path.{◌≡◌, subst}
use mathlib.Core.Bool.{true}
use mathlib.Core.List.{List, map}
use Prim.Native.Nat.{ℕ, ◌≤◌}
use native.Mathlib.Omega.{arith}
use lib.Dec.{eqb}
use lib.ListN.{length, take, length-map, length-take}
use Rattle.sheet.specs.Table.{fit}
use Rattle.sheet.specs.Parts.{Network}
use Rattle.sheet.specs.Decode.{network_of}
use Rattle.sheet.specs.Reading.{network_layout}
use Rattle.sheet.proofs.Accepted.{Accepted, bounds}
use Rattle.sheet.proofs.Tables.{every_weaker}
use Rattle.sheet.proofs.Tests.{and_iff, leb_iff, eqb_iff}
use Rattle.step.specs.Calls.{Call}
use Rattle.step.specs.Padding.{unpad, zero_call, pad_call}
use Rattle.step.proofs.OnLists.Rooms.{take_fit, take_fitted, fit_take, is_zero, fit_padded, rows_in, rows_out, outcome_verdict, verdict_outcome}
use Rattle.network.specs.declared.Checker.{Checker}
use Rattle.network.specs.declared.NetworkState.{NetworkState}
use Rattle.network.specs.Network.{State}
use Rattle.network.specs.Sound.{call_sound, sound}
use Rattle.network.specs.Padded.{zero_checker, pad, view, is_zero_checker, tidy, sound_state}
use Rattle.network.proofs.States.Living.{checkers_few}

zero_checker_lem : (h : Checker) → is_zero_checker h ≡ true → h ≡ zero_checker
zero_checker_lem h e =
    let (n, (t, a)) = simp and_iff at e in
    λ i. record { number = is_zero h.number n i; template = is_zero h.template t i; entry = is_zero h.entry a i }

module _ (N : Network) where
  -- a sound state is the padded form of what it shows
  pub pad_view : (w : NetworkState) → sound_state N w ≡ true → pad (view N w) ≡ w
  unfolding sound_state tidy pad view
  pad_view w h =
      let P = N.common.programs in
      let (few, (most, (((u, v), (m, (n, (k, (z, y))))), g))) = simp and_iff at h in
      let a : length w.calls ≡ 16 = simp eqb_iff at m in
      let b : length w.checkers ≡ 64 = simp eqb_iff at n in
      let o : w.opened ≤ 16 = simp leb_iff at few in
      let p : w.living ≤ 64 = simp leb_iff at most in
      let opened : length (map (unpad P) (take w.opened w.calls)) ≡ w.opened = omega (arith, length-map (take w.opened w.calls) (unpad P), length-take w.opened w.calls) in
      let living : length (take w.living w.checkers) ≡ w.living = omega (arith, length-take w.living w.checkers) in
      let variables = fit_padded 4 N.common.monitors w.variables u v in
      let calls = subst (λ (j : ℕ). fit j zero_call (map pad_call (map (unpad P) (take w.opened w.calls))) ≡ w.calls) a (rows_in P w.opened w.calls k z) in
      let checkers = subst (λ (j : ℕ). fit j zero_checker (take w.living w.checkers) ≡ w.checkers) b (fit_take zero_checker is_zero_checker zero_checker_lem w.living w.checkers y) in
      λ i. record { main = w.main; variables = variables i; opened = opened i; calls = calls i; living = living i; checkers = checkers i; position = w.position; outcome = outcome_verdict w.outcome i }

  -- and what a padded state shows is the state
  keeps_all : (c : Call) → call_sound N c ≡ true → eqb (length c.kept) N.common.programs ≡ true
  unfolding call_sound
  keeps_all c h = (simp and_iff at h).1

  pub view_pad : (σ : State) → N.common.monitors ≤ 4 → N.common.programs ≤ 8 → length σ.checkers ≤ 64 → sound N σ ≡ true → view N (pad σ) ≡ σ
  unfolding sound pad view
  view_pad σ few fewer room h =
      let P = N.common.programs in
      let (q, (n, (o, (d, (p, (k, w)))))) = simp and_iff at h in
      let variables = take_fitted 0 4 N.common.monitors σ.configuration.variables (simp eqb_iff at n) few in
      let kept = every_weaker (call_sound N) (λ (c : Call). eqb (length c.kept) P) keeps_all σ.calls k in
      let calls = rows_out P σ.calls fewer kept (simp leb_iff at o) in
      let checkers = take_fit zero_checker 64 σ.checkers room in
      λ i. record { configuration = record { main = σ.configuration.main; variables = variables i }; calls = calls i; checkers = checkers i; position = σ.position; verdict = verdict_outcome σ.verdict i }

-- on an accepted network
module _ {s : List ℕ} (a : Accepted network_layout s) where
  pub view_back : (σ : State) → sound (network_of s) σ ≡ true → view (network_of s) (pad σ) ≡ σ
  unfolding network_of
  view_back σ h = view_pad (network_of s) σ (bounds a).monitors (bounds a).programs (checkers_few (network_of s) σ h) h
