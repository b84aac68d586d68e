-- One event on a network counts at most 6,464, or 102,464 in version 3. Assumes nothing.
use mathlib.Core.Path.{◌≡◌, refl}
use mathlib.Core.Bool.{Bool, true, false, cond}
use mathlib.Core.Option.{Option, none, some}
use mathlib.Core.List.{List}
use Prim.Native.Nat.{ℕ, zero, suc, ◌+◌, ◌*◌, ◌≤◌}
use native.Mathlib.Omega.{arith}
use native.Mathlib.Nat.{mul-le-mul_left}
use borrow.Author.Tests.{leb-true}
use lib.ListN.{length, length-map}
use Rattle.condition.specs.Meaning.{Environment, environment}
use Rattle.sheet.specs.declared.Pair.{Pair}
use Rattle.sheet.specs.Parts.{Paired, bases}
use Rattle.sheet.specs.Decode.{wide, network_of, common_of}
use Rattle.sheet.specs.Reading.{most_bytes, reading, transitions_of, network_layout}
use Rattle.sheet.specs.Log.{Event}
use Rattle.sheet.proofs.Accepted.{Accepted, accepted, bounds, network_pairs}
use Rattle.sheet.proofs.Limits.{condition_short, action_short}
use Rattle.sheet.proofs.Tests.{and_iff}
use Rattle.step.specs.Lists.{Among, first, keep}
use Rattle.step.specs.Meets.{meets_count}
use Rattle.step.specs.Moves.{Configuration, seen, enabled, moved_count}
use Rattle.step.specs.Calls.{Call, is_entry}
use Rattle.step.specs.Answers.{unless_taken}
use Rattle.step.proofs.OnLists.Lists.{first_passes}
use Rattle.step.proofs.OnLists.Keeping.{among_at, every_among}
use Rattle.step.proofs.OnLists.Sums.{total_most}
use Rattle.step.proofs.OnEvents.Bridge.{no_paired}
use Rattle.step.proofs.OnEvents.Counts.{meets_few, moved_most}
use Rattle.network.specs.declared.Checker.{Checker}
use Rattle.network.specs.Network.{State, pairs_in, template_in, bound_to, of_number, refusal, pair_count, postcondition_count, count}
use Rattle.network.specs.Sound.{four_acall, sound}
use Rattle.network.specs.Padded.{view, sound_state}
use Rattle.network.specs.Answers.{count_of}
use Rattle.network.specs.Claims.{most_counted, FewCounted}

-- On an accepted network, in a sound state; a condition has at most n bytes.
module _ {s : List ℕ} (a : Accepted network_layout s) where
  abbrev n : ℕ
  n = most_bytes (wide s)

  each : (i : ℕ) (E : Environment) → meets_count (common_of s) i E ≤ most_bytes (wide s)
  each i E = omega (arith, meets_few (common_of s) i E, condition_short a i)

  -- four conditions at most
  four_times : (k : ℕ) → k ≤ 4 → most_bytes (wide s) * k ≤ 4 * most_bytes (wide s)
  four_times k h = omega (arith, mul-le-mul_left n h)

  module _ (k : Configuration) (e : Event) where
    moved_few : moved_count (common_of s) (bases (network_of s)) k e ≤ 96 * most_bytes (wide s) + 64
    unfolding network_of
    moved_few =
        let ts = transitions_of network_layout s in
        let many : length (bases (network_of s)) ≤ 96 = omega (arith, length-map ts (λ (t : Paired). t.base), (bounds a).transitions) in
        omega (arith, moved_most (common_of s) n 64 (condition_short a) (action_short a) (bases (network_of s)) k e, mul-le-mul_left n many)

    pairs_few : (o : Option Paired) → first (λ (t : Paired). enabled (common_of s) k e t.base) (transitions_of network_layout s) ≡ o → length (pairs_in o) ≤ 4
    pairs_few none h = omega arith
    pairs_few (some t) h =
        let (i, j, z) = among_at no_paired (transitions_of network_layout s) t (first_passes _ (transitions_of network_layout s) t h).0 in
        rw z at (network_pairs a i no_paired j)

    asked_few : pair_count (network_of s) k e ≤ 4 * most_bytes (wide s)
    unfolding pair_count network_of
    asked_few =
        let l = pairs_in (first (λ (t : Paired). enabled (common_of s) k e t.base) (transitions_of network_layout s)) in
        let most = total_most (λ (p : Pair). meets_count (common_of s) p.condition (seen e k)) n (λ p. each p.condition (seen e k)) l in
        omega (arith, most, four_times (length l) (pairs_few _ refl))

    judged_few : (l : List Checker) (o : Option Call) → ((c : Call) → o ≡ some c → length (keep (bound_to c.number) l) ≤ 4) → postcondition_count (network_of s) k e l o ≤ 4 * most_bytes (wide s)
    unfolding network_of
    judged_few l none h = omega arith
    judged_few l (some c) h =
        let own = keep (bound_to c.number) l in
        let most = total_most (λ (x : Checker). meets_count (common_of s) (template_in (network_of s) x.template).postcondition (environment e.values k.variables c.kept)) n (λ x. each _ _) own in
        omega (arith, most, four_times (length own) (h c refl))

  -- "at most four a call"
  four_bound : (σ : State) → sound (network_of s) σ ≡ true → (c : Call) → Among c σ.calls → length (keep (bound_to c.number) σ.checkers) ≤ 4
  unfolding sound four_acall
  four_bound σ h c m =
      let (u, (v, (few, (d, (en, (calls, ((on, (carried, (four, order))), f))))))) = simp and_iff at h in
      leb-true _ 4 (every_among _ σ.calls c four m)

  taken_few : (σ : State) (e : Event) → sound (network_of s) σ ≡ true → count (network_of s) σ e ≤ most_counted (wide s)
  unfolding count network_of
  taken_few σ e h = go (refusal (network_of s) σ e) (is_entry e)
    where
      k : Configuration
      k = σ.configuration

      found : (c : Call) → first (of_number e.number) σ.calls ≡ some c → length (keep (bound_to c.number) σ.checkers) ≤ 4
      found c q = four_bound σ h c (first_passes (of_number e.number) σ.calls c q).0

      go : (r : ℕ) (b : Bool) → unless_taken r 0 (moved_count (common_of s) (bases (network_of s)) k e + cond b (pair_count (network_of s) k e) (postcondition_count (network_of s) k e σ.checkers (first (of_number e.number) σ.calls))) ≤ most_counted (wide s)
      go zero true = omega (arith, moved_few k e, asked_few k e)
      go zero false = omega (arith, moved_few k e, judged_few k e σ.checkers (first (of_number e.number) σ.calls) found)
      go (suc r) b = omega arith

pub few_counted : FewCounted
unfolding count_of sound_state
few_counted s w e = go (reading network_layout s) refl (sound_state (network_of s) w) refl
  where
    go : (r : ℕ) → reading network_layout s ≡ r → (b : Bool) → sound_state (network_of s) w ≡ b → unless_taken r 0 (cond b (count (network_of s) (view (network_of s) w) e) 0) ≤ most_counted (wide s)
    go zero h true g = let (few, (most, (t, v))) = simp and_iff at g in taken_few (accepted network_layout s h) (view (network_of s) w) e v
    go zero h false g = omega arith
    go (suc r) h b g = omega arith
