-- One event on a sheet counts at most 4,416. Assumes nothing.
use mathlib.Core.Path.{◌≡◌, refl, ap}
use mathlib.Core.Bool.{Bool, true, false, cond, ◌&&◌}
use mathlib.Core.Option.{Option, none, some}
use mathlib.Core.List.{List, [], ◌∷◌}
use Prim.Native.Nat.{ℕ, zero, suc, ◌+◌, ◌≤◌}
use native.Mathlib.Omega.{arith}
use borrow.Author.Tests.{leb-true}
use lib.Dec.{eqb}
use lib.ListN.{length}
use Rattle.condition.specs.Meaning.{Environment, environment}
use Rattle.sheet.specs.declared.Triple.{Triple}
use Rattle.sheet.specs.Decode.{sheet_of, common_of}
use Rattle.sheet.specs.Reading.{condition_in, reading, transitions_of, last_of, sheet_layout}
use Rattle.sheet.specs.Log.{Event}
use Rattle.sheet.proofs.Accepted.{Accepted, accepted, bounds}
use Rattle.sheet.proofs.Limits.{sheet_narrow, condition_short, action_short}
use Rattle.sheet.proofs.Tests.{and_iff, eqb_iff}
use Rattle.step.specs.Lists.{Among, first, keep, numbers}
use Rattle.step.specs.Meets.{meets_count}
use Rattle.step.specs.Moves.{Configuration, seen, moved_count}
use Rattle.step.specs.Calls.{is_entry}
use Rattle.step.specs.Answers.{unless_taken}
use Rattle.step.proofs.OnLists.Lists.{first_passes}
use Rattle.step.proofs.OnLists.Keeping.{every_among}
use Rattle.step.proofs.OnLists.Sums.{total_most}
use Rattle.step.proofs.OnEvents.Counts.{meets_few, moved_most}
use Rattle.engine.proofs.MachineCarried.OnSheets.{spread_few}
use Rattle.monitor.specs.Monitor.{Armed, State, triple_in, of_number, refusal, precondition_count, postcondition_count, count}
use Rattle.monitor.specs.Sound.{call_sound, sound}
use Rattle.monitor.specs.Padded.{view, sound_state}
use Rattle.monitor.specs.Answers.{count_of}
use Rattle.monitor.specs.Claims.{FewCounted}

-- as many are kept as are numbered
kept_numbered : {A : Type 0} (p : A → Bool) (i : ℕ) (l : List A) → length (keep p l) ≡ length (numbers p i l)
unfolding keep numbers
kept_numbered p i [] = refl
kept_numbered p i (x ∷ l) = go (p x) (kept_numbered p (suc i) l)
  where
    go : (b : Bool) → length (keep p l) ≡ length (numbers p (suc i) l) → length (cond b (x ∷ keep p l) (keep p l)) ≡ length (cond b (i ∷ numbers p (suc i) l) (numbers p (suc i) l))
    go true h = ap suc h
    go false h = h

-- On an accepted sheet, in a sound state.
module _ {s : List ℕ} (a : Accepted sheet_layout s) where
  short : (i : ℕ) → length (condition_in (common_of s) i) ≤ 64
  short i = rw (sheet_narrow s a.version) at (condition_short a i)

  each : (i : ℕ) (E : Environment) → meets_count (common_of s) i E ≤ 64
  each i E = omega (arith, meets_few (common_of s) i E, short i)

  module _ (k : Configuration) (e : Event) where
    moved_few : moved_count (common_of s) (transitions_of sheet_layout s) k e ≤ 4160
    moved_few = omega (arith, moved_most (common_of s) 64 64 short (action_short a) (transitions_of sheet_layout s) k e, (bounds a).transitions)

    preconditions_few : precondition_count (sheet_of s) k e ≤ 256
    unfolding precondition_count sheet_of
    preconditions_few =
        let of : Triple → Bool = λ t. eqb t.state k.main && eqb t.unit e.unit in
        let few = spread_few a of k.main e.unit (λ t h. simp (and_iff, eqb_iff) at h) in
        let most = total_most (λ (t : Triple). meets_count (common_of s) t.precondition (seen e k)) 64 (λ t. each t.precondition (seen e k)) (keep of (last_of sheet_layout s)) in
        omega (arith, few, most, kept_numbered of 0 (last_of sheet_layout s))

    postconditions_few : (o : Option Armed) → ((b : Armed) → o ≡ some b → length b.armed ≤ 4) → postcondition_count (sheet_of s) k e o ≤ 256
    unfolding sheet_of
    postconditions_few none h = omega arith
    postconditions_few (some b) h =
        let most = total_most (λ i. meets_count (common_of s) (triple_in (sheet_of s) i).postcondition (environment e.values k.variables b.call.kept)) 64 (λ i. each _ _) b.armed in
        omega (arith, most, h b refl)

  -- "at most four armed triples"
  four_armed : (σ : State) → sound (sheet_of s) σ ≡ true → (b : Armed) → Among b σ.calls → length b.armed ≤ 4
  unfolding sound call_sound
  four_armed σ h b m =
      let (u, (v, (few, (d, (en, (calls, f)))))) = simp and_iff at h in
      let (x, (y, (z, rest))) = simp and_iff at (every_among (call_sound (sheet_of s)) σ.calls b calls m) in
      leb-true (length b.armed) 4 z

  taken_few : (σ : State) (e : Event) → sound (sheet_of s) σ ≡ true → count (sheet_of s) σ e ≤ 4416
  unfolding count sheet_of
  taken_few σ e h = go (refusal (sheet_of s) σ e) (is_entry e)
    where
      k : Configuration
      k = σ.configuration

      found : (b : Armed) → first (of_number e.number) σ.calls ≡ some b → length b.armed ≤ 4
      found b q = four_armed σ h b (first_passes (of_number e.number) σ.calls b q).0

      go : (n : ℕ) (b : Bool) → unless_taken n 0 (moved_count (common_of s) (transitions_of sheet_layout s) k e + cond b (precondition_count (sheet_of s) k e) (postcondition_count (sheet_of s) k e (first (of_number e.number) σ.calls))) ≤ 4416
      go zero true = omega (arith, moved_few k e, preconditions_few k e)
      go zero false = omega (arith, moved_few k e, postconditions_few k e (first (of_number e.number) σ.calls) found)
      go (suc n) b = omega arith

pub few_counted : FewCounted
unfolding count_of sound_state
few_counted s w e = go (reading sheet_layout s) refl (sound_state (sheet_of s) w) refl
  where
    go : (n : ℕ) → reading sheet_layout s ≡ n → (b : Bool) → sound_state (sheet_of s) w ≡ b → unless_taken n 0 (cond b (count (sheet_of s) (view (sheet_of s) w) e) 0) ≤ 4416
    go zero h true g = let (few, (t, v)) = simp and_iff at g in taken_few (accepted sheet_layout s h) (view (sheet_of s) w) e v
    go zero h false g = omega arith
    go (suc n) h b g = omega arith
