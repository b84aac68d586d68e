-- What a state shows, and its padded form: each is the other's inverse on sound states. Assumes nothing.
use mathlib.Core.Path.{◌≡◌, refl, sym, ap, ap₂, subst, ◌∙◌}
use mathlib.Core.Bool.{Bool, true, ◌&&◌}
use mathlib.Core.List.{List, [], ◌∷◌, map, map-map}
use Prim.Native.Nat.{ℕ, suc, ◌≤◌}
use native.Mathlib.Omega.{arith}
use lib.ListN.{length, take, drop, length-map, length-take}
use Rattle.sheet.specs.Table.{every, fit}
use Rattle.sheet.specs.Parts.{Sheet}
use Rattle.sheet.specs.Decode.{sheet_of}
use Rattle.sheet.specs.Reading.{sheet_layout}
use Rattle.sheet.proofs.Accepted.{Accepted, bounds}
use Rattle.sheet.proofs.Tables.{and_parts}
use Rattle.sheet.proofs.Tests.{and_iff, leb_iff, eqb_iff}
use Rattle.step.specs.declared.Call.{Call}
use Rattle.step.specs.Lists.{beside}
use Rattle.step.specs.Padding.{unpad, zero_call, pad_call, padded, is_zero_call}
use Rattle.step.proofs.OnLists.Rooms.{take_fit, take_fitted, fit_take, map_same, every_drop, every_both, every_take, is_zero, fit_padded, rows_in, call_back, outcome_verdict, verdict_outcome}
use Rattle.monitor.specs.declared.Arms.{Arms}
use Rattle.monitor.specs.declared.WatchState.{WatchState}
use Rattle.monitor.specs.Monitor.{Armed, State}
use Rattle.monitor.specs.Sound.{call_sound, sound}
use Rattle.monitor.specs.Padded.{zero_arms, pad_arms, pad, unpad_armed, view, is_zero_arms, tidy_arms, tidy, sound_state}

-- Two lists side by side: as long as both, one side of them, and two images of one list.
module _ {A B C : Type 0} (f : A → B → C) where
  pub length_beside : (l : List A) (m : List B) → length l ≡ length m → length (beside f l m) ≡ length l
  unfolding beside
  length_beside [] m e = refl
  length_beside (x ∷ l) [] e = absurd (omega arith)
  length_beside (x ∷ l) (y ∷ m) e = ap suc (length_beside l m (omega arith))

  module _ {D : Type 0} (g : C → D) where
    pub beside_left : (h : A → D) → ((x : A) (y : B) → g (f x y) ≡ h x) → (l : List A) (m : List B) → length l ≡ length m → map g (beside f l m) ≡ map h l
    unfolding beside
    beside_left h k [] m e = refl
    beside_left h k (x ∷ l) [] e = absurd (omega arith)
    beside_left h k (x ∷ l) (y ∷ m) e = ap₂ (λ (a : D) (r : List D). a ∷ r) (k x y) (beside_left h k l m (omega arith))

    pub beside_right : (h : B → D) → ((x : A) (y : B) → g (f x y) ≡ h y) → (l : List A) (m : List B) → length l ≡ length m → map g (beside f l m) ≡ map h m
    unfolding beside
    beside_right h k [] [] e = refl
    beside_right h k [] (y ∷ m) e = absurd (omega arith)
    beside_right h k (x ∷ l) [] e = absurd (omega arith)
    beside_right h k (x ∷ l) (y ∷ m) e = ap₂ (λ (a : D) (r : List D). a ∷ r) (k x y) (beside_right h k l m (omega arith))

-- What takes each element apart and puts it together leaves a list as it is.
module _ {C : Type 0} (p : C → Bool) where
  pub beside_same : {A B : Type 0} (f : A → B → C) (g : C → A) (h : C → B) → ((x : C) → p x ≡ true → f (g x) (h x) ≡ x) → (l : List C) → every p l ≡ true → beside f (map g l) (map h l) ≡ l
  unfolding every beside
  beside_same f g h k [] e = refl
  beside_same f g h k (x ∷ l) e = let (a, b) = and_parts (p x) (every p l) e in ap₂ (λ (y : C) (m : List C). y ∷ m) (k x a) (beside_same f g h k l b)

-- What is armed for a call, taken out of its padding and put in again.
pad_arms_lem : (a : Arms) → tidy_arms a ≡ true → pad_arms (take a.count a.triples) ≡ a
pad_arms_lem a h =
    let (m, (k, z)) = simp and_iff at h in
    let e = fit_padded 4 a.count a.triples k z in
    let few : a.count ≤ 4 = simp leb_iff at m in
    let long : length a.triples ≡ 4 = simp eqb_iff at k in
    let n : length (take a.count a.triples) ≡ a.count = omega (arith, length-take a.count a.triples) in
    λ i. record { count = n i; triples = e i }

zero_arms_lem : (a : Arms) → (tidy_arms a && is_zero_arms a) ≡ true → a ≡ zero_arms
unfolding fit
zero_arms_lem a h =
    let ((m, (k, b)), (n, z)) = simp and_iff at h in
    let e = fit_padded 4 0 a.triples k z in
    λ i. record { count = is_zero a.count n i; triples = sym e i }

-- The calls and what is armed for them, by the rows that hold them.
module _ (P opened : ℕ) (calls : List Call) (arms : List Arms) (long : length calls ≡ length arms) where
  as_long : length (take opened calls) ≡ length (take opened arms)
  as_long = length-take opened calls ∙ rw long (sym (length-take opened arms))

  calls_of : map (λ (a : Armed). a.call) (beside (unpad_armed P) (take opened calls) (take opened arms)) ≡ map (unpad P) (take opened calls)
  calls_of = beside_left (unpad_armed P) (λ (a : Armed). a.call) (unpad P) (λ c a. refl) (take opened calls) (take opened arms) as_long

  calls_in : every (λ (c : Call). padded 8 P c.kept) calls ≡ true → every is_zero_call (drop opened calls) ≡ true
      → fit (length calls) zero_call (map (λ (a : Armed). pad_call a.call) (beside (unpad_armed P) (take opened calls) (take opened arms))) ≡ calls
  calls_in h z =
      let e = sym (map-map pad_call (λ (a : Armed). a.call) (beside (unpad_armed P) (take opened calls) (take opened arms))) ∙ ap (map pad_call) calls_of in
      ap (fit (length calls) zero_call) e ∙ rows_in P opened calls h z

  arms_in_lem : every tidy_arms arms ≡ true → every is_zero_arms (drop opened arms) ≡ true
      → fit (length arms) zero_arms (map (λ (a : Armed). pad_arms a.armed) (beside (unpad_armed P) (take opened calls) (take opened arms))) ≡ arms
  arms_in_lem h z =
      let f : Arms → Arms = λ a. pad_arms (take a.count a.triples) in
      let e = beside_right (unpad_armed P) (λ (a : Armed). pad_arms a.armed) f (λ c a. refl) (take opened calls) (take opened arms) as_long in
      ap (fit (length arms) zero_arms) (e ∙ map_same tidy_arms f pad_arms_lem (take opened arms) (every_take tidy_arms opened arms h))
      ∙ fit_take zero_arms (λ a. tidy_arms a && is_zero_arms a) zero_arms_lem opened arms (every_both tidy_arms is_zero_arms (drop opened arms) (every_drop tidy_arms opened arms h) z)

module _ (S : Sheet) where
  pub view_calls : (w : WatchState) → length w.calls ≡ length w.arms → map (λ (a : Armed). a.call) (view S w).calls ≡ map (unpad S.common.programs) (take w.opened w.calls)
  unfolding view
  view_calls w long = calls_of S.common.programs w.opened w.calls w.arms long

  -- a sound state is the padded form of what it shows
  pub pad_view : (w : WatchState) → sound_state S w ≡ true → pad (view S w) ≡ w
  unfolding sound_state tidy pad view
  pad_view w h =
      let P = S.common.programs in
      let (few, (((u, v), (m, (n, (k, (t, (z, y)))))), g)) = simp and_iff at h in
      let a : length w.calls ≡ 16 = simp eqb_iff at m in
      let b : length w.arms ≡ 16 = simp eqb_iff at n in
      let o : w.opened ≤ 16 = simp leb_iff at few in
      let long : length w.calls ≡ length w.arms = a ∙ sym b in
      let shown_calls = length_beside (unpad_armed P) (take w.opened w.calls) (take w.opened w.arms) (as_long P w.opened w.calls w.arms long) in
      let e : length (beside (unpad_armed P) (take w.opened w.calls) (take w.opened w.arms)) ≡ w.opened = omega (arith, shown_calls, length-take w.opened w.calls) in
      let variables = fit_padded 4 S.common.monitors w.variables u v in
      let calls = subst (λ (j : ℕ). fit j zero_call (map (λ (a : Armed). pad_call a.call) (beside (unpad_armed P) (take w.opened w.calls) (take w.opened w.arms))) ≡ w.calls) a (calls_in P w.opened w.calls w.arms long k z) in
      let arms = subst (λ (j : ℕ). fit j zero_arms (map (λ (a : Armed). pad_arms a.armed) (beside (unpad_armed P) (take w.opened w.calls) (take w.opened w.arms))) ≡ w.arms) b (arms_in_lem P w.opened w.calls w.arms long t y) in
      λ i. record { main = w.main; variables = variables i; opened = e i; calls = calls i; arms = arms i; position = w.position; outcome = outcome_verdict w.outcome i }

  -- and what a padded state shows is the state
  shown_back : S.common.programs ≤ 8 → (a : Armed) → call_sound S a ≡ true → unpad_armed S.common.programs (pad_call a.call) (pad_arms a.armed) ≡ a
  unfolding call_sound
  shown_back few a h =
      let (u, (k, (m, r))) = simp and_iff at h in
      let armed = take_fit 0 4 a.armed (simp leb_iff at m) in
      λ i. record { call = call_back S.common.programs few a.call k i; armed = armed i }

  pub view_pad : (σ : State) → S.common.monitors ≤ 4 → S.common.programs ≤ 8 → sound S σ ≡ true → view S (pad σ) ≡ σ
  unfolding sound pad view
  view_pad σ few fewer h =
      let (q, (n, (o, (d, (e, (k, v)))))) = simp and_iff at h in
      let f : Armed → Call = λ a. pad_call a.call in
      let g : Armed → Arms = λ a. pad_arms a.armed in
      let variables = take_fitted 0 4 S.common.monitors σ.configuration.variables (simp eqb_iff at n) few in
      let first = take_fitted zero_call 16 (length σ.calls) (map f σ.calls) (length-map σ.calls f) (simp leb_iff at o) in
      let second = take_fitted zero_arms 16 (length σ.calls) (map g σ.calls) (length-map σ.calls g) (simp leb_iff at o) in
      let calls = ap₂ (beside (unpad_armed S.common.programs)) first second ∙ beside_same (call_sound S) (unpad_armed S.common.programs) f g (shown_back fewer) σ.calls k in
      λ i. record { configuration = record { main = σ.configuration.main; variables = variables i }; calls = calls i; position = σ.position; verdict = verdict_outcome σ.verdict i }

-- What a padded state shows.
module _ {s : List ℕ} (a : Accepted sheet_layout s) where
  pub view_back : (σ : State) → sound (sheet_of s) σ ≡ true → view (sheet_of s) (pad σ) ≡ σ
  unfolding sheet_of
  view_back σ h = view_pad (sheet_of s) σ (bounds a).monitors (bounds a).programs h
