-- A sound state as the operations hold it: it is found sound, so an event never meets 9 there. Assumes nothing.
use mathlib.Core.Path.{◌≡◌, refl, sym, ap, subst, ◌∙◌}
use mathlib.Core.Bool.{true}
use mathlib.Core.List.{List, [], ◌∷◌, map}
use Prim.Native.Nat.{ℕ, zero, suc}
use borrow.Author.Tests.{le-leb, eq-eqb}
use lib.Dec.{eqb}
use lib.ListN.{length, drop, length-map}
use Rattle.sheet.specs.Table.{every, fit}
use Rattle.sheet.specs.Decode.{network_of}
use Rattle.sheet.specs.Reading.{network_layout}
use Rattle.sheet.specs.Log.{Event}
use Rattle.sheet.proofs.Accepted.{Accepted, accepted, reading_accepted}
use Rattle.sheet.proofs.Tables.{and_parts, and_both}
use Rattle.sheet.proofs.Tests.{and_iff, eqb_iff}
use Rattle.step.specs.declared.Call.{Call}
use Rattle.step.specs.Calls as Calls
use Rattle.step.specs.Runs.{Offered, offered}
use Rattle.step.specs.Padding.{zero_call, pad_call, clear, padded, is_zero_call}
use Rattle.step.specs.Verdicts.{is_judged}
use Rattle.step.proofs.OnEvents.Runs.{offered_answer}
use Rattle.step.proofs.OnEvents.Refusing.{lowest_never}
use Rattle.step.proofs.OnLists.Rooms.{length_fit, every_fit, every_behind, padded_fit, zero_padded}
use Rattle.network.specs.declared.NetworkState.{NetworkState}
use Rattle.network.specs.Network.{State, fresh, refusal, offer}
use Rattle.network.specs.Sound.{call_sound, sound}
use Rattle.network.specs.Padded.{zero_checker, is_zero_checker, pad, view, tidy, sound_state, fresh_of}
use Rattle.network.specs.Answers.{offer_of}
use Rattle.network.specs.Claims.{Reached, begun, more, Soundness}
use Rattle.network.proofs.States.Living.{checkers_few}
use Rattle.network.proofs.States.Views.{pad_view, view_back}
use Rattle.network.proofs.States.Soundness.{fresh_sound, offer_sound}

module _ {s : List ℕ} (a : Accepted network_layout s) (σ : State) (h : sound (network_of s) σ ≡ true) where
  calls_padded : (P : ℕ) (l : List Calls.Call) → every (λ (c : Calls.Call). eqb (length c.kept) P) l ≡ true → every (λ (c : Call). padded 8 P c.kept) (map pad_call l) ≡ true
  unfolding every
  calls_padded P [] k = refl
  calls_padded P (c ∷ l) k = let (i, j) = and_parts (eqb (length c.kept) P) (every (λ (c : Calls.Call). eqb (length c.kept) P) l) k in and_both (padded_fit 8 P c.kept (simp eqb_iff at i)) (calls_padded P l j)

  kept_many : (l : List Calls.Call) → every (call_sound (network_of s)) l ≡ true → every (λ (c : Calls.Call). eqb (length c.kept) (network_of s).common.programs) l ≡ true
  unfolding every call_sound
  kept_many [] k = refl
  kept_many (c ∷ l) k = let ((i, j), r) = simp and_iff at k in and_both j (kept_many l r)

  tidy_pad : tidy (network_of s) (pad σ) ≡ true
  unfolding tidy pad sound clear every
  tidy_pad =
      let N = network_of s in
      let (m, (v, (c, (d, (n, (k, rest)))))) = simp (and_iff, eqb_iff) at h in
      let calls = map pad_call σ.calls in
      let many : length calls ≡ length σ.calls = length-map σ.calls pad_call in
      and_both (padded_fit 4 N.common.monitors σ.configuration.variables v)
      (and_both (eq-eqb _ _ (length_fit 16 zero_call calls))
      (and_both (eq-eqb _ _ (length_fit 64 zero_checker σ.checkers))
      (and_both (every_fit (λ (x : Call). padded 8 N.common.programs x.kept) zero_call (zero_padded N.common.programs) 16 calls (calls_padded N.common.programs σ.calls (kept_many σ.calls k)))
      (and_both (subst (λ (j : ℕ). every is_zero_call (drop j (fit 16 zero_call calls)) ≡ true) many (every_behind is_zero_call zero_call refl 16 calls))
      (every_behind is_zero_checker zero_checker refl 64 σ.checkers)))))

  pub sound_pad : sound_state (network_of s) (pad σ) ≡ true
  unfolding sound_state sound pad
  sound_pad =
      let (m, (v, (c, rest))) = simp and_iff at h in
      and_both c (and_both (le-leb _ _ (checkers_few (network_of s) σ h)) (and_both tidy_pad (ap (sound (network_of s)) (view_back a σ h) ∙ h)))

  -- so what offering an event answers there is what the definition answers
  pub offered_pad : (e : Event) → offer_of s (pad σ) e ≡ record { answer = (offer (network_of s) σ e).answer; state = pad (offer (network_of s) σ e).state }
  unfolding offer_of offer
  offered_pad e = rw (reading_accepted network_layout s a, sound_pad, view_back a σ h) (go (refusal (network_of s) σ e) _)
    where
      go : (n : ℕ) (τ : State) → offered n (pad σ) (pad (offered n σ τ).state) ≡ record { answer = (offered n σ τ).answer; state = pad (offered n σ τ).state }
      go zero τ = refl
      go (suc n) τ = refl

record Held (s : List ℕ) (w : NetworkState) : Type 0 where
  state : State
  padded : w ≡ pad state
  good : sound (network_of s) state ≡ true

module _ {s : List ℕ} (a : Accepted network_layout s) where
  -- An offered event leaves a sound state sound.
  offer_keeps : (w : NetworkState) → sound_state (network_of s) w ≡ true → (e : Event) → sound_state (network_of s) (offer_of s w e).state ≡ true
  unfolding sound_state
  offer_keeps w h e =
      let (o, (l, (t, g))) = simp and_iff at h in
      let σ = view (network_of s) w in
      let next : (offer_of s w e).state ≡ pad (offer (network_of s) σ e).state = ap (λ (x : NetworkState). (offer_of s x e).state) (sym (pad_view (network_of s) w h)) ∙ ap (λ (x : Offered NetworkState). x.state) (offered_pad a σ g e) in
      ap (sound_state (network_of s)) next ∙ sound_pad a (offer (network_of s) σ e).state (offer_sound a σ e g)

  held : {w : NetworkState} → Reached s w → Held s w
  unfolding fresh_of
  held begun = record { state = fresh (network_of s); padded = rw (reading_accepted network_layout s a); good = fresh_sound a }
  held (more r e) =
      let g = held r in
      let next = ap (λ (w : NetworkState). (offer_of s w e).state) g.padded ∙ ap (λ (o : Offered NetworkState). o.state) (offered_pad a g.state g.good e) in
      record { state = (offer (network_of s) g.state e).state; padded = next; good = offer_sound a g.state e g.good }

  reached_sound : {w : NetworkState} → Reached s w → sound_state (network_of s) w ≡ true
  reached_sound r = let g = held r in ap (sound_state (network_of s)) g.padded ∙ sound_pad a g.state g.good

  -- so no event meets 9
  never_nine_lem : {w : NetworkState} → Reached s w → (e : Event) → (offer_of s w e).answer ≡ 9 → ⊥
  unfolding refusal offer_of
  never_nine_lem {w} r e h =
      let N = network_of s in
      let σ = view N w in
      let n = refusal N σ e in
      let same : (offered n w (pad (offer N σ e).state)).answer ≡ 9 = rw (reading_accepted network_layout s a, reached_sound r) at h in
      lowest_never N.common (is_judged σ.verdict) σ.position σ.calls e (sym (offered_answer n w (pad (offer N σ e).state)) ∙ same)

-- In its arrays a sound state stays sound, and from fresh every state is.
pub soundness : Soundness
soundness s h =
    let a = accepted network_layout s h in
    record { kept = λ w g e. offer_keeps a w g e; reached = λ w r. reached_sound a r; never_nine = λ w r e. never_nine_lem a r e }
