-- A sound state as the operations hold it: it is found sound, and an offered event leaves it so, so from fresh no event meets 9. Assumes nothing.
use mathlib.Core.Path.{◌≡◌, refl, sym, ap, subst, ◌∙◌}
use mathlib.Core.Bool.{Bool, true}
use mathlib.Core.List.{List, [], ◌∷◌, map}
use Prim.Native.Nat.{ℕ, zero, suc}
use borrow.Author.Tests.{eq-eqb}
use lib.ListN.{length, drop, length-map}
use Rattle.sheet.specs.Table.{every, fit}
use Rattle.sheet.specs.Parts.{Sheet}
use Rattle.sheet.specs.Decode.{sheet_of}
use Rattle.sheet.specs.Reading.{sheet_layout}
use Rattle.sheet.specs.Log.{Event}
use Rattle.sheet.proofs.Accepted.{Accepted, accepted, reading_accepted}
use Rattle.sheet.proofs.Tables.{and_parts, and_both}
use Rattle.sheet.proofs.Tests.{and_iff, eqb_iff}
use Rattle.step.specs.declared.Call.{Call}
use Rattle.step.specs.Runs.{Offered, offered}
use Rattle.step.specs.Padding.{zero_call, pad_call, clear, padded, is_zero_call}
use Rattle.step.specs.Verdicts.{is_judged}
use Rattle.step.proofs.OnEvents.Runs.{offered_answer}
use Rattle.step.proofs.OnEvents.Refusing.{lowest_never}
use Rattle.step.proofs.OnLists.Rooms.{length_fit, every_fit, every_behind, padded_fit, zero_padded}
use Rattle.monitor.specs.declared.WatchState.{WatchState}
use Rattle.monitor.specs.Monitor.{Armed, State, fresh, refusal, offer}
use Rattle.monitor.specs.Sound.{call_sound, sound}
use Rattle.monitor.specs.Padded.{zero_arms, pad_arms, is_zero_arms, tidy_arms, pad, view, tidy, sound_state, fresh_of}
use Rattle.monitor.specs.Answers.{offer_of}
use Rattle.monitor.specs.Claims.{Reached, begun, more, Soundness}
use Rattle.monitor.proofs.States.Views.{pad_view, view_back}
use Rattle.monitor.proofs.States.Soundness.{fresh_sound, offer_sound}

-- a test of all images, from one of the elements
every_image : {A B : Type 0} (p : A → Bool) (q : B → Bool) (f : A → B) → ((x : A) → p x ≡ true → q (f x) ≡ true) → (l : List A) → every p l ≡ true → every q (map f l) ≡ true
unfolding every
every_image p q f k [] h = refl
every_image p q f k (x ∷ l) h = let (a, b) = and_parts (p x) (every p l) h in and_both (k x a) (every_image p q f k l b)

module _ (S : Sheet) where
  call_padded : (a : Armed) → call_sound S a ≡ true → padded 8 S.common.programs (pad_call a.call).kept ≡ true
  unfolding call_sound
  call_padded a h = let (u, (k, r)) = simp (and_iff, eqb_iff) at h in padded_fit 8 S.common.programs a.call.kept k

  arms_tidy : (a : Armed) → call_sound S a ≡ true → tidy_arms (pad_arms a.armed) ≡ true
  unfolding call_sound
  arms_tidy a h = let (u, (k, (m, r))) = simp and_iff at h in and_both m (padded_fit 4 (length a.armed) a.armed refl)

  tidy_pad : (σ : State) → sound S σ ≡ true → tidy S (pad σ) ≡ true
  unfolding tidy pad sound clear every
  tidy_pad σ h =
      let (m, (v, (c, (d, (e, (k, rest)))))) = simp (and_iff, eqb_iff) at h in
      let calls = map (λ (a : Armed). pad_call a.call) σ.calls in
      let arms = map (λ (a : Armed). pad_arms a.armed) σ.calls in
      and_both (padded_fit 4 S.common.monitors σ.configuration.variables v)
      (and_both (eq-eqb _ _ (length_fit 16 zero_call calls))
      (and_both (eq-eqb _ _ (length_fit 16 zero_arms arms))
      (and_both (every_fit (λ (x : Call). padded 8 S.common.programs x.kept) zero_call (zero_padded S.common.programs) 16 calls (every_image (call_sound S) _ (λ (a : Armed). pad_call a.call) call_padded σ.calls k))
      (and_both (every_fit tidy_arms zero_arms refl 16 arms (every_image (call_sound S) tidy_arms (λ (a : Armed). pad_arms a.armed) arms_tidy σ.calls k))
      (and_both (subst (λ (j : ℕ). every is_zero_call (drop j (fit 16 zero_call calls)) ≡ true) (length-map σ.calls (λ (a : Armed). pad_call a.call)) (every_behind is_zero_call zero_call refl 16 calls))
      (subst (λ (j : ℕ). every is_zero_arms (drop j (fit 16 zero_arms arms)) ≡ true) (length-map σ.calls (λ (a : Armed). pad_arms a.armed)) (every_behind is_zero_arms zero_arms refl 16 arms)))))))

module _ {s : List ℕ} (a : Accepted sheet_layout s) (σ : State) (h : sound (sheet_of s) σ ≡ true) where
  pub sound_pad : sound_state (sheet_of s) (pad σ) ≡ true
  unfolding sound_state sound pad
  sound_pad =
      let (m, (v, (c, rest))) = simp and_iff at h in
      and_both c (and_both (tidy_pad (sheet_of s) σ h) (ap (sound (sheet_of s)) (view_back a σ h) ∙ h))

  -- so what offering an event answers there is what the definition answers
  offered_pad : (e : Event) → offer_of s (pad σ) e ≡ record { answer = (offer (sheet_of s) σ e).answer; state = pad (offer (sheet_of s) σ e).state }
  unfolding offer_of offer
  offered_pad e = rw (reading_accepted sheet_layout s a, sound_pad, view_back a σ h) (go (refusal (sheet_of s) σ e) _)
    where
      go : (n : ℕ) (τ : State) → offered n (pad σ) (pad (offered n σ τ).state) ≡ record { answer = (offered n σ τ).answer; state = pad (offered n σ τ).state }
      go zero τ = refl
      go (suc n) τ = refl

record Held (s : List ℕ) (w : WatchState) : Type 0 where
  state : State
  padded : w ≡ pad state
  good : sound (sheet_of s) state ≡ true

module _ {s : List ℕ} (a : Accepted sheet_layout s) where
  -- An offered event leaves a sound state sound.
  offer_keeps : (w : WatchState) → sound_state (sheet_of s) w ≡ true → (e : Event) → sound_state (sheet_of s) (offer_of s w e).state ≡ true
  unfolding sound_state
  offer_keeps w h e =
      let (o, (t, g)) = simp and_iff at h in
      let σ = view (sheet_of s) w in
      let next : (offer_of s w e).state ≡ pad (offer (sheet_of s) σ e).state = ap (λ (x : WatchState). (offer_of s x e).state) (sym (pad_view (sheet_of s) w h)) ∙ ap (λ (x : Offered WatchState). x.state) (offered_pad a σ g e) in
      ap (sound_state (sheet_of s)) next ∙ sound_pad a (offer (sheet_of s) σ e).state (offer_sound a σ e g)

  held : {w : WatchState} → Reached s w → Held s w
  unfolding fresh_of
  held begun = record { state = fresh (sheet_of s); padded = rw (reading_accepted sheet_layout s a); good = fresh_sound a }
  held (more r e) =
      let g = held r in
      let next = ap (λ (w : WatchState). (offer_of s w e).state) g.padded ∙ ap (λ (o : Offered WatchState). o.state) (offered_pad a g.state g.good e) in
      record { state = (offer (sheet_of s) g.state e).state; padded = next; good = offer_sound a g.state e g.good }

  reached_sound : {w : WatchState} → Reached s w → sound_state (sheet_of s) w ≡ true
  reached_sound r = let g = held r in ap (sound_state (sheet_of s)) g.padded ∙ sound_pad a g.state g.good

  -- so no event meets 9
  never_nine_lem : {w : WatchState} → Reached s w → (e : Event) → (offer_of s w e).answer ≡ 9 → ⊥
  unfolding refusal offer_of
  never_nine_lem {w} r e h =
      let S = sheet_of s in
      let σ = view S w in
      let n = refusal S σ e in
      let same : (offered n w (pad (offer S σ e).state)).answer ≡ 9 = rw (reading_accepted sheet_layout s a, reached_sound r) at h in
      lowest_never S.common (is_judged σ.verdict) σ.position (map (λ (b : Armed). b.call) σ.calls) e (sym (offered_answer n w (pad (offer S σ e).state)) ∙ same)

-- In its arrays a sound state stays sound, and from fresh every state is.
pub soundness : Soundness
soundness s h =
    let a = accepted sheet_layout s h in
    record { kept = λ w g e. offer_keeps a w g e; reached = λ w r. reached_sound a r; never_nine = λ w r e. never_nine_lem a r e }
