-- The verdict at an event, and the counterexamples among the prefixes of a trace whose events are taken. Assumes nothing.
use mathlib.Core.Path.{◌≡◌, refl, sym, ◌∙◌, ap, subst}
use mathlib.Core.Logic.{◌⊎◌, inl, inr}
use mathlib.Core.Bool.{Bool, true, false, cond, false≢true}
use mathlib.Core.Option.{Option, none, some}
use mathlib.Core.List.{List, [], ◌∷◌, ◌++◌, append-nil, map}
use Prim.Native.Nat.{ℕ, ◌+◌}
use lib.ListN.{length, length-append}
use Rattle.sheet.specs.Parts.{Sheet}
use Rattle.sheet.specs.Reading.{is_bad}
use Rattle.sheet.specs.Log.{Event}
use Rattle.step.specs.declared.Verdict.{Verdict}
use Rattle.step.specs.Lists.{first}
use Rattle.step.specs.Calls.{is_entry, entry_for}
use Rattle.step.specs.Moves.{Configuration}
use Rattle.step.specs.Verdicts.{verdict, cause_state, cause_triple}
use Rattle.step.proofs.OnLists.Lists.{none_some}
use Rattle.step.proofs.OnEvents.Causes.{verdict_none, verdict_some}
use Rattle.monitor.specs.Monitor.{State, initial, fresh, failing, of_number, entered, exited, refusal, offer, Armed}
use Rattle.monitor.specs.Published.{shift, reached, in_order, Counterexample}
use Rattle.monitor.specs.Demand.{Lowest, Clear, Finds}
use Rattle.monitor.proofs.Demand2.Traces.{Leads, begun, more, stepped, shift_snoc, not_snoc, empty_prefix, prefix_snoc}
use Rattle.monitor.proofs.Demand2.Calls.{offer_taken, holds, unjudged}
use Rattle.monitor.proofs.Demand2.Broken.{Plain, broken_at, lowest_broken, begun_broken}

-- the position of the entry of the call that an event leaves
abbrev left_at : State → Event → ℕ
left_at σ e = entry_for e.number (map (λ (a : Armed). a.call) σ.calls)

module _ (S : Sheet) where
  verdict_step : (σ : State) (e : Event) (b : Bool)
      → (cond b (entered S σ e) (exited S σ e)).verdict
      ≡ verdict S.common.bad (σ.position + 1) (stepped S σ.configuration e).main (cond b none (failing S σ.configuration e (first (of_number e.number) σ.calls))) (left_at σ e)
  unfolding entered exited
  verdict_step σ e true = refl
  verdict_step σ e false = refl

  -- the verdict at an event that is taken
  pub verdict_at : {w : List Event} {σ : State} → Leads S w σ → (e : Event) → refusal S σ e ≡ 0
      → (offer S σ e).state.verdict ≡ verdict S.common.bad (length w + 1) (reached S (w ++ e ∷ [])).main (broken_at S σ e) (left_at σ e)
  verdict_at {w} {σ} t e h =
      let i = holds S t in
      ap (λ τ. τ.verdict) (offer_taken S σ e h) ∙ verdict_step σ e (is_entry e)
      ∙ ap (λ p. verdict S.common.bad (p + 1) (stepped S σ.configuration e).main (broken_at S σ e) (left_at σ e)) i.position
      ∙ ap (λ k. verdict S.common.bad (length w + 1) k.main (broken_at S σ e) (left_at σ e)) (ap (λ k. stepped S k e) i.configuration ∙ sym (shift_snoc S (initial S) w e))

module _ (S : Sheet) (plain : Plain S) where
  module _ {w : List Event} {σ : State} (t : Leads S w σ) (e : Event) (h : refusal S σ e ≡ 0) where
    -- A verdict is found if, and only if, the trace up to it is a counterexample.
    pub judged_finds : (v : Verdict) → (offer S σ e).state.verdict ≡ some v → Finds S (in_order S) (w ++ e ∷ []) v.position (cause_state v.cause) (cause_triple v.cause) v.entry
    judged_finds v q =
        let (p, s, r, n, c) = verdict_some S.common (length w + 1) (reached S (w ++ e ∷ [])).main (left_at σ e) (broken_at S σ e) v (sym (verdict_at S t e h) ∙ q) in
        let l = lowest_broken S plain t e h in
        record { counterexample = counter l c; counted = p ∙ sym (length-append w (e ∷ [])); to = reached S (w ++ e ∷ []); leads = refl; bad = s; lowest = rw r l; began = rw (r, n) (begun_broken S plain t e h) }
      where
        counter : Lowest S (in_order S) (w ++ e ∷ []) (broken_at S σ e) → (is_bad S.common.bad (reached S (w ++ e ∷ [])).main ≡ true) ⊎ ((i : ℕ) × (broken_at S σ e ≡ some i)) → Counterexample S (in_order S) (w ++ e ∷ [])
        counter l (inl x) = inl (reached S (w ++ e ∷ []), refl, x)
        counter l (inr (i, x)) = inr (i, (l.broken i x).0)

    pub unjudged_none : (offer S σ e).state.verdict ≡ none → Counterexample S (in_order S) (w ++ e ∷ []) → ⊥
    unjudged_none q c = deny (verdict_none S.common (length w + 1) (reached S (w ++ e ∷ [])).main (left_at σ e) (broken_at S σ e) (sym (verdict_at S t e h) ∙ q)) c
      where
        deny : (is_bad S.common.bad (reached S (w ++ e ∷ [])).main ≡ false) × (broken_at S σ e ≡ none) → Counterexample S (in_order S) (w ++ e ∷ []) → ⊥
        deny (x, y) (inl (k, q, b)) = false≢true (sym x ∙ sym (ap (λ (j : Configuration). is_bad S.common.bad j.main) q) ∙ b)
        deny (x, y) (inr (i, b)) = (lowest_broken S plain t e h).unbroken y i b

  -- the empty trace is no counterexample
  pub empty_none : Counterexample S (in_order S) [] → ⊥
  unfolding shift
  empty_none (inl (k, q, b)) = false≢true (sym plain.start_good ∙ sym (ap (λ (j : Configuration). is_bad S.common.bad j.main) q) ∙ b)
  empty_none (inr (i, b)) = not_snoc b.w₁ b.entry (b.w₂ ++ b.exit ∷ []) b.parts

  pub clear_more : (w : List Event) (e : Event) → Clear S (in_order S) w → (Counterexample S (in_order S) (w ++ e ∷ []) → ⊥) → Clear S (in_order S) (w ++ e ∷ [])
  clear_more w e h k u v q c = either (prefix_snoc w e u v q)
    where
      either : (u ≡ w ++ e ∷ []) ⊎ ((r : List Event) × (w ≡ u ++ r)) → ⊥
      either (inl p) = k (subst (λ l. Counterexample S (in_order S) l) p c)
      either (inr (r, p)) = h u r p c

  -- A state without a verdict was reached through no counterexample, and one with a verdict just now.
  pub taken_clear : {w : List Event} {σ : State} → Leads S w σ → σ.verdict ≡ none → Clear S (in_order S) w
  taken_clear begun q = λ u v p c. empty_none (subst (λ l. Counterexample S (in_order S) l) (empty_prefix u v p) c)
  taken_clear (more {w} {σ} t e h) q = clear_more w e (taken_clear t (unjudged S σ e h)) (unjudged_none t e h q)

  pub taken_finds : {w : List Event} {σ : State} → Leads S w σ → (v : Verdict) → σ.verdict ≡ some v → Finds S (in_order S) w v.position (cause_state v.cause) (cause_triple v.cause) v.entry
  unfolding fresh
  taken_finds begun v q = absurd (none_some q)
  taken_finds (more t e h) v q = judged_finds t e h v q

  pub clear_unjudged : {w : List Event} {σ : State} → Leads S w σ → Clear S (in_order S) w → σ.verdict ≡ none
  clear_unjudged {w} {σ} t k = decide σ.verdict refl
    where
      decide : (o : Option Verdict) → σ.verdict ≡ o → o ≡ none
      decide none q = refl
      decide (some v) q = absurd (k w [] (sym (append-nil w)) (taken_finds t v q).counterexample)
