-- A run's verdict is the published one: definitions 3 and 5 of source document 003, on the trace of the events that are taken. Assumes nothing.
use mathlib.Core.Path.{◌≡◌, refl, sym, ◌∙◌, ap}
use mathlib.Core.Bool.{false}
use mathlib.Core.Option.{Option, none, some}
use mathlib.Core.List.{List, [], ◌∷◌, ◌++◌, append-nil, append_assoc}
use Prim.Native.Nat.{ℕ, zero, suc, ◌+◌}
use native.Mathlib.Omega.{arith}
use lib.ListN.{length, length-append}
use Rattle.sheet.specs.Parts.{Sheet}
use Rattle.sheet.specs.Log.{Event}
use Rattle.step.specs.declared.Verdict.{Verdict}
use Rattle.step.specs.Moves.{Configuration}
use Rattle.step.specs.Verdicts.{bad_state, is_judged, cause_state, cause_triple}
use Rattle.step.specs.Runs as runs
use Rattle.step.specs.Runs.{Ran, run_from}
use Rattle.step.specs.Answers.{Ending, violated, clean, refused, refused_at, ran_answer}
use Rattle.engine.specs.Runs.{ends_in}
use Rattle.step.proofs.OnEvents.Runs.{offered_answer, turn_refused, turn_judged, turn_on}
use Rattle.monitor.specs.Monitor.{State, fresh, refusal, offer, run}
use Rattle.monitor.specs.Published.{in_order}
use Rattle.monitor.specs.Demand.{refusal_after, Taken, Clear, Lowest, Finds, Violated, Clean, Refused, Published, Began}
use Rattle.monitor.proofs.Demand2.Traces.{Leads, begun, more, snoc_same, last_one}
use Rattle.monitor.proofs.Demand2.Calls.{holds, unjudged}
use Rattle.monitor.proofs.Demand2.StillOpen.{count_open, refusal_after_lem, leads_taken}
use Rattle.monitor.proofs.Demand2.Broken.{Plain}
use Rattle.monitor.proofs.Demand2.Found.{judged_finds, unjudged_none, taken_clear, clear_unjudged}
use Rattle.step.proofs.OnLists.Lists.{none_some}

-- the rest of a run, from a state on
abbrev going_on : Sheet → ℕ → State → List Event → Ran State
going_on S = run_from (offer S) (λ σ. σ.verdict)

-- One turn of a run.
module _ (S : Sheet) (i : ℕ) (σ : State) (e : Event) (es : List Event) where
  answer_is : (offer S σ e).answer ≡ refusal S σ e
  unfolding offer
  answer_is = offered_answer (refusal S σ e) σ _

  run_refused : (n : ℕ) → refusal S σ e ≡ suc n → going_on S i σ (e ∷ es) ≡ runs.refused_at (suc n) i
  run_refused n h = turn_refused (offer S) (λ σ. σ.verdict) i σ e es n (answer_is ∙ h)

  module _ (h : refusal S σ e ≡ 0) where
    run_judged : (v : Verdict) → (offer S σ e).state.verdict ≡ some v → going_on S i σ (e ∷ es) ≡ runs.violated v
    run_judged = turn_judged (offer S) (λ σ. σ.verdict) i σ e es (answer_is ∙ h)

    run_on : (offer S σ e).state.verdict ≡ none → going_on S i σ (e ∷ es) ≡ going_on S (suc i) (offer S σ e).state es
    run_on = turn_on (offer S) (λ σ. σ.verdict) i σ e es (answer_is ∙ h)

-- A run goes on after events that are taken, up to a verdict, from the state that they lead to.
module _ (S : Sheet) where
  run_taken : {w : List Event} {σ : State} → Leads S w σ → σ.verdict ≡ none → (es : List Event) → run S (w ++ es) ≡ going_on S (suc (length w)) σ es
  unfolding run
  run_taken begun q es = refl
  run_taken (more {w} {σ} t e h) q es =
      rw (append_assoc w (e ∷ []) es, length-append w (e ∷ [])) (run_taken t (unjudged S σ e h) (e ∷ es) ∙ run_on S (suc (length w)) σ e es h q ∙ ap (λ i. going_on S i (offer S σ e).state es) (omega arith))

-- What is refused after a trace without a verdict.
after : (S : Sheet) {w : List Event} {σ : State} → Leads S w σ → σ.verdict ≡ none → (e : Event) → refusal S σ e ≡ refusal_after S false w e
after S {w} t q e = refusal_after_lem S t e ∙ ap (λ (o : Option Verdict). refusal_after S (is_judged o) w e) q

-- What a run answers, and what is found of its events.
abbrev ending_of : Ran State → Ending
ending_of r = ran_answer ends_in r

data Outcome (S : Sheet) (es : List Event) : Ending → Type 0 where
  is_violated : {n : ℕ} {q t : Option ℕ} {m : ℕ} → Violated S (in_order S) es n q t m → Outcome S es (violated n q t m)
  is_clean : {n q k : ℕ} → Clean S (in_order S) es n q k → Outcome S es (clean n q k)
  is_refused : {n i : ℕ} → Refused S (in_order S) es n i → Outcome S es (refused_at n i)

module _ (S : Sheet) (plain : Plain S) where
  clean_taken : {w : List Event} {σ : State} → Leads S w σ → σ.verdict ≡ none → Clean S (in_order S) w σ.position σ.configuration.main (length σ.calls)
  clean_taken {w} {σ} t q =
      record { taken = leads_taken S t; clear = taken_clear S plain t q; counted = (holds S t).position; to = σ.configuration; leads = (holds S t).configuration; state = refl; still_open = count_open S t }

  module _ {w : List Event} {σ : State} (t : Leads S w σ) (u : σ.verdict ≡ none) (e : Event) (es : List Event) where
    turn : (r : ℕ) → refusal S σ e ≡ r → (o : Option Verdict) → (offer S σ e).state.verdict ≡ o
        → ((h : refusal S σ e ≡ 0) → (offer S σ e).state.verdict ≡ none → Outcome S ((w ++ e ∷ []) ++ es) (ending_of (going_on S (suc (length (w ++ e ∷ []))) (offer S σ e).state es)))
        → Outcome S (w ++ e ∷ es) (ending_of (going_on S (suc (length w)) σ (e ∷ es)))
    turn zero h none q k =
        let i : suc (length (w ++ e ∷ [])) ≡ suc (suc (length w)) = omega (arith, length-append w (e ∷ [])) in
        let r = rw (append_assoc w (e ∷ []) es, i) at (k h q) in
        rw (run_on S (suc (length w)) σ e es h q) r
    turn zero h (some v) q k =
        rw (run_judged S (suc (length w)) σ e es h v q)
        (is_violated (record { w = w; e = e; rest = es; parts = refl; taken = leads_taken S (more t e h); before = taken_clear S plain t u; finds = judged_finds S plain t e h v q }))
    turn (suc n) h o q k =
        let p : suc (length w) ≡ length w + 1 = omega arith in
        rw (run_refused S (suc (length w)) σ e es n h)
        (is_refused (record { w = w; e = e; rest = es; parts = refl; taken = leads_taken S t; before = taken_clear S plain t u; refused = sym (after S t u e) ∙ h; some = λ z. omega arith; at = p }))

  outcome : (es : List Event) {w : List Event} {σ : State} → Leads S w σ → σ.verdict ≡ none → Outcome S (w ++ es) (ending_of (going_on S (suc (length w)) σ es))
  unfolding run_from
  outcome [] {w} t q = rw (append-nil w) (is_clean (clean_taken t q))
  outcome (e ∷ es) {w} {σ} t q = turn t q e es (refusal S σ e) refl (offer S σ e).state.verdict refl (λ h k. outcome es (more t e h) k)

  run_outcome_lem : (es : List Event) → Outcome S es (ending_of (run S es))
  unfolding run fresh
  run_outcome_lem es = outcome es begun refl

  -- A trace whose events are taken and that holds no counterexample leads to a state.
  lead : (v : List Event) {w : List Event} {σ : State} → Leads S w σ → σ.verdict ≡ none → Taken S (w ++ v) → Clear S (in_order S) (w ++ v) → (τ : State) × Leads S (w ++ v) τ × (τ.verdict ≡ none)
  lead [] {w} {σ} t q h c = rw (append-nil w) (σ, t, q)
  lead (e ∷ v) {w} {σ} t q h c =
      let free : refusal S σ e ≡ 0 = after S t q e ∙ h w e v refl in
      let next = more t e free in
      let unjudged-next = clear_unjudged S plain next (λ u r p. c u (r ++ v) (sym (append_assoc w (e ∷ []) v) ∙ ap (λ l. l ++ v) p ∙ append_assoc u r v)) in
      rw (append_assoc w (e ∷ []) v) at (lead v next unjudged-next (rw (append_assoc w (e ∷ []) v) h) (rw (append_assoc w (e ∷ []) v) c))

  leading : (w : List Event) → Taken S w → Clear S (in_order S) w → (τ : State) × Leads S w τ × (τ.verdict ≡ none)
  unfolding fresh
  leading w h c = lead w begun refl h c

  -- Two verdicts of one counterexample are one.
  lowest_same : (w : List Event) (s t : Option ℕ) → Lowest S (in_order S) w s → Lowest S (in_order S) w t → s ≡ t
  lowest_same w none none h k = refl
  lowest_same w none (some j) h k = absurd (h.unbroken refl j (k.broken j refl).0)
  lowest_same w (some i) none h k = absurd (k.unbroken refl i (h.broken i refl).0)
  lowest_same w (some i) (some j) h k =
      let p = (h.broken i refl).1 j (k.broken j refl).0 in
      let q = (k.broken j refl).1 i (h.broken i refl).0 in
      ap some (omega arith)

  began_same : (w : List Event) (s t : Option ℕ) (n m : ℕ) → s ≡ t → Began S (in_order S) w s n → Began S (in_order S) w t m → n ≡ m
  began_same w none none n m e h k = h ∙ sym k
  began_same w none (some j) n m e h k = absurd (none_some e)
  began_same w (some i) none n m e h k = absurd (none_some (sym e))
  began_same w (some i) (some j) n m e (b, h) (c, k) =
      let split : (b.w₁ ++ b.entry ∷ b.w₂) ++ b.exit ∷ [] ≡ (c.w₁ ++ c.entry ∷ c.w₂) ++ c.exit ∷ []
      = append_assoc b.w₁ (b.entry ∷ b.w₂) (b.exit ∷ []) ∙ sym b.parts ∙ c.parts ∙ sym (append_assoc c.w₁ (c.entry ∷ c.w₂) (c.exit ∷ [])) in
      let (p, q) = snoc_same (b.w₁ ++ b.entry ∷ b.w₂) (c.w₁ ++ c.entry ∷ c.w₂) b.exit c.exit split in
      let same : c.entry.number ≡ b.entry.number = sym c.same_number ∙ ap (λ (x : Event). x.number) (sym q) ∙ b.same_number in
      let one = last_one S b.entry.number b.w₁ b.w₂ c.w₁ c.w₂ b.entry c.entry p refl same b.apart (rw same at c.apart) in
      h ∙ ap (λ (x : ℕ). x + 1) one ∙ sym k

  pub finds_same : (w : List Event) (n m : ℕ) (q p s t : Option ℕ) (a b : ℕ) → Finds S (in_order S) w n q s a → Finds S (in_order S) w m p t b → violated n q s a ≡ violated m p t b
  finds_same w n m q p s t a b h k =
      let x : n ≡ m = h.counted ∙ sym k.counted in
      let y : q ≡ p = h.bad ∙ ap (λ (c : Configuration). bad_state S.common.bad c.main) (h.leads ∙ sym k.leads) ∙ sym k.bad in
      let z = lowest_same w s t h.lowest k.lowest in
      let u = began_same w s t a b z h.began k.began in
      λ i. violated (x i) (y i) (z i) (u i)

  module _ (es : List Event) where
    back_violated : (r : Ending) (n : ℕ) (q t : Option ℕ) (a : ℕ) → Outcome S es r → r ≡ violated n q t a → Violated S (in_order S) es n q t a
    back_violated r n q t a (is_violated {n = m} {q = p} {t = s} {m = b} x) e =
        let i : m ≡ n = cc in
        let j : p ≡ q = cc in
        let k : s ≡ t = cc in
        let l : b ≡ a = cc in
        rw (i, j, k, l) at x
    back_violated r n q t a (is_clean x) e = let z : ◌≡◌ {A = ℕ} 0 1 = cc in absurd (omega arith)
    back_violated r n q t a (is_refused x) e = let z : ◌≡◌ {A = ℕ} 0 1 = cc in absurd (omega arith)

    back_clean : (r : Ending) (n q k : ℕ) → Outcome S es r → r ≡ clean n q k → Clean S (in_order S) es n q k
    back_clean r n q k (is_violated x) e = let z : ◌≡◌ {A = ℕ} 0 1 = cc in absurd (omega arith)
    back_clean r n q k (is_clean {n = m} {q = p} {k = j} x) e =
        let i : m ≡ n = cc in
        let l : p ≡ q = cc in
        let o : j ≡ k = cc in
        rw (i, l, o) at x
    back_clean r n q k (is_refused x) e = let z : ◌≡◌ {A = ℕ} 0 1 = cc in absurd (omega arith)

    back_refused : (r : Ending) (n i : ℕ) → Outcome S es r → r ≡ refused_at n i → Refused S (in_order S) es n i
    back_refused r n i (is_violated x) e = let z : ◌≡◌ {A = ℕ} 0 1 = cc in absurd (omega arith)
    back_refused r n i (is_clean x) e = let z : ◌≡◌ {A = ℕ} 0 1 = cc in absurd (omega arith)
    back_refused r n i (is_refused {n = m} {i = j} x) e =
        let p : m ≡ n = cc in
        let k : j ≡ i = cc in
        rw (p, k) at x

    never_unread : (r : Ending) (n : ℕ) → Outcome S es r → r ≡ refused n → ⊥
    never_unread r n (is_violated x) e = let z : ◌≡◌ {A = ℕ} 0 1 = cc in omega arith
    never_unread r n (is_clean x) e = let z : ◌≡◌ {A = ℕ} 0 1 = cc in omega arith
    never_unread r n (is_refused x) e = let z : ◌≡◌ {A = ℕ} 0 1 = cc in omega arith

    violated_run : (n : ℕ) (q t : Option ℕ) (a : ℕ) → Violated S (in_order S) es n q t a → ending_of (run S es) ≡ violated n q t a
    violated_run n q t a h =
        let first : Taken S h.w = λ u x v p. h.taken u x (v ++ h.e ∷ []) (ap (λ l. l ++ h.e ∷ []) p ∙ append_assoc u (x ∷ v) (h.e ∷ [])) in
        let (σ, l, u) = leading h.w first h.before in
        let free : refusal S σ h.e ≡ 0 = after S l u h.e ∙ h.taken h.w h.e [] refl in
        rw h.parts (ap ending_of (run_taken S l u (h.e ∷ h.rest)) ∙ judged σ l free (offer S σ h.e).state.verdict refl)
      where
        judged : (σ : State) → Leads S h.w σ → refusal S σ h.e ≡ 0 → (o : Option Verdict) → (offer S σ h.e).state.verdict ≡ o → ending_of (going_on S (suc (length h.w)) σ (h.e ∷ h.rest)) ≡ violated n q t a
        judged σ l f none p = absurd (unjudged_none S plain l h.e f p h.finds.counterexample)
        judged σ l f (some v) p =
            ap ending_of (run_judged S (suc (length h.w)) σ h.e h.rest f v p)
            ∙ finds_same (h.w ++ h.e ∷ []) v.position n (cause_state v.cause) q (cause_triple v.cause) t v.entry a (judged_finds S plain l h.e f v p) h.finds

    clean_run : (n q k : ℕ) → Clean S (in_order S) es n q k → ending_of (run S es) ≡ clean n q k
    unfolding run_from
    clean_run n q k h =
        let (σ, l, u) = leading es h.taken h.clear in
        let ended : run S es ≡ runs.clean σ = ap (λ (l : List Event). run S l) (sym (append-nil es)) ∙ run_taken S l u [] in
        let x : σ.position ≡ n = (holds S l).position ∙ sym h.counted in
        let y : σ.configuration.main ≡ q = ap (λ (c : Configuration). c.main) ((holds S l).configuration ∙ sym h.leads) ∙ sym h.state in
        let z : length σ.calls ≡ k = count_open S l ∙ sym h.still_open in
        ap ending_of ended ∙ (λ i. clean (x i) (y i) (z i))

    refused_run : (n i : ℕ) → Refused S (in_order S) es n i → ending_of (run S es) ≡ refused_at n i
    refused_run n i h =
        let (σ, l, u) = leading h.w h.taken h.before in
        rw h.parts (ap ending_of (run_taken S l u (h.e ∷ h.rest)) ∙ stopped σ n (after S l u h.e ∙ h.refused) h.some)
      where
        stopped : (σ : State) (m : ℕ) → refusal S σ h.e ≡ m → (m ≡ 0 → ⊥) → ending_of (going_on S (suc (length h.w)) σ (h.e ∷ h.rest)) ≡ refused_at m i
        stopped σ zero q z = absurd (z refl)
        stopped σ (suc m) q z = ap ending_of (run_refused S (suc (length h.w)) σ h.e h.rest m q) ∙ ap (λ j. refused_at (suc m) j) (omega (arith, h.at))

  pub published : (es : List Event) → Published S (in_order S) es (ran_answer ends_in (run S es))
  published es =
      record {
        when_violated = λ n q t a. (back_violated es (ending_of (run S es)) n q t a (run_outcome_lem es), violated_run es n q t a);
        when_refused = λ n i. (back_refused es (ending_of (run S es)) n i (run_outcome_lem es), refused_run es n i);
        when_clean = λ n q k. (back_clean es (ending_of (run S es)) n q k (run_outcome_lem es), clean_run es n q k);
        read = λ n. never_unread es (ending_of (run S es)) n (run_outcome_lem es);
      }
