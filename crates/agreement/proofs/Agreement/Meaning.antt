-- What the definition shows after a list of events, in published terms over those that are taken. Assumes nothing.
use mathlib.Core.Path.{◌≡◌, refl, sym, ap, subst, ◌∙◌}
use mathlib.Core.Bool.{Bool, true, false, cond}
use mathlib.Core.Option.{Option, none, some}
use mathlib.Core.List.{List, [], ◌∷◌, ◌++◌, map, map-map, append-nil}
use Prim.Native.Nat.{ℕ, zero, suc, ◌≤◌, ◌+◌}
use lib.ListN.{length}
use Rattle.sheet.specs.Parts.{Sheet}
use Rattle.sheet.specs.Log.{Event}
use Rattle.step.specs.declared.Verdict.{Verdict}
use Rattle.step.specs.Lists.{distinct}
use Rattle.step.specs.Moves.{Configuration}
use Rattle.step.specs.Calls.{refusals, lowest}
use Rattle.step.specs.Verdicts.{is_judged, cause_state, cause_triple}
use Rattle.step.specs.Answers.{answer_of}
use Rattle.step.proofs.OnLists.Lists.{none_some}
use Rattle.step.proofs.OnEvents.Runs.{offered_answer}
use Rattle.monitor.specs.Monitor as Monitor
use Rattle.monitor.specs.Monitor.{Armed, State, initial, refusal, offer, armed_by}
use Rattle.monitor.specs.Published.{in_order}
use Rattle.monitor.specs.Demand.{stays_open, refusal_after, Finds}
use Rattle.monitor.proofs.Demand2.Traces.{Leads, begun, more, stepped, opening}
use Rattle.monitor.proofs.Demand2.Calls.{holds}
use Rattle.monitor.proofs.Demand2.StillOpen.{openings, calls_are, calls_open, refusal_after_lem}
use Rattle.monitor.proofs.Demand2.Broken.{Plain}
use Rattle.monitor.proofs.Demand2.Found.{taken_clear, taken_finds, clear_unjudged}
use Rattle.monitor.proofs.Demand2.Published.{finds_same}
use Rattle.agreement.specs.Shown.{Followed, follow, defined, Told, Living, told, open_call, armed_row, shown_by_sheet}
use Rattle.agreement.specs.Meant.{Answers, nothing, takes, refuses, ends, due_from, Meant}
use Rattle.agreement.proofs.Agreement.Exact.{exactly_held}

-- The row of what is armed for the calls that a trace leaves open is the one due.
abbrev row_at : Sheet → Configuration → ℕ → Event → List Living
row_at S k p e = map (λ i. record { number = e.number; triple = i; entry = p; values = e.values }) (armed_by S k e)

due_row : (S : Sheet) (w : List Event) (k : Configuration) (p : ℕ) → armed_row (openings S k p w) ≡ due_from S k p w
unfolding openings armed_row due_from
due_row S [] k p = refl
due_row S (e ∷ w) k p = go (stays_open e w) (due_row S w (stepped S k e) (p + 1))
  where
    go : (b : Bool) → armed_row (openings S (stepped S k e) (p + 1) w) ≡ due_from S (stepped S k e) (p + 1) w
        → armed_row (cond b (opening S k p e ∷ openings S (stepped S k e) (p + 1) w) (openings S (stepped S k e) (p + 1) w)) ≡ cond b (row_at S k p e) [] ++ due_from S (stepped S k e) (p + 1) w
    go true h = ap (λ (l : List Living). row_at S k p e ++ l) h
    go false h = h

module _ (S : Sheet) (plain : Plain S) where
  abbrev following : State → List Event → Followed State
  following σ es = follow (offer S) σ es

  -- The events of a list that are taken lead to its last state, and each is answered as the trace before it says.
  abbrev Answered : List Event → State → List Event → Type 0
  Answered w σ es = (u : List Event) × Leads S u (following σ es).state × Answers S w es (following σ es).answers u

  module _ {w : List Event} {σ : State} (t : Leads S w σ) (e : Event) (es : List Event) where
    answer_is : (offer S σ e).answer ≡ refusal S σ e
    unfolding offer
    answer_is = offered_answer (refusal S σ e) σ _

    refused_state : (n : ℕ) → refusal S σ e ≡ suc n → (offer S σ e).state ≡ σ
    unfolding offer
    refused_state n h = rw h

    judged_refusal : (v : Verdict) → σ.verdict ≡ some v → refusal S σ e ≡ 10
    unfolding refusal refusals lowest
    judged_refusal v q = rw q

    after : σ.verdict ≡ none → refusal S σ e ≡ refusal_after S false w e
    after q = refusal_after_lem S t e ∙ ap (λ (o : Option Verdict). refusal_after S (is_judged o) w e) q

    turn : (n : ℕ) → refusal S σ e ≡ n → (o : Option Verdict) → σ.verdict ≡ o → (refusal S σ e ≡ 0 → Answered (w ++ e ∷ []) (offer S σ e).state es)
        → ((m : ℕ) → refusal S σ e ≡ suc m → Answered w (offer S σ e).state es) → Answered w σ (e ∷ es)
    unfolding follow
    turn n h (some v) q k r =
        let ten = judged_refusal v q in
        let (u, l, a) = r 9 ten in
        (u, l, subst (λ (m : ℕ). Answers S w (e ∷ es) (answer_of m ∷ (following (offer S σ e).state es).answers) u) (sym (answer_is ∙ ten)) (ends (taken_finds S plain t v q).counterexample e a))
    turn zero h none q k r =
        let (u, l, a) = k h in
        (u, l, subst (λ (m : ℕ). Answers S w (e ∷ es) (answer_of m ∷ (following (offer S σ e).state es).answers) u) (sym (answer_is ∙ h)) (takes (taken_clear S plain t q) e (sym (after q) ∙ h) a))
    turn (suc n) h none q k r =
        let (u, l, a) = r n h in
        (u, l, subst (λ (m : ℕ). Answers S w (e ∷ es) (answer_of m ∷ (following (offer S σ e).state es).answers) u) (sym (answer_is ∙ h)) (refuses (taken_clear S plain t q) e n (sym (after q) ∙ h) a))

  answered : (es : List Event) {w : List Event} {σ : State} → Leads S w σ → Answered w σ es
  unfolding follow
  answered [] {w} t = (w, t, nothing)
  answered (e ∷ es) {w} {σ} t =
      turn t e es (refusal S σ e) refl σ.verdict refl (λ h. answered es (more t e h)) (λ m h. answered es (subst (λ (τ : State). Leads S w τ) (sym (refused_state t e es m h)) t))

  -- The verdict is the one of the counterexample that the events taken are, if they are one.
  module _ {u : List Event} {σ : State} (t : Leads S u σ) where
    told_none : (o : Option Verdict) → told o ≡ none → o ≡ none
    told_none none e = refl
    told_none (some v) e = absurd (none_some (sym e))

    told_finds : (v : Told) → told σ.verdict ≡ some v → Finds S (in_order S) u v.position v.state v.triple v.entry
    told_finds v e = go σ.verdict refl e
      where
        go : (o : Option Verdict) → σ.verdict ≡ o → told o ≡ some v → Finds S (in_order S) u v.position v.state v.triple v.entry
        go none q e = absurd (none_some e)
        go (some x) q e =
            let y : record { position = x.position; state = cause_state x.cause; triple = cause_triple x.cause; entry = x.entry } ≡ v = cc in
            subst (λ (z : Told). Finds S (in_order S) u z.position z.state z.triple z.entry) y (taken_finds S plain t x q)

    finds_told : (v : Told) → Finds S (in_order S) u v.position v.state v.triple v.entry → told σ.verdict ≡ some v
    finds_told v f = go σ.verdict refl
      where
        go : (o : Option Verdict) → σ.verdict ≡ o → told o ≡ some v
        go none q = absurd (taken_clear S plain t q u [] (sym (append-nil u)) f.counterexample)
        go (some x) q =
            let e = finds_same S plain u x.position v.position (cause_state x.cause) v.state (cause_triple x.cause) v.triple x.entry v.entry (taken_finds S plain t x q) f in
            let a : x.position ≡ v.position = cc in
            let b : cause_state x.cause ≡ v.state = cc in
            let c : cause_triple x.cause ≡ v.triple = cc in
            let d : x.entry ≡ v.entry = cc in
            λ i. some (record { position = a i; state = b i; triple = c i; entry = d i })

  pub meant : (es : List Event) → let σ = (defined S es).state in distinct (map (λ (a : Armed). a.call.number) σ.calls) ≡ true → length (armed_row σ.calls) ≤ 64 → Meant S es (shown_by_sheet (defined S es))
  unfolding defined shown_by_sheet
  meant es d few =
      let (u, t, a) = answered es begun in
      let σ = (following (Monitor.fresh S) es).state in
      record {
        events = u;
        answers = a;
        unjudged = (λ e. taken_clear S plain t (told_none t σ.verdict e), λ c. ap told (clear_unjudged S plain t c));
        judged = λ v. (told_finds t v, finds_told t v);
        position = (holds S t).position;
        main = ap (λ (k : Configuration). k.main) (holds S t).configuration;
        variables = ap (λ (k : Configuration). k.variables) (holds S t).configuration;
        calls = sym (map-map open_call (λ (a : Armed). a.call) σ.calls) ∙ ap (map open_call) (calls_open S t);
        checkers = ap armed_row (calls_are S t) ∙ due_row S u (initial S) 1;
        exactly = exactly_held S t d few;
      }
