-- The triples that an event breaks, by the published definition and by the calls that the monitor holds. Assumes nothing.
use mathlib.Core.Path.{◌≡◌, refl, sym, ◌∙◌, ap, subst}
use mathlib.Core.Logic.{◌↔◌}
use mathlib.Core.Bool.{Bool, true, false, cond}
use mathlib.Core.Option.{Option, none, some}
use mathlib.Core.List.{List, [], ◌∷◌, ◌++◌, map, append_assoc}
use Prim.Native.Nat.{ℕ, ◌+◌, ◌<◌}
use native.Mathlib.Omega.{arith}
use lib.ListN.{length}
use borrow.Author.Tests.{eqb-true, eqb-false, eq-eqb, not-true}
use Rattle.condition.specs.Meaning.{environment}
use Rattle.sheet.specs.declared.Triple.{Triple}
use Rattle.sheet.specs.Parts.{Sheet}
use Rattle.sheet.specs.Reading.{is_bad}
use Rattle.sheet.specs.Log.{Event}
use Rattle.sheet.proofs.Tests.{and_iff, eqb_iff}
use Rattle.sheet.proofs.Tables.{and_both}
use Rattle.step.specs.Lists.{Among, first, keep}
use Rattle.step.specs.Meets.{meets}
use Rattle.step.specs.Moves.{Configuration, seen}
use Rattle.step.specs.Calls.{is_entry, entry_for}
use Rattle.step.specs.Verdicts.{carried}
use Rattle.step.proofs.OnEvents.Entries.{entry_found}
use Rattle.step.proofs.OnLists.Lists.{none_some, kept_passes, passes_kept, number_passes, passes_number, least_none, least_some}
use Rattle.monitor.specs.Monitor.{Armed, State, triple_in, arms, armed_by, fails, failing, of_number, refusal}
use Rattle.monitor.specs.Published.{reached, in_order, Breaks}
use Rattle.monitor.specs.Demand.{Lowest, Began}
use Rattle.monitor.proofs.Demand2.Traces.{Leads, opening, snoc_same}
use Rattle.monitor.proofs.Demand2.Calls.{held_opened, opened_held, unit_held, free}
use Rattle.monitor.proofs.Demand2.StillOpen.{one}

-- What is needed of a sheet: it does not start in a bad state; a postcondition sees the event's values and the kept ones, no monitor variable.
pub record Plain (S : Sheet) : Type 0 where
  pub start_good : is_bad S.common.bad S.common.start ≡ false
  pub postcondition : (i : ℕ) → i < length S.triples → (p m k : List ℕ)
      → meets S.common (triple_in S i).postcondition (environment p m k) ≡ meets S.common (triple_in S i).postcondition (environment p [] k)

-- What arms a triple.
pub record Arms (S : Sheet) (k : Configuration) (e : Event) (i : ℕ) : Type 0 where
  pub there : i < length S.triples
  pub in_state : (triple_in S i).state ≡ k.main
  pub of_unit : (triple_in S i).unit ≡ e.unit
  pub precondition : meets S.common (triple_in S i).precondition (seen e k) ≡ true

-- An exit closes a call for which the triple is armed and whose postcondition fails.
abbrev pub Closes : Sheet → State → Event → ℕ → Type 0
Closes S σ e i = (e.kind ≡ 1) × ((a : Armed) × (first (of_number e.number) σ.calls ≡ some a) × Among i (keep (fails S σ.configuration e a.call) a.armed))

-- the triple that the monitor finds broken at an event
abbrev pub broken_at : Sheet → State → Event → Option ℕ
broken_at S σ e = cond (is_entry e) none (failing S σ.configuration e (first (of_number e.number) σ.calls))

abbrev pub no_triple : Triple
no_triple = record { state = 0; unit = 0; precondition = 0; postcondition = 0 }

-- an armed triple exists, and passes the test
pub armed_there : (S : Sheet) (k : Configuration) (e : Event) (i : ℕ) → Among i (armed_by S k e) → (i < length S.triples) × (arms S k e (triple_in S i) ≡ true)
unfolding armed_by
armed_there S k e i a =
    let (m, j, l, t) = number_passes (arms S k e) no_triple S.triples 0 i a in
    let q : m ≡ i = omega arith in
    (omega arith, rw q at t)

module _ (S : Sheet) (k : Configuration) (e : Event) (i : ℕ) where
  pub armed_arms : Among i (armed_by S k e) → Arms S k e i
  unfolding arms
  armed_arms a =
      let (h, t) = armed_there S k e i a in
      let (x, (y, z)) = simp (and_iff, eqb_iff) at t in
      record { there = h; in_state = x; of_unit = y; precondition = z }

  pub arms_armed : Arms S k e i → Among i (armed_by S k e)
  unfolding armed_by arms
  arms_armed a =
      passes_number (arms S k e) no_triple S.triples 0 i i (omega arith) a.there
      (and_both (eq-eqb _ _ a.in_state) (and_both (eq-eqb _ _ a.of_unit) a.precondition))

module _ (S : Sheet) (plain : Plain S) where
  module _ {w : List Event} {σ : State} (t : Leads S w σ) (e : Event) (h : refusal S σ e ≡ 0) (i : ℕ) where
    -- the call that was broken is held under the exit's number, with the position of its entry
    pub breaks_held : (b : Breaks S (in_order S) (w ++ e ∷ []) i) → first (of_number e.number) σ.calls ≡ some (opening S (reached S b.w₁) (length b.w₁ + 1) b.entry)
    breaks_held b =
        let (p, q) = snoc_same w (b.w₁ ++ b.entry ∷ b.w₂) e b.exit (b.parts ∙ sym (append_assoc b.w₁ (b.entry ∷ b.w₂) (b.exit ∷ []))) in
        let n : b.entry.number ≡ e.number = rw q (sym b.same_number) in
        opened_held S t e.number _ (record { w₁ = b.w₁; entry = b.entry; w₂ = b.w₂; parts = p; kind = b.is_entry; number = n; apart = rw n at b.apart; call = refl })

    -- what the published definition finds broken after the event is what the monitor finds broken at it
    pub breaks_closes : Breaks S (in_order S) (w ++ e ∷ []) i → Closes S σ e i
    unfolding fails
    breaks_closes b =
        let (p, q) = snoc_same w (b.w₁ ++ b.entry ∷ b.w₂) e b.exit (b.parts ∙ sym (append_assoc b.w₁ (b.entry ∷ b.w₂) (b.exit ∷ []))) in
        let a = opening S (reached S b.w₁) (length b.w₁ + 1) b.entry in
        let f = breaks_held b in
        let m = arms_armed S (reached S b.w₁) b.entry i (record { there = b.there; in_state = rw b.leads at b.in_state; of_unit = b.of_unit; precondition = rw b.leads at b.precondition }) in
        let g : meets S.common (triple_in S i).postcondition (environment e.values [] b.entry.values) ≡ false = rw q b.postcondition in (
          rw q b.is_exit,
          (a, f, passes_kept (fails S σ.configuration e a.call) a.armed i m (rw (plain.postcondition i b.there e.values σ.configuration.variables b.entry.values, g))),
        )

    pub closes_breaks : Closes S σ e i → Breaks S (in_order S) (w ++ e ∷ []) i
    unfolding fails
    closes_breaks (x, (a, f, m)) =
        let o = held_opened S t e.number a f in
        let (j, z) = kept_passes (fails S σ.configuration e a.call) a.armed i m in
        let r = armed_arms S (reached S o.w₁) o.entry i (rw o.call at j) in
        let u = unit_held S t e.number e a h x refl f in
        record {
          w₁ = o.w₁;
          entry = o.entry;
          w₂ = o.w₂;
          exit = e;
          parts = ap (λ l. l ++ e ∷ []) o.parts ∙ append_assoc o.w₁ (o.entry ∷ o.w₂) (e ∷ []);
          is_entry = o.kind;
          is_exit = x;
          same_number = sym o.number;
          same_unit = sym u ∙ ap (λ c. c.call.unit) o.call;
          apart = rw o.number o.apart;
          before = reached S o.w₁;
          leads = refl;
          there = r.there;
          in_state = r.in_state;
          of_unit = r.of_unit;
          precondition = r.precondition;
          postcondition = sym (plain.postcondition i r.there e.values σ.configuration.variables o.entry.values) ∙ not-true _ (rw o.call at z);
        }

    pub breaks_iff : Breaks S (in_order S) (w ++ e ∷ []) i ↔ Closes S σ e i
    breaks_iff = (breaks_closes, closes_breaks)

    -- an entry breaks nothing
    pub entry_breaks : e.kind ≡ 0 → Breaks S (in_order S) (w ++ e ∷ []) i → ⊥
    entry_breaks x b = let y = (breaks_closes b).0 in omega arith

  module _ {w : List Event} {σ : State} (t : Leads S w σ) (e : Event) (h : refusal S σ e ≡ 0) where
    closed : (o : Option Armed) → e.kind ≡ 1 → first (of_number e.number) σ.calls ≡ o → Lowest S (in_order S) (w ++ e ∷ []) (failing S σ.configuration e o)
    closed none x f =
        record {
          unbroken = λ _ i b. let (a, g, m) = (breaks_closes t e h i b).1 in none_some (sym f ∙ g);
          broken = λ i q. absurd (none_some q);
        }
    closed (some a) x f =
        let l = keep (fails S σ.configuration e a.call) a.armed in
        let known : (i : ℕ) → Breaks S (in_order S) (w ++ e ∷ []) i → Among i l = λ i b. same_armed i b in
        record {
          unbroken = λ q i b. least_none l q i (known i b);
          broken = λ i q. (closes_breaks t e h i (x, (a, f, (least_some l i q).0)), λ j b. (least_some l i q).1 j (known j b));
        }
      where
        same_armed : (i : ℕ) → Breaks S (in_order S) (w ++ e ∷ []) i → Among i (keep (fails S σ.configuration e a.call) a.armed)
        same_armed i b =
            let (c, g, m) = (breaks_closes t e h i b).1 in
            let s : c ≡ a = cc in
            subst (λ (v : Armed). Among i (keep (fails S σ.configuration e v.call) v.armed)) s m

    lowest_step : (b : Bool) → is_entry e ≡ b → Lowest S (in_order S) (w ++ e ∷ []) (cond b none (failing S σ.configuration e (first (of_number e.number) σ.calls)))
    lowest_step true x =
        record { unbroken = λ _ i. entry_breaks t e h i (eqb-true e.kind 0 x); broken = λ i q. absurd (none_some q) }
    lowest_step false x =
        let y = eqb-false e.kind 0 x in
        let k = (free S σ e h).kind in
        closed (first (of_number e.number) σ.calls) (one e.kind k y) refl

    -- The triple that the monitor finds broken is the lowest that the trace breaks with this event.
    pub lowest_broken : Lowest S (in_order S) (w ++ e ∷ []) (broken_at S σ e)
    lowest_broken = lowest_step (is_entry e) refl

    begun_step : (l : Option ℕ) → Lowest S (in_order S) (w ++ e ∷ []) l → Began S (in_order S) (w ++ e ∷ []) l (carried l (entry_for e.number (map (λ (a : Armed). a.call) σ.calls)))
    begun_step none k = refl
    begun_step (some i) k =
        let b = (k.broken i refl).0 in
        (b, entry_found (λ (a : Armed). a.call) e.number σ.calls (opening S (reached S b.w₁) (length b.w₁ + 1) b.entry) (breaks_held t e h i b))

    -- The entry that the monitor finds is that of the call that broke it.
    pub begun_broken : Began S (in_order S) (w ++ e ∷ []) (broken_at S σ e) (carried (broken_at S σ e) (entry_for e.number (map (λ (a : Armed). a.call) σ.calls)))
    begun_broken = begun_step (broken_at S σ e) lowest_broken
