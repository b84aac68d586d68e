-- Which states are sound. Assumes nothing.
use mathlib.Core.Path.{◌≡◌, refl, sym, ap, ◌∙◌}
use mathlib.Core.Bool.{Bool, true, false, not, cond, ◌&&◌}
use mathlib.Core.Option.{Option, none, some}
use mathlib.Core.List.{List, [], ◌∷◌, ◌++◌, map, map-append}
use Prim.Native.Nat.{ℕ, ◌+◌, ◌<◌}
use native.Mathlib.Omega.{arith}
use borrow.Author.Tests.{eq-eqb, lt-ltb, le-leb, leb-false}
use lib.Dec.{eqb, ltb, leb}
use lib.ListN.{length, length-map, length-append}
use Rattle.sheet.specs.Table.{every}
use Rattle.sheet.specs.Parts.{Sheet}
use Rattle.sheet.specs.Decode.{common_of, sheet_of}
use Rattle.sheet.specs.Reading.{transitions_of, sheet_layout}
use Rattle.sheet.specs.Log.{Event}
use Rattle.sheet.proofs.Accepted.{Accepted, bounds}
use Rattle.sheet.proofs.Tables.{and_parts, and_both, every_append}
use Rattle.sheet.proofs.Tests.{and_iff, leb_iff, eqb_iff}
use Rattle.step.specs.Lists.{first, keep, any, least, distinct, rising}
use Rattle.step.specs.Moves.{Configuration}
use Rattle.step.specs.Calls.{Call, is_entry, entry_for, entries_sound}
use Rattle.step.specs.Verdicts.{if_there}
use Rattle.step.proofs.OnLists.Lists.{any_map, first_passes, kept_passes, least_some}
use Rattle.step.proofs.OnEvents.Runs.{offered_keeps}
use Rattle.step.proofs.OnEvents.Moving.{sheet_good, moved_main, moved_variables, verdict_fits_lem}
use Rattle.step.proofs.OnLists.Keeping.{every_among, among_every, every_keep, length_keep, distinct_keep, distinct_more}
use Rattle.monitor.specs.Monitor.{Armed, State, fresh, triple_in, fails, failing, of_number, armed_by, entered, exited, refusal, offer}
use Rattle.monitor.specs.Sound.{call_sound, sound}
use Rattle.monitor.proofs.Demand2.Traces.{Leads, begun, more}
use Rattle.monitor.proofs.Demand2.Calls.{free}
use Rattle.monitor.proofs.States.Arming.{armed_of_lem, armed_rising, armed_one_state, armed_few}
use Rattle.step.proofs.OnEvents.Entries.{entry_found, entries_fewer, entries_more, entry_before}

-- "A fresh state is defined for every accepted sheet": it is sound
pub fresh_sound : {s : List ℕ} → Accepted sheet_layout s → sound (sheet_of s) (fresh (sheet_of s)) ≡ true
unfolding sound fresh sheet_of every distinct rising
fresh_sound {s} a =
    let b = bounds a in
    let C = common_of s in
    rw (lt-ltb C.start C.states b.start, eq-eqb _ C.monitors b.initial, b.start_good)

-- the triple that fails is armed, so it exists, and its call was entered before
abbrev judged_before : Sheet → ℕ → ℕ → ℕ → Bool
judged_before S position entry i = ltb i (length S.triples) && (leb 1 entry && ltb entry (position + 1))

failing_there : (S : Sheet) (k : Configuration) (position : ℕ) (e : Event) (l : List Armed) → every (call_sound S) l ≡ true → entries_sound position (map (λ (a : Armed). a.call.entry) l) ≡ true
    → if_there (failing S k e (first (of_number e.number) l)) (judged_before S position (entry_for e.number (map (λ (a : Armed). a.call) l))) ≡ true
unfolding call_sound
failing_there S k position e l h w = go (first (of_number e.number) l) refl
  where
    least_there : (a : Armed) → call_sound S a ≡ true → (n : ℕ) → (leb 1 n && ltb n (position + 1)) ≡ true → (o : Option ℕ) → least (keep (fails S k e a.call) a.armed) ≡ o → if_there o (judged_before S position n) ≡ true
    least_there a c n b none f = refl
    least_there a c n b (some i) f =
        let m = (kept_passes (fails S k e a.call) a.armed i (least_some (keep (fails S k e a.call) a.armed) i f).0).0 in
        let c5 = (simp and_iff at c).1.1.1.1.0 in
        and_both (and_parts (ltb i (length S.triples)) (eqb (triple_in S i).unit a.call.unit) (every_among (λ i. ltb i (length S.triples) && eqb (triple_in S i).unit a.call.unit) a.armed i c5 m)).0 b

    go : (o : Option Armed) → first (of_number e.number) l ≡ o → if_there (failing S k e o) (judged_before S position (entry_for e.number (map (λ (a : Armed). a.call) l))) ≡ true
    go none f = refl
    go (some a) f =
        let m = (first_passes (of_number e.number) l a f).0 in
        rw (entry_found (λ (a : Armed). a.call) e.number l a f)
        (least_there a (every_among (call_sound S) l a h m) a.call.entry (entry_before (λ (a : Armed). a.call.entry) position l w a m) (least (keep (fails S k e a.call) a.armed)) refl)

-- An exit keeps a sound state sound.
pub exited_sound : {s : List ℕ} → Accepted sheet_layout s → (σ : State) (e : Event) → sound (sheet_of s) σ ≡ true → sound (sheet_of s) (exited (sheet_of s) σ e) ≡ true
unfolding sound exited sheet_of
exited_sound {s} a σ e h =
    let C = common_of s in
    let ts = transitions_of sheet_layout s in
    let (m, (v, (c, (d, (((z1, z2), z3), (k, w)))))) = simp (and_iff, leb_iff, eqb_iff) at h in
    let en = and_both (and_both z1 z2) z3 in
    let q : Armed → Bool = λ b. not (of_number e.number b) in
    let few = length_keep q σ.calls in
    and_both (lt-ltb _ _ (moved_main C ts (λ t i. (sheet_good a t i).to) σ.configuration e m))
    (and_both (eq-eqb _ _ (moved_variables C ts σ.configuration e ∙ v))
    (and_both (le-leb (length (keep q σ.calls)) 16 (omega arith))
    (and_both (distinct_keep (λ (b : Armed). b.call.number) q σ.calls d)
    (and_both (entries_fewer (λ (b : Armed). b.call.entry) σ.position σ.calls en q)
    (and_both (every_keep q (call_sound (sheet_of s)) σ.calls k)
    (verdict_fits_lem C.bad (length (sheet_of s).triples) _ (σ.position + 1) _ _ (failing_there (sheet_of s) σ.configuration σ.position e σ.calls k en)))))))

-- An entry that is taken keeps a sound state sound.
module _ {s : List ℕ} (a : Accepted sheet_layout s) (σ : State) (e : Event) where
  armed_sound : e.unit < (common_of s).units → length e.values ≡ (common_of s).programs
      → call_sound (sheet_of s) (record { call = record { number = e.number; unit = e.unit; entry = σ.position + 1; kept = e.values }; armed = armed_by (sheet_of s) σ.configuration e }) ≡ true
  unfolding call_sound sheet_of
  armed_sound u v =
      let S = sheet_of s in
      let k = σ.configuration in
      and_both (lt-ltb _ _ u)
      (and_both (eq-eqb _ _ v)
      (and_both (le-leb _ _ (armed_few a k e))
      (and_both (armed_rising S k e)
      (and_both (among_every (λ i. ltb i (length S.triples) && eqb (triple_in S i).unit e.unit) (armed_by S k e) (λ i m. and_both (lt-ltb _ _ (armed_of_lem S k e i m).0) (eq-eqb _ _ (armed_of_lem S k e i m).2))) (armed_one_state S k e)))))

  pub entered_sound : sound (sheet_of s) σ ≡ true → refusal (sheet_of s) σ e ≡ 0 → is_entry e ≡ true → sound (sheet_of s) (entered (sheet_of s) σ e) ≡ true
  unfolding sound entered sheet_of every
  entered_sound h z y =
      let C = common_of s in
      let ts = transitions_of sheet_layout s in
      let f = free (sheet_of s) σ e z in
      let (m, (v, (c, (d, (((z1, z2), z3), (k, w)))))) = simp (and_iff, leb_iff, eqb_iff) at h in
      let en = and_both (and_both z1 z2) z3 in
      let new : Armed = record { call = record { number = e.number; unit = e.unit; entry = σ.position + 1; kept = e.values }; armed = armed_by (sheet_of s) σ.configuration e } in
      let shut : any (λ (b : Call). eqb b.number e.number) (map (λ (b : Armed). b.call) σ.calls) ≡ false = rw y at f.not_open in
      let room = leb-false 16 (length (map (λ (b : Armed). b.call) σ.calls)) (rw y at f.room) in
      let long = length-map σ.calls (λ (b : Armed). b.call) in
      let longer = length-append σ.calls (new ∷ []) in
      let apart = any_map (λ n. eqb n e.number) (λ (b : Armed). b.call.number) σ.calls ∙ sym (any_map (λ (b : Call). eqb b.number e.number) (λ (b : Armed). b.call) σ.calls) ∙ shut in
      and_both (lt-ltb _ _ (moved_main C ts (λ t i. (sheet_good a t i).to) σ.configuration e m))
      (and_both (eq-eqb _ _ (moved_variables C ts σ.configuration e ∙ v))
      (and_both (le-leb (length (σ.calls ++ new ∷ [])) 16 (omega arith))
      (and_both (ap distinct (map-append (λ (b : Armed). b.call.number) σ.calls (new ∷ [])) ∙ distinct_more (map (λ (b : Armed). b.call.number) σ.calls) e.number d apart)
      (and_both (ap (entries_sound (σ.position + 1)) (map-append (λ (b : Armed). b.call.entry) σ.calls (new ∷ [])) ∙ entries_more (λ (b : Armed). b.call.entry) σ.position σ.calls en)
      (and_both (every_append (call_sound (sheet_of s)) σ.calls (new ∷ []) ∙ and_both k (and_both (armed_sound f.unit f.values) refl))
      (verdict_fits_lem C.bad (length (sheet_of s).triples) _ (σ.position + 1) 0 none refl))))))

  -- "The state comes back as it went in" where the event is refused; a taken one keeps it sound.
  pub offer_sound : sound (sheet_of s) σ ≡ true → sound (sheet_of s) (offer (sheet_of s) σ e).state ≡ true
  unfolding offer
  offer_sound h = offered_keeps (sound (sheet_of s)) (refusal (sheet_of s) σ e) σ _ h (go (is_entry e) refl)
    where
      go : (b : Bool) → is_entry e ≡ b → refusal (sheet_of s) σ e ≡ 0 → sound (sheet_of s) (cond b (entered (sheet_of s) σ e) (exited (sheet_of s) σ e)) ≡ true
      go true y z = entered_sound h z y
      go false y z = exited_sound a σ e h

-- so every state of a run is sound, and no run meets 9
pub taken_sound : {s : List ℕ} (a : Accepted sheet_layout s) {w : List Event} {σ : State} → Leads (sheet_of s) w σ → sound (sheet_of s) σ ≡ true
taken_sound a begun = fresh_sound a
taken_sound a (more t e z) = offer_sound a _ e (taken_sound a t)
