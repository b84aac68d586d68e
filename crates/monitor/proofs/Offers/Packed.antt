-- A sound state as the engine's words: they show it, and what the engine makes of them is what the definition says, taken out again. Assumes nothing.
use mathlib.Core.Path.{◌≡◌, refl, sym, ap, ap₂, subst, ◌∙◌}
use mathlib.Core.Bool.{Bool, true, ◌&&◌}
use mathlib.Core.List.{List, [], ◌∷◌, ◌++◌, map, map-map}
use Prim.Native.Nat.{ℕ, ◌+◌, ◌≤◌, ◌<◌}
use native.Mathlib.Numerals.{add-one}
use native.Mathlib.Omega.{arith}
use borrow.Author.Tests.{lt-ltb, ltb-true}
use lib.Dec.{eqb, ltb}
use lib.ListN.{length, get_or, set, take, drop, replicate, length-take}
use lib.Seq.{take_at, take_all, take-suc, drop-append-add, get_or-append_seam}
use Rattle.sheet.specs.Table.{every, fit}
use Rattle.sheet.specs.Parts.{Sheet}
use Rattle.sheet.specs.Log.{Event}
use Rattle.sheet.specs.declared.Record.{Record}
use Rattle.sheet.specs.Answer.{header_of}
use Rattle.sheet.specs.Decode.{transition_form, last_at, sheet_of}
use Rattle.sheet.specs.Reading.{reading, sheet_layout, last_of}
use Rattle.sheet.proofs.Accepted.{Accepted, accepted}
use Rattle.sheet.proofs.Limits.{sheet_longest}
use Rattle.sheet.proofs.Tables.{and_parts, and_both, every_weaker, every_append}
use Rattle.sheet.proofs.Tests.{and_iff, eqb_iff, leb_iff}
use Rattle.step.specs.declared.Call.{Call}
use Rattle.step.specs.Calls.{event_of}
use Rattle.step.specs.Lists.{beside}
use Rattle.step.specs.Padding.{zero_call, padded}
use Rattle.step.specs.Verdicts.{outcome_of}
use Rattle.step.specs.Runs.{Offered}
use Rattle.step.specs.Answers.{taken, declined}
use Rattle.step.proofs.OnEvents.Runs.{offered_answer}
use Rattle.step.proofs.OnLists.Rooms.{every_take, outcome_verdict, four, four_of_eight}
use Rattle.engine.specs.Machine as Machine
use Rattle.engine.specs.Machines.{of_sheet}
use Rattle.engine.specs.declared.Running.{Running}
use Rattle.engine.specs.declared.Given.{Given}
use Rattle.engine.specs.declared.pack.Arms as Engine
use Rattle.engine.specs.Packed.{words_of, put_at, call_in, arms_in, call_at, arms_at}
use Rattle.engine.specs.Prepared.{sheet_plan}
use Rattle.engine.specs.Walk.{Answered, Words, words, entries, offer_in, event_count_in, given_of, eight_of}
use Rattle.engine.specs.Showing.{armed_of, shown_by, Steady, Carries}
use Rattle.engine.proofs.Packed.{put_length, put_more, call_words_lem, arms_words, out_more, narrow, arms_for, calls_taken, arms_taken, offer_narrow}
use Rattle.engine.proofs.OnMachines.Keeps.{offer_steady}
use Rattle.engine.proofs.MachineCarried.OnSheets.{sheet_carried}
use Rattle.engine.proofs.Plans.Planned.{sheet_planned}
use Rattle.engine.proofs.OnMachines.Shown.{shown_count, offer_answer, offer_shown}
use Rattle.engine.proofs.OnMachines.Counted.{count_shown}
use Rattle.monitor.specs.declared.Arms.{Arms}
use Rattle.monitor.specs.declared.sound.Tables.{Tables}
use Rattle.monitor.specs.declared.WatchState.{WatchState}
use Rattle.monitor.specs.Monitor.{count, Armed, State, refusal, offer}
use Rattle.monitor.specs.Padded.{zero_arms, unpad_armed, pad_arms, pad, view, tidy_arms, tidy, sound_state}
use Rattle.monitor.specs.Packed.{running_of, to_numbers, to_triples, call_words, unpacked}
use Rattle.monitor.specs.Sound.{call_sound, sound}
use Rattle.monitor.specs.Walk.{tables_of}
use Rattle.monitor.proofs.Offers.Answering.{Comes, offer_takes, offer_refuses}
use Rattle.monitor.proofs.Offers.Machined.{offer_same, count_same}

-- The words of a call show it.
words_show : (P : ℕ) (c : Call) (a : Arms) → length a.triples ≡ 4 → length c.kept ≡ 8 → armed_of P (words_of c (to_numbers a)) ≡ unpad_armed P c a
unfolding armed_of
words_show P c a four eight =
    let numbers : take 4 (a.triples ++ c.entry ∷ c.kept) ≡ a.triples = take_at a.triples (c.entry ∷ c.kept) 4 four in
    let rest : drop 5 (a.triples ++ c.entry ∷ c.kept) ≡ c.kept = ap (λ (n : ℕ). drop (n + 1) (a.triples ++ c.entry ∷ c.kept)) (sym four) ∙ drop-append-add a.triples (c.entry ∷ c.kept) 1 in
    let kept : take 8 c.kept ≡ c.kept = take_all 8 c.kept (omega arith) in
    let entry : get_or (a.triples ++ c.entry ∷ c.kept) 4 0 ≡ c.entry = ap (λ (n : ℕ). get_or (a.triples ++ c.entry ∷ c.kept) n 0) (sym four) ∙ get_or-append_seam a.triples c.entry c.kept 0 in
    λ i. record { call = record { number = c.number; unit = c.unit; entry = entry i; kept = take P ((ap (take 8) rest ∙ kept) i) }; armed = take a.count (numbers i) }

all_show : (P : ℕ) (l : List Call) (m : List Arms) → every (λ (c : Call). padded 8 P c.kept) l ≡ true → every tidy_arms m ≡ true
    → map (armed_of P) (beside (λ c a. words_of c (to_numbers a)) l m) ≡ beside (unpad_armed P) l m
unfolding every beside
all_show P [] m h k = refl
all_show P (c ∷ l) [] h k = refl
all_show P (c ∷ l) (a ∷ m) h k =
    let ((eight, z), r) = simp (and_iff, eqb_iff) at h in
    let ((few, (four, y)), q) = simp (and_iff, eqb_iff) at k in
    ap₂ (λ (x : Armed) (t : List Armed). x ∷ t) (words_show P c a four eight) (all_show P l m r q)

-- What the engine rests on is part of soundness.
module _ (S : Sheet) where
  call_kept : (a : Armed) → call_sound S a ≡ true → eqb (length a.call.kept) S.common.programs ≡ true
  unfolding call_sound
  call_kept a c = let (u, (p, r)) = simp and_iff at c in p

  call_there : (a : Armed) → call_sound S a ≡ true → every (λ i. ltb i (length S.triples)) a.armed ≡ true
  unfolding call_sound
  call_there a c =
      let (u, (p, (n, (r, (t, o))))) = simp and_iff at c in
      every_weaker _ (λ i. ltb i (length S.triples)) (λ i q. (and_parts (ltb i (length S.triples)) _ q).0) a.armed t

  sound_steady : (σ : State) → sound S σ ≡ true → Steady S.common (length S.triples) σ
  unfolding sound
  sound_steady σ h =
      let (m, (v, (f, (d, (e, (k, w)))))) = simp (and_iff, eqb_iff, leb_iff) at h in
      record {
        main = m;
        variables = v;
        few = f;
        apart = d;
        kept = every_weaker (call_sound S) (λ (a : Armed). eqb (length a.call.kept) S.common.programs) call_kept σ.calls k;
        there = every_weaker (call_sound S) (λ (a : Armed). every (λ i. ltb i (length S.triples)) a.armed) call_there σ.calls k;
      }

-- The words of a sound state show it.
module _ (S : Sheet) (w : WatchState) (h : sound_state S w ≡ true) (row : List ℕ) (er : entries w.opened row ≡ call_words w) where
  pub packed_shown : shown_by S.common (words (running_of w) row w.variables) ≡ view S w
  unfolding sound_state tidy view shown_by
  packed_shown =
      let P = S.common.programs in
      let (few, ((v, (m, (n, (k, (t, z))))), g)) = simp and_iff at h in
      let calls = ap (map (armed_of P)) er ∙ all_show P (take w.opened w.calls) (take w.opened w.arms) (every_take (λ (c : Call). padded 8 P c.kept) w.opened w.calls k) (every_take tidy_arms w.opened w.arms t) in
      λ i. record { configuration = (view S w).configuration; calls = calls i; position = w.position; verdict = (view S w).verdict }

-- What words that show a state become, taken out.
unpacked_pad : (S : Sheet) (σ : Words) (τ : State) → shown_by S.common σ ≡ τ → every narrow τ.calls ≡ true → unpacked S.common.programs S.common.monitors σ ≡ pad τ
unfolding unpacked pad shown_by
unpacked_pad S σ τ e small =
    let C = S.common in
    let ws = entries σ.run.opened σ.row in
    let f : Armed → Arms = λ a. pad_arms a.armed in
    let arms : map (λ w. to_triples (arms_in w)) ws ≡ map f τ.calls = sym (map-map to_triples arms_in ws) ∙ ap (map to_triples) (arms_taken C σ τ e small) ∙ map-map to_triples (λ (a : Armed). arms_for a.armed) τ.calls in
    let opened : σ.run.opened ≡ length τ.calls = sym (shown_count C σ) ∙ ap (λ (x : State). length x.calls) e in
    let outcome = sym (outcome_verdict σ.run.outcome) in
    λ i. record {
      main = (e i).configuration.main;
      variables = fit 4 0 (e i).configuration.variables;
      opened = opened i;
      calls = fit 16 zero_call (calls_taken C σ τ e small i);
      arms = fit 16 zero_arms (arms i);
      position = (e i).position;
      outcome = (outcome ∙ ap (λ (x : State). outcome_of x.verdict) e) i;
    }

-- What a sound state shows is small where the numbers and units of its calls are.
abbrev pub small : Call → Bool
small c = ltb c.number 65536 && ltb c.unit 256

all_narrow : (P : ℕ) (l : List Call) (m : List Arms) → every small l ≡ true → every (λ (a : Armed). every (λ i. ltb i 256) a.armed) (beside (unpad_armed P) l m) ≡ true → every narrow (beside (unpad_armed P) l m) ≡ true
unfolding every beside
all_narrow P [] m h k = refl
all_narrow P (c ∷ l) [] h k = refl
all_narrow P (c ∷ l) (a ∷ m) h k =
    let ((n, u), r) = simp and_iff at h in
    let (x, y) = and_parts (every (λ i. ltb i 256) (take a.count a.triples)) (every (λ (a : Armed). every (λ i. ltb i 256) a.armed) (beside (unpad_armed P) l m)) k in
    and_both (and_both n (and_both u x)) (all_narrow P l m r y)

view_narrow : (S : Sheet) (w : WatchState) → sound S (view S w) ≡ true → length S.triples ≤ 32 → every small (take w.opened w.calls) ≡ true → every narrow (view S w).calls ≡ true
unfolding view
view_narrow S w h few k =
    let low : (a : Armed) → every (λ i. ltb i (length S.triples)) a.armed ≡ true → every (λ i. ltb i 256) a.armed ≡ true
    = λ a. every_weaker (λ i. ltb i (length S.triples)) (λ i. ltb i 256) (λ i q. lt-ltb i 256 (omega (arith, ltb-true i (length S.triples) q))) a.armed in
    all_narrow S.common.programs (take w.opened w.calls) (take w.opened w.arms) k
    (every_weaker (λ (a : Armed). every (λ i. ltb i (length S.triples)) a.armed) (λ (a : Armed). every (λ i. ltb i 256) a.armed) low (view S w).calls (sound_steady S (view S w) h).there)

-- The loop that packs: i calls are in the row.
pub record Packing (calls : List Call) (arms : List Arms) (opened : ℕ) (row : List ℕ) (i : ℕ) : Type 0 where
  pub here : entries i row ≡ beside (λ c a. words_of c (to_numbers a)) (take i calls) (take i arms)
  pub passed : every small (take i calls) ≡ true
  pub long : length row ≡ 256
  pub low : i ≤ opened

beside_more : {A B C : Type 0} (f : A → B → C) (l : List A) (m : List B) (x : A) (y : B) → length l ≡ length m → beside f (l ++ x ∷ []) (m ++ y ∷ []) ≡ beside f l m ++ f x y ∷ []
unfolding beside
beside_more f [] [] x y h = refl
beside_more f [] (b ∷ m) x y h = absurd (omega arith)
beside_more f (a ∷ l) [] x y h = absurd (omega arith)
beside_more {C} f (a ∷ l) (b ∷ m) x y h = ap (λ (r : List C). f a b ∷ r) (beside_more f l m x y (omega arith))

module _ (calls : List Call) (arms : List Arms) (opened : ℕ) (row : List ℕ) where
  pub packing_start : length row ≡ 256 → Packing calls arms opened row 0
  unfolding entries beside every
  packing_start h = record { here = refl; passed = refl; long = h; low = omega arith }

  module _ (i : ℕ) (g : Packing calls arms opened row i) where
    pub packing_next : i < opened → opened ≤ 16 → length calls ≡ 16 → length arms ≡ 16 → (d : Call) (b : Arms) (numbers : Engine.Arms) → numbers ≡ to_numbers (get_or arms i b) → (after : List ℕ)
        → (after ≡ put_at row i (get_or calls i d) numbers) × ((get_or calls i d).number < 65536) × ((get_or calls i d).unit < 256) × (length (get_or calls i d).kept ≡ 8) × (length numbers.numbers ≡ 4) → Packing calls arms opened after (i + 1)
    unfolding every
    packing_next h few many same d b numbers en after (ea, n, u, eight, four) =
        let c = get_or calls i d in
        let l : take (i + 1) calls ≡ take i calls ++ c ∷ [] = rw (add-one i) (take-suc calls i d (omega arith)) in
        let m : take (i + 1) arms ≡ take i arms ++ get_or arms i b ∷ [] = rw (add-one i) (take-suc arms i b (omega arith)) in
        let f : Call → Arms → List ℕ = λ c a. words_of c (to_numbers a) in
        let row_here : entries (i + 1) after ≡ entries i row ++ words_of c (to_numbers (get_or arms i b)) ∷ [] = ap (entries (i + 1)) ea ∙ put_more row i c numbers (omega arith) g.long eight four ∙ ap (λ (x : Engine.Arms). entries i row ++ words_of c x ∷ []) en in
        record {
          here = row_here ∙ ap (λ (ws : List (List ℕ)). ws ++ f c (get_or arms i b) ∷ []) g.here
              ∙ sym (beside_more f (take i calls) (take i arms) c (get_or arms i b) (omega (arith, length-take i calls, length-take i arms))) ∙ ap₂ (beside f) (sym l) (sym m);
          passed = ap (every small) l ∙ every_append small (take i calls) (c ∷ []) ∙ and_both g.passed (and_both (and_both (lt-ltb _ _ n) (lt-ltb _ _ u)) refl);
          long = ap length ea ∙ put_length row i c numbers (omega arith) g.long;
          low = omega arith;
        }

-- The loop that unpacks: i calls are out of it.
pub record Unpacking (row : List ℕ) (programs opened : ℕ) (calls : List Call) (arms : List Arms) (i : ℕ) : Type 0 where
  pub out : calls ≡ fit 16 zero_call (map (call_in programs) (entries i row))
  pub beside_them : arms ≡ fit 16 zero_arms (map (λ w. to_triples (arms_in w)) (entries i row))
  pub low : i ≤ opened

module _ (row : List ℕ) (programs opened : ℕ) (calls : List Call) (arms : List Arms) where
  pub unpacking_start : calls ≡ replicate 16 zero_call → arms ≡ replicate 16 zero_arms → Unpacking row programs opened calls arms 0
  unfolding entries fit
  unpacking_start e f = record { out = e; beside_them = f; low = omega arith }

  pub unpacking_next : (i : ℕ) → Unpacking row programs opened calls arms i → i < opened → opened ≤ 16 → (c : Call) → c ≡ call_at row i programs → (a : Engine.Arms) → a ≡ arms_at row i → (b : Arms) → b ≡ to_triples a
      → Unpacking row programs opened (set calls i c) (set arms i b) (i + 1)
  unpacking_next i g h few c ec a ea b eb =
      record {
        out = out_more (call_in programs) zero_call row i calls c g.out (ec ∙ call_words_lem row i (omega arith) programs);
        beside_them = out_more (λ w. to_triples (arms_in w)) zero_arms row i arms b g.beside_them (eb ∙ ap to_triples (ea ∙ arms_words row i (omega arith)));
        low = omega arith;
      }

pub unpacking_end : (run : Running) (row variables : List ℕ) (programs monitors : ℕ) (calls : List Call) (arms : List Arms) (i : ℕ) → Unpacking row programs run.opened calls arms i → run.opened ≤ i
    → (front w : List ℕ) → front ≡ take monitors variables → w ≡ fit 8 0 front
    → record { main = run.main; variables = four w; opened = run.opened; calls = calls; arms = arms; position = run.position; outcome = run.outcome } ≡ unpacked programs monitors (words run row variables)
unfolding unpacked
unpacking_end run row variables programs monitors calls arms i g h front w ef ew =
    let same : i ≡ run.opened = omega (arith, g.low) in
    rw (ew, four_of_eight front, ef, g.out, g.beside_them, same)

-- One event on the words of a sound state.
module _ (s : List ℕ) (read : reading sheet_layout s ≡ 0) (w : WatchState) (h : sound_state (sheet_of s) w ≡ true) (row : List ℕ) (er : entries w.opened row ≡ call_words w) (long : length row ≡ 256) (e : Event) where
  abbrev S : Sheet
  S = sheet_of s

  abbrev a : Accepted sheet_layout s
  a = accepted sheet_layout s read

  abbrev σ : Words
  σ = words (running_of w) row w.variables

  abbrev T : ℕ
  T = length (last_of sheet_layout s)

  carried : Carries (of_sheet (sheet_of s)) (length (last_of sheet_layout s)) s (sheet_plan s)
  carried = sheet_carried a (omega (arith, sheet_longest s read))

  sound_view : sound (sheet_of s) (view (sheet_of s) w) ≡ true
  unfolding sound_state
  sound_view = let (few, (t, g)) = simp and_iff at h in g

  steady : Steady (of_sheet (sheet_of s)).common (length (last_of sheet_layout s)) (shown_by (of_sheet (sheet_of s)).common (words (running_of w) row w.variables))
  unfolding of_sheet sheet_of
  steady = subst (Steady S.common T) (sym (packed_shown S w h row er)) (sound_steady S (view S w) sound_view)

  shown_view : shown_by (of_sheet (sheet_of s)).common (words (running_of w) row w.variables) ≡ view (sheet_of s) w
  unfolding of_sheet
  shown_view = packed_shown S w h row er

  pub answer_there : (offer_in s (sheet_plan s) (words (running_of w) row w.variables) (given_of e) (eight_of e)).answer ≡ refusal (sheet_of s) (view (sheet_of s) w) e
  unfolding offer
  answer_there =
      offer_answer (of_sheet S) T s (sheet_plan s) σ e carried steady long
      ∙ ap (λ (τ : State). (Machine.offer (of_sheet S) τ e).answer) shown_view
      ∙ ap (λ (o : Offered State). o.answer) (sym (offer_same S (view S w) e))
      ∙ offered_answer (refusal S (view S w) e) (view S w) _

  pub count_there : event_count_in s (sheet_plan s) (words (running_of w) row w.variables) (given_of e) (eight_of e) ≡ count (sheet_of s) (view (sheet_of s) w) e
  count_there =
      count_shown (of_sheet S) T s (sheet_plan s) σ e carried steady long
      ∙ ap (λ (τ : State). Machine.count (of_sheet S) τ e) shown_view
      ∙ sym (count_same S (view S w) e)

  pub state_there : every small (take w.opened w.calls) ≡ true → e.number < 65536 → e.unit < 256
      → unpacked (sheet_of s).common.programs (sheet_of s).common.monitors (offer_in s (sheet_plan s) (words (running_of w) row w.variables) (given_of e) (eight_of e)).state ≡ pad (offer (sheet_of s) (view (sheet_of s) w) e).state
  unfolding of_sheet sheet_of
  state_there k number unit =
      let after = (offer_in s (sheet_plan s) σ (given_of e) (eight_of e)).state in
      let same : shown_by S.common after ≡ (Machine.offer (of_sheet S) (view S w) e).state = offer_shown (of_sheet S) T s (sheet_plan s) σ e carried steady long ∙ ap (λ (τ : State). (Machine.offer (of_sheet S) τ e).state) shown_view in
      let narrow-view = view_narrow S w sound_view carried.few_last k in
      unpacked_pad S after (Machine.offer (of_sheet S) (view S w) e).state same (offer_narrow (of_sheet S) T s (sheet_plan s) carried (view S w) e number unit narrow-view)
      ∙ ap (λ (o : Offered State). pad o.state) (sym (offer_same S (view S w) e))

  pub opened_there : (offer_in s (sheet_plan s) (words (running_of w) row w.variables) (given_of e) (eight_of e)).state.run.opened ≤ 16
  unfolding shown_by
  opened_there =
      let after = (offer_in s (sheet_plan s) σ (given_of e) (eight_of e)).state in
      let C = (of_sheet S).common in
      let same = offer_shown (of_sheet S) T s (sheet_plan s) σ e carried steady long in
      let few = (offer_steady (of_sheet S) T s (sheet_plan s) carried (shown_by C σ) e steady).few in
      omega (arith, few, shown_count C after, ap (λ (τ : State). length τ.calls) same)

-- The same from what the functions answer.
module _ (s plan : List ℕ) (w : WatchState) (event : Record) (values : List ℕ) (pre : (reading sheet_layout s ≡ 0) × (plan ≡ sheet_plan s) × (sound_state (sheet_of s) w ≡ true))
    (given : Given) (eg : (given ≡ given_of (event_of event values)) × (event.number < 65536) × (event.unit < 256)) (eight : List ℕ) (e8 : eight ≡ fit 8 0 values) (run : Running) (er : run ≡ running_of w)
    (row : List ℕ) (ew : (entries w.opened row ≡ call_words w) × (every small (take w.opened w.calls) ≡ true) × (length row ≡ 256))
    (next : Answered) (en : next ≡ record { answer = (offer_in s plan (words run row w.variables) given eight).answer; count = event_count_in s plan (words run row w.variables) given eight; run = (offer_in s plan (words run row w.variables) given eight).state.run }) where
  abbrev after : Offered Words
  after = offer_in s (sheet_plan s) (words (running_of w) row w.variables) (given_of (event_of event values)) (fit 8 0 values)

  came : offer_in s plan (words run row w.variables) given eight ≡ offer_in s (sheet_plan s) (words (running_of w) row w.variables) (given_of (event_of event values)) (fit 8 0 values)
  came = λ i. offer_in s (pre.1 i) (words (er i) row w.variables) (eg.0 i) (e8 i)

  pub few_opened : next.run.opened ≤ 16
  few_opened = subst (λ (n : ℕ). n ≤ 16) (sym (ap (λ (x : Answered). x.run.opened) en ∙ ap (λ (o : Offered Words). o.state.run.opened) came)) (opened_there s pre.0 w pre.2 row ew.0 ew.2 (event_of event values))

  answered : next.answer ≡ refusal (sheet_of s) (view (sheet_of s) w) (event_of event values)
  answered = ap (λ (x : Answered). x.answer) en ∙ ap (λ (o : Offered Words). o.answer) came ∙ answer_there s pre.0 w pre.2 row ew.0 ew.2 (event_of event values)

  counted : next.count ≡ count (sheet_of s) (view (sheet_of s) w) (event_of event values)
  counted =
      ap (λ (x : Answered). x.count) en
      ∙ (λ i. event_count_in s (pre.1 i) (words (er i) row w.variables) (eg.0 i) (e8 i))
      ∙ count_there s pre.0 w pre.2 row ew.0 ew.2 (event_of event values)

  pub offer_refused : (next.answer ≡ 0 → ⊥) → Comes s w (event_of event values) (declined next.answer) w 0
  offer_refused k = offer_refuses s w (event_of event values) pre.0 pre.2 next.answer answered k

  pub offer_taken : next.answer ≡ 0 → (row₁ variables₁ : List ℕ)
      → (row₁ ≡ (offer_in s plan (words run row w.variables) given eight).state.row) × (variables₁ ≡ (offer_in s plan (words run row w.variables) given eight).state.variables)
      → (programs monitors : ℕ) → programs ≡ get_or plan 1 0 → monitors ≡ get_or plan 2 0 → (state : WatchState) → state ≡ unpacked programs monitors (words next.run row₁ variables₁) → Comes s w (event_of event values) taken state next.count
  unfolding of_sheet
  offer_taken z row₁ variables₁ (e₁, e₂) programs monitors ep em state es =
      let c = carried s pre.0 w pre.2 row ew.0 ew.2 (event_of event values) in
      let lent : programs ≡ (sheet_of s).common.programs = ep ∙ ap (λ (p : List ℕ). get_or p 1 0) pre.1 ∙ c.programs in
      let held : monitors ≡ (sheet_of s).common.monitors = em ∙ ap (λ (p : List ℕ). get_or p 2 0) pre.1 ∙ c.monitors in
      let words_after : words next.run row₁ variables₁ ≡ after.state = (λ i. words (en i).run (e₁ i) (e₂ i)) ∙ ap (λ (o : Offered Words). o.state) came in
      let made : state ≡ unpacked (sheet_of s).common.programs (sheet_of s).common.monitors after.state = es ∙ (λ i. unpacked (lent i) (held i) (words_after i)) in
      offer_takes s w (event_of event values) pre.0 pre.2 next.answer answered z state (made ∙ state_there s pre.0 w pre.2 row ew.0 ew.2 (event_of event values) ew.1 eg.1 eg.2) next.count counted

-- At most sixteen calls of a sound state are open, and the triples of an accepted sheet begin where its plan says.
pub sound_opened : (S : Sheet) (w : WatchState) → sound_state S w ≡ true → w.opened ≤ 16
unfolding sound_state
sound_opened S w h = let (few, rest) = simp (and_iff, leb_iff) at h in few

module _ (s plan : List ℕ) (pre : (reading sheet_layout s ≡ 0) × (plan ≡ sheet_plan s)) where
  begins : get_or plan 5 0 ≡ last_at transition_form s
  begins = ap (λ (p : List ℕ). get_or p 5 0) pre.1 ∙ (sheet_planned (accepted sheet_layout s pre.0) (omega (arith, sheet_longest s pre.0))).begins

  pub tables_there : (t : Tables) → t ≡ record { header = header_of s; triples = get_or plan 5 0 } → t ≡ tables_of s
  tables_there t e = e ∙ (λ i. record { header = header_of s; triples = begins i })
