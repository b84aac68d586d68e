-- A sound state as the engine's words: they show it, and what the engine makes of them is what the definition says, taken out again. Assumes nothing.
use mathlib.Core.Path.{◌≡◌, refl, sym, ap, ap₂, subst, ◌∙◌}
use mathlib.Core.Bool.{Bool, true, false, cond, ◌&&◌}
use mathlib.Core.List.{List, [], ◌∷◌, ◌++◌, map, map-map}
use Prim.Native.Nat.{ℕ, zero, suc, ◌+◌, ◌%◌, ◌≤◌, ◌<◌}
use native.Mathlib.Nat.{mod-eq_of_lt}
use native.Mathlib.Omega.{arith}
use borrow.Author.Tests.{lt-ltb, ltb-true, leb-true, eq-eqb}
use lib.Dec.{eqb, leb, ltb}
use lib.ListN.{length, get_or, take, drop, length-map, length-take}
use lib.Seq.{take_at, take_all, get_or_at, drop-append-add}
use Rattle.sheet.specs.Table.{every, fit}
use Rattle.sheet.specs.Parts.{Network, Common}
use Rattle.sheet.specs.declared.Record.{Record}
use Rattle.sheet.specs.Log.{Event}
use Rattle.sheet.specs.Answer.{header_of}
use Rattle.sheet.specs.Decode.{paired_form, last_at, network_of}
use Rattle.sheet.specs.Reading.{reading, network_layout, last_of}
use Rattle.sheet.proofs.Accepted.{accepted, length_said}
use Rattle.sheet.proofs.Tables.{and_parts, and_both, every_weaker}
use Rattle.sheet.proofs.Tests.{and_iff, not_iff, eqb_iff, leb_iff}
use Rattle.step.specs.declared.Call.{Call}
use Rattle.step.specs.Lists.{keep, distinct}
use Rattle.step.specs.Calls as Calls
use Rattle.step.specs.Padding.{zero_call, pad_call, padded, unpad}
use Rattle.step.specs.Verdicts.{outcome_of}
use Rattle.step.specs.Runs.{Offered}
use Rattle.step.specs.Answers.{taken, declined}
use Rattle.step.specs.Calls.{event_of}
use Rattle.step.proofs.OnLists.Lists.{any_map}
use Rattle.step.proofs.OnEvents.Runs.{offered_answer}
use Rattle.step.proofs.OnLists.Rooms.{take_fit, length_fit, map_same, every_take, outcome_verdict}
use Rattle.engine.specs.Machine as Machine
use Rattle.engine.specs.Machine.{Armed}
use Rattle.engine.specs.Machines.{of_network}
use Rattle.engine.specs.declared.Running.{Running}
use Rattle.engine.specs.declared.Given.{Given}
use Rattle.engine.specs.Packed.{words_of, call_in}
use Rattle.engine.specs.Prepared.{network_plan}
use Rattle.engine.specs.Walk.{Answered, Words, words, entries, offer_in, event_count_in, given_of, eight_of}
use Rattle.engine.specs.Showing.{armed_of, shown_by, Steady, Carries}
use Rattle.engine.proofs.Packed.{narrow, calls_taken, offer_narrow}
use Rattle.engine.proofs.OnMachines.Keeps.{offer_steady}
use Rattle.engine.proofs.Plans.Planned.{network_planned}
use Rattle.engine.proofs.MachineCarried.OnNetworks.{network_carried}
use Rattle.engine.proofs.OnMachines.Shown.{shown_count, offer_answer, offer_shown}
use Rattle.engine.proofs.OnMachines.Counted.{count_shown}
use Rattle.network.specs.declared.Checker.{Checker}
use Rattle.network.specs.declared.NetworkState.{NetworkState}
use Rattle.network.specs.declared.sound.Tables.{Tables}
use Rattle.network.specs.Network.{count, State, bound_to, refusal, offer}
use Rattle.network.specs.Sound.{sound}
use Rattle.network.specs.Padded.{zero_checker, pad, view, tidy, sound_state}
use Rattle.network.specs.Grouped.{checker, row_of, ungrouped, templates_of, grouped_calls, grouped}
use Rattle.network.specs.Packed.{running_of, front, own_of, arms_of, words_in, call_words, checkers_in, unpacked}
use Rattle.network.specs.Walk.{tables_of}
use Rattle.network.proofs.Offers.Answering.{Comes, offer_takes, offer_refuses}
use Rattle.network.proofs.ByMachine.Bound.{bound_none, turned}
use Rattle.network.proofs.ByMachine.ByCalls.{templates_back, answer_same, state_same, count_same}
use Rattle.network.proofs.Offers.Grouping.{ungrouped_grouped, grouped_few, grouped_steady}

-- The words of a call show it.
words_show : (P : ℕ) (c : Call) (l : List ℕ) → length l ≤ 4 → length c.kept ≡ 8 → armed_of P (words_of c (arms_of l)) ≡ record { call = unpad P c; armed = l }
unfolding armed_of
words_show P c l few eight =
    let row = fit 4 0 l ++ c.entry ∷ c.kept in
    let four = length_fit 4 0 l in
    let armed : take (length l) (take 4 row) ≡ l = ap (take (length l)) (take_at (fit 4 0 l) (c.entry ∷ c.kept) 4 four) ∙ take_fit 0 4 l few in
    let rest : drop 5 row ≡ c.kept = ap (λ (n : ℕ). drop (n + 1) row) (sym four) ∙ drop-append-add (fit 4 0 l) (c.entry ∷ c.kept) 1 in
    let kept : take 8 (drop 5 row) ≡ c.kept = ap (take 8) rest ∙ take_all 8 c.kept (omega arith) in
    let entry : get_or row 4 0 ≡ c.entry = get_or_at (fit 4 0 l) c.entry c.kept 0 4 four in
    λ i. record { call = record { number = c.number; unit = c.unit; entry = entry i; kept = take P (kept i) }; armed = armed i }

-- A call's checkers, at the front of a row that has no others of its number.
front_none : {A : Type 0} (p : A → Bool) (k : ℕ) (l : List A) → keep p l ≡ [] → front p k l ≡ []
unfolding front keep
front_none p zero l h = refl
front_none p (suc k) [] h = refl
front_none {A} p (suc k) (x ∷ l) h = go (p x) h
  where
    go : (b : Bool) → cond b (x ∷ keep p l) (keep p l) ≡ [] → cond b (x ∷ front p k l) [] ≡ []
    go true h = absurd (omega (arith, ap length h))
    go false h = refl

module _ (n q : ℕ) (m : List Checker) (other : keep (bound_to n) m ≡ []) where
  front_own : (k : ℕ) (l : List ℕ) → length l ≤ k → front (bound_to n) k (map (checker n q) l ++ m) ≡ map (checker n q) l
  unfolding front
  front_own k [] h = front_none (bound_to n) k m other
  front_own zero (i ∷ l) h = absurd (omega arith)
  front_own (suc k) (i ∷ l) h = rw (eq-eqb n n refl) (ap (λ (r : List Checker). checker n q i ∷ r) (front_own k l (omega arith)))

  own_front : (l : List ℕ) → length l ≤ 4 → own_of n (map (checker n q) l ++ m) ≡ l
  own_front l h = ap (map (λ (x : Checker). x.template)) (front_own 4 l h) ∙ templates_back n q l

own_behind : (n q : ℕ) (l : List ℕ) (m : List Checker) → drop (length l) (map (checker n q) l ++ m) ≡ m
own_behind n q [] m = refl
own_behind n q (i ∷ l) m = own_behind n q l m

-- The words of calls whose checkers follow each other show these calls with their checkers.
calls_show : (P : ℕ) (calls : List Call) (l : List Armed) → map (unpad P) calls ≡ map (λ (a : Armed). a.call) l → distinct (map (λ (a : Armed). a.call.number) l) ≡ true
    → every (λ (a : Armed). leb (length a.armed) 4) l ≡ true → every (λ (c : Call). padded 8 P c.kept) calls ≡ true → map (armed_of P) (words_in calls (row_of l)) ≡ l
unfolding words_in row_of every distinct
calls_show P [] [] e d f k = refl
calls_show P [] (a ∷ l) e d f k = absurd (omega (arith, ap length e))
calls_show P (c ∷ calls) [] e d f k = absurd (omega (arith, ap length e))
calls_show P (c ∷ calls) (a ∷ l) e d f k =
    let n = a.call.number in
    let same : unpad P c ≡ a.call = ap (λ (r : List Calls.Call). get_or r 0 a.call) e in
    let (shut, apart) = simp (and_iff, not_iff) at d in
    let (few, fewer) = and_parts (leb (length a.armed) 4) (every (λ (a : Armed). leb (length a.armed) 4) l) f in
    let ((eight, z), r) = simp (and_iff, eqb_iff) at k in
    let none = bound_none n l (turned n l (sym (any_map (eqb n) (λ (a : Armed). a.call.number) l) ∙ shut)) in
    let own : own_of c.number (row_of (a ∷ l)) ≡ a.armed = ap (λ (x : Calls.Call). own_of x.number (row_of (a ∷ l))) same ∙ own_front n a.call.entry (row_of l) none a.armed (leb-true (length a.armed) 4 few) in
    let rest : map (armed_of P) (words_in calls (drop (length a.armed) (row_of (a ∷ l)))) ≡ l = ap (λ (m : List Checker). map (armed_of P) (words_in calls m)) (own_behind n a.call.entry a.armed (row_of l)) ∙ calls_show P calls l (ap (drop 1) e) apart fewer r in
    ap (λ (o : List ℕ). armed_of P (words_of c (arms_of o)) ∷ map (armed_of P) (words_in calls (drop (length o) (row_of (a ∷ l))))) own
    ∙ ap₂ (λ (x : Armed) (t : List Armed). x ∷ t) (words_show P c a.armed (leb-true (length a.armed) 4 few) eight ∙ (λ i. record { call = same i; armed = a.armed })) rest

-- The words of a sound state show it, by its calls with their checkers.
sound_view : (N : Network) (w : NetworkState) → sound_state N w ≡ true → sound N (view N w) ≡ true
unfolding sound_state
sound_view N w h = let (o, (l, (t, g))) = simp and_iff at h in g

module _ (N : Network) (w : NetworkState) (h : sound_state N w ≡ true) (row : List ℕ) (er : entries w.opened row ≡ call_words w) where
  calls_kept : every (λ (c : Call). padded 8 N.common.programs c.kept) (take w.opened w.calls) ≡ true
  unfolding sound_state tidy
  calls_kept =
      let (o, (l, ((v, (m, (n, (k, z)))), g))) = simp and_iff at h in
      every_take (λ (c : Call). padded 8 N.common.programs c.kept) w.opened w.calls k

  calls_shown : map (armed_of N.common.programs) (entries w.opened row) ≡ (grouped (view N w)).calls
  unfolding view grouped ungrouped
  calls_shown =
      let P = N.common.programs in
      let σ = view N w in
      let g = sound_view N w h in
      let back = ungrouped_grouped N σ g in
      ap (map (armed_of P)) er
      ∙ ap (λ (x : State). map (armed_of P) (words_in (take w.opened w.calls) x.checkers)) (sym back)
      ∙ calls_show P (take w.opened w.calls) (grouped σ).calls (ap (λ (x : State). x.calls) (sym back)) (grouped_steady N σ g).apart (grouped_few N σ g) calls_kept

  pub packed_shown : shown_by N.common (words (running_of w) row w.variables) ≡ grouped (view N w)
  unfolding view shown_by grouped
  packed_shown = λ i. record { configuration = (view N w).configuration; calls = calls_shown i; position = w.position; verdict = (view N w).verdict }

-- What words that show a state become, taken out.
checkers_out : (P : ℕ) (ws : List (List ℕ)) → every narrow (map (armed_of P) ws) ≡ true → checkers_in ws ≡ row_of (map (armed_of P) ws)
unfolding checkers_in row_of every armed_of
checkers_out P [] h = refl
checkers_out P (w ∷ ws) h =
    let l = take (get_or w 2 0) (take 4 (drop 3 w)) in
    let (own, rest) = and_parts (narrow (armed_of P w)) (every narrow (map (armed_of P) ws)) h in
    let (n, (u, r)) = simp and_iff at own in
    let bytes : map (λ i. i % 256) l ≡ l = map_same (λ i. ltb i 256) (λ i. i % 256) (λ i k. mod-eq_of_lt (ltb-true i 256 k)) l r in
    let few : length l ≤ 4 = omega (arith, length-take (get_or w 2 0) (take 4 (drop 3 w)), length-take 4 (drop 3 w)) in
    let armed : take (length l) (fit 4 0 (map (λ i. i % 256) l)) ≡ l = ap (λ (m : List ℕ). take (length l) (fit 4 0 m)) bytes ∙ take_fit 0 4 l few in
    let number : get_or w 0 0 % 65536 ≡ get_or w 0 0 = mod-eq_of_lt (ltb-true (get_or w 0 0) 65536 n) in
    λ i. map (checker (number i) (get_or w 7 0)) (armed i) ++ checkers_out P ws rest i

unpacked_pad : (C : Common) (σ : Words) (τ : Machine.State) → shown_by C σ ≡ τ → every narrow τ.calls ≡ true → unpacked C.programs C.monitors σ ≡ pad (ungrouped τ)
unfolding unpacked pad shown_by ungrouped
unpacked_pad C σ τ e small =
    let ws = entries σ.run.opened σ.row in
    let shown : map (armed_of C.programs) ws ≡ τ.calls = ap (λ (x : Machine.State). x.calls) e in
    let checkers : checkers_in ws ≡ row_of τ.calls = checkers_out C.programs ws (ap (every narrow) shown ∙ small) ∙ ap row_of shown in
    let calls : map (call_in C.programs) ws ≡ map pad_call (map (λ (a : Armed). a.call) τ.calls) = calls_taken C σ τ e small ∙ sym (map-map pad_call (λ (a : Armed). a.call) τ.calls) in
    let opened : σ.run.opened ≡ length (map (λ (a : Armed). a.call) τ.calls) = sym (shown_count C σ) ∙ ap (λ (x : Machine.State). length x.calls) e ∙ sym (length-map τ.calls (λ (a : Armed). a.call)) in
    let outcome = sym (outcome_verdict σ.run.outcome) ∙ ap (λ (x : Machine.State). outcome_of x.verdict) e in
    λ i. record {
      main = (e i).configuration.main;
      variables = fit 4 0 (e i).configuration.variables;
      opened = opened i;
      calls = fit 16 zero_call (calls i);
      living = length (checkers i);
      checkers = fit 64 zero_checker (checkers i);
      position = (e i).position;
      outcome = outcome i;
    }

-- What a sound state shows is small where the numbers and units of its calls are.
abbrev pub small : Call → Bool
small c = ltb c.number 65536 && ltb c.unit 256

all_narrow : (P : ℕ) (calls : List Call) (l : List Checker) → every small calls ≡ true → every (λ (a : Armed). every (λ i. ltb i 256) a.armed) (grouped_calls (map (unpad P) calls) l) ≡ true → every narrow (grouped_calls (map (unpad P) calls) l) ≡ true
unfolding every
all_narrow P [] l h k = refl
all_narrow P (c ∷ calls) l h k =
    let ((n, u), r) = simp and_iff at h in
    let (x, y) = and_parts (every (λ i. ltb i 256) (templates_of c.number l)) (every (λ (a : Armed). every (λ i. ltb i 256) a.armed) (grouped_calls (map (unpad P) calls) l)) k in
    and_both (and_both n (and_both u x)) (all_narrow P calls l r y)

view_narrow : (N : Network) (w : NetworkState) → sound N (view N w) ≡ true → length N.templates ≤ 32 → every small (take w.opened w.calls) ≡ true → every narrow (grouped (view N w)).calls ≡ true
unfolding view grouped
view_narrow N w h few k =
    let T = length N.templates in
    let low : (a : Armed) → every (λ i. ltb i T) a.armed ≡ true → every (λ i. ltb i 256) a.armed ≡ true = λ a. every_weaker (λ i. ltb i T) (λ i. ltb i 256) (λ i q. lt-ltb i 256 (omega (arith, ltb-true i T q))) a.armed in
    all_narrow N.common.programs (take w.opened w.calls) (take w.living w.checkers) k
    (every_weaker (λ (a : Armed). every (λ i. ltb i T) a.armed) (λ (a : Armed). every (λ i. ltb i 256) a.armed) low (grouped (view N w)).calls (grouped_steady N (view N w) h).there)

-- One event on the words of a sound state.
module _ (s : List ℕ) (read : reading network_layout s ≡ 0) (short : length s < 65536) (w : NetworkState) (h : sound_state (network_of s) w ≡ true) (row : List ℕ) (er : entries w.opened row ≡ call_words w) (long : length row ≡ 256) (e : Event) where
  abbrev N : Network
  N = network_of s

  abbrev σ : Words
  σ = words (running_of w) row w.variables

  abbrev τ : Machine.State
  τ = grouped (view (network_of s) w)

  abbrev T : ℕ
  T = length (last_of network_layout s)

  carried : Carries (of_network (network_of s)) (length (last_of network_layout s)) s (network_plan s)
  carried = network_carried (accepted network_layout s read) (omega arith)

  good : sound (network_of s) (view (network_of s) w) ≡ true
  good = sound_view N w h

  back : ungrouped (grouped (view (network_of s) w)) ≡ view (network_of s) w
  back = ungrouped_grouped N (view N w) good

  shown_view : shown_by (of_network (network_of s)).common (words (running_of w) row w.variables) ≡ grouped (view (network_of s) w)
  unfolding of_network
  shown_view = packed_shown N w h row er

  resting : Steady (of_network (network_of s)).common (length (last_of network_layout s)) (grouped (view (network_of s) w))
  unfolding of_network network_of
  resting = grouped_steady N (view N w) good

  steady : Steady (of_network (network_of s)).common (length (last_of network_layout s)) (shown_by (of_network (network_of s)).common (words (running_of w) row w.variables))
  steady = subst (Steady (of_network N).common T) (sym shown_view) resting

  pub answer_there : (offer_in s (network_plan s) (words (running_of w) row w.variables) (given_of e) (eight_of e)).answer ≡ refusal (network_of s) (view (network_of s) w) e
  unfolding offer
  answer_there =
      offer_answer (of_network N) T s (network_plan s) σ e carried steady long
      ∙ ap (λ (x : Machine.State). (Machine.offer (of_network N) x e).answer) shown_view
      ∙ sym (answer_same N τ e)
      ∙ ap (λ (x : State). (offer N x e).answer) back
      ∙ offered_answer (refusal N (view N w) e) (view N w) _

  pub count_there : event_count_in s (network_plan s) (words (running_of w) row w.variables) (given_of e) (eight_of e) ≡ count (network_of s) (view (network_of s) w) e
  count_there =
      count_shown (of_network N) T s (network_plan s) σ e carried steady long
      ∙ ap (λ (x : Machine.State). Machine.count (of_network N) x e) shown_view
      ∙ sym (count_same N τ e resting.apart)
      ∙ ap (λ (x : State). count N x e) back

  pub state_there : every small (take w.opened w.calls) ≡ true → e.number < 65536 → e.unit < 256
      → unpacked (network_of s).common.programs (network_of s).common.monitors (offer_in s (network_plan s) (words (running_of w) row w.variables) (given_of e) (eight_of e)).state ≡ pad (offer (network_of s) (view (network_of s) w) e).state
  unfolding of_network network_of
  state_there k number unit =
      let after = (offer_in s (network_plan s) σ (given_of e) (eight_of e)).state in
      let came = (Machine.offer (of_network N) τ e).state in
      let same : shown_by N.common after ≡ came = offer_shown (of_network N) T s (network_plan s) σ e carried steady long ∙ ap (λ (x : Machine.State). (Machine.offer (of_network N) x e).state) shown_view in
      let narrow-after = offer_narrow (of_network N) T s (network_plan s) carried τ e number unit (view_narrow N w good carried.few_last k) in
      unpacked_pad N.common after came same narrow-after
      ∙ ap pad (sym (state_same N τ e resting.apart))
      ∙ ap (λ (x : State). pad (offer N x e).state) back

  pub opened_there : (offer_in s (network_plan s) (words (running_of w) row w.variables) (given_of e) (eight_of e)).state.run.opened ≤ 16
  unfolding shown_by
  opened_there =
      let after = (offer_in s (network_plan s) σ (given_of e) (eight_of e)).state in
      let C = (of_network N).common in
      let same = offer_shown (of_network N) T s (network_plan s) σ e carried steady long in
      let few = (offer_steady (of_network N) T s (network_plan s) carried (shown_by C σ) e steady).few in
      omega (arith, few, shown_count C after, ap (λ (x : Machine.State). length x.calls) same)

-- The same from what the functions answer.
module _ (s plan : List ℕ) (w : NetworkState) (event : Record) (values : List ℕ) (pre : (reading network_layout s ≡ 0) × (length s < 65536) × (plan ≡ network_plan s) × (sound_state (network_of s) w ≡ true))
    (given : Given) (eg : (given ≡ given_of (event_of event values)) × (event.number < 65536) × (event.unit < 256)) (eight : List ℕ) (e8 : eight ≡ fit 8 0 values) (run : Running) (er : run ≡ running_of w)
    (row : List ℕ) (ew : (entries w.opened row ≡ call_words w) × (every small (take w.opened w.calls) ≡ true) × (length row ≡ 256))
    (next : Answered) (en : next ≡ record { answer = (offer_in s plan (words run row w.variables) given eight).answer; count = event_count_in s plan (words run row w.variables) given eight; run = (offer_in s plan (words run row w.variables) given eight).state.run }) where
  abbrev after : Offered Words
  after = offer_in s (network_plan s) (words (running_of w) row w.variables) (given_of (event_of event values)) (fit 8 0 values)

  came : offer_in s plan (words run row w.variables) given eight ≡ offer_in s (network_plan s) (words (running_of w) row w.variables) (given_of (event_of event values)) (fit 8 0 values)
  came = λ i. offer_in s (pre.2 i) (words (er i) row w.variables) (eg.0 i) (e8 i)

  pub few_opened : next.run.opened ≤ 16
  few_opened = subst (λ (n : ℕ). n ≤ 16) (sym (ap (λ (x : Answered). x.run.opened) en ∙ ap (λ (o : Offered Words). o.state.run.opened) came)) (opened_there s pre.0 pre.1 w pre.3 row ew.0 ew.2 (event_of event values))

  answered : next.answer ≡ refusal (network_of s) (view (network_of s) w) (event_of event values)
  answered = ap (λ (x : Answered). x.answer) en ∙ ap (λ (o : Offered Words). o.answer) came ∙ answer_there s pre.0 pre.1 w pre.3 row ew.0 ew.2 (event_of event values)

  counted : next.count ≡ count (network_of s) (view (network_of s) w) (event_of event values)
  counted =
      ap (λ (x : Answered). x.count) en
      ∙ (λ i. event_count_in s (pre.2 i) (words (er i) row w.variables) (eg.0 i) (e8 i))
      ∙ count_there s pre.0 pre.1 w pre.3 row ew.0 ew.2 (event_of event values)

  pub offer_refused : (next.answer ≡ 0 → ⊥) → Comes s w (event_of event values) (declined next.answer) w 0
  offer_refused k = offer_refuses s w (event_of event values) pre.0 pre.3 next.answer answered k

  pub offer_taken : next.answer ≡ 0 → (row₁ variables₁ : List ℕ)
      → (row₁ ≡ (offer_in s plan (words run row w.variables) given eight).state.row) × (variables₁ ≡ (offer_in s plan (words run row w.variables) given eight).state.variables)
      → (programs monitors : ℕ) → programs ≡ get_or plan 1 0 → monitors ≡ get_or plan 2 0 → (state : NetworkState) → state ≡ unpacked programs monitors (words next.run row₁ variables₁)
      → Comes s w (event_of event values) taken state next.count
  unfolding of_network
  offer_taken z row₁ variables₁ (e₁, e₂) programs monitors ep em state es =
      let c = carried s pre.0 pre.1 w pre.3 row ew.0 ew.2 (event_of event values) in
      let lent : programs ≡ (network_of s).common.programs = ep ∙ ap (λ (p : List ℕ). get_or p 1 0) pre.2 ∙ c.programs in
      let held : monitors ≡ (network_of s).common.monitors = em ∙ ap (λ (p : List ℕ). get_or p 2 0) pre.2 ∙ c.monitors in
      let words_after : words next.run row₁ variables₁ ≡ after.state = (λ i. words (en i).run (e₁ i) (e₂ i)) ∙ ap (λ (o : Offered Words). o.state) came in
      let made : state ≡ unpacked (network_of s).common.programs (network_of s).common.monitors after.state = es ∙ (λ i. unpacked (lent i) (held i) (words_after i)) in
      offer_takes s w (event_of event values) pre.0 pre.3 next.answer answered z state (made ∙ state_there s pre.0 pre.1 w pre.3 row ew.0 ew.2 (event_of event values) ew.1 eg.1 eg.2) next.count counted

-- At most sixteen calls of a sound state are open, and at most sixty-four checkers live.
pub sound_opened : (N : Network) (w : NetworkState) → sound_state N w ≡ true → (w.opened ≤ 16) × (w.living ≤ 64)
unfolding sound_state
sound_opened N w h = let (few, (most, rest)) = simp (and_iff, leb_iff) at h in (few, most)

-- An accepted network is as long as its first two bytes say, and its templates begin where its plan says.
module _ (s plan : List ℕ) (pre : (reading network_layout s ≡ 0) × (plan ≡ network_plan s)) (bytes : (i : ℕ) → get_or s i 0 < 256) where
  pub short_said : length s < 65536
  short_said = omega (arith, length_said (accepted network_layout s pre.0), bytes 0, bytes 1)

  begins : get_or plan 5 0 ≡ last_at paired_form s
  begins = ap (λ (p : List ℕ). get_or p 5 0) pre.1 ∙ (network_planned (accepted network_layout s pre.0) (omega (arith, short_said))).begins

  pub tables_there : (t : Tables) → t ≡ record { header = header_of s; templates = get_or plan 5 0 } → t ≡ tables_of s
  tables_there t e = e ∙ (λ i. record { header = header_of s; templates = begins i })
