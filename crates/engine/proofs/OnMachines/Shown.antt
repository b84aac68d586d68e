-- What an event comes to in words is what the definition says of the machine that the plan carries and of the state that is shown. Assumes nothing.
use mathlib.Core.Path.{◌≡◌, refl, sym, ap, ap₂, ◌∙◌}
use mathlib.Core.Bool.{Bool, true, false, not, cond, ◌&&◌}
use mathlib.Core.Option.{Option, none, some}
use mathlib.Core.List.{List, [], ◌∷◌, ◌++◌, map, map-map}
use Prim.Native.Nat.{ℕ, zero, suc, ◌+◌, ◌-◌, ◌*◌, ◌≤◌, ◌<◌}
use native.Mathlib.Omega.{arith}
use borrow.Author.Tests.{ltb-true, ltb-false, leb-true, leb-false, lt-ltb, le-ltb, le-leb, eqb-true, eqb-false}
use lib.Dec.{eqb, ltb, leb}
use lib.ListN.{length, get_or, take, drop, length-map}
use lib.Seq.{take_at, take-take, drop-drop, get_or-take, get_or-drop}
use Rattle.condition.specs.Meaning.{environment}
use Rattle.sheet.specs.Parts.{Common}
use Rattle.sheet.specs.Table.{every}
use Rattle.sheet.specs.Log.{Event}
use Rattle.sheet.proofs.Tests.{eqb_iff}
use Rattle.step.specs.declared.Verdict.{Verdict}
use Rattle.step.specs.Lists.{Among, first, keep, any, least, distinct, place_of}
use Rattle.step.specs.Moves.{Configuration, seen, moved}
use Rattle.step.specs.Calls.{Call, is_entry, entry_for, last_position, refusals, lowest}
use Rattle.step.specs.Verdicts.{verdict, is_judged, verdict_in, outcome_of}
use Rattle.step.specs.Runs.{offered}
use Rattle.step.specs.Walk.{number_in, least_of}
use Rattle.step.proofs.OnLists.Lists.{any_map, first_passes, kept_passes}
use Rattle.step.proofs.OnEvents.Moving.{moved_variables}
use Rattle.step.proofs.OnEvents.Refusing.{refusal_by, refusal_asked, entry_room, exit_open}
use Rattle.step.proofs.OnEvents.Refusing as Refusing
use Rattle.step.proofs.OnLists.Rooms.{verdict_outcome, take_fitted, length_fit}
use Rattle.step.proofs.OnLists.Searching.{any_place}
use Rattle.step.proofs.OnEvents.Entries.{entry_found}
use Rattle.step.proofs.OnLists.Keeping.{every_among, keep_same, place_map, image_at, first_place, number_least}
use Rattle.engine.specs.declared.Running.{Running}
use Rattle.engine.specs.Machine.{Machine, Armed, State, arming, fails, failing, of_number, entered, exited, refusal, offer}
use Rattle.engine.specs.Plan.{units_in, programs_in, monitors_in, bad_in, cell_of, first_of, candidate_of, post_of}
use Rattle.engine.specs.Walk.{holds_by, found_in, armed_in, entries, place_in, seen_in, armed_at, kept_at, low_in, main_after, variables_after, Words, words, entry_refusal, exit_refusal, refusal_in, run_after, row_with, row_without, entered_in, exited_in, taken_in, offer_in, given_of, eight_of}
use Rattle.engine.specs.Showing.{call_of, armed_of, held_by, shown_by, Steady, Fits, found_by, Carries}
use Rattle.engine.proofs.InWords.Entries.{length_entries, entry_at, drop_take}
use Rattle.engine.proofs.InWords.Calls.{number_there, full_there, unit_there, calls_more, calls_fewer, new_call}

abbrev pub no_armed : Armed
no_armed = record { call = record { number = 0; unit = 0; entry = 0; kept = [] }; armed = [] }

module _ (C : Common) (σ : Words) where
  shown_calls : map (λ (a : Armed). a.call) (shown_by C σ).calls ≡ map (call_of C.programs) (entries σ.run.opened σ.row)
  unfolding shown_by armed_of
  shown_calls = map-map (λ (a : Armed). a.call) (armed_of C.programs) (entries σ.run.opened σ.row)

  pub shown_count : length (shown_by C σ).calls ≡ σ.run.opened
  unfolding shown_by
  shown_count = length-map (entries σ.run.opened σ.row) (armed_of C.programs) ∙ length_entries σ.run.opened σ.row

  shown_distinct : distinct (map (λ (a : Armed). a.call.number) (shown_by C σ).calls) ≡ true → distinct (map (λ (w : List ℕ). get_or w 0 0) (entries σ.run.opened σ.row)) ≡ true
  unfolding shown_by armed_of
  shown_distinct d = ap distinct (sym (map-map (λ (a : Armed). a.call.number) (armed_of C.programs) (entries σ.run.opened σ.row))) ∙ d

-- the tests of a place in words are those of the place of a call
below_sixteen : (p n : ℕ) → ltb (16 * p) (16 * n) ≡ ltb p n
below_sixteen p n = go (ltb p n) refl
  where
    go : (b : Bool) → ltb p n ≡ b → ltb (16 * p) (16 * n) ≡ b
    go true e = lt-ltb (16 * p) (16 * n) (omega (arith, ltb-true p n e))
    go false e = le-ltb (16 * p) (16 * n) (omega (arith, ltb-false p n e))

room_left : (n : ℕ) → cond {A = ℕ} (leb 16 n) 14 0 ≡ cond (ltb n 16) 0 14
room_left n = go (leb 16 n) refl
  where
    go : (b : Bool) → leb 16 n ≡ b → cond {A = ℕ} b 14 0 ≡ cond (ltb n 16) 0 14
    go true e = rw (le-ltb n 16 (leb-true 16 n e))
    go false e = rw (lt-ltb n 16 (leb-false 16 n e))

-- the refusals of the open calls, by kind and all in one
by_kind : (k n : ℕ) (again own : Bool) → k ≤ 1
    → cond {A = ℕ} (eqb k 0 && again) 13 (cond (eqb k 0 && leb 16 n) 14 (cond (eqb k 1 && not (again && own)) 15 0)) ≡ cond (eqb k 0) (cond again 13 (cond (ltb n 16) 0 14)) (cond again (cond own 0 15) 15)
by_kind zero n true own h = refl
by_kind zero n false own h = room_left n
by_kind (suc zero) n true true h = refl
by_kind (suc zero) n true false h = refl
by_kind (suc zero) n false own h = refl
by_kind (suc (suc k)) n again own h = absurd (omega arith)

outer : (j k w l : Bool) (x y : ℕ) → (k ≡ true → x ≡ y) → cond j 10 (cond (not (k && w)) 11 (cond l 12 x)) ≡ cond j 10 (cond (not (k && w)) 11 (cond l 12 y))
outer true k w l x y h = refl
outer false false w l x y h = refl
outer false true true true x y h = refl
outer false true true false x y h = h refl
outer false true false l x y h = refl

refusal_forms : (p : List ℕ) (r : Running) (row : List ℕ) (e : Event) (place : ℕ)
    → refusal_by (units_in p) (programs_in p) (is_judged (verdict_in r.outcome)) r.position (ltb place r.opened) (leb 16 r.opened) (ltb place r.opened && eqb (get_or row (16 * place + 1) 0) e.unit) e ≡ refusal_in p r row (given_of e) (16 * place)
unfolding refusal_in entry_refusal exit_refusal
refusal_forms p r row e place =
    let own = eqb (get_or row (16 * place + 1) 0) e.unit in
    rw (below_sixteen place r.opened)
    (outer (is_judged (verdict_in r.outcome)) (leb e.kind 1) (ltb e.unit (units_in p) && eqb (length e.values) (programs_in p)) (eqb r.position last_position) _ _ (λ h. by_kind e.kind r.opened (ltb place r.opened) own (leb-true e.kind 1 h)))

-- words of a call are words of the row
within : (i j n : ℕ) (m : List ℕ) → i + j ≡ 16 → n ≤ j → take n (drop i (take 16 m)) ≡ take n (drop i m)
within i j n m h k = ap (λ (l : ℕ). take n (drop i (take l m))) (sym h) ∙ ap (take n) (drop_take i j m) ∙ take-take n j (drop i m) k

word_behind : (row : List ℕ) (at j : ℕ) → j < 16 → get_or (take 16 (drop at row)) j 0 ≡ get_or row (at + j) 0
word_behind row at j h = get_or-take 16 (drop at row) j 0 h ∙ get_or-drop at row j 0

abbrev state_of : ℕ → List ℕ → List Armed → ℕ → Option Verdict → State
state_of main variables calls position verdict = record { configuration = record { main = main; variables = variables }; calls = calls; position = position; verdict = verdict }

module _ (M : Machine) (last : ℕ) (s p : List ℕ) (σ : Words) (e : Event) (c : Carries M last s p) (h : Steady M.common last (shown_by M.common σ)) (long : length σ.row ≡ 256) where
  abbrev C : Common
  C = M.common

  abbrev r : Running
  r = σ.run

  abbrev P : ℕ
  P = C.programs

  abbrev k : Configuration
  k = held_by C σ

  few : σ.run.opened ≤ 16
  few = omega (arith, h.few, shown_count M.common σ)

  -- the place of the call of the event's number
  abbrev place : ℕ
  place = place_of (λ w. eqb (get_or w 0 0) e.number) (entries σ.run.opened σ.row)

  apart : distinct (map (λ (w : List ℕ). get_or w 0 0) (entries σ.run.opened σ.row)) ≡ true
  apart = shown_distinct M.common σ h.apart

  pub refusal_shown : refusal_in p σ.run σ.row (given_of e) (place_in e.number σ.run.opened σ.row) ≡ refusal M (shown_by M.common σ) e
  unfolding refusal refusals shown_by
  refusal_shown =
      let judged = is_judged (verdict_in r.outcome) in
      let calls = map (call_of P) (entries r.opened σ.row) in
      let asked = refusal_asked C judged r.position calls e _ _ _ (number_there P r.opened σ.row e place refl) (full_there P r.opened σ.row e place refl) (unit_there P r.opened σ.row e place refl apart) in
      sym (refusal_forms p r σ.row e place) ∙ rw (c.units, c.programs) (asked ∙ ap (λ (l : List Call). lowest (refusals C judged r.position l e)) (sym (shown_calls C σ)))

  module _ (z : refusal M (shown_by M.common σ) e ≡ 0) where
    free : Refusing.Free M.common (is_judged (shown_by M.common σ).verdict) (shown_by M.common σ).position (map (λ (a : Armed). a.call) (shown_by M.common σ).calls) e
    unfolding refusal
    free = Refusing.free M.common _ _ _ e z

    pub fits : Fits M.common (held_by M.common σ) e
    unfolding shown_by
    fits = record { main = h.main; unit = free.unit; kind = free.kind; values = free.values; variables = h.variables }

    pub values_lent : take (programs_in p) (eight_of e) ≡ e.values
    values_lent = ap (λ (n : ℕ). take n (eight_of e)) c.programs ∙ take_fitted 0 8 P e.values free.values c.few_programs

    pub variables_lent : take (monitors_in p) σ.variables ≡ (held_by M.common σ).variables
    variables_lent = ap (λ (n : ℕ). take n σ.variables) c.monitors

    pub lent_seen : seen_in p (eight_of e) σ.variables ≡ seen e (held_by M.common σ)
    lent_seen = λ i. environment (values_lent i) (variables_lent i) []

    abbrev to : Configuration
    to = moved C M.transitions k e

    -- what is shown after an event, for the transition that was found, the lowest number that fails and the entry of its call
    shown_after : (t : ℕ) → t ≡ found_by s p (held_by M.common σ) e → (opened low : ℕ) (o : Option ℕ) → number_in low ≡ o → (entry begun : ℕ) → entry ≡ begun → (row : List ℕ) (calls : List Armed) → map (armed_of M.common.programs) (entries opened row) ≡ calls
        → shown_by M.common (words (run_after p σ.run.position (main_after p t σ.run.main) opened low entry) row (variables_after s p t (eight_of e) σ.variables))
        ≡ state_of (moved M.common M.transitions (held_by M.common σ) e).main (moved M.common M.transitions (held_by M.common σ) e).variables calls (σ.run.position + 1)
        (verdict M.common.bad (σ.run.position + 1) (moved M.common M.transitions (held_by M.common σ) e).main o begun)
    unfolding shown_by
    shown_after t et opened low o el entry begun eb row calls ec =
        let main : main_after p t r.main ≡ to.main = ap (λ (i : ℕ). main_after p i r.main) et ∙ c.moves k e fits in
        let long : length to.variables ≡ C.monitors = moved_variables C M.transitions k e ∙ fits.variables in
        let variables : take C.monitors (variables_after s p t (eight_of e) σ.variables) ≡ to.variables =
        ap (λ (i : ℕ). take C.monitors (variables_after s p i (eight_of e) σ.variables)) et ∙ ap (take C.monitors) (c.alters k e fits σ.variables refl) ∙ take_at to.variables _ C.monitors long in
        let judged : ℕ → ℕ → Option ℕ → ℕ → Option Verdict = λ bad main t n. verdict bad (r.position + 1) main t n in
        let outcome : verdict_in (outcome_of (verdict (bad_in p) (r.position + 1) (main_after p t r.main) (number_in low) entry)) ≡ judged C.bad to.main o begun =
        verdict_outcome (verdict (bad_in p) (r.position + 1) (main_after p t r.main) (number_in low) entry) ∙ (λ i. judged (c.bad i) (main i) (el i) (eb i)) in
        λ i. state_of (main i) (variables i) (ec i) (r.position + 1) (outcome i)

    pub entered_shown : e.kind ≡ 0 → shown_by M.common (entered_in s p σ (given_of e) (eight_of e)) ≡ entered M (shown_by M.common σ) e
    unfolding entered_in entered shown_by
    entered_shown z0 =
        let cell = cell_of r.main e.unit in
        let key : 2 * cell + e.kind ≡ 2 * cell = omega (arith, z0) in
        let t = found_in s p (first_of p (2 * cell)) (seen_in p (eight_of e) σ.variables) in
        let found : t ≡ found_by s p k e = (λ i. found_in s p (first_of p (sym key i)) (lent_seen i)) in
        let l = arming M k e in
        let armed : armed_in s p (candidate_of p cell t) (seen_in p (eight_of e) σ.variables) ≡ l = (λ i. armed_in s p (candidate_of p cell (found i)) (lent_seen i)) ∙ c.arms k e fits z0 in
        let room : 16 * suc r.opened ≤ length σ.row = omega (arith, long, rw length-map at (entry_room free z0), shown_count C σ) in
        let kept : take P (eight_of e) ≡ e.values = take_fitted 0 8 P e.values free.values c.few_programs in
        let row : List ℕ → List ℕ = λ a. row_with σ.row (16 * r.opened) e.number e.unit (r.position + 1) (eight_of e) a in
        let calls : map (armed_of P) (entries (r.opened + 1) (row l)) ≡ map (armed_of P) (entries r.opened σ.row) ++ new_call e.number e.unit (r.position + 1) e.values l ∷ [] =
        calls_more P r.opened σ.row e.number e.unit (r.position + 1) (eight_of e) l room (length_fit 8 0 e.values) (c.few_arms k e) ∙ ap (λ (v : List ℕ). map (armed_of P) (entries r.opened σ.row) ++ new_call e.number e.unit (r.position + 1) v l ∷ []) kept in
        let run = run_after p r.position (main_after p t r.main) (r.opened + 1) 256 0 in
        ap (λ (a : List ℕ). shown_by C (words run (row a) (variables_after s p t (eight_of e) σ.variables))) armed ∙ shown_after t found (r.opened + 1) 256 none refl 0 0 refl (row l) _ calls

    -- at an exit
    number_open : e.kind ≡ 1 → any (of_number e.number) (shown_by M.common σ).calls ≡ true
    number_open z1 = sym (any_map (λ (d : Call). eqb d.number e.number) (λ (a : Armed). a.call) (shown_by C σ).calls) ∙ exit_open free z1

    place_shown : place_of (of_number e.number) (shown_by M.common σ).calls ≡ place_of (λ w. eqb (get_or w 0 0) e.number) (entries σ.run.opened σ.row)
    unfolding shown_by armed_of
    place_shown = place_map (of_number e.number) (armed_of P) (entries r.opened σ.row)

    pub place_open : e.kind ≡ 1 → place_of (λ w. eqb (get_or w 0 0) e.number) (entries σ.run.opened σ.row) < σ.run.opened
    place_open z1 =
        let l = (shown_by C σ).calls in
        let below = ltb-true (place_of (of_number e.number) l) (length l) (sym (any_place (of_number e.number) l) ∙ number_open z1) in
        omega (arith, below, shown_count C σ, place_shown)

    -- what is kept and armed for a call
    pub call_good : (a : Armed) → Among a (shown_by M.common σ).calls → (length a.call.kept ≡ M.common.programs) × ((i : ℕ) → Among i a.armed → i < last)
    call_good a m =
        let l = (shown_by C σ).calls in
        let good = every_among (λ (a : Armed). every (λ i. ltb i last) a.armed) l a h.there m in
        (simp eqb_iff at (every_among (λ (a : Armed). eqb (length a.call.kept) P) l a h.kept m), λ i n. ltb-true i last (every_among (λ i. ltb i last) a.armed i good n))

    -- what is armed for a call fails by the bytes as by the definition
    judged_armed : (a : Armed) → Among a (shown_by M.common σ).calls
        → number_in (least_of 256 (keep (λ n. not (holds_by s (post_of p n) (environment e.values (held_by M.common σ).variables a.call.kept))) a.armed)) ≡ least (keep (fails M (held_by M.common σ) e a.call) a.armed)
    unfolding fails
    judged_armed a m =
        let (kept, below) = call_good a m in
        let by : ℕ → Bool = λ n. not (holds_by s (post_of p n) (environment e.values k.variables a.call.kept)) in
        let is = fails M k e a.call in
        ap (λ (l : List ℕ). number_in (least_of 256 l)) (keep_same by is a.armed (λ i n. ap not (c.judges i (below i n) e.values k.variables a.call.kept free.values fits.variables kept)))
        ∙ number_least (keep is a.armed) (λ i n. omega (arith, below i (kept_passes is a.armed i n).0, c.few_last))

    -- the call at its place, by the words there
    words_there : e.kind ≡ 1 → get_or (shown_by M.common σ).calls (place_of (of_number e.number) (shown_by M.common σ).calls) no_armed
        ≡ armed_of M.common.programs (take 16 (drop (place_in e.number σ.run.opened σ.row) σ.row))
    unfolding shown_by
    words_there z1 =
        ap (λ (j : ℕ). get_or (shown_by C σ).calls j no_armed) place_shown
        ∙ image_at (armed_of P) no_armed [] (entries r.opened σ.row) place (rw (length_entries r.opened σ.row) (place_open z1))
        ∙ ap (armed_of P) (entry_at r.opened σ.row place [] (place_open z1))

    -- the call that an exit closes, by the words at its place
    pub call_there : e.kind ≡ 1 → (a : Armed) × (first (of_number e.number) (shown_by M.common σ).calls ≡ some a) × (kept_at p σ.row (place_in e.number σ.run.opened σ.row) ≡ a.call.kept)
        × (armed_at σ.row (place_in e.number σ.run.opened σ.row) ≡ a.armed)
    unfolding armed_of
    call_there z1 =
        let n = e.number in
        let l = (shown_by C σ).calls in
        let at = place_in n r.opened σ.row in
        let w = drop at σ.row in
        let a = get_or l (place_of (of_number n) l) no_armed in
        let there = words_there z1 in
        let kept : kept_at p σ.row at ≡ a.call.kept =
        ap (λ (j : ℕ). take j (take 8 (drop (at + 8) σ.row))) c.programs ∙ ap (λ (m : List ℕ). take P (take 8 m)) (sym (drop-drop 8 at σ.row)) ∙ ap (take P) (sym (within 8 8 8 w refl (omega arith))) ∙ sym (ap (λ (b : Armed). b.call.kept) there) in
        let armed : armed_at σ.row at ≡ a.armed =
        ap₂ (λ (j : ℕ) (m : List ℕ). take j (take 4 m)) (sym (word_behind σ.row at 2 (omega arith))) (sym (drop-drop 3 at σ.row)) ∙ ap (take (get_or (take 16 w) 2 0)) (sym (within 3 13 4 w refl (omega arith))) ∙ sym (ap (λ (b : Armed). b.armed) there) in
        (a, first_place (of_number n) no_armed l (number_open z1), kept, armed)

    judged_row : e.kind ≡ 1 → number_in (low_in s p σ.row (place_in e.number σ.run.opened σ.row) (take (programs_in p) (eight_of e)) (take (monitors_in p) σ.variables))
        ≡ failing M (held_by M.common σ) e (first (of_number e.number) (shown_by M.common σ).calls)
    unfolding low_in
    judged_row z1 =
        let (a, here, kept, armed) = call_there z1 in
        let low : List ℕ → List ℕ → List ℕ → List ℕ → Option ℕ = λ values variables kept armed. number_in (least_of 256 (keep (λ n. not (holds_by s (post_of p n) (environment values variables kept))) armed)) in
        (λ i. low (values_lent i) (variables_lent i) (kept i) (armed i)) ∙ judged_armed a (first_passes (of_number e.number) (shown_by C σ).calls a here).0 ∙ ap (failing M k e) (sym here)

    -- and the position of its entry
    entry_row : e.kind ≡ 1 → get_or σ.row (place_in e.number σ.run.opened σ.row + 7) 0 ≡ entry_for e.number (map (λ (a : Armed). a.call) (shown_by M.common σ).calls)
    unfolding armed_of
    entry_row z1 =
        let n = e.number in
        let l = (shown_by C σ).calls in
        let here = first_place (of_number n) no_armed l (number_open z1) in
        sym (word_behind σ.row (place_in n r.opened σ.row) 7 (omega arith))
        ∙ sym (ap (λ (b : Armed). b.call.entry) (words_there z1))
        ∙ sym (entry_found (λ (a : Armed). a.call) n l (get_or l (place_of (of_number n) l) no_armed) here)

    pub exited_shown : e.kind ≡ 1 → shown_by M.common (exited_in s p σ e.unit (place_in e.number σ.run.opened σ.row) (eight_of e)) ≡ exited M (shown_by M.common σ) e
    unfolding exited_in exited shown_by
    exited_shown z1 =
        let cell = cell_of r.main e.unit in
        let key : 2 * cell + e.kind ≡ 2 * cell + 1 = omega (arith, z1) in
        let t = found_in s p (first_of p (2 * cell + 1)) (seen_in p (eight_of e) σ.variables) in
        let found : t ≡ found_by s p k e = (λ i. found_in s p (first_of p (sym key i)) (lent_seen i)) in
        let at = place_in e.number r.opened σ.row in
        let low = low_in s p σ.row at (take (programs_in p) (eight_of e)) (take (monitors_in p) σ.variables) in
        let left = calls_fewer P e.number r.opened σ.row place refl (place_open z1) (omega (arith, long, few)) apart in
        shown_after t found (r.opened - 1) low _ (judged_row z1) _ _ (entry_row z1) (row_without σ.row at r.opened) _ left

  offered_first : cond (leb σ.run.opened 16) (refusal_in p σ.run σ.row (given_of e) (place_in e.number σ.run.opened σ.row)) 9 ≡ refusal M (shown_by M.common σ) e
  offered_first = rw (le-leb r.opened 16 few) refusal_shown

  pub offer_answer : (offer_in s p σ (given_of e) (eight_of e)).answer ≡ (offer M (shown_by M.common σ) e).answer
  unfolding offer_in offer
  offer_answer = ap (λ (n : ℕ). (offered n σ (taken_in s p σ (given_of e) (place_in e.number r.opened σ.row) (eight_of e))).answer) offered_first ∙ go (refusal M (shown_by C σ) e)
    where
      go : (n : ℕ) → (offered n σ (taken_in s p σ (given_of e) (place_in e.number σ.run.opened σ.row) (eight_of e))).answer ≡ (offered n (shown_by M.common σ) (cond (is_entry e) (entered M (shown_by M.common σ) e) (exited M (shown_by M.common σ) e))).answer
      go zero = refl
      go (suc n) = refl

  pub offer_shown : shown_by M.common (offer_in s p σ (given_of e) (eight_of e)).state ≡ (offer M (shown_by M.common σ) e).state
  unfolding offer_in offer
  offer_shown =
      ap (λ (n : ℕ). shown_by C (offered n σ (taken_in s p σ (given_of e) (place_in e.number r.opened σ.row) (eight_of e))).state) offered_first ∙ go (refusal M (shown_by C σ) e) refl (eqb e.kind 0) refl
    where
      taken : Bool → Words
      taken b = cond b (entered_in s p σ (given_of e) (eight_of e)) (exited_in s p σ e.unit (place_in e.number σ.run.opened σ.row) (eight_of e))

      go : (n : ℕ) → refusal M (shown_by M.common σ) e ≡ n → (b : Bool) → eqb e.kind 0 ≡ b
          → shown_by M.common (offered n σ (taken b)).state ≡ (offered n (shown_by M.common σ) (cond b (entered M (shown_by M.common σ) e) (exited M (shown_by M.common σ) e))).state
      go zero z true y = entered_shown z (eqb-true e.kind 0 y)
      go zero z false y = exited_shown z (omega (arith, (free z).kind, eqb-false e.kind 0 y))
      go (suc n) z b y = refl
