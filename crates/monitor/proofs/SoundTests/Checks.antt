-- A sound call and a sound state, from what the tests of their parts answer. Assumes nothing.
use mathlib.Core.Path.{◌≡◌, refl, sym, ap, ap₂, ◌∙◌}
use mathlib.Core.Bool.{Bool, true, false, ◌&&◌}
use mathlib.Core.List.{List, map}
use Prim.Native.Nat.{ℕ, ◌≤◌, ◌<◌, min}
use native.Mathlib.Omega.{arith}
use borrow.Author.Tests.{eq-eqb, le-leb, lt-leb, leb-true, leb-false}
use lib.Dec.{eqb, leb, ltb}
use lib.ListN.{length, get_or, take, drop, length-take, length-map}
use lib.Seq.{length-take-le, take_all}
use Rattle.sheet.specs.declared.Triple.{Triple}
use Rattle.sheet.specs.Table.{every}
use Rattle.sheet.specs.Parts.{Sheet}
use Rattle.sheet.specs.Decode.{transition_form, triple_form, last_in, last_at, common_of, sheet_of}
use Rattle.sheet.specs.Reading.{reading, sheet_layout}
use Rattle.sheet.proofs.Accepted.{Accepted, accepted, bounds}
use Rattle.sheet.proofs.Tables.{and_assoc, length_records, every_same}
use Rattle.step.specs.declared.Call.{Call}
use Rattle.step.specs.Lists.{beside, distinct, rising}
use Rattle.step.specs.Verdicts.{verdict_fits, verdict_in}
use Rattle.step.proofs.OnLists.Rooms.{tidy_calls}
use Rattle.step.specs.Padding.{clear, padded, is_zero_call}
use Rattle.monitor.specs.declared.Arms.{Arms}
use Rattle.monitor.specs.declared.sound.Tables.{Tables}
use Rattle.monitor.specs.declared.WatchState.{WatchState}
use Rattle.monitor.specs.Monitor.{Armed, triple_in}
use Rattle.monitor.specs.Sound.{of_one_state, call_sound, verdict_sound, sound}
use Rattle.monitor.specs.Padded.{unpad_armed, view, is_zero_arms, tidy_arms, tidy, sound_state}
use Rattle.monitor.specs.Walk.{tables_of, triple_at}
use Rattle.monitor.proofs.SoundTests.Triples.{triple_there}
use Rattle.monitor.proofs.States.Views.{length_beside, beside_left}
use Rattle.step.specs.Calls.{entries_sound}

-- what owning a row of structs tells of its length, for `search`
pub length_mapped : (A B : Type 0) (f : A → B) (l : List A) (n : ℕ) → length (map f l) ≡ n → length l ≡ n
length_mapped A B f l n e = sym (length-map l f) ∙ e

-- as many as there are
take_least : (n : ℕ) (l : List ℕ) → take (min n (length l)) l ≡ take n l
take_least n l = go (leb n (length l)) refl
  where
    go : (b : Bool) → leb n (length l) ≡ b → take (min n (length l)) l ≡ take n l
    go true e = let h = leb-true n (length l) e in let k : min n (length l) ≡ n = omega arith in ap (λ (j : ℕ). take j l) k
    go false e =
        let h = leb-false n (length l) e in
        let k : min n (length l) ≡ length l = omega arith in
        ap (λ (j : ℕ). take j l) k ∙ take_all (length l) l (omega arith) ∙ sym (take_all n l (omega arith))

pub triples_in : (s : List ℕ) → length (sheet_of s).triples ≡ last_in s
unfolding sheet_of
triples_in s = length_records triple_form (last_in s) (drop (last_at transition_form s) s)

-- the tests of the triples armed, on the bytes and on the sheet
module _ {s : List ℕ} (a : Accepted sheet_layout s) where
  unit_same : (unit : ℕ) (l : List ℕ)
      → every (λ i. ltb i (last_in s) && eqb (triple_at s (last_at transition_form s) i).unit unit) l ≡ every (λ i. ltb i (length (sheet_of s).triples) && eqb (triple_in (sheet_of s) i).unit unit) l
  unit_same unit l =
      every_same (λ i. ltb i (last_in s) && eqb (triple_at s (last_at transition_form s) i).unit unit) (λ i. ltb i (length (sheet_of s).triples) && eqb (triple_in (sheet_of s) i).unit unit)
      (λ i. ap₂ (λ (n : ℕ) (t : Triple). ltb i n && eqb t.unit unit) (sym (triples_in s)) (triple_there a i)) l

  state_same : (l : List ℕ) → every (λ i. eqb (triple_at s (last_at transition_form s) i).state (triple_at s (last_at transition_form s) (get_or l 0 0)).state) l ≡ of_one_state (sheet_of s) l
  state_same l =
      every_same (λ i. eqb (triple_at s (last_at transition_form s) i).state (triple_at s (last_at transition_form s) (get_or l 0 0)).state) (λ i. eqb (triple_in (sheet_of s) i).state (triple_in (sheet_of s) (get_or l 0 0)).state)
      (λ i. ap₂ (λ (t u : Triple). eqb t.state u.state) (triple_there a i) (triple_there a (get_or l 0 0))) l

-- a call with what is armed for it
pub call_is : (s : List ℕ) (t : Tables) → (reading sheet_layout s ≡ 0) × (t ≡ tables_of s) → (call : Call) (arms : Arms) → length arms.triples ≡ 4 → length call.kept ≡ 8
    → (n : ℕ) → n ≡ min arms.count 4
    → (r : Bool) → r ≡ rising (take n arms.triples)
    → (u : Bool) → u ≡ every (λ i. ltb i t.header.last && eqb (triple_at s t.triples i).unit call.unit) (take n arms.triples)
    → (o : Bool) → o ≡ every (λ i. eqb (triple_at s t.triples i).state (triple_at s t.triples (get_or (take n arms.triples) 0 0)).state) (take n arms.triples)
    → (ltb call.unit t.header.units && (r && (u && o))) ≡ call_sound (sheet_of s) (unpad_armed t.header.programs call arms)
unfolding call_sound sheet_of common_of
call_is s t (h, e) call arms long kept n f r x u y o z =
    let a = accepted sheet_layout s h in
    let P = (common_of s).programs in
    let few : P ≤ 8 = (bounds a).programs in
    let l = take arms.count arms.triples in
    let k : eqb (length (take P call.kept)) P ≡ true = eq-eqb (length (take P call.kept)) P (length-take-le P call.kept (omega arith)) in
    let m : leb (length l) 4 ≡ true = le-leb (length l) 4 (omega (arith, length-take arms.count arms.triples)) in
    let all : take n arms.triples ≡ l = ap (λ (j : ℕ). take j arms.triples) (f ∙ ap (min arms.count) (sym long)) ∙ take_least arms.count arms.triples in
    rw (x, y, z, all, e, k, m, unit_same a call.unit l, state_same a l)

between : (k z t a : Bool) → ((k && z) && (t && a)) ≡ (k && (t && (z && a)))
between true true t a = refl
between true false true a = refl
between true false false a = refl
between false z t a = refl

-- A state's zeros, and what it shows.
module _ (S : Sheet) (w : WatchState) (v : length w.variables ≡ 4) (long : length w.calls ≡ 16) (same : length w.arms ≡ 16) where
  tidy_parts : (clear S.common.monitors w.variables && ((every (λ (c : Call). padded 8 S.common.programs c.kept) (take w.opened w.calls) && every (λ (c : Call). padded 8 0 c.kept && is_zero_call c) (drop w.opened w.calls))
      && (every tidy_arms w.arms && every is_zero_arms (drop w.opened w.arms)))) ≡ tidy S w
  unfolding tidy
  tidy_parts =
      rw (tidy_calls S.common.programs w.opened w.calls, eq-eqb (length w.variables) 4 v, eq-eqb (length w.calls) 16 long, eq-eqb (length w.arms) 16 same)
      (ap (λ (b : Bool). clear S.common.monitors w.variables && b) (between (every (λ (c : Call). padded 8 S.common.programs c.kept) w.calls) (every is_zero_call (drop w.opened w.calls)) (every tidy_arms w.arms) (every is_zero_arms (drop w.opened w.arms))))

  abbrev row : List Armed
  row = beside (unpad_armed S.common.programs) (take w.opened w.calls) (take w.opened w.arms)

  sound_parts : S.common.monitors ≤ 4
      → (ltb w.main S.common.states && ((distinct (map (λ (c : Call). c.number) (take w.opened w.calls)) && (entries_sound w.position (map (λ (c : Call). c.entry) (take w.opened w.calls)) && every (call_sound S) row)) && verdict_sound S w.main w.position (verdict_in w.outcome)))
      ≡ sound S (view S w)
  unfolding sound view
  sound_parts few =
      let n = S.common.monitors in
      let e = length-take w.opened w.calls in
      let f = length-take w.opened w.arms in
      let g = length_beside (unpad_armed S.common.programs) (take w.opened w.calls) (take w.opened w.arms) (omega arith) in
      let k : eqb (length (take n w.variables)) n ≡ true = eq-eqb (length (take n w.variables)) n (length-take-le n w.variables (omega arith)) in
      let m : leb (length row) 16 ≡ true = le-leb (length row) 16 (omega (arith, g, e)) in
      let d : map (λ (a : Armed). a.call.number) row ≡ map (λ (c : Call). c.number) (take w.opened w.calls) =
      beside_left (unpad_armed S.common.programs) (λ (a : Armed). a.call.number) (λ (c : Call). c.number) (λ c a. refl) (take w.opened w.calls) (take w.opened w.arms) (omega arith) in
      let i : map (λ (a : Armed). a.call.entry) row ≡ map (λ (c : Call). c.entry) (take w.opened w.calls) =
      beside_left (unpad_armed S.common.programs) (λ (a : Armed). a.call.entry) (λ (c : Call). c.entry) (λ c a. refl) (take w.opened w.calls) (take w.opened w.arms) (omega arith) in
      let apart = distinct (map (λ (c : Call). c.number) (take w.opened w.calls)) in
      let entered = entries_sound w.position (map (λ (c : Call). c.entry) (take w.opened w.calls)) in
      let judged = verdict_sound S w.main w.position (verdict_in w.outcome) in
      rw (k, m, d, i) (ap (λ (b : Bool). ltb w.main S.common.states && b) (and_assoc apart (entered && every (call_sound S) row) judged ∙ ap (λ (b : Bool). apart && b) (and_assoc entered (every (call_sound S) row) judged)))

-- more calls than there are places for
pub sound_crowded : (S : Sheet) (w : WatchState) → 16 < w.opened → false ≡ sound_state S w
unfolding sound_state
sound_crowded S w h = rw (lt-leb w.opened 16 h) refl

-- all tests of a state
pub sound_is : (s : List ℕ) (t : Tables) → (reading sheet_layout s ≡ 0) × (t ≡ tables_of s)
    → (w : WatchState) → w.opened ≤ 16 → (length w.variables ≡ 4) × (length w.calls ≡ 16) × (length w.arms ≡ 16)
    → (calls no-calls : List Call) → calls ≡ take w.opened w.calls → no-calls ≡ drop w.opened w.calls
    → (arms no-arms : List Arms) → arms ≡ take w.opened w.arms → no-arms ≡ drop w.opened w.arms
    → (b₁ : Bool) → b₁ ≡ clear t.header.monitors w.variables
    → (b₂ : Bool) → b₂ ≡ every (λ (c : Call). padded 8 t.header.programs c.kept) calls
    → (b₃ : Bool) → b₃ ≡ every (λ (c : Call). padded 8 0 c.kept && is_zero_call c) no-calls
    → (b₄ : Bool) → b₄ ≡ every tidy_arms w.arms
    → (b₅ : Bool) → b₅ ≡ every is_zero_arms no-arms
    → (b₆ : Bool) → b₆ ≡ distinct (map (λ (c : Call). c.number) calls)
    → (b₉ : Bool) → b₉ ≡ entries_sound w.position (map (λ (c : Call). c.entry) calls)
    → (b₇ : Bool) → b₇ ≡ every (call_sound (sheet_of s)) (beside (unpad_armed t.header.programs) calls arms)
    → (b₈ : Bool) → b₈ ≡ verdict_fits t.header.bad t.header.last w.main w.position (verdict_in w.outcome)
    → ((b₁ && ((b₂ && b₃) && (b₄ && b₅))) && (ltb w.main t.header.states && ((b₆ && (b₉ && b₇)) && b₈))) ≡ sound_state (sheet_of s) w
unfolding sound_state sheet_of common_of
sound_is s t (h, e) w few (v, long, same) calls no-calls ec en arms no-arms ea em b₁ e₁ b₂ e₂ b₃ e₃ b₄ e₄ b₅ e₅ b₆ e₆ b₉ e₉ b₇ e₇ b₈ e₈ =
    let a = accepted sheet_layout s h in
    rw (← tidy_parts (sheet_of s) w v long same, ← sound_parts (sheet_of s) w v long same (bounds a).monitors, triples_in s, le-leb w.opened 16 few, e₁, e₂, e₃, e₄, e₅, e₆, e₉, e₇, e₈, ec, en, ea, em, e)
