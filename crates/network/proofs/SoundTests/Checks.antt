-- A sound state, from what the tests of its parts answer. Assumes nothing.
use mathlib.Core.Path.{◌≡◌, refl, sym, ap, ap₂, ◌∙◌}
use mathlib.Core.Logic.{inl, inr}
use mathlib.Core.Bool.{Bool, true, false, ◌&&◌}
use mathlib.Core.List.{List, [], ◌∷◌, map, map-map}
use Prim.Native.Nat.{ℕ, ◌≤◌, ◌<◌}
use native.Mathlib.Omega.{arith}
use borrow.Author.Tests.{eq-eqb, le-leb, lt-leb}
use lib.Dec.{eqb, leb, ltb}
use lib.ListN.{length, take, drop, length-take, length-map}
use lib.Seq.{length-take-le}
use Rattle.sheet.specs.declared.Template.{Template}
use Rattle.sheet.specs.Table.{every}
use Rattle.sheet.specs.Parts.{Network}
use Rattle.sheet.specs.Decode.{paired_form, last_in, last_at, common_of, network_of}
use Rattle.sheet.specs.Reading.{reading, network_layout}
use Rattle.sheet.proofs.Accepted.{Accepted, accepted, bounds}
use Rattle.sheet.proofs.Tables.{and_assoc, and_true, every_map, every_same}
use Rattle.sheet.proofs.Tests.{and_iff, eqb_iff}
use Rattle.step.specs.declared.Call.{Call}
use Rattle.step.specs.Lists.{Among, any, keep, distinct, place_of}
use Rattle.step.specs.Calls as Calls
use Rattle.step.specs.Calls.{entries_sound}
use Rattle.step.specs.Verdicts.{verdict_fits, verdict_in}
use Rattle.step.specs.Padding.{unpad, clear, padded, is_zero_call}
use Rattle.step.proofs.OnLists.Rooms.{tidy_calls, every_take}
use Rattle.step.proofs.OnLists.Lists.{any_map}
use Rattle.step.proofs.OnLists.Keeping.{every_among, place_map}
use Rattle.network.specs.declared.Checker.{Checker}
use Rattle.network.specs.declared.NetworkState.{NetworkState}
use Rattle.network.specs.declared.sound.Tables.{Tables}
use Rattle.network.specs.Network.{template_in, bound_to, of_number}
use Rattle.network.specs.Sound.{call_sound, on_call, entry_of_call, four_acall, never_falls, in_order, checkers_sound, sound}
use Rattle.network.specs.Padded.{view, is_zero_checker, tidy, sound_state}
use Rattle.network.specs.Walk.{tables_of, on_call_at, carried_in}
use Rattle.network.proofs.States.Ordering.{images_same}
use Rattle.network.proofs.SoundTests.Templates.{templates_in, template_there}

-- tests that agree on a list's elements
pub every_alike : {A : Type 0} (p q : A → Bool) (l : List A) → ((x : A) → Among x l → p x ≡ q x) → every p l ≡ every q l
unfolding every
every_alike p q [] h = refl
every_alike p q (x ∷ l) h = ap₂ ◌&&◌ (h x (inl refl)) (every_alike p q l (λ y m. h y (inr m)))

-- behind a test, what it gives may be taken as given
behind : (t x y : Bool) → (t ≡ true → x ≡ y) → (t && x) ≡ (t && y)
behind true x y h = h refl
behind false x y h = refl

-- The tests of the rows as they stand in the arrays, and of what they show.
module _ (N : Network) (calls : List Call) where
  units_same : N.common.programs ≤ 8 → every (λ (c : Call). padded 8 N.common.programs c.kept) calls ≡ true
      → every (λ (c : Call). ltb c.unit N.common.units) calls ≡ every (call_sound N) (map (unpad N.common.programs) calls)
  unfolding call_sound
  units_same few h =
      let P = N.common.programs in
      let p : Call → Bool = λ c. padded 8 P c.kept in
      every_alike (λ (c : Call). ltb c.unit N.common.units) (λ c. call_sound N (unpad P c)) calls (λ c m.
      let (e, z) = simp (and_iff, eqb_iff) at (every_among p calls c h m) in
      rw (eq-eqb (length (take P c.kept)) P (length-take-le P c.kept (omega arith))) (sym (and_true (ltb c.unit N.common.units))))
      ∙ sym (every_map (call_sound N) (unpad P) calls)

  module _ (l : List Checker) where
    four_same : every (λ (c : Call). leb (length (keep (bound_to c.number) l)) 4) calls ≡ four_acall (map (unpad N.common.programs) calls) l
    unfolding four_acall
    four_same = sym (every_map (λ (c : Calls.Call). leb (length (keep (bound_to c.number) l)) 4) (unpad N.common.programs) calls)

    order_same : never_falls 0 (map (λ (h : Checker). place_of (λ (c : Call). eqb c.number h.number) calls) l) ≡ in_order (map (unpad N.common.programs) calls) l
    unfolding in_order
    order_same =
        ap (never_falls 0) (images_same (λ (h : Checker). place_of (λ (c : Call). eqb c.number h.number) calls) (λ (h : Checker). place_of (of_number h.number) (map (unpad N.common.programs) calls)) l
        (λ h m. sym (place_map (of_number h.number) (unpad N.common.programs) calls)))

-- what a checker carries is its call's, whatever the calls keep
carried_same : (P : ℕ) (calls : List Call) (l : List Checker) → every (carried_in calls) l ≡ every (entry_of_call (map (unpad P) calls)) l
unfolding entry_of_call
carried_same P calls l =
    every_same (carried_in calls) (entry_of_call (map (unpad P) calls)) (λ h. sym (any_map (λ (c : Calls.Call). eqb c.number h.number && eqb c.entry h.entry) (unpad P) calls)) l

on_same : {s : List ℕ} → Accepted network_layout s → (P : ℕ) (calls : List Call) (l : List Checker)
    → every (on_call_at s (last_at paired_form s) (last_in s) calls) l ≡ every (on_call (network_of s) (map (unpad P) calls)) l
unfolding on_call
on_same {s} a P calls l =
    every_same (on_call_at s (last_at paired_form s) (last_in s) calls) (on_call (network_of s) (map (unpad P) calls)) (λ h.
    ap₂ (λ (n : ℕ) (t : Template). ltb h.template n && any (λ (c : Call). eqb c.number h.number && eqb c.unit t.unit) calls) (sym (templates_in s)) (template_there a h.template)
    ∙ ap (λ (b : Bool). ltb h.template (length (network_of s).templates) && b) (sym (any_map (λ (c : Calls.Call). eqb c.number h.number && eqb c.unit (template_in (network_of s) h.template).unit) (unpad P) calls))) l

-- A state's zeros, and what it shows.
module _ (N : Network) (w : NetworkState) (v : length w.variables ≡ 4) (long : length w.calls ≡ 16) (many : length w.checkers ≡ 64) where
  tidy_parts : (clear N.common.monitors w.variables && ((every (λ (c : Call). padded 8 N.common.programs c.kept) (take w.opened w.calls) && every (λ (c : Call). padded 8 0 c.kept && is_zero_call c) (drop w.opened w.calls))
      && every is_zero_checker (drop w.living w.checkers))) ≡ tidy N w
  unfolding tidy
  tidy_parts =
      rw (tidy_calls N.common.programs w.opened w.calls, eq-eqb (length w.variables) 4 v, eq-eqb (length w.calls) 16 long, eq-eqb (length w.checkers) 64 many)
      (ap (λ (b : Bool). clear N.common.monitors w.variables && b) (and_assoc (every (λ (c : Call). padded 8 N.common.programs c.kept) w.calls) (every is_zero_call (drop w.opened w.calls)) (every is_zero_checker (drop w.living w.checkers))))

  kept_long : tidy N w ≡ true → every (λ (c : Call). padded 8 N.common.programs c.kept) (take w.opened w.calls) ≡ true
  unfolding tidy
  kept_long h =
      let (x, (y, (z, (k, r)))) = simp and_iff at h in
      every_take (λ (c : Call). padded 8 N.common.programs c.kept) w.opened w.calls k

  abbrev row : List Call
  row = take w.opened w.calls

  abbrev living : List Checker
  living = take w.living w.checkers

  sound_parts : (count : ℕ) → count ≡ length N.templates → N.common.monitors ≤ 4 → N.common.programs ≤ 8 → tidy N w ≡ true
      → (ltb w.main N.common.states && ((distinct (map (λ (c : Call). c.number) row) && (entries_sound w.position (map (λ (c : Call). c.entry) row) && every (λ (c : Call). ltb c.unit N.common.units) row))
      && ((every (on_call N (map (unpad N.common.programs) row)) living && (every (carried_in row) living
      && (every (λ (c : Call). leb (length (keep (bound_to c.number) living)) 4) row && never_falls 0 (map (λ (h : Checker). place_of (λ (c : Call). eqb c.number h.number) row) living))))
      && verdict_fits N.common.bad count w.main w.position (verdict_in w.outcome))))
      ≡ sound N (view N w)
  unfolding sound view
  sound_parts count c few fewer h =
      let n = N.common.monitors in
      let P = N.common.programs in
      let k : eqb (length (take n w.variables)) n ≡ true = eq-eqb (length (take n w.variables)) n (length-take-le n w.variables (omega arith)) in
      let m : leb (length (map (unpad P) row)) 16 ≡ true = le-leb (length (map (unpad P) row)) 16 (omega (arith, length-map row (unpad P), length-take w.opened w.calls)) in
      let d : map (λ (c : Calls.Call). c.number) (map (unpad P) row) ≡ map (λ (c : Call). c.number) row = map-map (λ (c : Calls.Call). c.number) (unpad P) row in
      let entered : map (λ (c : Calls.Call). c.entry) (map (unpad P) row) ≡ map (λ (c : Call). c.entry) row = map-map (λ (c : Calls.Call). c.entry) (unpad P) row in
      rw (c, k, m, d, entered, units_same N row fewer (kept_long h), carried_same P row living, four_same N row living, order_same N row living)
      (ap (λ (b : Bool). ltb w.main N.common.states && b) (apart (distinct (map (λ (c : Call). c.number) row)) (entries_sound w.position (map (λ (c : Call). c.entry) row)) (every (call_sound N) (map (unpad P) row)) (checkers_sound N (map (unpad P) row) living && verdict_fits N.common.bad (length N.templates) w.main w.position (verdict_in w.outcome))))
    where
      apart : (a b c d : Bool) → ((a && (b && c)) && d) ≡ (a && (b && (c && d)))
      apart a b c d = and_assoc a (b && c) d ∙ ap (λ (x : Bool). a && x) (and_assoc b c d)

-- more calls, or more checkers, than there are places for
pub sound_crowded : (N : Network) (w : NetworkState) → 16 < w.opened → false ≡ sound_state N w
unfolding sound_state
sound_crowded N w h = rw (lt-leb w.opened 16 h) refl

pub sound_overrun : (N : Network) (w : NetworkState) → 64 < w.living → false ≡ sound_state N w
unfolding sound_state
sound_overrun N w h = rw (lt-leb w.living 64 h) (go (leb w.opened 16))
  where
    go : (b : Bool) → false ≡ (b && false)
    go true = refl
    go false = refl

-- all tests of a state
pub sound_is : (s : List ℕ) (t : Tables) → (reading network_layout s ≡ 0) × (t ≡ tables_of s)
    → (w : NetworkState) → w.opened ≤ 16 → w.living ≤ 64 → (length w.variables ≡ 4) × (length w.calls ≡ 16) × (length w.checkers ≡ 64)
    → (calls no-calls : List Call) → calls ≡ take w.opened w.calls → no-calls ≡ drop w.opened w.calls
    → (checkers no-checkers : List Checker) → checkers ≡ take w.living w.checkers → no-checkers ≡ drop w.living w.checkers
    → (m p : ℕ) → m ≡ t.header.monitors → p ≡ t.header.programs
    → (b₁ : Bool) → b₁ ≡ clear m w.variables
    → (b₂ : Bool) → b₂ ≡ every (λ (c : Call). padded 8 p c.kept) calls
    → (b₃ : Bool) → b₃ ≡ every (λ (c : Call). padded 8 0 c.kept && is_zero_call c) no-calls
    → (b₄ : Bool) → b₄ ≡ every is_zero_checker no-checkers
    → (b₅ : Bool) → b₅ ≡ distinct (map (λ (c : Call). c.number) calls)
    → (b₆ : Bool) → b₆ ≡ entries_sound w.position (map (λ (c : Call). c.entry) calls)
    → (b₇ : Bool) → b₇ ≡ every (λ (c : Call). ltb c.unit t.header.units) calls
    → (b₈ : Bool) → b₈ ≡ every (on_call_at s t.templates t.header.last calls) checkers
    → (b₉ : Bool) → b₉ ≡ every (carried_in calls) checkers
    → (b₁₀ : Bool) → b₁₀ ≡ every (λ (c : Call). leb (length (keep (λ (h : Checker). eqb h.number c.number) checkers)) 4) calls
    → (b₁₁ : Bool) → b₁₁ ≡ never_falls 0 (map (λ (h : Checker). place_of (λ (c : Call). eqb c.number h.number) calls) checkers)
    → (b₁₂ : Bool) → b₁₂ ≡ verdict_fits t.header.bad t.header.last w.main w.position (verdict_in w.outcome)
    → ((b₁ && ((b₂ && b₃) && b₄)) && (ltb w.main t.header.states && ((b₅ && (b₆ && b₇)) && ((b₈ && (b₉ && (b₁₀ && b₁₁))) && b₁₂)))) ≡ sound_state (network_of s) w
unfolding sound_state network_of common_of
sound_is s t (h, e) w few fewer (v, long, many) calls no-calls ec en checkers no-checkers eh em m p im ip b₁ e₁ b₂ e₂ b₃ e₃ b₄ e₄ b₅ e₅ b₆ e₆ b₇ e₇ b₈ e₈ b₉ e₉ b₁₀ e₁₀ b₁₁ e₁₁ b₁₂ e₁₂ =
    let a = accepted network_layout s h in
    let N = network_of s in
    rw (e₁, e₂, e₃, e₄, e₅, e₆, e₇, e₈, e₉, e₁₀, e₁₁, e₁₂, ec, en, eh, em, im, ip, e, on_same a N.common.programs (take w.opened w.calls) (take w.living w.checkers), tidy_parts N w v long many, le-leb w.opened 16 few, le-leb w.living 64 fewer)
    (behind (tidy N w) _ (sound N (view N w)) (sound_parts N w v long many (last_in s) (sym (templates_in s)) (bounds a).monitors (bounds a).programs))
