-- The transition that a sheet's network takes moves as the sheet does, and creates the checkers of the triples armed. Assumes nothing.
use mathlib.Core.Path.{◌≡◌, refl, sym, ap, ap₂, subst, ◌∙◌}
use mathlib.Core.Bool.{Bool, true, false, cond, ◌&&◌}
use mathlib.Core.Option.{Option, none, some}
use mathlib.Core.List.{List, [], ◌∷◌, ◌++◌, map, map-map}
use Prim.Native.Nat.{ℕ, zero, suc, ◌<◌}
use native.Mathlib.Omega.{arith}
use borrow.Author.Tests.{eqb-true, eqb-false, eq-eqb}
use lib.Dec.{eqb}
use lib.ListN.{length}
use Rattle.sheet.specs.declared.Transition.{Transition}
use Rattle.sheet.specs.declared.Triple.{Triple}
use Rattle.sheet.specs.declared.Pair.{Pair}
use Rattle.sheet.specs.Parts.{Common, Sheet, Paired, bases}
use Rattle.sheet.specs.Log.{Event}
use Rattle.sheet.proofs.Tests.{and_iff, eqb_iff}
use Rattle.step.specs.Lists.{first, keep, numbers}
use Rattle.step.specs.Meets.{meets}
use Rattle.step.specs.Moves.{Configuration, seen, enabled, after, moved}
use Rattle.step.specs.Calls.{is_entry}
use Rattle.step.proofs.OnEvents.Bridge.{no_transition, first_same}
use Rattle.step.proofs.OnLists.Keeping.{keep_same}
use Rattle.step.proofs.OnLists.Lists.{none_some, first_passes}
use Rattle.engine.proofs.MachineCarried.Carried.{image, first_image}
use Rattle.translation.specs.Translate.{pairs_from, pairs_of, copied, back, joined, added, extended, translate}
use Rattle.monitor.specs.Monitor.{arms, armed_by}
use Rattle.network.specs.declared.Checker.{Checker}
use Rattle.network.specs.Network.{pairs_in, created}
use Rattle.network.specs.Grouped.{checker}
use Rattle.agreement.proofs.Translation.Lookup.{meets_extended, acted_extended, enabled_extended, added_condition, added_action}

-- The first of lists one behind the other.
abbrev or_first : {A : Type 0} → Option A → Option A → Option A
or_first none o = o
or_first (some x) o = some x

none_parts : {A : Type 0} (o r : Option A) → or_first o r ≡ none → (o ≡ none) × (r ≡ none)
none_parts none r h = (refl, h)
none_parts (some x) r h = absurd (none_some (sym h))

module _ {A : Type 0} (p : A → Bool) where
  first_append : (l m : List A) → first p (l ++ m) ≡ or_first (first p l) (first p m)
  unfolding first
  first_append [] m = refl
  first_append (x ∷ l) m = go (p x) (first_append l m)
    where
      go : (b : Bool) → first p (l ++ m) ≡ or_first (first p l) (first p m) → cond b (some x) (first p (l ++ m)) ≡ or_first (cond b (some x) (first p l)) (first p m)
      go true h = refl
      go false h = h

  module _ (f : ℕ → List A) where
    -- what holds of the first of each list, and of none, holds of the first of them all
    first_joined : (P : Option A → Type 0) → P none → ((i : ℕ) → P (first p (f i))) → (n : ℕ) → P (first p (joined n f))
    unfolding first joined
    first_joined P z h zero = z
    first_joined P z h (suc n) = subst P (sym (first_append (joined n f) (f n))) (go (first p (joined n f)) (first_joined P z h n))
      where
        go : (o : Option A) → P o → P (or_first o (first p (f n)))
        go none a = h n
        go (some x) a = a

    -- where there is none in them all, there is none in each
    none_joined : (n i : ℕ) → i < n → first p (joined n f) ≡ none → first p (f i) ≡ none
    unfolding joined
    none_joined zero i k h = absurd (omega arith)
    none_joined (suc n) i k h = go (none_parts (first p (joined n f)) (first p (f n)) (sym (first_append (joined n f) (f n)) ∙ h)) (none_joined n i) (eqb i n) refl
      where
        go : (first p (joined n f) ≡ none) × (first p (f n) ≡ none) → (i < n → first p (joined n f) ≡ none → first p (f i) ≡ none) → (b : Bool) → eqb i n ≡ b → first p (f i) ≡ none
        go (a, c) r true e = rw (eqb-true i n e) c
        go (a, c) r false e = let other = eqb-false i n e in r (omega arith) a

module _ (S : Sheet) (k : Configuration) (e : Event) where
  abbrev C : Common
  C = S.common

  abbrev p : Paired → Bool
  p t = enabled (extended C) k e t.base

  abbrev base : Paired → Transition
  base t = t.base

  -- An added transition that is taken leads back, and has the pairs of the state held and the event's unit.
  abbrev Leads : Option Paired → Type 0
  Leads none = Unit
  Leads (some t) = (after (extended C) k e (some t.base) ≡ k) × (t.pairs ≡ pairs_of S k.main e.unit)

  back_leads : (q u : ℕ) (l : List Pair) → l ≡ pairs_of S q u → Leads (first p (back S q u l))
  unfolding first enabled
  back_leads q u [] h = tt
  back_leads q u (x ∷ l) h = go (p t) refl
    where
      t : Paired
      t = record { base = record { from = q; kind = 0; unit = u; condition = length C.conditions; action = length C.actions; to = q }; pairs = x ∷ l }

      go : (b : Bool) → p t ≡ b → Leads (cond b (some t) none)
      go true g =
          let (from, (kind, (unit, rest))) = simp and_iff at g in
          let state = eqb-true q k.main from in
          (λ i. record { main = state i; variables = added_action C (seen e k) i }, h ∙ ap₂ (pairs_of S) state (eqb-true u e.unit unit))
      go false g = tt

  added_leads : Leads (first p (added S))
  unfolding added
  added_leads = first_joined p _ Leads tt (λ q. first_joined p _ Leads tt (λ u. back_leads q u (pairs_of S q u) refl) C.units) C.states

  -- The transition taken is the sheet's, or else one that is added.
  taken : first p (translate S).transitions ≡ or_first (image (copied S) (first (enabled C k e) S.transitions)) (first p (added S))
  unfolding translate
  taken =
      let own = first_image p (copied S) S.transitions ∙ ap (image (copied S)) (first_same (enabled (extended C) k e) (enabled C k e) no_transition S.transitions (λ i m. enabled_extended C k e _)) in
      first_append p (map (copied S) S.transitions) (added S) ∙ ap (λ (o : Option Paired). or_first o (first p (added S))) own

  -- A sheet and its network move alike.
  pub moved_same : moved (translate S).common (bases (translate S)) k e ≡ moved S.common S.transitions k e
  unfolding moved translate
  moved_same =
      ap (after (extended C) k e) (first_image (enabled (extended C) k e) base (translate S).transitions ∙ ap (image base) taken)
      ∙ go (first (enabled C k e) S.transitions)
    where
      stays : (o : Option Paired) → Leads o → after (extended C) k e (image base o) ≡ k
      stays none l = refl
      stays (some t) (l, m) = l

      go : (o : Option Transition) → after (extended C) k e (image base (or_first (image (copied S) o) (first p (added S)))) ≡ after C k e o
      go none = stays (first p (added S)) added_leads
      go (some t) = ap (λ (v : List ℕ). record { main = t.to; variables = v }) (acted_extended C t.action (seen e k))

  -- The pairs whose condition holds are the triples that are armed.
  abbrev chosen : List Pair → List ℕ
  chosen m = map (λ (x : Pair). x.template) (keep (λ (x : Pair). meets C x.condition (seen e k)) m)

  pairs_numbers : (i : ℕ) (l : List Triple) → chosen (pairs_from i k.main e.unit l) ≡ numbers (arms S k e) i l
  unfolding keep numbers pairs_from arms
  pairs_numbers i [] = refl
  pairs_numbers i (t ∷ l) = go (eqb t.state k.main) (eqb t.unit e.unit) (meets C t.precondition (seen e k)) refl _ _ (pairs_numbers (suc i) l)
    where
      go : (a b c : Bool) → meets C t.precondition (seen e k) ≡ c → (rest : List Pair) (others : List ℕ) → chosen rest ≡ others
          → chosen (cond (a && b) (record { condition = t.precondition; template = i } ∷ rest) rest) ≡ cond (a && (b && c)) (i ∷ others) others
      go true true true h rest others r = rw h (ap (λ (m : List ℕ). i ∷ m) r)
      go true true false h rest others r = rw h r
      go true false c h rest others r = r
      go false b c h rest others r = r

  module _ (entry : is_entry e ≡ true) (main : k.main < S.common.states) (unit : e.unit < S.common.units) where
    is_entry_lem : e.kind ≡ 0
    is_entry_lem = eqb-true e.kind 0 entry

    -- where none is taken there are no pairs
    no_pairs : (l : List Pair) → first p (back S k.main e.unit l) ≡ none → l ≡ []
    unfolding first enabled
    no_pairs [] h = refl
    no_pairs (x ∷ l) h = absurd (none_some (sym (rw (eq-eqb k.main k.main refl, eq-eqb 0 e.kind (sym is_entry_lem), eq-eqb e.unit e.unit refl, added_condition C (seen e k)) at h)))

    taken_pairs : pairs_in (first p (translate S).transitions) ≡ pairs_of S k.main e.unit
    unfolding enabled added
    taken_pairs = ap pairs_in taken ∙ go (first (enabled C k e) S.transitions) refl
      where
        own : (t : Transition) → enabled C k e t ≡ true → cond (eqb t.kind 0) (pairs_of S t.from t.unit) [] ≡ pairs_of S k.main e.unit
        own t h =
            let (from, (kind, (unit, rest))) = simp (and_iff, eqb_iff) at h in
            rw (kind, is_entry_lem, from, unit)

        other : (o : Option Paired) → first p (added S) ≡ o → Leads o → pairs_in o ≡ pairs_of S k.main e.unit
        other none f l =
            let row = none_joined p (λ q. joined C.units (λ u. back S q u (pairs_of S q u))) C.states k.main main f in
            sym (no_pairs _ (none_joined p (λ u. back S k.main u (pairs_of S k.main u)) C.units e.unit unit row))
        other (some t) f (l, m) = m

        go : (o : Option Transition) → first (enabled C k e) S.transitions ≡ o → pairs_in (or_first (image (copied S) o) (first p (added S))) ≡ pairs_of S k.main e.unit
        go none f = other (first p (added S)) refl added_leads
        go (some t) f = own t (first_passes (enabled C k e) S.transitions t f).1

    -- so the checkers created are one for each triple armed, in triple order
    pub created_same : (position : ℕ) → created (translate S) k position e ≡ map (checker e.number position) (armed_by S k e)
    unfolding created translate armed_by
    created_same position =
        let show : List Pair → List Checker = λ l. map (λ (x : Pair). checker e.number position x.template) l in
        let holding = keep (λ (x : Pair). meets C x.condition (seen e k)) (pairs_of S k.main e.unit) in
        ap (λ (l : List Pair). show (keep (λ (x : Pair). meets (extended C) x.condition (seen e k)) l)) taken_pairs
        ∙ ap show (keep_same _ (λ (x : Pair). meets C x.condition (seen e k)) (pairs_of S k.main e.unit) (λ x m. meets_extended C x.condition (seen e k)))
        ∙ sym (map-map (checker e.number position) (λ (x : Pair). x.template) holding)
        ∙ ap (map (checker e.number position)) (pairs_numbers 0 S.triples)
