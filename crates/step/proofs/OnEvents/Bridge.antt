-- On accepted bytes, what the operations on bytes and index answer is what the definitions of Meets and Moves say. Assumes nothing.
use mathlib.Core.Path.{◌≡◌, refl, sym, ◌∙◌}
use mathlib.Core.Bool.{Bool, true, false, ◌&&◌, false≢true}
use mathlib.Core.Option.{Option, none, some}
use mathlib.Core.List.{List, [], ◌∷◌, ◌++◌}
use Prim.Native.Nat.{ℕ, suc, ◌≤◌, ◌<◌}
use native.Mathlib.Omega.{arith}
use borrow.Author.Tests.{lt-ltb}
use lib.ListN.{length, get_or, take, drop}
use lib.Seq.{length-take-le}
use Rattle.condition.specs.declared.Lent.{Lent}
use Rattle.condition.specs.Tree.{Condition, Assignment, condition_names, action_names, is_at_entry}
use Rattle.condition.specs.Parse.{parse_condition, parse_action}
use Rattle.condition.specs.Meaning.{Environment, environment, lent, holds, performed}
use Rattle.condition.specs.Count.{condition_count, action_count}
use Rattle.condition.specs.Answer.{sized, action_sized, whether, count_in, condition_which, action_which, action_outcome, action_counted, run_outcome, run_counted, performed_on}
use Rattle.condition.proofs.Naming.{unkept, entry_narrow, action_entry_narrow}
use Rattle.sheet.specs.declared.Transition.{Transition}
use Rattle.sheet.specs.Parts.{Paired}
use Rattle.sheet.specs.Decode.{wide, text_form, transition_of, common_of}
use Rattle.sheet.specs.Reading.{Layout, lent_in, condition_in, names_entry, transitions_of, last_of}
use Rattle.sheet.proofs.Placed.{action_places, action_there}
use Rattle.sheet.proofs.Accepted.{Accepted, bounds, condition_formed, action_formed, action_entry}
use Rattle.step.specs.Lists.{first}
use Rattle.step.specs.Meets.{meets, meets_count, acted, acted_count, performed_by}
use Rattle.step.specs.Walk.{acted_at}

-- A text of the right size that parses to a tree.
record Reads (L : Lent) (t : List ℕ) (c : Condition) : Type 0 where
  fits : sized t ≡ true
  tree : parse_condition L t ≡ some c

record Runs (L : Lent) (t : List ℕ) (r : List Assignment) : Type 0 where
  fits : action_sized t ≡ true
  tree : parse_action L t ≡ some r

pub parses : {A : Type 0} (b : Bool) (x : Option A) → (b && whether x (λ _. true)) ≡ true → (a : A) × (b ≡ true) × (x ≡ some a)
parses true none e = absurd (false≢true e)
parses true (some a) e = (a, refl, refl)
parses false x e = absurd (false≢true e)

module _ (L : Lent) (t : List ℕ) where
  reads : condition_which (λ _. true) L t ≡ true → (c : Condition) × Reads L t c
  unfolding condition_which
  reads e = let (c, z, h) = parses (sized t) (parse_condition L t) e in (c, record { fits = z; tree = h })

  runs : action_which (λ _. true) L t ≡ true → (r : List Assignment) × Runs L t r
  unfolding action_which
  runs e = let (r, z, h) = parses (action_sized t) (parse_action L t) e in (r, record { fits = z; tree = h })

-- What it names, what it parses to where less is lent, what evaluation gives and counts, and what it means.
module _ {L : Lent} {t : List ℕ} {c : Condition} (g : Reads L t c) where
  named : (p : Condition → Bool) → condition_which p L t ≡ false → p c ≡ false
  unfolding condition_which
  named p h = rw (g.fits, g.tree) at h

  without_entry : condition_names c is_at_entry ≡ false → Reads (unkept L) t c
  without_entry h = record { fits = g.fits; tree = rw h at (entry_narrow L t g.tree) }

  meant : (E : Environment) → whether (parse_condition L t) (λ d. holds d E) ≡ holds c E
  meant E = rw g.tree

  counted : (E : Environment) → count_in (parse_condition L t) (λ d. condition_count d E) ≡ condition_count c E
  counted E = rw g.tree

module _ {L : Lent} {t : List ℕ} {r : List Assignment} (g : Runs L t r) where
  run_named : (p : List Assignment → Bool) → action_which p L t ≡ false → p r ≡ false
  unfolding action_which
  run_named p h = rw (g.fits, g.tree) at h

  run_without_entry : action_names r is_at_entry ≡ false → Runs (unkept L) t r
  run_without_entry h = record { fits = g.fits; tree = rw h at (action_entry_narrow L t g.tree) }

  run_outcome_lem : (E : Environment) (count : ℕ) (variables : List ℕ) → lent E ≡ L → performed_on count variables (action_outcome t E) ≡ performed r E ++ drop count variables
  unfolding action_outcome run_outcome
  run_outcome_lem E count variables h = rw (h, g.fits, g.tree)

  run_meant : (E : Environment) → performed_by (parse_action L t) E ≡ performed r E
  run_meant E = rw g.tree

  run_counted_lem : (E : Environment) → count_in (parse_action L t) (λ a. action_count a E) ≡ action_count r E
  run_counted_lem E = rw g.tree

  run_outcome_count : (E : Environment) → lent E ≡ L → action_counted t E ≡ action_count r E
  unfolding action_counted run_counted
  run_outcome_count E h = rw (h, g.fits, g.tree)

-- A condition of accepted bytes, by its number.
module _ {T R : Type 0} {F : Layout T R} {s : List ℕ} (a : Accepted F s) (few : F.conditions (wide s) ≤ 161) (i : ℕ) (h : i < length (common_of s).conditions) where
  there : (c : Condition) × Reads (lent_in (common_of s)) (condition_in (common_of s) i) c
  there = reads (lent_in (common_of s)) (condition_in (common_of s) i) (condition_formed (common_of s) a.formed i)

  -- what it parses to: for a condition that has no value-at-entry, and with everything lent
  pub guard_read : names_entry (common_of s) (condition_in (common_of s) i) ≡ false → (values variables : List ℕ) → length values ≡ (common_of s).programs → length variables ≡ (common_of s).monitors
      → (c : Condition) × (sized (condition_in (common_of s) i) ≡ true) × (parse_condition (lent (environment values variables [])) (condition_in (common_of s) i) ≡ some c)
      × (meets (common_of s) i (environment values variables []) ≡ holds c (environment values variables [])) × (meets_count (common_of s) i (environment values variables []) ≡ condition_count c (environment values variables []))
  unfolding meets meets_count
  guard_read n values variables p m =
      let (c, g) = there in
      let E = environment values variables [] in
      let l : lent E ≡ unkept (lent_in (common_of s)) = rw (p, m) in
      (c, g.fits, rw l (without_entry g (named g (λ d. condition_names d is_at_entry) n)).tree, meant g E, counted g E)

  pub full_read : (values variables kept : List ℕ) → length values ≡ (common_of s).programs → length variables ≡ (common_of s).monitors → length kept ≡ (common_of s).programs
      → (c : Condition) × (sized (condition_in (common_of s) i) ≡ true) × (parse_condition (lent (environment values variables kept)) (condition_in (common_of s) i) ≡ some c)
      × (meets (common_of s) i (environment values variables kept) ≡ holds c (environment values variables kept)) × (meets_count (common_of s) i (environment values variables kept) ≡ condition_count c (environment values variables kept))
  unfolding meets meets_count
  full_read values variables kept p m k =
      let (c, g) = there in
      let E = environment values variables kept in
      let l : lent E ≡ lent_in (common_of s) = rw (p, m, k) in
      (c, g.fits, rw l g.tree, meant g E, counted g E)

-- An action of accepted bytes, with room behind the monitor variables.
module _ {T R : Type 0} {F : Layout T R} {s : List ℕ} (a : Accepted F s) (few : F.actions ≤ 161) (i : ℕ) (h : i < length (common_of s).actions) where
  -- what it parses to; it names no value-at-entry
  run_there : (r : List Assignment) × Runs (lent_in (common_of s)) (get_or (common_of s).actions i []) r × Runs (unkept (lent_in (common_of s))) (get_or (common_of s).actions i []) r
  run_there =
      let C = common_of s in
      let (r, g) = runs (lent_in C) (get_or C.actions i []) (action_formed C a.formed i) in
      (r, g, run_without_entry g (run_named g (λ d. action_names d is_at_entry) (action_entry F C (transitions_of F s) (last_of F s) a.roled i)))

  module _ (values variables : List ℕ) (p : length values ≡ (common_of s).programs) (m : (common_of s).monitors ≤ length variables) where
    abbrev E : Environment
    E = environment values (take (common_of s).monitors variables) []

    all_lent : lent (environment values (take (common_of s).monitors variables) []) ≡ unkept (lent_in (common_of s))
    all_lent = rw (p, length-take-le (common_of s).monitors variables m)

    pub action_acts : acted_at s (action_places s) i values (common_of s).monitors variables ≡ acted (common_of s) i (environment values (take (common_of s).monitors variables) []) ++ drop (common_of s).monitors variables
    unfolding acted
    action_acts =
        let most = (bounds a).actions in
        let (r, g, u) = run_there in
        rw (lt-ltb i 161 (omega arith), action_there a i few h, run_meant g E) (run_outcome_lem u E (common_of s).monitors variables all_lent)

    pub action_counts : action_counted ((text_form false).value (drop (get_or (action_places s) i 0) s)) (environment values (take (common_of s).monitors variables) []) ≡ acted_count (common_of s) i (environment values (take (common_of s).monitors variables) [])
    unfolding acted_count
    action_counts =
        let (r, g, u) = run_there in
        rw (action_there a i few h) (run_outcome_count u E all_lent ∙ sym (run_counted_lem g E))

pub first_same : {A : Type 0} (q r : A → Bool) (d : A) (l : List A) → ((i : ℕ) → i < length l → q (get_or l i d) ≡ r (get_or l i d)) → first q l ≡ first r l
unfolding first
first_same q r d [] h = refl
first_same q r d (x ∷ l) h = rw (h 0 (omega arith), first_same q r d l (λ i k. h (suc i) (omega arith)))

pub no_transition : Transition
no_transition = transition_of []

pub no_paired : Paired
no_paired = record { base = transition_of []; pairs = [] }
