-- A plan that holds what it should of accepted bytes carries their machine. Assumes nothing.
use mathlib.Core.Path.{◌≡◌, refl, sym, ap, ap₂, subst, ◌∙◌}
use mathlib.Core.Bool.{Bool, true, false, cond, ◌&&◌}
use mathlib.Core.Option.{Option, none, some}
use mathlib.Core.List.{List, [], ◌∷◌, ◌++◌, map}
use Prim.Native.Nat.{ℕ, ◌+◌, ◌*◌, ◌≤◌, ◌<◌}
use native.Mathlib.Nat.{mod-eq_of_lt}
use native.Mathlib.Omega.{arith}
use borrow.Author.Tests.{eqb-true, eqb-false, ne_eqb, eq-eqb, lt-ltb}
use lib.Dec.{eqb}
use lib.ListN.{length, get_or, take, drop, take-append-drop, length-take, length-map, get_or-map}
use Rattle.condition.specs.Meaning.{environment}
use Rattle.sheet.specs.declared.Transition.{Transition}
use Rattle.sheet.specs.Parts.{Common}
use Rattle.sheet.specs.Decode.{wide, common_of}
use Rattle.sheet.specs.Reading.{Layout, condition_in, names_entry}
use Rattle.sheet.specs.Log.{Event}
use Rattle.sheet.proofs.Accepted.{Accepted, GoodTransition, bounds}
use Rattle.sheet.proofs.Placed.{condition_places, action_places}
use Rattle.sheet.proofs.Tables.{and_assoc}
use Rattle.step.specs.Lists.{first, keep, up_to, total, numbers}
use Rattle.step.specs.Meets.{meets, meets_count, acted, acted_count}
use Rattle.step.specs.Moves.{Configuration, seen, enabled, after, moved, tried, after_count, moved_count}
use Rattle.step.proofs.OnLists.Keeping.{among_at, keep_same, keep_map}
use Rattle.step.proofs.OnLists.Sums.{total_map, up_to_map}
use Rattle.step.proofs.OnEvents.Bridge.{no_transition, first_same, guard_read, full_read, action_acts, action_counts}
use Rattle.step.proofs.OnLists.Rooms.{take_fitted}
use Rattle.engine.specs.Plan.{programs_in, cell_of, key_of, first_of, guard_of, gap_of}
use Rattle.engine.specs.Prepared.{text_place}
use Rattle.engine.specs.Walk.{holds_by, count_by, chain, otherwise, found_in, found_count, main_after, variables_after, action_count_after, eight_of}
use Rattle.engine.specs.Showing.{Fits, found_by, found_count_by}
use Rattle.engine.proofs.MachineCarried.Numbered.{Both, first_numbered, total_tried, numbers_map, get_d_within}
use Rattle.engine.proofs.MachineCarried.Texts.{text_means, action_performs, action_counted_lem}
use Rattle.engine.proofs.Plans.Turned.{Moves}
use Rattle.engine.proofs.Plans.Planned.{Heads}

abbrev pub image : {A B : Type 0} → (A → B) → Option A → Option B
image f none = none
image f (some x) = some (f x)

pub first_image : {A B : Type 0} (p : B → Bool) (f : A → B) (l : List A) → first p (map f l) ≡ image f (first (λ x. p (f x)) l)
unfolding first
first_image p f [] = refl
first_image p f (x ∷ l) = go (p (f x)) (first_image p f l)
  where
    go : (b : Bool) → first p (map f l) ≡ image f (first (λ x. p (f x)) l) → cond b (some (f x)) (first p (map f l)) ≡ image f (cond b (some x) (first (λ x. p (f x)) l))
    go true h = refl
    go false h = h

-- a state and a unit below 16 are told by their cell
pub cell_plain : (m v : ℕ) → m < 16 → v < 16 → cell_of m v ≡ 16 * m + v
cell_plain m v h k = mod-eq_of_lt (omega arith)

pub cell_same : (f u m v : ℕ) → f < 16 → u < 16 → m < 16 → v < 16 → eqb (cell_of f u) (cell_of m v) ≡ (eqb f m && eqb u v)
cell_same f u m v hf hu hm hv = rw (cell_plain f u hf hu, cell_plain m v hm hv) (go (eqb f m) refl (eqb u v) refl)
  where
    go : (a : Bool) → eqb f m ≡ a → (b : Bool) → eqb u v ≡ b → eqb (16 * f + u) (16 * m + v) ≡ (a && b)
    go true x true y = eq-eqb (16 * f + u) (16 * m + v) (omega (arith, eqb-true f m x, eqb-true u v y))
    go true x false y = ne_eqb _ _ (λ (e : 16 * f + u ≡ 16 * m + v). eqb-false u v y (omega (arith, eqb-true f m x)))
    go false x b y = ne_eqb _ _ (λ (e : 16 * f + u ≡ 16 * m + v). eqb-false f m x (omega arith))

key_plain : (m v c : ℕ) → m < 16 → v < 16 → c ≤ 1 → key_of m v c ≡ 2 * cell_of m v + c
key_plain m v c hm hv hc = mod-eq_of_lt (omega (arith, cell_plain m v hm hv))

key_same : (f u κ m v c : ℕ) → f < 16 → u < 16 → κ ≤ 1 → m < 16 → v < 16 → c ≤ 1 → eqb (key_of f u κ) (2 * cell_of m v + c) ≡ (eqb f m && (eqb κ c && eqb u v))
key_same f u κ m v c hf hu hκ hm hv hc = rw (key_plain f u κ hf hu hκ, cell_plain f u hf hu, cell_plain m v hm hv) (go (eqb f m) refl (eqb κ c) refl (eqb u v) refl)
  where
    go : (a : Bool) → eqb f m ≡ a → (b : Bool) → eqb κ c ≡ b → (d : Bool) → eqb u v ≡ d → eqb (2 * (16 * f + u) + κ) (2 * (16 * m + v) + c) ≡ (a && (b && d))
    go true x true y true z = eq-eqb (2 * (16 * f + u) + κ) (2 * (16 * m + v) + c) (omega (arith, eqb-true f m x, eqb-true κ c y, eqb-true u v z))
    go true x true y false z = ne_eqb _ _ (λ (e : 2 * (16 * f + u) + κ ≡ 2 * (16 * m + v) + c). eqb-false u v z (omega (arith, eqb-true f m x, eqb-true κ c y)))
    go true x false y d z = ne_eqb _ _ (λ (e : 2 * (16 * f + u) + κ ≡ 2 * (16 * m + v) + c). eqb-false κ c y (omega (arith, eqb-true f m x)))
    go false x b y d z = ne_eqb _ _ (λ (e : 2 * (16 * f + u) + κ ≡ 2 * (16 * m + v) + c). eqb-false f m x (omega arith))

-- a condition with everything lent: what it means and counts at its place in the plan
pub post_means : {T R : Type 0} {F : Layout T R} {s : List ℕ} (a : Accepted F s) → length s ≤ 65535 → F.conditions (wide s) ≤ 161 → (i : ℕ) → i < length (common_of s).conditions
    → (values variables kept : List ℕ) → length values ≡ (common_of s).programs → length variables ≡ (common_of s).monitors → length kept ≡ (common_of s).programs
    → (holds_by s (text_place s (condition_places s) i) (environment values variables kept) ≡ meets (common_of s) i (environment values variables kept))
    × (count_by s (text_place s (condition_places s) i) (environment values variables kept) ≡ meets_count (common_of s) i (environment values variables kept))
post_means a short few i h values variables kept p m k =
    let (c, z, t, w, v) = full_read a few i h values variables kept p m k in
    let (x, y) = text_means a short i few h (environment values variables kept) c z t in
    (x ∙ sym w, y ∙ sym v)

module _ {T R : Type 0} {F : Layout T R} {s : List ℕ} (a : Accepted F s) (short : length s ≤ 65535) (few_conditions : F.conditions (wide s) ≤ 161) (few_actions : F.actions ≤ 161)
    (kind : ℕ) {A : Type 0} (base : A → Transition) (d : A) (p : List ℕ) (l : List A) (few : length l ≤ 96) (good : (i : ℕ) → i < length l → GoodTransition (common_of s) (base (get_or l i d))) (h : Heads (common_of s) kind p) (x : Moves s (condition_places s) (action_places s) (map base l) p)
    (k : Configuration) (e : Event) (f : Fits (common_of s) k e) where
  abbrev C : Common
  C = common_of s

  -- a condition that has no value-at-entry
  pub guard_means : (i : ℕ) → i < length (common_of s).conditions → names_entry (common_of s) (condition_in (common_of s) i) ≡ false
      → (holds_by s (text_place s (condition_places s) i) (seen e k) ≡ meets (common_of s) i (seen e k)) × (count_by s (text_place s (condition_places s) i) (seen e k) ≡ meets_count (common_of s) i (seen e k))
  guard_means i m n =
      let (c, z, t, w, v) = guard_read a few_conditions i m n e.values k.variables f.values f.variables in
      let (y, u) = text_means a short i few_conditions m (seen e k) c z t in
      (y ∙ sym w, u ∙ sym v)

  -- the transition of a record
  at_base : (i : ℕ) → i < length l → get_or (map base l) i no_transition ≡ base (get_or l i d)
  at_base i m = get_d_within (map base l) i no_transition (base d) (rw (length-map l base) m) ∙ get_or-map base l i d

  below_bases : (i : ℕ) → i < length l → i < length (map base l)
  below_bases i m = rw (length-map l base) m

  abbrev key : ℕ
  key = 2 * cell_of k.main e.unit + e.kind

  key_below : 2 * cell_of k.main e.unit + e.kind < 512
  key_below = omega (arith, cell_plain k.main e.unit (omega (arith, f.main, (bounds a).states)) (omega (arith, f.unit, (bounds a).units)), f.main, (bounds a).states, f.unit, (bounds a).units, f.kind)

  -- of each transition: what its condition means and counts, and the test of its key
  guard_same : (i : ℕ) → i < length l
      → (holds_by s (guard_of p i) (seen e k) ≡ meets (common_of s) (base (get_or l i d)).condition (seen e k)) × (count_by s (guard_of p i) (seen e k) ≡ meets_count (common_of s) (base (get_or l i d)).condition (seen e k))
  guard_same i m =
      let place = x.guard i no_transition (below_bases i m) ∙ ap (λ (t : Transition). text_place s (condition_places s) t.condition) (at_base i m) in
      let (y, u) = guard_means (base (get_or l i d)).condition (good i m).condition (good i m).no_entry in
      (ap (λ (n : ℕ). holds_by s n (seen e k)) place ∙ y, ap (λ (n : ℕ). count_by s n (seen e k)) place ∙ u)

  key_test : (i : ℕ) → i < length l → eqb (key_of (base (get_or l i d)).from (base (get_or l i d)).unit (base (get_or l i d)).kind) (2 * cell_of k.main e.unit + e.kind)
      ≡ (eqb (base (get_or l i d)).from k.main && (eqb (base (get_or l i d)).kind e.kind && eqb (base (get_or l i d)).unit e.unit))
  key_test i m =
      let t = base (get_or l i d) in
      let r = good i m in
      key_same t.from t.unit t.kind k.main e.unit e.kind (omega (arith, r.from, (bounds a).states)) (omega (arith, r.unit, (bounds a).units)) r.kind (omega (arith, f.main, (bounds a).states)) (omega (arith, f.unit, (bounds a).units)) f.kind

  -- the numbers that the plan looks through are those of the key
  keyed_numbers : chain (gap_of p) 96 96 (first_of p (2 * cell_of k.main e.unit + e.kind)) ≡ numbers (λ y. eqb (key_of (base y).from (base y).unit (base y).kind) (2 * cell_of k.main e.unit + e.kind)) 0 l
  keyed_numbers = x.keyed key key_below ∙ numbers_map (λ (t : Transition). eqb (key_of t.from t.unit t.kind) key) base 0 l

  -- the number that the plan finds is that of the first transition that can be taken
  pub found_both : Both d l (first (λ i. holds_by s (guard_of p i) (seen e k)) (chain (gap_of p) 96 96 (first_of p (2 * cell_of k.main e.unit + e.kind)))) (first (λ y. enabled (common_of s) k e (base y)) l)
  unfolding enabled
  found_both =
      let κ : A → Bool = λ y. eqb (key_of (base y).from (base y).unit (base y).kind) key in
      let q : A → Bool = λ y. meets C (base y).condition (seen e k) in
      let g : ℕ → Bool = λ i. holds_by s (guard_of p i) (seen e k) in
      let both = first_numbered d l κ q g (λ i m. (guard_same i m).0) in
      let tests = first_same (λ y. κ y && q y) (λ y. enabled C k e (base y)) d l (λ i m.
      let t = base (get_or l i d) in
      ap (λ (b : Bool). b && q (get_or l i d)) (key_test i m) ∙ and_assoc (eqb t.from k.main) _ _ ∙ ap (λ (b : Bool). eqb t.from k.main && b) (and_assoc (eqb t.kind e.kind) _ _)) in
      subst (λ (o : Option A). Both d l (first g (chain (gap_of p) 96 96 (first_of p key))) o) tests (subst (λ (n : List ℕ). Both d l (first g n) (first (λ y. κ y && q y) l)) (sym keyed_numbers) both)

  -- the values and variables that its action sees
  values_lent : take (programs_in p) (eight_of e) ≡ e.values
  values_lent = ap (λ (j : ℕ). take j (eight_of e)) h.programs ∙ take_fitted 0 8 C.programs e.values f.values (bounds a).programs

  long : (variables : List ℕ) → take (common_of s).monitors variables ≡ k.variables → (common_of s).monitors ≤ length variables
  long variables v = omega (arith, length-take C.monitors variables, ap length v, f.variables)

  -- and it is taken as the definition says
  module _ (ts : List Transition) (whole : ts ≡ map base l) where
    those : first (enabled (common_of s) k e) ts ≡ image base (first (λ y. enabled (common_of s) k e (base y)) l)
    those = ap (first (enabled C k e)) whole ∙ first_image (enabled C k e) base l

    pub moves_main : main_after p (found_by s p k e) k.main ≡ (moved (common_of s) ts k e).main
    unfolding found_in moved
    moves_main = go (first (λ i. holds_by s (guard_of p i) (seen e k)) (chain (gap_of p) 96 96 (first_of p key))) (first (λ y. enabled C k e (base y)) l) found_both ∙ ap (λ (o : Option Transition). (after C k e o).main) (sym those)
      where
        go : (n : Option ℕ) (o : Option A) → Both d l n o → main_after p (otherwise 96 n) k.main ≡ (after (common_of s) k e (image base o)).main
        go none none b = refl
        go none (some y) b = absurd b
        go (some n) none b = absurd b
        go (some n) (some y) b =
            let to = ap (λ (z : A). (base z).to) b.1 in
            rw (lt-ltb n 96 (omega (arith, b.0, few)), x.target n no_transition (below_bases n b.0), at_base n b.0, to) (mod-eq_of_lt (omega (arith, to, (good n b.0).to, (bounds a).states)))

    pub moves_variables : (variables : List ℕ) → take (common_of s).monitors variables ≡ k.variables → variables_after s p (found_by s p k e) (eight_of e) variables ≡ (moved (common_of s) ts k e).variables ++ drop (common_of s).monitors variables
    unfolding found_in moved
    moves_variables variables v =
        go (first (λ i. holds_by s (guard_of p i) (seen e k)) (chain (gap_of p) 96 96 (first_of p key))) (first (λ y. enabled C k e (base y)) l) found_both ∙ ap (λ (o : Option Transition). (after C k e o).variables ++ drop C.monitors variables) (sym those)
      where
        go : (n : Option ℕ) (o : Option A) → Both d l n o → variables_after s p (otherwise 96 n) (eight_of e) variables ≡ (after (common_of s) k e (image base o)).variables ++ drop (common_of s).monitors variables
        go none none b = sym (ap (λ (m : List ℕ). m ++ drop C.monitors variables) (sym v) ∙ take-append-drop C.monitors variables)
        go none (some y) b = absurd b
        go (some n) none b = absurd b
        go (some n) (some y) b =
            let q = good n b.0 in
            let t = base (get_or l n d) in
            rw (lt-ltb n 96 (omega (arith, b.0, few)), x.action n no_transition (below_bases n b.0), at_base n b.0, values_lent, h.monitors)
            (action_performs a short t.action few_actions q.action e.values C.monitors variables
            ∙ action_acts a few_actions t.action q.action e.values variables f.values (long variables v)
            ∙ (λ i. acted C (base (b.1 i)).action (environment e.values (v i) []) ++ drop C.monitors variables))

    -- as much is evaluated until it is found as the definition tries
    found_count_lem : found_count_by s p k e ≡ total (λ (t : Transition). meets_count (common_of s) t.condition (seen e k)) (tried (common_of s) ts k e)
    unfolding found_count tried
    found_count_lem =
        let κ : A → Bool = λ y. eqb (key_of (base y).from (base y).unit (base y).kind) key in
        let κ' : Transition → Bool = λ t. eqb t.from k.main && (eqb t.kind e.kind && eqb t.unit e.unit) in
        let q : Transition → Bool = λ t. meets C t.condition (seen e k) in
        let n : Transition → ℕ = λ t. meets_count C t.condition (seen e k) in
        let g : ℕ → Bool = λ i. holds_by s (guard_of p i) (seen e k) in
        let m : ℕ → ℕ = λ i. count_by s (guard_of p i) (seen e k) in
        let same : keep κ l ≡ keep (λ y. κ' (base y)) l = keep_same κ (λ y. κ' (base y)) l (λ y h. let (i, j, z) = among_at d l y h in subst (λ (w : A). κ w ≡ κ' (base w)) z (key_test i j)) in
        ap (λ (r : List ℕ). total m (up_to g r)) keyed_numbers
        ∙ total_tried d l κ m (λ y. n (base y)) (λ i j. (guard_same i j).1) (λ y. q (base y)) g (λ i j. (guard_same i j).0)
        ∙ ap (λ (r : List A). total (λ y. n (base y)) (up_to (λ y. q (base y)) r)) same
        ∙ sym (total_map base n (up_to (λ y. q (base y)) (keep (λ y. κ' (base y)) l)))
        ∙ ap (total n) (sym (up_to_map base q (keep (λ y. κ' (base y)) l)))
        ∙ ap (λ (r : List Transition). total n (up_to q r)) (sym (keep_map κ' base l) ∙ ap (keep κ') (sym whole))

    module _ (variables : List ℕ) (v : take (common_of s).monitors variables ≡ k.variables) where
      action_count_lem : action_count_after s p (found_by s p k e) (eight_of e) variables ≡ after_count (common_of s) k e (first (enabled (common_of s) k e) ts)
      unfolding found_in
      action_count_lem =
          go (first (λ i. holds_by s (guard_of p i) (seen e k)) (chain (gap_of p) 96 96 (first_of p key))) (first (λ y. enabled C k e (base y)) l) found_both ∙ ap (after_count C k e) (sym those)
        where
          go : (n : Option ℕ) (o : Option A) → Both d l n o → action_count_after s p (otherwise 96 n) (eight_of e) variables ≡ after_count (common_of s) k e (image base o)
          go none none b = refl
          go none (some y) b = absurd b
          go (some n) none b = absurd b
          go (some n) (some y) b =
              let t = base (get_or l n d) in
              rw (lt-ltb n 96 (omega (arith, b.0, few)), x.action n no_transition (below_bases n b.0), at_base n b.0, values_lent, h.monitors)
              (action_counted_lem a short t.action few_actions (good n b.0).action e.values C.monitors variables
              ∙ action_counts a few_actions t.action (good n b.0).action e.values variables f.values (long variables v)
              ∙ (λ i. acted_count C (base (b.1 i)).action (environment e.values (v i) [])))

      pub moves_count : found_count_by s p k e + action_count_after s p (found_by s p k e) (eight_of e) variables ≡ moved_count (common_of s) ts k e
      unfolding moved_count
      moves_count = ap₂ (λ (m n : ℕ). m + n) found_count_lem action_count_lem
