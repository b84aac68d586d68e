-- What holds of the bytes of an accepted sheet or network. Assumes nothing.
use mathlib.Core.Path.{◌≡◌, refl, sym}
use mathlib.Core.Bool.{Bool, true, false, not, false≢true}
use mathlib.Core.Logic.{◌↔◌}
use mathlib.Core.List.{List, [], ◌∷◌}
use Prim.Native.Nat.{ℕ, ◌/◌, ◌^◌, ◌≤◌, ◌<◌}
use lib.Dec.{leb, eqb}
use borrow.Author.Tests.{leb-true, eqb-false, not-true}
use lib.ListN.{length, drop, get_or}
use Rattle.condition.specs.Tree.{action_names, is_at_entry}
use Rattle.condition.specs.Parse.{condition_from, parse_condition, condition_operator, run_from, parse_action}
use Rattle.condition.specs.Answer.{condition_which, action_which}
use Rattle.sheet.specs.declared.Transition.{Transition}
use Rattle.sheet.specs.declared.Triple.{Triple}
use Rattle.sheet.specs.declared.Pair.{Pair}
use Rattle.sheet.specs.declared.Template.{Template}
use Rattle.sheet.specs.Bytes.{byte, half}
use Rattle.sheet.specs.Table.{table, after, every}
use Rattle.sheet.specs.Parts.{Common, Paired}
use Rattle.sheet.specs.Decode.{wide, word_form, length_form, pair_form, paired_form, pair_count_form, conditions_in, actions_in, transitions_in, last_in, conditions_at, actions_at, transitions_at, last_at, common_of}
use Rattle.sheet.specs.Reading.{Layout, guard, precondition, between, is_bad, most_bytes, lent_in, condition_in, whole, counted, tabled, formed, names_entry, names_monitor, used_well, roled, ranged, unless, transitions_of, last_of, reading, counts_of, transition_ranged, triple_ranged, together, sheet_layout, no_template, pair_ranged, template_ranged, network_layout}
use Rattle.sheet.proofs.Tables.{length_records, same_records, every_at, every_or, every_map}
use Rattle.sheet.proofs.Tests.{and_iff, leb_iff, eqb_iff, not_iff}

-- No refusal applies.
pub record Accepted {T R : Type 0} (F : Layout T R) (s : List ℕ) : Type 0 where
  pub whole : whole s ≡ true
  pub version : F.version (byte s 2) ≡ true
  pub counted : counted F s ≡ true
  pub tabled : tabled F s ≡ true
  pub formed : formed (common_of s) ≡ true
  pub ranged : ranged F (common_of s) (transitions_of F s) (last_of F s) ≡ true
  pub roled : roled F (common_of s) (transitions_of F s) (last_of F s) ≡ true
  pub spread : F.spread (last_of F s) ≡ true

pub unless_iff : (b : Bool) (n rest : ℕ) → eqb n 0 ≡ false → unless b n rest ≡ 0 ↔ (b ≡ true) × (rest ≡ 0)
unless_iff true n rest h = (λ e. (refl, e), λ p. p.1)
unless_iff false n rest h = (λ e. absurd (eqb-false n 0 h e), λ p. absurd (false≢true p.0))

module _ {T R : Type 0} (F : Layout T R) (s : List ℕ) where
  pub accepted : reading F s ≡ 0 → Accepted F s
  unfolding reading
  accepted h =
      let (a, (b, (c, (d, (e, (f, (g, (k, z)))))))) = simp unless_iff at h in
      record { whole = a; version = b; counted = c; tabled = d; formed = e; ranged = f; roled = g; spread = k }

  pub reading_accepted : Accepted F s → reading F s ≡ 0
  unfolding reading
  reading_accepted a = rw (a.whole, a.version, a.counted, a.tabled, a.formed, a.ranged, a.roled, a.spread)

-- 3, of what the bytes stand for: the common part, the transitions and the last table's records.
pub record Bounds {T R : Type 0} (F : Layout T R) (w : Bool) (C : Common) (ts : List T) (rs : List R) : Type 0 where
  pub some_state : 1 ≤ C.states
  pub states : C.states ≤ 16
  pub some_unit : 1 ≤ C.units
  pub units : C.units ≤ 16
  pub programs : C.programs ≤ 8
  pub monitors : C.monitors ≤ 4
  pub initial : length C.initial ≡ C.monitors
  pub conditions : length C.conditions ≤ F.conditions w
  pub actions : length C.actions ≤ F.actions
  pub transitions : length ts ≤ F.transitions
  pub last : length rs ≤ 32
  pub start : C.start < C.states
  pub bad : C.bad / 2 ^ C.states ≡ 0
  pub start_good : is_bad C.bad C.start ≡ false

module _ {T R : Type 0} {F : Layout T R} {s : List ℕ} (a : Accepted F s) where
  -- 1: "the length" is "the slice's"
  pub length_said : length s ≡ half s 0
  unfolding whole
  length_said = sym (simp (and_iff, eqb_iff) at a.whole).1

  pub length_least : 14 ≤ length s
  unfolding whole
  length_least = (simp (and_iff, leb_iff) at a.whole).0

  pub bounds : Bounds F (wide s) (common_of s) (transitions_of F s) (last_of F s)
  unfolding counted common_of
  bounds =
      let ((q, q'), ((u, u'), (p, (v, (c, (t, (n, (l, (b, (d, g)))))))))) = simp (and_iff, leb_iff, eqb_iff, not_iff) at a.counted in
      record {
        some_state = q;
        states = q';
        some_unit = u;
        units = u';
        programs = p;
        monitors = v;
        initial = length_records word_form (byte s 6) _;
        conditions = rw length_records c;
        actions = rw length_records t;
        transitions = rw length_records n;
        last = rw length_records l;
        start = b;
        bad = d;
        start_good = g;
      }

  -- 4: the length bytes, how many pairs there are, and where the tables end
  pub condition_lengths_lem : every (between 1 (most_bytes (wide s))) (table (length_form (wide s)) (conditions_in s) s (conditions_at s)) ≡ true
  unfolding tabled
  condition_lengths_lem = (simp and_iff at a.tabled).0

  pub action_lengths_lem : every (between 0 (most_bytes false)) (table (length_form false) (actions_in s) s (actions_at s)) ≡ true
  unfolding tabled
  action_lengths_lem = (simp and_iff at a.tabled).1.0

  pub pair_counts_lem : every (between 0 4) (table F.pair_counts (transitions_in s) s (transitions_at s)) ≡ true
  unfolding tabled
  pair_counts_lem = (simp and_iff at a.tabled).1.1.0

  pub tables_end : after F.last (last_in s) s (last_at F.transition s) ≡ length s
  unfolding tabled
  tables_end = (simp (and_iff, eqb_iff) at a.tabled).1.1.1

-- 5, by number: past the last one stand `true` and the empty action.
module _ (C : Common) (h : formed C ≡ true) where
  pub condition_formed : (i : ℕ) → condition_which (λ _. true) (lent_in C) (condition_in C i) ≡ true
  unfolding formed condition_which parse_condition condition_from condition_operator
  condition_formed i = every_or (condition_which (λ _. true) (lent_in C)) C.conditions i (0 ∷ []) (simp and_iff at h).0 refl

  pub action_formed : (i : ℕ) → action_which (λ _. true) (lent_in C) (get_or C.actions i []) ≡ true
  unfolding formed action_which parse_action run_from
  action_formed i = every_or (action_which (λ _. true) (lent_in C)) C.actions i [] (simp and_iff at h).1 refl

-- 7 of actions, by number.
pub action_entry : {T R : Type 0} (F : Layout T R) (C : Common) (ts : List T) (rs : List R) → roled F C ts rs ≡ true
    → (i : ℕ) → action_which (λ r. action_names r is_at_entry) (lent_in C) (get_or C.actions i []) ≡ false
unfolding roled action_which parse_action run_from action_names
action_entry F C ts rs h i =
    not-true _ (every_or (λ a. not (action_which (λ r. action_names r is_at_entry) (lent_in C) a)) C.actions i [] (simp and_iff at h).0 refl)

-- 6 and 7 of a transition, a triple, a template and a pair.
pub record GoodTransition (C : Common) (t : Transition) : Type 0 where
  pub from : t.from < C.states
  pub kind : t.kind ≤ 1
  pub unit : t.unit < C.units
  pub condition : t.condition < length C.conditions
  pub action : t.action < length C.actions
  pub to : t.to < C.states
  pub no_entry : names_entry C (condition_in C t.condition) ≡ false

pub record GoodTriple (C : Common) (t : Triple) : Type 0 where
  pub state : t.state < C.states
  pub unit : t.unit < C.units
  pub precondition : t.precondition < length C.conditions
  pub postcondition : t.postcondition < length C.conditions
  pub no_entry : names_entry C (condition_in C t.precondition) ≡ false
  pub no_monitor_after : names_monitor C (condition_in C t.postcondition) ≡ false

pub record GoodTemplate (C : Common) (t : Template) : Type 0 where
  pub unit : t.unit < C.units
  pub postcondition : t.postcondition < length C.conditions
  pub no_monitor_after : names_monitor C (condition_in C t.postcondition) ≡ false

pub record GoodPair (C : Common) (rs : List Template) (t : Transition) (p : Pair) : Type 0 where
  pub entry : t.kind ≡ 0
  pub condition : p.condition < length C.conditions
  pub template : p.template < length rs
  pub unit : (get_or rs p.template no_template).unit ≡ t.unit
  pub no_entry : names_entry C (condition_in C p.condition) ≡ false

module _ (C : Common) where
  pub good_transition : (t : Transition) → transition_ranged (counts_of C) t ≡ true → used_well C (record { number = t.condition; role = guard }) ≡ true → GoodTransition C t
  unfolding transition_ranged
  good_transition t h k =
      let (a, (b, (c, (d, (e, f))))) = simp (and_iff, leb_iff) at h in
      record { from = a; kind = b; unit = c; condition = d; action = e; to = f; no_entry = simp not_iff at k }

  pub good_triple : (t : Triple) → triple_ranged (counts_of C) t ≡ true → every (used_well C) (sheet_layout.last_uses t) ≡ true → GoodTriple C t
  unfolding triple_ranged every
  good_triple t h k =
      let (a, (b, (c, d))) = simp (and_iff, leb_iff) at h in
      let (e, (f, z)) = simp (and_iff, not_iff) at k in
      record { state = a; unit = b; precondition = c; postcondition = d; no_entry = e; no_monitor_after = f }

  pub good_template : (t : Template) → template_ranged (counts_of C) t ≡ true → every (used_well C) (network_layout.last_uses t) ≡ true → GoodTemplate C t
  unfolding template_ranged every
  good_template t h k =
      let (a, b) = simp (and_iff, leb_iff) at h in
      record { unit = a; postcondition = b; no_monitor_after = (simp (and_iff, not_iff) at k).0 }

  pub good_pair : (rs : List Template) (t : Transition) (p : Pair) → pair_ranged (counts_of C) rs t p ≡ true → used_well C (record { number = p.condition; role = precondition }) ≡ true → GoodPair C rs t p
  unfolding pair_ranged
  good_pair rs t p h k =
      let (a, (b, (c, d))) = simp (and_iff, leb_iff, eqb_iff) at h in
      record { entry = a; condition = b; template = c; unit = d; no_entry = simp not_iff at k }

-- 6 and 7 in any layout, by number.
module _ {T R : Type 0} {F : Layout T R} {s : List ℕ} (a : Accepted F s) (i : ℕ) where
  module _ (d : T) (h : i < length (transitions_of F s)) where
    transition_ranged_lem : F.transition_ranged (common_of s) (last_of F s) (get_or (transitions_of F s) i d) ≡ true
    unfolding ranged
    transition_ranged_lem = every_at (F.transition_ranged (common_of s) (last_of F s)) (transitions_of F s) i d (simp and_iff at a.ranged).0 h

    transition_used : every (used_well (common_of s)) (F.transition_uses (get_or (transitions_of F s) i d)) ≡ true
    unfolding roled
    transition_used = every_at (λ t. every (used_well (common_of s)) (F.transition_uses t)) (transitions_of F s) i d (simp and_iff at a.roled).1.0 h

  module _ (d : R) (h : i < length (last_of F s)) where
    last_ranged_lem : F.last_ranged (common_of s) (get_or (last_of F s) i d) ≡ true
    unfolding ranged
    last_ranged_lem = every_at (F.last_ranged (common_of s)) (last_of F s) i d (simp and_iff at a.ranged).1 h

    last_used : every (used_well (common_of s)) (F.last_uses (get_or (last_of F s) i d)) ≡ true
    unfolding roled
    last_used = every_at (λ r. every (used_well (common_of s)) (F.last_uses r)) (last_of F s) i d (simp and_iff at a.roled).1.1 h

-- The transitions and triples of an accepted sheet, and 8.
module _ {s : List ℕ} (a : Accepted sheet_layout s) (i : ℕ) where
  pub sheet_transition : (d : Transition) → i < length (transitions_of sheet_layout s) → GoodTransition (common_of s) (get_or (transitions_of sheet_layout s) i d)
  unfolding every
  sheet_transition d h = good_transition (common_of s) (get_or (transitions_of sheet_layout s) i d) (transition_ranged_lem a i d h) (simp and_iff at (transition_used a i d h)).0

  pub sheet_triple : (d : Triple) → i < length (last_of sheet_layout s) → GoodTriple (common_of s) (get_or (last_of sheet_layout s) i d)
  sheet_triple d h = good_triple (common_of s) (get_or (last_of sheet_layout s) i d) (last_ranged_lem a i d h) (last_used a i d h)

  pub sheet_together : (d : Triple) → i < length (last_of sheet_layout s) → together (get_or (last_of sheet_layout s) i d) (last_of sheet_layout s) ≤ 4
  sheet_together d h = leb-true _ 4 (every_at (λ t. leb (together t (last_of sheet_layout s)) 4) (last_of sheet_layout s) i d a.spread h)

-- The transitions of an accepted network, their pairs, and its templates.
module _ {s : List ℕ} (a : Accepted network_layout s) (i : ℕ) where
  module _ (d : Paired) (h : i < length (transitions_of network_layout s)) where
    pub network_transition : GoodTransition (common_of s) (get_or (transitions_of network_layout s) i d).base
    unfolding every
    network_transition = good_transition (common_of s) (get_or (transitions_of network_layout s) i d).base (simp and_iff at (transition_ranged_lem a i d h)).0 (simp and_iff at (transition_used a i d h)).0

    pub network_pair : (j : ℕ) (e : Pair) → j < length (get_or (transitions_of network_layout s) i d).pairs
        → GoodPair (common_of s) (last_of network_layout s) (get_or (transitions_of network_layout s) i d).base (get_or (get_or (transitions_of network_layout s) i d).pairs j e)
    unfolding every
    network_pair j e k =
        let t = get_or (transitions_of network_layout s) i d in
        let r = (simp and_iff at (transition_ranged_lem a i d h)).1 in
        let u = (simp (and_iff, every_map) at (transition_used a i d h)).1 in
        good_pair (common_of s) (last_of network_layout s) t.base (get_or t.pairs j e)
        (every_at (pair_ranged (counts_of (common_of s)) (last_of network_layout s) t.base) t.pairs j e r k)
        (every_at (λ p. used_well (common_of s) (record { number = p.condition; role = precondition })) t.pairs j e u k)

    pub network_pairs : length (get_or (transitions_of network_layout s) i d).pairs ≤ 4
    network_pairs =
        let e = rw (same_records pair_count_form paired_form (λ t. refl) (λ t. length t.pairs) (λ t. sym (length_records pair_form (byte t 6) _)) (transitions_in s) (drop (transitions_at s) s)) at (pair_counts_lem a) in
        (simp (and_iff, leb_iff) at (every_at (λ t. between 0 4 (length t.pairs)) (transitions_of network_layout s) i d (rw every_map at e) h)).1

  pub network_template : (d : Template) → i < length (last_of network_layout s) → GoodTemplate (common_of s) (get_or (last_of network_layout s) i d)
  network_template d h = good_template (common_of s) (get_or (last_of network_layout s) i d) (last_ranged_lem a i d h) (last_used a i d h)
