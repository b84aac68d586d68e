-- The network of an accepted sheet is accepted, reads back as it is, and is never longer than 7,904 bytes. Assumes nothing.
use mathlib.Core.Path.{◌≡◌, refl, subst}
use mathlib.Core.Bool.{Bool, true, false, not, cond, ◌&&◌}
use mathlib.Core.List.{List, [], ◌∷◌, ◌++◌, map}
use Prim.Native.Nat.{ℕ, zero, suc, ◌+◌, ◌≤◌, ◌<◌}
use native.Mathlib.Omega.{arith}
use native.Mathlib.Nat.{zero-add}
use borrow.Author.Tests.{eqb-true, le-leb}
use lib.Dec.{eqb, leb}
use lib.ListN.{length, take, drop, get_or, length-append, length-map, get_or-map}
use lib.Seq.{get_or-append_seam}
use Rattle.condition.specs.Tree.{condition_names, action_names, is_at_entry}
use Rattle.condition.specs.Parse.{condition_from, parse_condition, condition_operator, run_from, parse_action}
use Rattle.condition.specs.Answer.{longest, sized, condition_which, action_which}
use Rattle.sheet.specs.declared.Transition.{Transition}
use Rattle.sheet.specs.declared.Triple.{Triple}
use Rattle.sheet.specs.declared.Pair.{Pair}
use Rattle.sheet.specs.declared.Template.{Template}
use Rattle.sheet.specs.Table.{every, records, table}
use Rattle.sheet.specs.Parts.{Common, Sheet, Paired}
use Rattle.sheet.specs.Decode.{wide, lead, said, text_form, length_form, transition_form, triple_form, conditions_in, actions_in, conditions_at, actions_at, common_of, sheet_of, network_of}
use Rattle.sheet.specs.Encode.{encode, within_counts, within_lengths, admitted}
use Rattle.sheet.specs.Reading.{precondition, between, most_bytes, transitions_of, last_of, lent_in, formed, used_well, roled, ranged, counts_of, transition_ranged, together, sheet_layout, pair_ranged, template_ranged, network_layout}
use Rattle.sheet.proofs.Tables.{and_parts, and_both, every_append, every_map, every_weaker}
use Rattle.sheet.proofs.Tests.{and_iff, leb_iff, eqb_iff, not_iff}
use Rattle.sheet.proofs.Accepted.{Accepted, Bounds, bounds, condition_lengths_lem, action_lengths_lem, GoodTransition, GoodTriple, GoodTemplate, GoodPair, sheet_transition, sheet_triple, sheet_together}
use Rattle.sheet.proofs.Encoding.{decode_encode, accepted_encode}
use Rattle.sheet.proofs.Limits.{sheet_narrow, encode_longest}
use Rattle.translation.specs.Translate.{pairs_of, copied, back, joined, added, extended, template_of, translate}
use Rattle.translation.proofs.Sheets.Counting.{added_length, joined_every, pairs_every, pairs_few}

abbrev no_transition : Transition
no_transition = transition_form.value []

abbrev no_triple : Triple
no_triple = triple_form.value []

-- What acceptance gives of a sheet without its bytes.
record GoodSheet (S : Sheet) : Type 0 where
  bounds : Bounds sheet_layout false S.common S.transitions S.triples
  formed : formed S.common ≡ true
  conditions : every (λ t. leb (length t) 64) S.common.conditions ≡ true
  action_lengths : every (λ t. leb (length t) 64) S.common.actions ≡ true
  actions : every (λ a. not (action_which (λ r. action_names r is_at_entry) (lent_in S.common) a)) S.common.actions ≡ true
  transition : (i : ℕ) → i < length S.transitions → GoodTransition S.common (get_or S.transitions i no_transition)
  triple : (i : ℕ) → i < length S.triples → GoodTriple S.common (get_or S.triples i no_triple)
  few : (i : ℕ) → i < length S.triples → together (get_or S.triples i no_triple) S.triples ≤ 4

-- 4, of the texts themselves
pub take_most : {A : Type 0} (n : ℕ) (l : List A) → length (take n l) ≤ n
take_most zero l = omega arith
take_most (suc n) [] = omega arith
take_most (suc n) (x ∷ l) = omega (arith, take_most n l)

pub texts_most : (w : Bool) (low high n : ℕ) (s : List ℕ) → every (between low high) (records (length_form w) n s) ≡ true → every (λ t. leb (length t) high) (records (text_form w) n s) ≡ true
unfolding every records
texts_most w low high zero s h = refl
texts_most w low high (suc n) s h =
    let (a, b) = and_parts (between low high (said w s)) (every (between low high) (records (length_form w) n (drop (lead w + said w s) s))) h in
    let (c, d) = simp (and_iff, leb_iff) at a in
    and_both (le-leb (length (take (said w s) (drop (lead w) s))) high (omega (arith, take_most (said w s) (drop (lead w) s)))) (texts_most w low high n (drop (lead w + said w s) s) b)

module _ {s : List ℕ} (a : Accepted sheet_layout s) where
  few_conditions_lem : every (λ t. leb (length t) 64) (common_of s).conditions ≡ true
  unfolding common_of
  few_conditions_lem =
      subst (λ (v : Bool). every (λ t. leb (length t) (most_bytes v)) (table (text_form (wide s)) (conditions_in s) s (conditions_at s)) ≡ true) (sheet_narrow s a.version) (texts_most (wide s) 1 (most_bytes (wide s)) (conditions_in s) (drop (conditions_at s) s) (condition_lengths_lem a))

  few_actions_lem : every (λ t. leb (length t) 64) (common_of s).actions ≡ true
  unfolding common_of
  few_actions_lem = texts_most false 0 64 (actions_in s) (drop (actions_at s) s) (action_lengths_lem a)

good_sheet : {s : List ℕ} → Accepted sheet_layout s → GoodSheet (sheet_of s)
unfolding sheet_of roled
good_sheet {s} a = record {
  bounds = subst (λ (v : Bool). Bounds sheet_layout v (common_of s) (transitions_of sheet_layout s) (last_of sheet_layout s)) (sheet_narrow s a.version) (bounds a);
  formed = a.formed;
  conditions = few_conditions_lem a;
  action_lengths = few_actions_lem a;
  actions = (simp and_iff at a.roled).0;
  transition = λ i h. sheet_transition a i no_transition h;
  triple = λ i h. sheet_triple a i no_triple h;
  few = λ i h. sheet_together a i no_triple h;
}

pub every_two : {A : Type 0} (p q : A → Bool) (l : List A) → every p l ≡ true → every q l ≡ true → every (λ x. p x && q x) l ≡ true
unfolding every
every_two p q [] h k = refl
every_two p q (x ∷ l) h k =
    let (a, b) = and_parts (p x) (every p l) h in
    let (c, d) = and_parts (q x) (every q l) k in
    and_both (and_both a c) (every_two p q l b d)

-- Two tests on all elements; a test on all by their numbers; the default added behind them.
every_parts : {A : Type 0} (p q : A → Bool) (l : List A) → every (λ x. p x && q x) l ≡ true → (every p l ≡ true) × (every q l ≡ true)
every_parts p q l h = (every_weaker (λ x. p x && q x) p (λ x e. (and_parts (p x) (q x) e).0) l h, every_weaker (λ x. p x && q x) q (λ x e. (and_parts (p x) (q x) e).1) l h)

module _ {A : Type 0} (d : A) where
  every_by : (p : A → Bool) (l : List A) → ((i : ℕ) → i < length l → p (get_or l i d) ≡ true) → every p l ≡ true
  unfolding every
  every_by p [] h = refl
  every_by p (x ∷ l) h = and_both (h 0 (omega arith)) (every_by p l (λ i k. h (suc i) (omega arith)))

  get_d_added : (l : List A) (i : ℕ) → get_or (l ++ d ∷ []) i d ≡ get_or l i d
  get_d_added [] zero = refl
  get_d_added [] (suc i) = refl
  get_d_added (x ∷ l) zero = refl
  get_d_added (x ∷ l) (suc i) = get_d_added l i

  length_added : (l : List A) → length (l ++ d ∷ []) ≡ suc (length l)
  length_added l = omega (arith, length-append l (d ∷ []))

-- What is good stays so when `true` and the empty action are added; the transitions back are good.
module _ (C : Common) where
  extended_transition : {t : Transition} → GoodTransition C t → GoodTransition (extended C) t
  unfolding extended
  extended_transition {t} g = record {
    from = g.from;
    kind = g.kind;
    unit = g.unit;
    condition = omega (arith, g.condition, length_added (0 ∷ []) C.conditions);
    action = omega (arith, g.action, length_added [] C.actions);
    to = g.to;
    no_entry = rw (get_d_added (0 ∷ []) C.conditions t.condition) g.no_entry;
  }

  extended_triple : {t : Triple} → GoodTriple C t → GoodTriple (extended C) t
  unfolding extended
  extended_triple {t} g = record {
    state = g.state;
    unit = g.unit;
    precondition = omega (arith, g.precondition, length_added (0 ∷ []) C.conditions);
    postcondition = omega (arith, g.postcondition, length_added (0 ∷ []) C.conditions);
    no_entry = rw (get_d_added (0 ∷ []) C.conditions t.precondition) g.no_entry;
    no_monitor_after = rw (get_d_added (0 ∷ []) C.conditions t.postcondition) g.no_monitor_after;
  }

  abbrev back_base : ℕ → ℕ → Transition
  back_base q u = record { from = q; kind = 0; unit = u; condition = length C.conditions; action = length C.actions; to = q }

  back_good : (q u : ℕ) → q < C.states → u < C.units → GoodTransition (extended C) (back_base q u)
  unfolding extended condition_which parse_condition condition_from condition_operator condition_names
  back_good q u h k = record {
    from = h;
    kind = omega arith;
    unit = k;
    condition = omega (arith, length_added (0 ∷ []) C.conditions);
    action = omega (arith, length_added [] C.actions);
    to = h;
    no_entry = rw (get_or-append_seam C.conditions (0 ∷ []) [] (0 ∷ [])) refl;
  }

  extended_formed : formed C ≡ true → formed (extended C) ≡ true
  unfolding formed every extended condition_which parse_condition condition_from condition_operator action_which parse_action run_from
  extended_formed h =
      let (c, a) = simp and_iff at h in
      rw (every_append (condition_which (λ _. true) (lent_in C)) C.conditions ((0 ∷ []) ∷ []), every_append (action_which (λ _. true) (lent_in C)) C.actions ([] ∷ [])) (and_both (and_both c refl) (and_both a refl))

  extended_actions : every (λ a. not (action_which (λ r. action_names r is_at_entry) (lent_in C) a)) C.actions ≡ true
      → every (λ a. not (action_which (λ r. action_names r is_at_entry) (lent_in (extended C)) a)) (extended C).actions ≡ true
  unfolding every extended action_which parse_action run_from action_names
  extended_actions h = rw (every_append (λ a. not (action_which (λ r. action_names r is_at_entry) (lent_in C) a)) C.actions ([] ∷ [])) (and_both h refl)

-- What 6 and 7 ask of a template; what they and "n, 0-4" of 4 ask of a network's transition and of its pairs.
module _ (C : Common) where
  abbrev template_asked : Template → Bool
  template_asked t = network_layout.last_ranged C t && every (used_well C) (network_layout.last_uses t)

  template_asked_lem : {t : Template} → GoodTemplate C t → template_asked t ≡ true
  unfolding template_ranged every
  template_asked_lem g = simp (and_iff, leb_iff, not_iff) ((g.unit, g.postcondition), (g.no_monitor_after, refl))

module _ (C : Common) (rs : List Template) where
  abbrev pair_asked : Transition → Pair → Bool
  pair_asked t p = pair_ranged (counts_of C) rs t p && used_well C (record { number = p.condition; role = precondition })

  abbrev asked : Paired → Bool
  asked t = between 0 4 (length t.pairs) && (network_layout.transition_ranged C rs t && every (used_well C) (network_layout.transition_uses t))

  pair_asked_lem : {t : Transition} {p : Pair} → GoodPair C rs t p → pair_asked t p ≡ true
  unfolding pair_ranged
  pair_asked_lem g = simp (and_iff, leb_iff, eqb_iff, not_iff) ((g.entry, (g.condition, (g.template, g.unit))), g.no_entry)

  transition_asked : (t : Transition) (l : List Pair) → GoodTransition C t → length l ≤ 4 → every (pair_asked t) l ≡ true → asked (record { base = t; pairs = l }) ≡ true
  unfolding transition_ranged every
  transition_asked t l g h k =
      let (r, u) = every_parts (pair_ranged (counts_of C) rs t) (λ p. used_well C (record { number = p.condition; role = precondition })) l k in
      rw (r, every_map (used_well C) (λ p. record { number = p.condition; role = precondition }) l, u)
      (simp (and_iff, leb_iff, not_iff) ((omega arith, h), (((g.from, (g.kind, (g.unit, (g.condition, (g.action, g.to))))), refl), (g.no_entry, refl))))

-- The network of a good sheet.
module _ (S : Sheet) (g : GoodSheet S) where
  abbrev C : Common
  C = extended S.common

  abbrev rs : List Template
  rs = map template_of S.triples

  -- a transition that gets the pairs of its state and unit
  pairs_asked : (t : Transition) → t.kind ≡ 0 → every (pair_asked C rs t) (pairs_of S t.from t.unit) ≡ true
  pairs_asked t k = pairs_every (pair_asked C rs t) no_triple 0 t.from t.unit S.triples (λ m h e f.
      let v = extended_triple S.common (g.triple m h) in
      pair_asked_lem C rs (record {
        entry = k;
        condition = v.precondition;
        template = omega (arith, h, length-map S.triples template_of);
        unit = rw (zero-add m, get_or-map template_of S.triples m no_triple) f;
        no_entry = v.no_entry;
      }))

  paired_asked : (t : Transition) → GoodTransition C t → t.kind ≡ 0 → asked C rs (record { base = t; pairs = pairs_of S t.from t.unit }) ≡ true
  paired_asked t v k = transition_asked C rs t (pairs_of S t.from t.unit) v (pairs_few no_triple 4 t.from t.unit S.triples g.few) (pairs_asked t k)

  copied_asked : (t : Transition) → GoodTransition C t → asked C rs (copied S t) ≡ true
  unfolding every
  copied_asked t v = go (eqb t.kind 0) refl
    where
      go : (b : Bool) → eqb t.kind 0 ≡ b → asked C rs (record { base = t; pairs = cond b (pairs_of S t.from t.unit) [] }) ≡ true
      go true e = paired_asked t v (eqb-true t.kind 0 e)
      go false e = transition_asked C rs t [] v (omega arith) refl

  back_every : (p : Paired → Bool) (q u : ℕ) (l : List Pair) → p (record { base = back_base S.common q u; pairs = l }) ≡ true → every p (back S q u l) ≡ true
  unfolding every
  back_every p q u [] h = refl
  back_every p q u (x ∷ l) h = and_both h refl

  added_asked : every (asked C rs) (added S) ≡ true
  unfolding added
  added_asked =
      joined_every (λ q. joined S.common.units (λ u. back S q u (pairs_of S q u))) (asked C rs) S.common.states (λ q h.
      joined_every (λ u. back S q u (pairs_of S q u)) (asked C rs) S.common.units (λ u k.
      back_every (asked C rs) q u (pairs_of S q u) (paired_asked (back_base S.common q u) (back_good S.common q u h k) refl)))

  transitions_asked : every (asked C rs) (translate S).transitions ≡ true
  unfolding translate
  transitions_asked =
      rw (every_append (asked C rs) (map (copied S) S.transitions) (added S), every_map (asked C rs) (copied S) S.transitions)
      (and_both (every_by no_transition (λ t. asked C rs (copied S t)) S.transitions (λ i h. copied_asked (get_or S.transitions i no_transition) (extended_transition S.common (g.transition i h)))) added_asked)

  templates_asked : every (template_asked C) rs ≡ true
  templates_asked = rw (every_map (template_asked C) template_of S.triples) (every_by no_triple (λ t. template_asked C (template_of t)) S.triples (λ i h.
      let v = extended_triple S.common (g.triple i h) in
      template_asked_lem C (record { unit = v.unit; postcondition = v.postcondition; no_monitor_after = v.no_monitor_after })))

  -- "up to 65 conditions, 33 actions, 96 transitions"
  translate_counts : within_counts false (translate S) ≡ true
  unfolding within_counts translate extended
  translate_counts =
      let b = g.bounds in
      let c : length (S.common.conditions ++ (0 ∷ []) ∷ []) ≤ 65 = omega (arith, b.conditions, length_added (0 ∷ []) S.common.conditions) in
      let a : length (S.common.actions ++ [] ∷ []) ≤ 33 = omega (arith, b.actions, length_added [] S.common.actions) in
      let m = length-append (map (copied S) S.transitions) (added S) in
      let n : length (map (copied S) S.transitions ++ added S) ≤ 96 = omega (arith, b.transitions, b.last, added_length S, m, length-map S.transitions (copied S)) in
      let l : length rs ≤ 32 = omega (arith, b.last, length-map S.triples template_of) in
      simp (and_iff, leb_iff, eqb_iff, not_iff)
      ((b.some_state, b.states), ((b.some_unit, b.units), (b.programs, (b.monitors, (c, (a, (n, (l, (b.start, (b.bad, (b.start_good, b.initial)))))))))))

  translate_lengths : within_lengths false (translate S) ≡ true
  unfolding within_lengths translate extended formed condition_which every
  translate_lengths =
      let (c, a) = simp and_iff at g.formed in
      let least : every (λ t. leb 1 (length t)) S.common.conditions ≡ true = every_weaker _ _ (λ t e. (and_parts (leb 1 (length t)) (leb (length t) longest) (and_parts (sized t) _ e).0).0) S.common.conditions c in
      rw (every_append (λ t. between 1 64 (length t)) S.common.conditions ((0 ∷ []) ∷ []), every_append (λ t. between 0 64 (length t)) S.common.actions ([] ∷ []))
      (and_both (and_both (every_two (λ t. leb 1 (length t)) (λ t. leb (length t) 64) S.common.conditions least g.conditions) refl) (and_both (every_weaker _ _ (λ t e. and_both (le-leb 0 (length t) (omega arith)) e) S.common.actions g.action_lengths) refl))

  translate_good : admitted false (translate S) ≡ true
  unfolding admitted ranged roled translate
  translate_good =
      let ts = (translate S).transitions in
      let used : Paired → Bool = λ t. every (used_well C) (network_layout.transition_uses t) in
      let (few, more) = every_parts (λ t. between 0 4 (length t.pairs)) (λ t. network_layout.transition_ranged C rs t && used t) ts transitions_asked in
      let (r, u) = every_parts (network_layout.transition_ranged C rs) used ts more in
      let (r', u') = every_parts (network_layout.last_ranged C) (λ t. every (used_well C) (network_layout.last_uses t)) rs templates_asked in
      and_both translate_counts (and_both translate_lengths (and_both few (and_both (extended_formed S.common g.formed) (and_both (and_both r r') (and_both (extended_actions S.common g.actions) (and_both u u'))))))

-- The network of an accepted sheet: its bytes are accepted, they read back as it is, and 8,192 always hold them.
module _ {s : List ℕ} (a : Accepted sheet_layout s) where
  pub translate_admitted : admitted false (translate (sheet_of s)) ≡ true
  translate_admitted = translate_good (sheet_of s) (good_sheet a)

  pub translate_accepted : Accepted network_layout (encode false (translate (sheet_of s)))
  translate_accepted = accepted_encode false (translate (sheet_of s)) translate_admitted

  pub translate_decodes : network_of (encode false (translate (sheet_of s))) ≡ translate (sheet_of s)
  unfolding sheet_of translate extended
  translate_decodes = decode_encode false (translate (sheet_of s)) (bounds a).initial

  pub translate_longest : length (encode false (translate (sheet_of s))) ≤ 7904
  translate_longest = encode_longest false (translate (sheet_of s)) translate_admitted
