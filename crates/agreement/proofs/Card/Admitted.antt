-- The card's network is admitted in version 3 where its conditions are short enough. Assumes nothing.
use mathlib.Core.Path.{◌≡◌, refl, sym, ap, subst, ◌∙◌}
use mathlib.Core.Bool.{Bool, true, false, not, ◌&&◌}
use mathlib.Core.List.{List, [], ◌∷◌, ◌++◌, map}
use Prim.Native.Nat.{ℕ, suc, ◌+◌, ◌-◌, ◌≤◌, ◌<◌}
use native.Mathlib.Omega.{arith}
use borrow.Author.Tests.{le-leb, not-true}
use lib.Dec.{leb}
use lib.Seq.{get_or-append-add}
use lib.ListN.{length, get_or, length-append, length-map, get_or-append}
use Rattle.condition.specs.Tree.{Condition, always, negation, both, either, less, equal, within, condition_bytes, condition_names, action_names, is_at_entry}
use Rattle.condition.specs.Parse.{parse_condition, condition_from, condition_operator}
use Rattle.condition.specs.Answer.{sized, whether, condition_which, action_which}
use Rattle.sheet.specs.declared.Transition.{Transition}
use Rattle.sheet.specs.declared.Pair.{Pair}
use Rattle.sheet.specs.declared.Template.{Template}
use Rattle.sheet.specs.Parts.{Common, Paired, Network, bases}
use Rattle.sheet.specs.Table.{every}
use Rattle.sheet.specs.Encode.{within_counts, within_lengths, admitted}
use Rattle.sheet.specs.Reading.{guard, precondition, between, lent_in, condition_in, formed, ranged, roled, names_entry, used_well, network_layout, counts_of, transition_ranged, pair_ranged, template_ranged}
use Rattle.sheet.proofs.Tests.{and_iff, leb_iff, eqb_iff, not_iff}
use Rattle.sheet.proofs.Tables.{and_parts, and_both, every_append, every_map, every_weaker, every_or}
use Rattle.sheet.proofs.Accepted.{condition_formed}
use Rattle.step.proofs.OnLists.Keeping.{every_among, among_every}
use Rattle.translation.proofs.Networks.{every_two}
use Rattle.translation.proofs.Cards.Joining.{length_joined}
use Rattle.translation.proofs.Cards.Guarding.{length_guarded}
use Rattle.translation.specs.Card.{joined_text, joined_from, guarded_by, guarded_from, joined_conditions, with_conditions, separated}
use Rattle.agreement.proofs.Card.Joined.{Says, says_parses, joins}

bytes_some : (c : Condition) → 1 ≤ length (condition_bytes c)
unfolding condition_bytes
bytes_some always = omega arith
bytes_some (negation c) = omega arith
bytes_some (both c d) = omega arith
bytes_some (either c d) = omega arith
bytes_some (less e f) = omega arith
bytes_some (equal e f) = omega arith
bytes_some (within e f g) = omega arith

guarded_every : (p q : Paired → Bool) (low high : ℕ) → ((j : ℕ) (t : Paired) → low ≤ j → j < high → p t ≡ true → q (guarded_by j t) ≡ true)
    → (i : ℕ) (l : List Paired) → low ≤ i → i + length l ≤ high → every p l ≡ true → every q (guarded_from i l) ≡ true
unfolding every guarded_from
guarded_every p q low high f i [] a b h = refl
guarded_every p q low high f i (t ∷ l) a b h =
    let (x, y) = and_parts (p t) (every p l) h in
    and_both (f i t a (omega arith) x) (guarded_every p q low high f (suc i) l (omega arith) (omega arith) y)

module _ (C : Common) (f : formed C ≡ true) where
  -- each new condition parses
  parses_new : (e l : List Transition) → every (λ t. leb 1 (length t) && whether (parse_condition (lent_in C) t) (λ _. true)) (joined_from C e l) ≡ true
  unfolding joined_from every
  parses_new e [] = refl
  parses_new e (t ∷ l) =
      let j = joins C f t e in
      let here : (leb 1 (length (joined_text C t e)) && whether (parse_condition (lent_in C) (joined_text C t e)) (λ _. true)) ≡ true
      = and_both (le-leb 1 _ (subst (λ (x : List ℕ). 1 ≤ length x) (sym j.says.bytes) (bytes_some j.tree))) (rw (says_parses j.says)) in
      and_both here (parses_new (e ++ t ∷ []) l)

  abbrev quietly : Transition → Bool
  quietly u = not (names_entry C (condition_in C u.condition))

  said_quiet : (u : Transition) → not (names_entry C (condition_in C u.condition)) ≡ true → (c : Condition) → Says (lent_in C) (condition_in C u.condition) c → condition_names c is_at_entry ≡ false
  unfolding condition_which
  said_quiet u q c g =
      let (z, r) = and_parts (sized (condition_in C u.condition)) _ (condition_formed C f u.condition) in
      rw (z, says_parses g) at (not-true (names_entry C (condition_in C u.condition)) q)

  -- and names no value at entry
  quiet_new : (e l : List Transition) → every (λ (u : Transition). not (names_entry C (condition_in C u.condition))) e ≡ true → every (λ (u : Transition). not (names_entry C (condition_in C u.condition))) l ≡ true
      → every (λ t. not (names_entry C t)) (joined_from C e l) ≡ true
  unfolding joined_from every condition_which
  quiet_new e [] a b = refl
  quiet_new e (t ∷ l) a b =
      let (x, y) = and_parts (quietly t) (every quietly l) b in
      and_both (one t e x a) (quiet_new (e ++ t ∷ []) l (every_append quietly e (t ∷ []) ∙ and_both a (and_both x refl)) y)
    where
      none_said : (b : Bool) → not (b && false) ≡ true
      none_said true = refl
      none_said false = refl

      one : (t : Transition) (e : List Transition) → quietly t ≡ true → every quietly e ≡ true → not (names_entry C (joined_text C t e)) ≡ true
      one t e x a =
          let j = joins C f t e in
          let n = j.names is_at_entry (λ u m c g. said_quiet u (every_among quietly (t ∷ e) u (and_both x a) m) c g) in
          rw (says_parses j.says, n) (none_said (sized (joined_text C t e)))

module _ (N : Network) (h : admitted false N ≡ true) (fits : every (λ t. leb (length t) 1024) (joined_conditions N) ≡ true) where
  abbrev C : Common
  C = N.common

  abbrev D : Common
  D = with_conditions N.common (joined_conditions N)

  abbrev new : List (List ℕ)
  new = joined_conditions N

  is_formed : formed N.common ≡ true
  unfolding admitted
  is_formed = (simp and_iff at h).1.1.1.0

  is_ranged : ranged network_layout N.common N.transitions N.templates ≡ true
  unfolding admitted
  is_ranged = (simp and_iff at h).1.1.1.1.0

  is_roled : roled network_layout N.common N.transitions N.templates ≡ true
  unfolding admitted
  is_roled = (simp and_iff at h).1.1.1.1.1

  long : length (with_conditions N.common (joined_conditions N)).conditions ≡ length N.common.conditions + length N.transitions
  unfolding with_conditions
  long = length-append C.conditions new ∙ ap (λ n. length C.conditions + n) (length_joined C [] (bases N) ∙ length-map N.transitions (λ (t : Paired). t.base))

  -- 3
  joined_counts : within_counts true (separated N) ≡ true
  unfolding within_counts separated with_conditions admitted
  joined_counts =
      let ((q, q'), ((u, u'), (p, (v, (c, (a, (n, (l, (b, (d, (g, i))))))))))) = simp (and_iff, leb_iff, eqb_iff, not_iff) at (simp and_iff at h).0 in
      let m : length (C.conditions ++ new) ≤ 161 = omega (arith, long) in
      let k : length (guarded_from (length C.conditions) N.transitions) ≤ 96 = omega (arith, length_guarded (length C.conditions) N.transitions) in
      simp (and_iff, leb_iff, eqb_iff, not_iff) ((q, q'), ((u, u'), (p, (v, (m, (a, (k, (l, (b, (d, (g, i)))))))))))

  -- 4
  joined_lengths : within_lengths true (separated N) ≡ true
  unfolding within_lengths separated with_conditions admitted
  joined_lengths =
      let (c, a) = (simp and_iff at h).1.0 in
      let old : every (λ t. between 1 1024 (length t)) C.conditions ≡ true = every_weaker (λ t. between 1 64 (length t)) (λ t. between 1 1024 (length t)) (λ t e. simp (and_iff, leb_iff) (wider t (simp (and_iff, leb_iff) at e))) C.conditions c in
      let least : every (λ t. leb 1 (length t)) new ≡ true = every_weaker _ (λ t. leb 1 (length t)) (λ t e. (and_parts (leb 1 (length t)) _ e).0) new (parses_new C is_formed [] (bases N)) in
      and_both (every_append (λ t. between 1 1024 (length t)) C.conditions new ∙ and_both old (every_two (λ t. leb 1 (length t)) (λ t. leb (length t) 1024) new least fits)) a
    where
      wider : (t : List ℕ) → (1 ≤ length t) × (length t ≤ 64) → (1 ≤ length t) × (length t ≤ 1024)
      wider t (a, b) = (a, omega arith)

  joined_pairs : every (λ (t : Paired). between 0 4 (length t.pairs)) (guarded_from (length N.common.conditions) N.transitions) ≡ true
  unfolding admitted
  joined_pairs = guarded_every (λ (t : Paired). between 0 4 (length t.pairs)) (λ (t : Paired). between 0 4 (length t.pairs)) 0 (length C.conditions + length N.transitions) (λ j t a b e. e) (length C.conditions) N.transitions (omega arith) (omega arith) (simp and_iff at h).1.1.0

  -- 5
  joined_formed : formed (separated N).common ≡ true
  unfolding formed separated with_conditions condition_which
  joined_formed =
      let (c, a) = simp and_iff at is_formed in
      let both = every_two (λ t. leb 1 (length t) && whether (parse_condition (lent_in C) t) (λ _. true)) (λ t. leb (length t) 1024) new (parses_new C is_formed [] (bases N)) fits in
      let each : every (λ t. sized t && whether (parse_condition (lent_in C) t) (λ _. true)) new ≡ true = every_weaker _ (λ t. sized t && whether (parse_condition (lent_in C) t) (λ _. true)) (λ t e. turn (leb 1 (length t)) (leb (length t) 1024) (whether (parse_condition (lent_in C) t) (λ _. true)) e) new both in
      and_both (every_append (λ t. sized t && whether (parse_condition (lent_in C) t) (λ _. true)) C.conditions new ∙ and_both c each) a
    where
      turn : (x y z : Bool) → ((x && z) && y) ≡ true → ((x && y) && z) ≡ true
      turn x y z e = let ((a, b), c) = simp and_iff at e in and_both (and_both a c) b

  -- 6
  more : length N.common.conditions ≤ length (with_conditions N.common (joined_conditions N)).conditions
  more = omega (arith, long)

  transition_more : (j : ℕ) (t : Paired) → length N.common.conditions ≤ j → j < length (with_conditions N.common (joined_conditions N)).conditions → network_layout.transition_ranged N.common N.templates t ≡ true
      → network_layout.transition_ranged (with_conditions N.common (joined_conditions N)) N.templates (guarded_by j t) ≡ true
  unfolding transition_ranged pair_ranged with_conditions
  transition_more j t low high e =
      let (x, y) = and_parts (transition_ranged (counts_of C) t.base) (every (pair_ranged (counts_of C) N.templates t.base) t.pairs) e in
      let (a, (b, (c, (d, (g, k))))) = simp (and_iff, leb_iff) at x in
      let own : transition_ranged (counts_of D) (guarded_by j t).base ≡ true = simp (and_iff, leb_iff) (a, (b, (c, (high, (g, k))))) in
      and_both own (every_weaker (pair_ranged (counts_of C) N.templates t.base) (pair_ranged (counts_of D) N.templates (guarded_by j t).base) (λ p q. wider p q) t.pairs y)
    where
      wider : (p : Pair) → pair_ranged (counts_of N.common) N.templates t.base p ≡ true → pair_ranged (counts_of (with_conditions N.common (joined_conditions N))) N.templates (guarded_by j t).base p ≡ true
      wider p q = let (a, (b, (c, d))) = simp (and_iff, leb_iff, eqb_iff) at q in simp (and_iff, leb_iff, eqb_iff) (a, (omega (arith, more), (c, d)))

  joined_ranged : ranged network_layout (separated N).common (separated N).transitions (separated N).templates ≡ true
  unfolding ranged separated template_ranged with_conditions
  joined_ranged =
      let (x, y) = and_parts (every (network_layout.transition_ranged C N.templates) N.transitions) (every (network_layout.last_ranged C) N.templates) is_ranged in
      and_both
      (guarded_every (network_layout.transition_ranged C N.templates) (network_layout.transition_ranged D N.templates) (length C.conditions) (length D.conditions) (λ j t a b e. transition_more j t a b e) (length C.conditions) N.transitions (omega arith) (omega (arith, long)) x)
      (every_weaker (network_layout.last_ranged C) (network_layout.last_ranged D) (λ t e. template_more t e) N.templates y)
    where
      template_more : (t : Template) → network_layout.last_ranged N.common t ≡ true → network_layout.last_ranged (with_conditions N.common (joined_conditions N)) t ≡ true
      template_more t e = let (a, b) = simp (and_iff, leb_iff) at e in simp (and_iff, leb_iff) (a, omega (arith, more))

  -- 7
  names_nothing : names_entry N.common (0 ∷ []) ≡ false
  unfolding condition_which parse_condition condition_from condition_operator condition_names
  names_nothing = refl

  guards_quiet : every (λ (u : Transition). not (names_entry N.common (condition_in N.common u.condition))) (bases N) ≡ true
  unfolding roled every
  guards_quiet =
      every_map (λ (u : Transition). not (names_entry C (condition_in C u.condition))) (λ (t : Paired). t.base) N.transitions
      ∙ every_weaker (λ (t : Paired). every (used_well C) (network_layout.transition_uses t)) (λ (t : Paired). not (names_entry C (condition_in C t.base.condition))) (λ t e. (and_parts (not (names_entry C (condition_in C t.base.condition))) _ e).0) N.transitions (simp and_iff at is_roled).1.0

  guard_quiet : (j : ℕ) → length N.common.conditions ≤ j → used_well (with_conditions N.common (joined_conditions N)) (record { number = j; role = guard }) ≡ true
  unfolding with_conditions every
  guard_quiet j low =
      let k = j - length C.conditions in
      let at : length C.conditions + k ≡ j = omega arith in
      subst (λ (x : List ℕ). not (names_entry C x) ≡ true) (sym (ap (λ i. get_or (C.conditions ++ new) i (0 ∷ [])) (sym at) ∙ get_or-append-add C.conditions new k (0 ∷ [])))
      (every_or (λ t. not (names_entry C t)) new k (0 ∷ []) (quiet_new C is_formed [] (bases N) refl guards_quiet) (ap not names_nothing))

  pair_well : (p : Pair) → p.condition < length N.common.conditions → used_well N.common (record { number = p.condition; role = precondition }) ≡ true → used_well (with_conditions N.common (joined_conditions N)) (record { number = p.condition; role = precondition }) ≡ true
  unfolding with_conditions
  pair_well p h u = rw (get_or-append C.conditions new (0 ∷ []) p.condition h) u

  uses_well : (j : ℕ) (t : Paired) → length N.common.conditions ≤ j → j < length (with_conditions N.common (joined_conditions N)).conditions
      → (network_layout.transition_ranged N.common N.templates t && every (used_well N.common) (network_layout.transition_uses t)) ≡ true
      → every (used_well (with_conditions N.common (joined_conditions N))) (network_layout.transition_uses (guarded_by j t)) ≡ true
  unfolding every pair_ranged
  uses_well j t low high e =
      let (x, y) = and_parts (network_layout.transition_ranged C N.templates t) (every (used_well C) (network_layout.transition_uses t)) e in
      let (g, u) = and_parts (used_well C (record { number = t.base.condition; role = guard })) (every (used_well C) (map (λ (p : Pair). record { number = p.condition; role = precondition }) t.pairs)) y in
      let pairs = (and_parts (transition_ranged (counts_of C) t.base) (every (pair_ranged (counts_of C) N.templates t.base) t.pairs) x).1 in
      let used = sym (every_map (used_well C) (λ (p : Pair). record { number = p.condition; role = precondition }) t.pairs) ∙ u in
      and_both (guard_quiet j low)
      (every_map (used_well D) (λ (p : Pair). record { number = p.condition; role = precondition }) t.pairs
      ∙ among_every (λ (p : Pair). used_well D (record { number = p.condition; role = precondition })) t.pairs (λ p m.
      let (a, (b, c)) = simp (and_iff, leb_iff) at (every_among (pair_ranged (counts_of C) N.templates t.base) t.pairs p pairs m) in
      pair_well p b (every_among (λ (p : Pair). used_well C (record { number = p.condition; role = precondition })) t.pairs p used m)))

  template_well : (t : Template) → t.postcondition < length N.common.conditions → every (used_well N.common) (network_layout.last_uses t) ≡ true → every (used_well (with_conditions N.common (joined_conditions N))) (network_layout.last_uses t) ≡ true
  unfolding with_conditions every
  template_well t h u = rw (get_or-append C.conditions new (0 ∷ []) t.postcondition h) u

  ranged_parts : ranged network_layout N.common N.transitions N.templates ≡ true → (every (network_layout.transition_ranged N.common N.templates) N.transitions && every (network_layout.last_ranged N.common) N.templates) ≡ true
  unfolding ranged
  ranged_parts e = e

  post : (t : Template) → network_layout.last_ranged N.common t ≡ true → t.postcondition < length N.common.conditions
  unfolding template_ranged
  post t e = (simp (and_iff, leb_iff) at e).1

  actions_same : every (λ a. not (action_which (λ r. action_names r is_at_entry) (lent_in N.common) a)) N.common.actions ≡ true → every (λ a. not (action_which (λ r. action_names r is_at_entry) (lent_in (with_conditions N.common (joined_conditions N))) a)) (with_conditions N.common (joined_conditions N)).actions ≡ true
  unfolding with_conditions
  actions_same e = e

  pairs_kept : every (λ (t : Paired). between 0 4 (length t.pairs)) (separated N).transitions ≡ true
  unfolding separated
  pairs_kept = joined_pairs

  joined_roled : roled network_layout (separated N).common (separated N).transitions (separated N).templates ≡ true
  unfolding roled separated
  joined_roled =
      let (a, (u, w)) = simp and_iff at is_roled in
      let (x, y) = and_parts (every (network_layout.transition_ranged C N.templates) N.transitions) (every (network_layout.last_ranged C) N.templates) (ranged_parts is_ranged) in
      and_both (actions_same a)
      (and_both (guarded_every (λ (t : Paired). network_layout.transition_ranged C N.templates t && every (used_well C) (network_layout.transition_uses t)) (λ (t : Paired). every (used_well D) (network_layout.transition_uses t)) (length C.conditions) (length D.conditions) (λ j t l m e. uses_well j t l m e) (length C.conditions) N.transitions (omega arith) (omega (arith, long)) (every_two (network_layout.transition_ranged C N.templates) (λ (t : Paired). every (used_well C) (network_layout.transition_uses t)) N.transitions x u))
      (among_every (λ (t : Template). every (used_well D) (network_layout.last_uses t)) N.templates (λ t m. template_well t (post t (every_among (network_layout.last_ranged C) N.templates t y m)) (every_among (λ (t : Template). every (used_well C) (network_layout.last_uses t)) N.templates t w m))))

  pub separated_admitted : admitted true (separated N) ≡ true
  unfolding admitted
  separated_admitted = and_both joined_counts (and_both joined_lengths (and_both pairs_kept (and_both joined_formed (and_both joined_ranged joined_roled))))
