-- From the tests on the bytes to the refusal's number. Assumes nothing.
use mathlib.Core.Path.{◌≡◌, refl, sym, ap, ap₂, ◌∙◌}
use mathlib.Core.Bool.{Bool, true, false, not, ◌&&◌}
use mathlib.Core.List.{List, [], ◌∷◌}
use Prim.Native.Nat.{ℕ, ◌≤◌}
use native.Mathlib.Omega.{arith}
use borrow.Author.Tests.{ltb-true, ltb-false, lt-ltb}
use lib.Dec.{eqb, ltb, leb}
use lib.ListN.{length, get_or, drop, get_or-eq_default}
use Rattle.condition.specs.declared.Lent.{Lent}
use Rattle.condition.specs.Tree.{Variable, condition_names, action_names, is_monitor, is_at_entry}
use Rattle.condition.specs.Parse.{parse_condition, condition_from, condition_operator}
use Rattle.condition.specs.Answer.{condition_which, action_which}
use Rattle.sheet.specs.declared.Counts.{Counts}
use Rattle.sheet.specs.declared.Transition.{Transition}
use Rattle.sheet.specs.declared.Triple.{Triple}
use Rattle.sheet.specs.declared.Pair.{Pair}
use Rattle.sheet.specs.declared.Template.{Template}
use Rattle.sheet.specs.declared.names.Conditions.{Conditions}
use Rattle.sheet.specs.declared.walk.Tables.{Tables}
use Rattle.sheet.specs.Bytes.{byte}
use Rattle.sheet.specs.Table.{table, starts, fit, every}
use Rattle.sheet.specs.Parts.{Paired}
use Rattle.sheet.specs.Decode.{wide, text_form, transition_form, triple_form, paired_form, template_form, conditions_in, actions_in, transitions_in, last_in, last_at, conditions_at, actions_at, transitions_at, common_of}
use Rattle.sheet.specs.Reading.{together, transition_ranged, triple_ranged, template_ranged, counts_of, counts_hold, Layout, Use, guard, precondition, postcondition, between, lent_in, condition_in, names_entry, used_well, whole, counted, tabled, formed, ranged, roled, transitions_of, last_of, reading, sheet_layout, network_layout}
use Rattle.sheet.specs.Walk.{paired_ranged, within, Finds, condition_lengths, action_lengths, Numbered, names_at, names_in, guard_suits, triple_suits, paired_suits, template_suits}
use Rattle.sheet.proofs.Tests.{and_iff, leb_iff}
use Rattle.sheet.proofs.Tables.{and_parts, and_both, and_assoc, and_true, length_records, indexed, every_same, every_map, every_weaker}

-- the cascade, each step under those before it
module _ {T R : Type 0} (F : Layout T R) (s : List ℕ) where
  pub refuse_1 : whole s ≡ false → 1 ≡ reading F s
  unfolding reading
  refuse_1 e = rw e

  module _ (a : whole s ≡ true) where
    pub refuse_2 : F.version (byte s 2) ≡ false → 2 ≡ reading F s
    unfolding reading
    refuse_2 e = rw (a, e)

    module _ (b : F.version (byte s 2) ≡ true) where
      pub refuse_3 : counted F s ≡ false → 3 ≡ reading F s
      unfolding reading
      refuse_3 e = rw (a, b, e)

      module _ (c : counted F s ≡ true) where
        pub refuse_4 : tabled F s ≡ false → 4 ≡ reading F s
        unfolding reading
        refuse_4 e = rw (a, b, c, e)

        module _ (d : tabled F s ≡ true) where
          pub refuse_5 : formed (common_of s) ≡ false → 5 ≡ reading F s
          unfolding reading
          refuse_5 e = rw (a, b, c, d, e)

          module _ (f : formed (common_of s) ≡ true) where
            pub refuse_6 : ranged F (common_of s) (transitions_of F s) (last_of F s) ≡ false → 6 ≡ reading F s
            unfolding reading
            refuse_6 e = rw (a, b, c, d, f, e)

            module _ (g : ranged F (common_of s) (transitions_of F s) (last_of F s) ≡ true) where
              pub refuse_7 : roled F (common_of s) (transitions_of F s) (last_of F s) ≡ false → 7 ≡ reading F s
              unfolding reading
              refuse_7 e = rw (a, b, c, d, f, g, e)

              module _ (h : roled F (common_of s) (transitions_of F s) (last_of F s) ≡ true) where
                pub refuse_8 : F.spread (last_of F s) ≡ false → 8 ≡ reading F s
                unfolding reading
                refuse_8 e = rw (a, b, c, d, f, g, h, e)

                pub refuse_none : F.spread (last_of F s) ≡ true → 0 ≡ reading F s
                unfolding reading
                refuse_none e = rw (a, b, c, d, f, g, h, e)

-- 4 from the tables that were found
module _ {T R : Type 0} (F : Layout T R) (s : List ℕ) (t : Tables) (f : Finds F.transition F.last s t) (lengths pairs : Bool) (el : lengths ≡ (condition_lengths s && action_lengths s)) (ep : pairs ≡ every (between 0 4) (table F.pair_counts (transitions_in s) s (transitions_at s))) where
  pub tabled_found : (lengths && (pairs && eqb t.end (length s))) ≡ tabled F s
  unfolding tabled
  tabled_found = rw (el, ep, f.end) (and_assoc (condition_lengths s) (action_lengths s) _)

-- a condition by its number, through the index
names_nothing : (p : Variable → Bool) (L : Lent) → condition_which (λ c. condition_names c p) L (0 ∷ []) ≡ false
unfolding condition_which parse_condition condition_from condition_operator condition_names
names_nothing p L = refl

pub names_number : (p : Variable → Bool) (s : List ℕ) (n a : ℕ) (L : Lent) (i : ℕ) → n ≤ 161 → names_at p s (fit 161 0 (starts (text_form (wide s)) n s a)) n L i ≡ condition_which (λ c. condition_names c p) L (get_or (table (text_form (wide s)) n s a) i (0 ∷ []))
names_number p s n a L i h = go (ltb i n) refl
  where
    go : (b : Bool) → ltb i n ≡ b → (b && condition_which (λ c. condition_names c p) L ((text_form (wide s)).value (drop (get_or (fit 161 0 (starts (text_form (wide s)) n s a)) i 0) s))) ≡ condition_which (λ c. condition_names c p) L (get_or (table (text_form (wide s)) n s a) i (0 ∷ []))
    go true e =
        let less = ltb-true i n e in
        ap (condition_which (λ c. condition_names c p) L) (indexed (text_form (wide s)) 161 n s a i (0 ∷ []) less h)
    go false e =
        let long = length_records (text_form (wide s)) n (drop a s) in
        let past = ltb-false i n e in
        rw (get_or-eq_default (table (text_form (wide s)) n s a) (0 ∷ []) {n = i} (omega arith)) (sym (names_nothing p L))

-- 7, role by role, of what the index says
module _ (s : List ℕ) (few : byte s 10 ≤ 161) (C : Conditions) (f : Numbered s (conditions_at s) C) where
  by_number : (p : Variable → Bool) (i : ℕ) → names_in p C i ≡ condition_which (λ c. condition_names c p) (lent_in (common_of s)) (condition_in (common_of s) i)
  unfolding common_of
  by_number p i = rw (f.bytes, f.index, f.count, f.lent) (names_number p s (conditions_in s) (conditions_at s) (lent_in (common_of s)) i few)

  -- a transition's condition and a precondition
  before_well : (i : ℕ) → not (names_in is_at_entry C i) ≡ not (names_entry (common_of s) (condition_in (common_of s) i))
  before_well i = ap not (by_number is_at_entry i)

  after_well : (i : ℕ) → not (names_in is_monitor C i) ≡ used_well (common_of s) (record { number = i; role = postcondition })
  after_well i = ap not (by_number is_monitor i)

  one_use : (u : Use) → used_well (common_of s) u ≡ every (used_well (common_of s)) (u ∷ [])
  unfolding every
  one_use u = sym (and_true (used_well (common_of s) u))

  pub guards_well : (l : List Transition) → every (guard_suits C) l ≡ every (λ t. every (used_well (common_of s)) (sheet_layout.transition_uses t)) l
  guards_well l = every_same _ _ (λ t. before_well t.condition ∙ one_use (record { number = t.condition; role = guard })) l

  pub triples_well : (l : List Triple) → every (triple_suits C) l ≡ every (λ t. every (used_well (common_of s)) (sheet_layout.last_uses t)) l
  unfolding every
  triples_well l = every_same _ _ (λ t. ap₂ ◌&&◌ (before_well t.precondition) (after_well t.postcondition ∙ one_use (record { number = t.postcondition; role = postcondition }))) l

  pub templates_well : (l : List Template) → every (template_suits C) l ≡ every (λ t. every (used_well (common_of s)) (network_layout.last_uses t)) l
  templates_well l = every_same _ _ (λ t. after_well t.postcondition ∙ one_use _) l

  pub paired_well : (l : List Paired) → every (paired_suits C) l ≡ every (λ t. every (used_well (common_of s)) (network_layout.transition_uses t)) l
  unfolding every
  paired_well l = every_same _ _ (λ t. ap₂ ◌&&◌ (before_well t.base.condition) (every_same _ _ (λ p. before_well p.condition) t.pairs ∙ sym (every_map (used_well (common_of s)) (λ (p : Pair). record { number = p.condition; role = precondition }) t.pairs))) l

-- what the readers of the header answer
module _ (s : List ℕ) where
  pub counts_found : (q u c a : ℕ) → q ≡ byte s 3 → u ≡ byte s 4 → c ≡ byte s 10 → a ≡ byte s 11 → record { states = q; units = u; conditions = c; actions = a } ≡ counts_of (common_of s)
  unfolding common_of
  counts_found q u c a eq eu ec ea = λ i. record { states = eq i; units = eu i; conditions = (ec ∙ sym (length_records (text_form (wide s)) (byte s 10) (drop (conditions_at s) s))) i; actions = (ea ∙ sym (length_records (text_form false) (byte s 11) (drop (actions_at s) s))) i }

  pub lent_found : (p m k : ℕ) → p ≡ byte s 5 → m ≡ byte s 6 → k ≡ byte s 5 → record { programs = p; monitors = m; kept = k } ≡ lent_in (common_of s)
  unfolding common_of
  lent_found p m k ep em ek = λ i. record { programs = ep i; monitors = em i; kept = ek i }

  pub few_conditions_lem : (c a t : ℕ) → c ≤ 161 → counts_hold c a t s ≡ true → byte s 10 ≤ 161
  few_conditions_lem c a t h e = let f = simp (and_iff, leb_iff) at e in omega arith

  pub few_network : counted network_layout s ≡ true → byte s 10 ≤ 161
  unfolding counted
  few_network e = few_conditions_lem (network_layout.conditions (wide s)) 33 96 (go (wide s)) e
    where
      go : (w : Bool) → network_layout.conditions w ≤ 161
      go true = omega arith
      go false = omega arith

-- 5, 6 and 7 of a whole sheet or network
module _ (s : List ℕ) (l : Lent) (el : l ≡ lent_in (common_of s)) where
  pub formed_found : (w : Bool) → w ≡ wide s → (n m a b : ℕ) (x y : Bool) → n ≡ conditions_in s → m ≡ actions_in s → a ≡ conditions_at s → b ≡ actions_at s → x ≡ every (condition_which (λ _. true) l) (table (text_form w) n s a) → y ≡ every (action_which (λ _. true) l) (table (text_form false) m s b) → (x && y) ≡ formed (common_of s)
  unfolding formed common_of
  formed_found w ew n m a b x y en em ea eb ex ey = cc

module _ (s : List ℕ) (k : Counts) (ek : k ≡ counts_of (common_of s)) (n m a b : ℕ) (en : n ≡ transitions_in s) (em : m ≡ last_in s) (ea : a ≡ transitions_at s) (x y : Bool) where
  pub sheet_ranged_found : b ≡ last_at transition_form s → x ≡ every (transition_ranged k) (table transition_form n s a) → y ≡ every (triple_ranged k) (table triple_form m s b) → (x && y) ≡ ranged sheet_layout (common_of s) (transitions_of sheet_layout s) (last_of sheet_layout s)
  unfolding ranged
  sheet_ranged_found eb ex ey = rw (ex, ey, ek, en, ea, em, eb)

  pub network_ranged_found : b ≡ last_at paired_form s → x ≡ every (paired_ranged k (table template_form m s b)) (table paired_form n s a) → y ≡ every (template_ranged k) (table template_form m s b) → (x && y) ≡ ranged network_layout (common_of s) (transitions_of network_layout s) (last_of network_layout s)
  unfolding ranged
  network_ranged_found eb ex ey = rw (ex, ey, ek, en, ea, em, eb)

module _ (s : List ℕ) (few : byte s 10 ≤ 161) (d : ℕ) (ed : d ≡ conditions_at s) (C : Conditions) (f : Numbered s d C) (k e : ℕ) (ek : k ≡ actions_in s) (ee : e ≡ actions_at s) (n m a b : ℕ) (en : n ≡ transitions_in s) (em : m ≡ last_in s) (ea : a ≡ transitions_at s) (w x y : Bool) (ew : w ≡ every (λ t. not (action_which (λ r. action_names r is_at_entry) C.lent t)) (table (text_form false) k s e)) where
  free_found : w ≡ every (λ t. not (action_which (λ r. action_names r is_at_entry) (lent_in (common_of s)) t)) (common_of s).actions
  unfolding common_of
  free_found = ew ∙ rw (f.lent, ek, ee)

  numbered : Numbered s (conditions_at s) C
  numbered = rw ed at f

  pub sheet_roled_found : b ≡ last_at transition_form s → x ≡ every (guard_suits C) (table transition_form n C.s.now a) → y ≡ every (triple_suits C) (table triple_form m C.s.now b) → (w && (x && y)) ≡ roled sheet_layout (common_of s) (transitions_of sheet_layout s) (last_of sheet_layout s)
  unfolding roled
  sheet_roled_found eb ex ey = rw (free_found, ex ∙ ap (λ (u : List ℕ). every (guard_suits C) (table transition_form n u a)) f.bytes, ey ∙ ap (λ (u : List ℕ). every (triple_suits C) (table triple_form m u b)) f.bytes, en, ea, em, eb, guards_well s few C numbered (transitions_of sheet_layout s), triples_well s few C numbered (last_of sheet_layout s))

  pub network_roled_found : b ≡ last_at paired_form s → x ≡ every (paired_suits C) (table paired_form n C.s.now a) → y ≡ every (template_suits C) (table template_form m C.s.now b) → (w && (x && y)) ≡ roled network_layout (common_of s) (transitions_of network_layout s) (last_of network_layout s)
  unfolding roled
  network_roled_found eb ex ey = rw (free_found, ex ∙ ap (λ (u : List ℕ). every (paired_suits C) (table paired_form n u a)) f.bytes, ey ∙ ap (λ (u : List ℕ). every (template_suits C) (table template_form m u b)) f.bytes, en, ea, em, eb, paired_well s few C numbered (transitions_of network_layout s), templates_well s few C numbered (last_of network_layout s))

pub counted_is : {T R : Type 0} (F : Layout T R) (s : List ℕ) (b : Bool) → counts_hold (F.conditions (wide s)) F.actions F.transitions s ≡ b → counted F s ≡ b
unfolding counted
counted_is F s b e = e

pub spread_is : (s : List ℕ) (a n : ℕ) → a ≡ last_at transition_form s → n ≡ last_in s → (b : Bool) → every (λ t. leb (together t (table triple_form n s a)) 4) (table triple_form n s a) ≡ b → sheet_layout.spread (last_of sheet_layout s) ≡ b
spread_is s a n e f b h = rw (e, f) at h

-- what 3 and 6 leave of a triple
within_counts_lem : (k : Counts) → k.states ≤ 16 → k.units ≤ 16 → (t : Triple) → triple_ranged k t ≡ true → within t ≡ true
unfolding triple_ranged
within_counts_lem k q u t e =
    let f = simp (and_iff, leb_iff) at e in
    and_both (lt-ltb t.state 16 (omega arith)) (lt-ltb t.unit 16 (omega arith))

pub all_within : (s : List ℕ) (a n : ℕ) → a ≡ last_at transition_form s → n ≡ last_in s → counts_hold 64 32 64 s ≡ true → ranged sheet_layout (common_of s) (transitions_of sheet_layout s) (last_of sheet_layout s) ≡ true → every within (table triple_form n s a) ≡ true
unfolding ranged common_of
all_within s a n e f c r =
    let h = simp (and_iff, leb_iff) at c in
    let k = counts_of (common_of s) in
    rw (e, f) (every_weaker (triple_ranged k) within (within_counts_lem k (omega arith) (omega arith)) (last_of sheet_layout s) (and_parts (every (transition_ranged k) (transitions_of sheet_layout s)) (every (triple_ranged k) (last_of sheet_layout s)) r).1)
