-- What the plan of accepted bytes holds. Assumes nothing.
use mathlib.Core.Path.{◌≡◌, refl, sym, ap, subst, ◌∙◌}
use mathlib.Core.Bool.{true, false, cond}
use mathlib.Core.List.{List, [], ◌∷◌, map}
use Prim.Native.Nat.{ℕ, zero, suc, ◌+◌, ◌-◌, ◌*◌, ◌≤◌, ◌<◌, min}
use native.Mathlib.Nat.{min-eq_left, mod-eq_of_lt}
use native.Mathlib.Omega.{arith}
use borrow.Author.Tests.{lt-ltb}
use lib.Dec.{eqb}
use lib.ListN.{length, get_or, drop}
use lib.Seq.{sets, drop-drop}
use Rattle.sheet.specs.Bytes.{byte}
use Rattle.sheet.specs.Table.{Form, records, table, starts}
use Rattle.sheet.specs.Decode.{transition_form, triple_form, pair_form, paired_form, template_form, transitions_in, last_in, common_of}
use Rattle.sheet.specs.Parts.{Common, Paired}
use Rattle.sheet.specs.Reading.{Layout, sheet_layout, network_layout, transitions_of, last_of}
use Rattle.sheet.specs.declared.Transition.{Transition}
use Rattle.sheet.specs.declared.Triple.{Triple}
use Rattle.sheet.specs.declared.Template.{Template}
use Rattle.sheet.specs.Answer.{header_of, places_of}
use Rattle.sheet.proofs.Accepted.{Accepted, bounds, network_pairs}
use Rattle.sheet.proofs.Limits.{table_places}
use Rattle.sheet.proofs.Tables.{length_records, length_starts, table_at, table_step, same_starts, same_records}
use Rattle.sheet.proofs.Readers.Loops.{byte_past}
use Rattle.step.specs.Lists.{numbers}
use Rattle.step.specs.Walk.{base_form}
use Rattle.step.proofs.OnLists.Keeping.{image_at}
use Rattle.engine.specs.Plan as Plan
use Rattle.engine.specs.Plan.{absent, units_in, programs_in, monitors_in, bad_in, paired_in, cell_of, asked_of, number_of, behind_of, post_of}
use Rattle.engine.specs.Walk.{chain}
use Rattle.engine.specs.Prepared.{text_place, linked, pair_words, with_triple, post_words, transition_places, sheet_into, network_into, sheet_plan, network_plan}
use Rattle.engine.proofs.Plans.Linking.{turn_of, turns}
use Rattle.engine.proofs.Plans.Kept.{sets_other, sets_own, linked_length, linked_other, linked_at}
use Rattle.engine.proofs.Plans.Spacing.{next_of, Spaced, chain_none, chain_numbers, linked_head, linked_spaced}
use Rattle.engine.proofs.Plans.Parts.{cell_at, cell_below, triple_words, blank, blank_length, blank_absent, blank_header, turn_length, turn_alone, turn_beside, turn_pairs_head, turn_pairs_word, triple_length, triple_word, triple_other, triples_chained}
use Rattle.engine.proofs.Plans.Queued.{candidates, pair_words_lem, Candidates, run_from_lem}
use Rattle.engine.proofs.Plans.Turned.{numbers_starts, turned, turned_length, turned_front, Moves, moves_there}

-- The counts are within the plan's.
module _ {T R : Type 0} {F : Layout T R} {s : List ℕ} (a : Accepted F s) where
  transitions_most : transitions_in s ≤ F.transitions
  transitions_most = rw length_records at (bounds a).transitions

  last_most : last_in s ≤ 32
  last_most = rw length_records at (bounds a).last

-- the postconditions
post_length : (s conditions : List ℕ) (size n at : ℕ) → length (post_words s conditions size n at) ≡ n
unfolding post_words
post_length s conditions size zero at = refl
post_length s conditions size (suc n) at = ap suc (post_length s conditions size n (at + size))

module _ (s conditions : List ℕ) (size n at : ℕ) (few : n ≤ 32) (p : List ℕ) where
  post_other : (k : ℕ) → ((j : ℕ) → j < 32 → k ≡ 520 + j → ⊥) → get_or (sets p 520 (post_words s conditions size n at)) k 0 ≡ get_or p k 0
  post_other k away = sets_other (post_words s conditions size n at) p 520 k (λ j h e. away j (omega (arith, post_length s conditions size n at)) e)

  post_own : length p ≡ 2344 → (i : ℕ) → i < n → post_of (sets p 520 (post_words s conditions size n at)) i ≡ get_or (post_words s conditions size n at) i 0
  post_own long i h =
      let many = post_length s conditions size n at in
      rw (lt-ltb i 32 (omega arith)) (sets_own (post_words s conditions size n at) p 520 (520 + i) i refl (omega arith) (omega arith))

-- of records whose last byte is one
module _ {R : Type 0} (F : Form R) (post : R → ℕ) (size : ℕ) (sized : (t : List ℕ) → F.size t ≡ size) (last : (t : List ℕ) → post (F.value t) ≡ byte t (size - 1)) (s conditions : List ℕ) where
  post_words_lem : (n at : ℕ) → post_words s conditions size n at ≡ map (λ r. text_place s conditions (post r)) (table F n s at)
  unfolding post_words records
  post_words_lem zero at = refl
  post_words_lem (suc n) at =
      let here : byte s (at + (size - 1)) ≡ post (F.value (drop at s)) = byte_past s at (size - 1) ∙ sym (last (drop at s)) in
      let on : size ≡ F.size (drop at s) = sym (sized (drop at s)) in
      (λ j. text_place s conditions (here j) ∷ post_words s conditions size n (at + on j))
      ∙ ap (λ (l : List ℕ). text_place s conditions (post (F.value (drop at s))) ∷ l) (post_words_lem n (at + F.size (drop at s)))
      ∙ ap (map (λ r. text_place s conditions (post r))) (sym (table_step F n s at))

  post_there : (n at : ℕ) → n ≤ 32 → (p : List ℕ) → length p ≡ 2344 → (i : ℕ) (d : R) → i < length (table F n s at) → post_of (sets p 520 (post_words s conditions size n at)) i ≡ text_place s conditions (post (get_or (table F n s at) i d))
  post_there n at few p long i d h =
      post_own s conditions size n at few p long i (omega (arith, length_records F n (drop at s))) ∙ ap (λ (l : List ℕ). get_or l i 0) (post_words_lem n at) ∙ image_at (λ r. text_place s conditions (post r)) 0 d (table F n s at) i h

-- What a plan holds of a header.
pub record Heads (C : Common) (kind : ℕ) (p : List ℕ) : Type 0 where
  pub units : units_in p ≡ C.units
  pub programs : programs_in p ≡ C.programs
  pub monitors : monitors_in p ≡ C.monitors
  pub bad : bad_in p ≡ C.bad
  pub paired : paired_in p ≡ kind

heads_there : (s : List ℕ) (kind last : ℕ) (p : List ℕ) → ((k : ℕ) → k < 8 → get_or p k 0 ≡ get_or (blank (header_of s) kind last) k 0) → Heads (common_of s) kind p
unfolding common_of
heads_there s kind last p same =
    let h = blank_header (header_of s) kind last in
    record { units = same 0 (omega arith) ∙ h.0; programs = same 1 (omega arith) ∙ h.1; monitors = same 2 (omega arith) ∙ h.2; bad = same 3 (omega arith) ∙ h.3; paired = same 4 (omega arith) ∙ h.4 }

-- The plan of a sheet: its header, its transitions, and its triples in a chain of each cell and by number.
pub record SheetPlanned (s conditions actions : List ℕ) (last : ℕ) (ts : List Transition) (us : List Triple) (p : List ℕ) : Type 0 where
  pub heads : Heads (common_of s) 0 p
  pub begins : Plan.last_in p ≡ last
  pub moves : Moves s conditions actions ts p
  pub celled : (c : ℕ) → c < 256 → chain (behind_of p) 384 384 (get_or p (936 + c) 0) ≡ numbers (λ u. eqb (cell_of u.state u.unit) c) 0 us
  pub asked : (i : ℕ) (d : Triple) → i < length us → asked_of p i ≡ text_place s conditions (get_or us i d).precondition
  pub number : (i : ℕ) → i < length us → number_of p i ≡ i
  pub post : (i : ℕ) (d : Triple) → i < length us → post_of p i ≡ text_place s conditions (get_or us i d).postcondition

abbrev tripled : List ℕ → List ℕ → ℕ → ℕ → List ℕ → List ℕ
tripled s conditions m last p = linked (with_triple s conditions) 0 (starts triple_form m s last) p

module _ (s conditions : List ℕ) (m last : ℕ) (some : m ≤ 32) (old : List ℕ) (long : length old ≡ 2344) where
  tripled_length : length (tripled s conditions m last old) ≡ 2344
  tripled_length = linked_length (with_triple s conditions) (triple_length s conditions) (starts triple_form m s last) 0 old ∙ long

  tripled_low : (k : ℕ) → k < 936 → get_or (tripled s conditions m last old) k 0 ≡ get_or old k 0
  tripled_low k h =
      linked_other (with_triple s conditions) k 32 (λ i at q b. triple_other s conditions i at q k (λ e. omega arith) (λ j y e. omega arith)) (starts triple_form m s last) 0 old
      (omega (arith, length_starts triple_form m s last))

  module _ (p : List ℕ) (high : (k : ℕ) → 936 ≤ k → get_or p k 0 ≡ get_or (tripled s conditions m last old) k 0) where
    celled_there : ((c : ℕ) → c < 256 → get_or old (936 + c) 0 ≡ absent) → (c : ℕ) → c < 256 → chain (behind_of p) 384 384 (get_or p (936 + c) 0) ≡ numbers (λ u. eqb (cell_of u.state u.unit) c) 0 (table triple_form m s last)
    celled_there empty c h =
        let places = starts triple_form m s last in
        let many = length_starts triple_form m s last in
        let q = triples_chained s conditions in
        let head : get_or p (936 + c) 0 ≡ next_of (cell_at s) c 0 places = high (936 + c) (omega arith) ∙ linked_head q old long empty c h places 0 (omega arith) in
        let spaced : Spaced (cell_at s) (behind_of p) 0 places = λ d t j e b. ap (λ (g : ℕ). suc (j + g)) (high (1194 + 3 * j) (omega arith)) ∙ linked_spaced q old long empty (omega arith) places 0 (omega arith) d t j e b in
        ap (chain (behind_of p) 384 384) head ∙ chain_numbers (cell_at s) (behind_of p) 384 (omega arith) c places 0 384 spaced (omega arith) (omega arith) ∙ numbers_starts triple_form (λ u. eqb (cell_of u.state u.unit) c) m s last 0

    triple_there : (i : ℕ) → i < m → (k j : ℕ) → k ≡ 1192 + 3 * i + j → j < 3
        → get_or p k 0 ≡ get_or (triple_words s conditions i (get_or (starts triple_form m s last) i 0) (linked (with_triple s conditions) (suc i) (drop (suc i) (starts triple_form m s last)) old)) j 0
    triple_there i h k j e b =
        let f = with_triple s conditions in
        let places = starts triple_form m s last in
        high k (omega arith)
        ∙ linked_at f k i (λ n at q z. triple_other s conditions n at q k (λ x. omega (arith, cell_below s at)) (λ y w x. omega arith)) 0 places 0 i old (omega arith) (omega (arith, length_starts triple_form m s last))
        ∙ triple_word s conditions i (get_or places i 0) (linked f (suc i) (drop (suc i) places) old) k j e b (omega arith) (linked_length f (triple_length s conditions) (drop (suc i) places) (suc i) old ∙ long)

module _ (s conditions actions : List ℕ) (n a m last : ℕ) (few : n ≤ 96) (some : m ≤ 32) (near : last < 65536) where
  sheet_there : SheetPlanned s conditions actions last (table transition_form n s a) (table triple_form m s last) (sets (tripled s conditions m last (turned s conditions actions false n a (blank (header_of s) 0 last))) 520 (post_words s conditions 4 m last))
  sheet_there =
      let first = blank (header_of s) 0 last in
      let long = blank_length (header_of s) 0 last in
      let second = turned s conditions actions false n a first in
      let third = tripled s conditions m last second in
      let p = sets third 520 (post_words s conditions 4 m last) in
      let second-long = turned_length s conditions actions false n a few first long in
      let other : (k : ℕ) → ((j : ℕ) → j < 32 → k ≡ 520 + j → ⊥) → get_or p k 0 ≡ get_or third k 0 = post_other s conditions 4 m last some third in
      let low : (k : ℕ) → k < 936 → ((j : ℕ) → j < 32 → k ≡ 520 + j → ⊥) → get_or p k 0 ≡ get_or second k 0 = λ k b away. other k away ∙ tripled_low s conditions m last some second second-long k b in
      let high : (k : ℕ) → 936 ≤ k → get_or p k 0 ≡ get_or third k 0 = λ k b. other k (λ j y e. omega arith) in
      let empty : (c : ℕ) → c < 256 → get_or second (936 + c) 0 ≡ absent
      = λ c b. linked_other (turn_of s conditions actions false) (936 + c) 96 (λ i at q y. turn_alone s conditions actions i at q (936 + c) (omega arith) y) (starts (base_form false) n s a) 0 first (omega (arith, length_starts (base_form false) n s a))
      ∙ blank_absent (header_of s) 0 last (936 + c) (omega arith) (omega arith) in
      let many = length_records triple_form m (drop last s) in
      let front : (k : ℕ) → k < 8 → get_or p k 0 ≡ get_or first k 0 = λ k b. low k (omega arith) (λ j y e. omega arith) ∙ turned_front s conditions actions false n a few first long k b in
      record {
        heads = heads_there s 0 last p front;
        begins = front 5 (omega arith) ∙ (blank_header (header_of s) 0 last).5 ∙ mod-eq_of_lt near;
        moves = moves_there s conditions actions false n a few first long (λ k b. blank_absent (header_of s) 0 last (8 + k) (omega arith) (omega arith)) p (λ k b. low k (omega arith) (λ j y e. omega arith)) (λ k b c. low k c (λ j y e. omega arith));
        celled = celled_there s conditions m last some second second-long p high empty;
        asked = λ i d b. triple_there s conditions m last some second second-long p high i (omega arith) (1192 + 3 * i) 0 (omega arith) (omega arith) ∙ ap (λ (u : Triple). text_place s conditions u.precondition) (table_at triple_form m s last i d (omega arith));
        number = λ i b. triple_there s conditions m last some second second-long p high i (omega arith) (1193 + 3 * i) 1 (omega arith) (omega arith);
        post = post_there triple_form (λ u. u.postcondition) 4 (λ t. refl) (λ t. refl) s conditions m last some third (tripled_length s conditions m last some second second-long);
      }

-- what an accepted sheet's plan holds
pub sheet_planned : {s : List ℕ} → Accepted sheet_layout s → length s ≤ 65535 → SheetPlanned s (places_of sheet_layout s).conditions (places_of sheet_layout s).actions (places_of sheet_layout s).last (transitions_of sheet_layout s) (last_of sheet_layout s) (sheet_plan s)
unfolding sheet_into
sheet_planned {s} a short =
    let x = places_of sheet_layout s in
    let few : transitions_in s ≤ 64 = transitions_most a in
    let en : transitions_in s ≡ min (transitions_in s) 96 = sym (min-eq_left (omega arith)) in
    let em : last_in s ≡ min (last_in s) 32 = sym (min-eq_left (last_most a)) in
    let same : sets (tripled s x.conditions (last_in s) x.last (turned s x.conditions x.actions false (transitions_in s) x.transitions (blank (header_of s) 0 x.last))) 520 (post_words s x.conditions 4 (last_in s) x.last) ≡ sheet_plan s
    = (λ j. sets (tripled s x.conditions (em j) x.last (turned s x.conditions x.actions false (en j) x.transitions (blank (header_of s) 0 x.last))) 520 (post_words s x.conditions 4 (em j) x.last))
    ∙ ap (λ (q : List ℕ). sets (tripled s x.conditions (min (last_in s) 32) x.last q) 520 (post_words s x.conditions 4 (min (last_in s) 32) x.last)) (sym (turns s x.conditions x.actions false (transition_places false (header_of s) s x.transitions) (blank (header_of s) 0 x.last))) in
    subst (SheetPlanned s x.conditions x.actions x.last (transitions_of sheet_layout s) (last_of sheet_layout s)) same (sheet_there s x.conditions x.actions (transitions_in s) x.transitions (last_in s) x.last (omega arith) (last_most a) (table_places a 65536 (omega (arith, short))).1)

-- The plan of a network: its header, its transitions, the pairs of each of them in a chain, none for no transition, and its templates.
pub record NetworkPlanned (s conditions actions : List ℕ) (last : ℕ) (ts : List Paired) (us : List Template) (p : List ℕ) : Type 0 where
  pub heads : Heads (common_of s) 1 p
  pub begins : Plan.last_in p ≡ last
  pub moves : Moves s conditions actions (map (λ t. t.base) ts) p
  pub asked : (t : ℕ) (d : Paired) → t < length ts → map (λ j. asked_of p j) (chain (behind_of p) 384 384 (get_or p (936 + t) 0)) ≡ map (λ q. text_place s conditions q.condition) (get_or ts t d).pairs
  pub number : (t : ℕ) (d : Paired) → t < length ts → map (number_of p) (chain (behind_of p) 384 384 (get_or p (936 + t) 0)) ≡ map (λ q. q.template) (get_or ts t d).pairs
  pub none : chain (behind_of p) 384 384 (get_or p (936 + 96) 0) ≡ []
  pub post : (i : ℕ) (d : Template) → i < length us → post_of p i ≡ text_place s conditions (get_or us i d).postcondition

module _ (s conditions actions : List ℕ) (n a : ℕ) (few : n ≤ 96) (old : List ℕ) (long : length old ≡ 2344) (p : List ℕ) (high : (k : ℕ) → 936 ≤ k → get_or p k 0 ≡ get_or (turned s conditions actions true n a old) k 0) (t : ℕ) (h : t < n) where
  -- a place of the pairs of a transition
  beside : (k : ℕ) → 936 ≤ k → ((i : ℕ) → i < t → k ≡ 936 + i → ⊥) → ((i j : ℕ) → i < t → j < 12 → k ≡ 1192 + 12 * i + j → ⊥)
      → get_or p k 0 ≡ get_or (turn_of s conditions actions true t (get_or (starts (base_form true) n s a) t 0) (linked (turn_of s conditions actions true) (suc t) (drop (suc t) (starts (base_form true) n s a)) old)) k 0
  beside k b away out =
      high k b
      ∙ linked_at (turn_of s conditions actions true) k t (λ i at q z. turn_beside s conditions actions i at q k b (omega arith) (away i z) (λ j y. out i j z y)) 0 (starts (base_form true) n s a) 0 t old (omega arith) (omega (arith, length_starts (base_form true) n s a))

  pairs_there : (d : Paired) → length (get_or (table paired_form n s a) t d).pairs ≤ 4
      → (map (λ j. asked_of p j) (chain (behind_of p) 384 384 (get_or p (936 + t) 0)) ≡ map (λ q. text_place s conditions q.condition) (get_or (table paired_form n s a) t d).pairs)
      × (map (number_of p) (chain (behind_of p) 384 384 (get_or p (936 + t) 0)) ≡ map (λ q. q.template) (get_or (table paired_form n s a) t d).pairs)
  pairs_there d four =
      let at = get_or (starts (base_form true) n s a) t 0 in
      let rest = linked (turn_of s conditions actions true) (suc t) (drop (suc t) (starts (base_form true) n s a)) old in
      let rest-long : length rest ≡ 2344 = linked_length (turn_of s conditions actions true) (λ i x q. turn_length s conditions actions i x q true) (drop (suc t) (starts (base_form true) n s a)) (suc t) old ∙ long in
      let u = paired_form.value (drop at s) in
      let e : u ≡ get_or (table paired_form n s a) t d = ap (λ (l : List ℕ). paired_form.value (drop (get_or l t 0) s)) (same_starts (base_form true) paired_form (λ x. refl) n s a) ∙ table_at paired_form n s a t d h in
      let l = u.pairs in
      let few-pairs : length l ≤ 4 = subst (λ (v : Paired). length v.pairs ≤ 4) (sym e) four in
      let count : byte s (at + 6) ≡ length l = byte_past s at 6 ∙ sym (length_records pair_form (byte (drop at s) 6) (drop 7 (drop at s))) in
      let many : min (byte s (at + 6)) 4 ≡ length l = min-eq_left (omega arith) ∙ count in
      let said : min (byte s (at + 6)) 4 ≡ byte (drop at s) 6 = min-eq_left (omega arith) ∙ byte_past s at 6 in
      let behind : drop (at + 7) s ≡ drop 7 (drop at s) = sym (drop-drop 7 at s) in
      let words : pair_words s conditions (min (byte s (at + 6)) 4) (at + 7) ≡ candidates s conditions l = pair_words_lem s conditions (min (byte s (at + 6)) 4) (at + 7) ∙ (λ j. candidates s conditions (records pair_form (said j) (behind j))) in
      let head : get_or p (936 + t) 0 ≡ cond (eqb (length l) 0) absent (4 * t)
      = beside (936 + t) (omega arith) (λ i z x. omega arith) (λ i j z y x. omega arith) ∙ turn_pairs_head s conditions actions t at rest (omega arith) rest-long ∙ ap (λ (m : ℕ). cond (eqb m 0) absent (4 * t)) many in
      let there : Candidates s conditions p (4 * t) l
      = λ j k x y. beside k (omega arith) (λ i z w. omega arith) (λ i m z w v. omega arith) ∙ turn_pairs_word s conditions actions t at rest (omega arith) rest-long k j (omega arith) (omega (arith, ap length words)) ∙ ap (λ (m : List ℕ). get_or m j 0) words in
      let found = run_from_lem s conditions p t l (get_or p (936 + t) 0) head (omega arith) few-pairs there in
      (found.0 ∙ ap (λ (v : Paired). map (λ q. text_place s conditions q.condition) v.pairs) e, found.1 ∙ ap (λ (v : Paired). map (λ q. q.template) v.pairs) e)

module _ (s conditions actions : List ℕ) (n a m last : ℕ) (few : n ≤ 96) (some : m ≤ 32) (near : last < 65536) (four : (t : ℕ) (d : Paired) → t < length (table paired_form n s a) → length (get_or (table paired_form n s a) t d).pairs ≤ 4) where
  network_there : NetworkPlanned s conditions actions last (table paired_form n s a) (table template_form m s last) (sets (turned s conditions actions true n a (blank (header_of s) 1 last)) 520 (post_words s conditions 2 m last))
  network_there =
      let first = blank (header_of s) 1 last in
      let long = blank_length (header_of s) 1 last in
      let second = turned s conditions actions true n a first in
      let p = sets second 520 (post_words s conditions 2 m last) in
      let other : (k : ℕ) → ((j : ℕ) → j < 32 → k ≡ 520 + j → ⊥) → get_or p k 0 ≡ get_or second k 0 = post_other s conditions 2 m last some second in
      let high : (k : ℕ) → 936 ≤ k → get_or p k 0 ≡ get_or second k 0 = λ k b. other k (λ j y e. omega arith) in
      let empty : get_or p (936 + 96) 0 ≡ absent
      = high (936 + 96) (omega arith)
      ∙ linked_other (turn_of s conditions actions true) (936 + 96) 96 (λ i at q y. turn_beside s conditions actions i at q (936 + 96) (omega arith) y (λ e. omega arith) (λ j z e. omega arith)) (starts (base_form true) n s a) 0 first (omega (arith, length_starts (base_form true) n s a))
      ∙ blank_absent (header_of s) 1 last (936 + 96) (omega arith) (omega arith) in
      let many = length_records paired_form n (drop a s) in
      let bases : table (base_form true) n s a ≡ map (λ t. t.base) (table paired_form n s a) = same_records (base_form true) paired_form (λ x. refl) (λ t. t.base) (λ x. refl) n (drop a s) in
      let front : (k : ℕ) → k < 8 → get_or p k 0 ≡ get_or first k 0 = λ k b. other k (λ j y e. omega arith) ∙ turned_front s conditions actions true n a few first long k b in
      record {
        heads = heads_there s 1 last p front;
        begins = front 5 (omega arith) ∙ (blank_header (header_of s) 1 last).5 ∙ mod-eq_of_lt near;
        moves = subst (λ (ts : List Transition). Moves s conditions actions ts p) bases (moves_there s conditions actions true n a few first long (λ k b. blank_absent (header_of s) 1 last (8 + k) (omega arith) (omega arith)) p (λ k b. other k (λ j y e. omega arith)) (λ k b c. other k (λ j y e. omega arith)));
        asked = λ t d b. (pairs_there s conditions actions n a few first long p high t (omega arith) d (four t d b)).0;
        number = λ t d b. (pairs_there s conditions actions n a few first long p high t (omega arith) d (four t d b)).1;
        none = chain_none (behind_of p) 384 384 (get_or p (936 + 96) 0) (omega (arith, empty));
        post = post_there template_form (λ u. u.postcondition) 2 (λ t. refl) (λ t. refl) s conditions m last some second (turned_length s conditions actions true n a few first long);
      }

-- what an accepted network's plan holds
pub network_planned : {s : List ℕ} → Accepted network_layout s → length s ≤ 65535 → NetworkPlanned s (places_of network_layout s).conditions (places_of network_layout s).actions (places_of network_layout s).last (transitions_of network_layout s) (last_of network_layout s) (network_plan s)
unfolding network_into
network_planned {s} a short =
    let x = places_of network_layout s in
    let few : transitions_in s ≤ 96 = transitions_most a in
    let en : transitions_in s ≡ min (transitions_in s) 96 = sym (min-eq_left few) in
    let em : last_in s ≡ min (last_in s) 32 = sym (min-eq_left (last_most a)) in
    let same : sets (turned s x.conditions x.actions true (transitions_in s) x.transitions (blank (header_of s) 1 x.last)) 520 (post_words s x.conditions 2 (last_in s) x.last) ≡ network_plan s
    = (λ j. sets (turned s x.conditions x.actions true (en j) x.transitions (blank (header_of s) 1 x.last)) 520 (post_words s x.conditions 2 (em j) x.last))
    ∙ ap (λ (q : List ℕ). sets q 520 (post_words s x.conditions 2 (min (last_in s) 32) x.last)) (sym (turns s x.conditions x.actions true (transition_places true (header_of s) s x.transitions) (blank (header_of s) 1 x.last))) in
    subst (NetworkPlanned s x.conditions x.actions x.last (transitions_of network_layout s) (last_of network_layout s)) same (network_there s x.conditions x.actions (transitions_in s) x.transitions (last_in s) x.last few (last_most a) (table_places a 65536 (omega (arith, short))).1 (λ t d h. network_pairs a t d h))
