-- What the transitions leave in a plan. Assumes nothing.
use mathlib.Core.Path.{◌≡◌, refl, sym, ap, ◌∙◌}
use mathlib.Core.Bool.{Bool, cond}
use mathlib.Core.List.{List, ◌∷◌}
use Prim.Native.Nat.{ℕ, zero, suc, ◌+◌, ◌*◌, ◌≤◌, ◌<◌}
use native.Mathlib.Omega.{arith}
use lib.Dec.{eqb}
use lib.ListN.{length, get_or, drop}
use lib.Seq.{drop-drop}
use Rattle.sheet.specs.Table.{Form, records, table, starts}
use Rattle.sheet.specs.declared.Transition.{Transition}
use Rattle.sheet.proofs.Tables.{length_records, length_starts, table_at}
use Rattle.step.specs.Lists.{numbers}
use Rattle.step.specs.Walk.{base_form}
use Rattle.engine.specs.Plan.{absent, key_of, first_of, guard_of, action_of, target_of, gap_of}
use Rattle.engine.specs.Walk.{chain}
use Rattle.engine.specs.Prepared.{text_place, action_place, linked}
use Rattle.engine.proofs.Plans.Linking.{turn_of}
use Rattle.engine.proofs.Plans.Kept.{linked_length, linked_other, linked_at}
use Rattle.engine.proofs.Plans.Spacing.{next_of, Spaced, chain_numbers, linked_head, linked_spaced}
use Rattle.engine.proofs.Plans.Parts.{key_at, key_below, transition_words, turn_length, turn_word, turn_other, turns_chained}

-- the numbers of the records of a table that pass a test, by their places
pub numbers_starts : {A : Type 0} (F : Form A) (p : A → Bool) (n : ℕ) (s : List ℕ) (a i : ℕ) → numbers (λ at. p (F.value (drop at s))) i (starts F n s a) ≡ numbers p i (table F n s a)
unfolding numbers starts records
numbers_starts F p zero s a i = refl
numbers_starts F p (suc n) s a i =
    let k = F.size (drop a s) in
    ap (λ (l : List ℕ). cond (p (F.value (drop a s))) (i ∷ l) l) (numbers_starts F p n s (a + k) (suc i) ∙ ap (λ (r : List ℕ). numbers p (suc i) (records F n r)) (sym (drop-drop k a s)))

-- What a plan holds of transitions: by number where their condition and action stand and the state they lead to, and in a chain those of a key.
pub record Moves (s conditions actions : List ℕ) (ts : List Transition) (p : List ℕ) : Type 0 where
  pub guard : (t : ℕ) (d : Transition) → t < length ts → guard_of p t ≡ text_place s conditions (get_or ts t d).condition
  pub action : (t : ℕ) (d : Transition) → t < length ts → action_of p t ≡ action_place s actions (get_or ts t d).action
  pub target : (t : ℕ) (d : Transition) → t < length ts → target_of p t ≡ (get_or ts t d).to
  pub keyed : (k : ℕ) → k < 512 → chain (gap_of p) 96 96 (first_of p k) ≡ numbers (λ t. eqb (key_of t.from t.unit t.kind) k) 0 ts

-- n transitions put into a plan
abbrev pub turned : List ℕ → List ℕ → List ℕ → Bool → ℕ → ℕ → List ℕ → List ℕ
turned s conditions actions paired n a old = linked (turn_of s conditions actions paired) 0 (starts (base_form paired) n s a) old

module _ (s conditions actions : List ℕ) (paired : Bool) (n a : ℕ) (few : n ≤ 96) (old : List ℕ) (long : length old ≡ 2344) where
  pub turned_length : length (turned s conditions actions paired n a old) ≡ 2344
  turned_length = linked_length (turn_of s conditions actions paired) (λ i at p. turn_length s conditions actions i at p paired) (starts (base_form paired) n s a) 0 old ∙ long

  pub turned_front : (k : ℕ) → k < 8 → get_or (turned s conditions actions paired n a old) k 0 ≡ get_or old k 0
  turned_front k h =
      linked_other (turn_of s conditions actions paired) k 96 (λ i at q b. turn_other s conditions actions i at q k paired (omega arith) (λ e. omega arith) (λ j y e. omega arith))
      (starts (base_form paired) n s a) 0 old (omega (arith, length_starts (base_form paired) n s a))

  -- A plan that has the same where transitions stand and where the first of each key does.
  module _ (empty : (k : ℕ) → k < 512 → get_or old (8 + k) 0 ≡ absent) (p : List ℕ) (low : (k : ℕ) → k < 520 → get_or p k 0 ≡ get_or (turned s conditions actions paired n a old) k 0)
      (high : (k : ℕ) → 552 ≤ k → k < 936 → get_or p k 0 ≡ get_or (turned s conditions actions paired n a old) k 0) where
    word_there : (t : ℕ) → t < n → (k j : ℕ) → k ≡ 552 + 4 * t + j → j < 4
        → get_or p k 0 ≡ get_or (transition_words s conditions actions t (get_or (starts (base_form paired) n s a) t 0) (linked (turn_of s conditions actions paired) (suc t) (drop (suc t) (starts (base_form paired) n s a)) old)) j 0
    word_there t h k j e b =
        let f = turn_of s conditions actions paired in
        let places = starts (base_form paired) n s a in
        let rest = linked f (suc t) (drop (suc t) places) old in
        high k (omega arith) (omega arith)
        ∙ linked_at f k t (λ i at q z. turn_other s conditions actions i at q k paired (omega arith) (λ x. omega (arith, key_below s at)) (λ m y x. omega arith)) 0 places 0 t old (omega arith) (omega (arith, length_starts (base_form paired) n s a))
        ∙ turn_word s conditions actions t (get_or places t 0) rest k paired j e b (omega arith) (linked_length f (λ i at q. turn_length s conditions actions i at q paired) (drop (suc t) places) (suc t) old ∙ long)

    chain_there : (k : ℕ) → k < 512 → chain (gap_of p) 96 96 (first_of p k) ≡ numbers (λ u. eqb (key_of u.from u.unit u.kind) k) 0 (table (base_form paired) n s a)
    chain_there k h =
        let places = starts (base_form paired) n s a in
        let many = length_starts (base_form paired) n s a in
        let c = turns_chained s conditions actions paired in
        let head : first_of p k ≡ next_of (key_at s) k 0 places = low (8 + k) (omega arith) ∙ linked_head c old long empty k h places 0 (omega arith) in
        let spaced : Spaced (key_at s) (gap_of p) 0 places = λ d t j e b. ap (λ (g : ℕ). suc (j + g)) (high (555 + 4 * j) (omega arith) (omega arith)) ∙ linked_spaced c old long empty (omega arith) places 0 (omega arith) d t j e b in
        ap (chain (gap_of p) 96 96) head ∙ chain_numbers (key_at s) (gap_of p) 96 (omega arith) k places 0 96 spaced (omega arith) (omega arith) ∙ numbers_starts (base_form paired) (λ u. eqb (key_of u.from u.unit u.kind) k) n s a 0

    pub moves_there : Moves s conditions actions (table (base_form paired) n s a) p
    moves_there =
        let many = length_records (base_form paired) n (drop a s) in
        record {
          guard = λ t d h. word_there t (omega arith) (552 + 4 * t) 0 (omega arith) (omega arith) ∙ ap (λ (u : Transition). text_place s conditions u.condition) (table_at (base_form paired) n s a t d (omega arith));
          action = λ t d h. word_there t (omega arith) (553 + 4 * t) 1 (omega arith) (omega arith) ∙ ap (λ (u : Transition). action_place s actions u.action) (table_at (base_form paired) n s a t d (omega arith));
          target = λ t d h. word_there t (omega arith) (554 + 4 * t) 2 (omega arith) (omega arith) ∙ ap (λ (u : Transition). u.to) (table_at (base_form paired) n s a t d (omega arith));
          keyed = chain_there;
        }
