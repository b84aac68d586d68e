-- What the header, a transition, its pairs and a triple put where in a plan. Assumes nothing.
use mathlib.Core.Path.{◌≡◌, refl, ap, ◌∙◌}
use mathlib.Core.Bool.{Bool, true, false, cond}
use mathlib.Core.List.{List, [], ◌∷◌}
use Prim.Native.Nat.{ℕ, zero, suc, ◌+◌, ◌-◌, ◌*◌, ◌%◌, ◌≤◌, ◌<◌, min}
use native.Mathlib.Omega.{arith}
use lib.Dec.{eqb}
use lib.ListN.{length, get_or, drop, length-replicate, replicate}
use lib.Seq.{sets, length-sets}
use Rattle.sheet.specs.Bytes.{byte}
use Rattle.sheet.specs.Decode.{transition_of, triple_form}
use Rattle.sheet.specs.declared.Header.{Header}
use Rattle.engine.specs.Plan.{plan_size, absent, cell_of, key_of}
use Rattle.engine.specs.Prepared.{text_place, action_place, with_transition, pair_words, with_pairs, with_triple, head_words, empty}
use Rattle.engine.proofs.Plans.Linking.{turn_of}
use Rattle.engine.proofs.Plans.Kept.{entry_length, entry_head, entry_word, entry_other, behind_front}
use Rattle.engine.proofs.Plans.Spacing.{Chained}

-- the key of the transition at a place, and the cell of the triple
abbrev pub key_at : List ℕ → ℕ → ℕ
key_at s at = key_of (transition_of (drop at s)).from (transition_of (drop at s)).unit (transition_of (drop at s)).kind

abbrev pub cell_at : List ℕ → ℕ → ℕ
cell_at s at = cell_of (triple_form.value (drop at s)).state (triple_form.value (drop at s)).unit

pub key_below : (s : List ℕ) (at : ℕ) → key_at s at < 512
key_below s at = omega arith

pub cell_below : (s : List ℕ) (at : ℕ) → cell_at s at < 256
cell_below s at = omega arith

-- a plan with nothing but the words in front
abbrev pub blank : Header → ℕ → ℕ → List ℕ
blank h paired last = sets empty 0 (head_words h paired last)

module _ (h : Header) (paired last : ℕ) where
  pub blank_length : length (blank h paired last) ≡ 2344
  unfolding empty
  blank_length = length-sets (replicate plan_size absent) 0 (head_words h paired last) ∙ length-replicate plan_size absent

  pub blank_absent : (k : ℕ) → 6 ≤ k → k < 2344 → get_or (blank h paired last) k 0 ≡ absent
  unfolding empty
  blank_absent k a b = behind_front plan_size absent (head_words h paired last) k a b

  pub blank_header : (get_or (blank h paired last) 0 0 ≡ h.units) × (get_or (blank h paired last) 1 0 ≡ h.programs) × (get_or (blank h paired last) 2 0 ≡ h.monitors) × (get_or (blank h paired last) 3 0 ≡ h.bad) × (get_or (blank h paired last) 4 0 ≡ paired) × (get_or (blank h paired last) 5 0 ≡ last % 65536)
  unfolding empty
  blank_header = (refl, refl, refl, refl, refl, refl)

-- a transition
abbrev pub transition_words : List ℕ → List ℕ → List ℕ → ℕ → ℕ → List ℕ → List ℕ
transition_words s conditions actions i at p = let t = transition_of (drop at s) in text_place s conditions t.condition ∷ action_place s actions t.action ∷ t.to ∷ (get_or p (8 + key_at s at) 0 - suc i) ∷ []

module _ (s conditions actions : List ℕ) (i at : ℕ) (p : List ℕ) where
  transition_length : length (with_transition s conditions actions i at p) ≡ length p
  unfolding with_transition
  transition_length = entry_length p (552 + 4 * i) (transition_words s conditions actions i at p) (8 + key_at s at) i

  transition_head : length p ≡ 2344 → get_or (with_transition s conditions actions i at p) (8 + key_at s at) 0 ≡ i
  unfolding with_transition
  transition_head long = entry_head p (552 + 4 * i) (transition_words s conditions actions i at p) (8 + key_at s at) i (omega (arith, key_below s at))

  module _ (k : ℕ) where
    transition_word : (j : ℕ) → k ≡ 552 + 4 * i + j → j < 4 → i < 96 → length p ≡ 2344 → get_or (with_transition s conditions actions i at p) k 0 ≡ get_or (transition_words s conditions actions i at p) j 0
    unfolding with_transition
    transition_word j e h few long = entry_word p (552 + 4 * i) (transition_words s conditions actions i at p) (8 + key_at s at) i k (λ z. omega (arith, key_below s at)) j e h (omega arith)

    transition_other : (k ≡ 8 + key_at s at → ⊥) → ((j : ℕ) → j < 4 → k ≡ 552 + 4 * i + j → ⊥) → get_or (with_transition s conditions actions i at p) k 0 ≡ get_or p k 0
    unfolding with_transition
    transition_other away out = entry_other p (552 + 4 * i) (transition_words s conditions actions i at p) (8 + key_at s at) i k away out

-- its pairs
pub pair_words_length : (s conditions : List ℕ) (n at : ℕ) → length (pair_words s conditions n at) ≡ 3 * n
unfolding pair_words
pair_words_length s conditions zero at = refl
pair_words_length s conditions (suc n) at = ap (λ (m : ℕ). suc (suc (suc m))) (pair_words_length s conditions n (at + 2)) ∙ (omega arith)

module _ (s conditions : List ℕ) (i at : ℕ) (p : List ℕ) where
  pairs_length : length (with_pairs s conditions i at p) ≡ length p
  unfolding with_pairs
  pairs_length = entry_length p (1192 + 12 * i) (pair_words s conditions (min (byte s (at + 6)) 4) (at + 7)) (936 + i) _

  pairs_head : length p ≡ 2344 → i < 96 → get_or (with_pairs s conditions i at p) (936 + i) 0 ≡ cond (eqb (min (byte s (at + 6)) 4) 0) absent (4 * i)
  unfolding with_pairs
  pairs_head long few = entry_head p (1192 + 12 * i) (pair_words s conditions (min (byte s (at + 6)) 4) (at + 7)) (936 + i) _ (omega arith)

  pairs_word : (k j : ℕ) → k ≡ 1192 + 12 * i + j → j < length (pair_words s conditions (min (byte s (at + 6)) 4) (at + 7)) → i < 96 → length p ≡ 2344
      → get_or (with_pairs s conditions i at p) k 0 ≡ get_or (pair_words s conditions (min (byte s (at + 6)) 4) (at + 7)) j 0
  unfolding with_pairs
  pairs_word k j e h few long =
      let most = pair_words_length s conditions (min (byte s (at + 6)) 4) (at + 7) in
      entry_word p (1192 + 12 * i) (pair_words s conditions (min (byte s (at + 6)) 4) (at + 7)) (936 + i) _ k (λ z. omega arith) j e h (omega arith)

  pairs_other : (k : ℕ) → (k ≡ 936 + i → ⊥) → ((j : ℕ) → j < 12 → k ≡ 1192 + 12 * i + j → ⊥) → get_or (with_pairs s conditions i at p) k 0 ≡ get_or p k 0
  unfolding with_pairs
  pairs_other k away out =
      entry_other p (1192 + 12 * i) (pair_words s conditions (min (byte s (at + 6)) 4) (at + 7)) (936 + i) _ k away
      (λ j h e. out j (omega (arith, pair_words_length s conditions (min (byte s (at + 6)) 4) (at + 7))) e)

-- a transition with its pairs, if it has them
module _ (s conditions actions : List ℕ) where
  module _ (i at : ℕ) (p : List ℕ) where
    pub turn_length : (paired : Bool) → length (turn_of s conditions actions paired i at p) ≡ length p
    unfolding turn_of
    turn_length false = transition_length s conditions actions i at p
    turn_length true = pairs_length s conditions i at (with_transition s conditions actions i at p) ∙ transition_length s conditions actions i at p

    turn_low : (paired : Bool) (k : ℕ) → k < 936 → get_or (turn_of s conditions actions paired i at p) k 0 ≡ get_or (with_transition s conditions actions i at p) k 0
    unfolding turn_of
    turn_low false k h = refl
    turn_low true k h = pairs_other s conditions i at (with_transition s conditions actions i at p) k (λ e. omega arith) (λ j b e. omega arith)

    module _ (k : ℕ) where
      pub turn_word : (paired : Bool) (j : ℕ) → k ≡ 552 + 4 * i + j → j < 4 → i < 96 → length p ≡ 2344 → get_or (turn_of s conditions actions paired i at p) k 0 ≡ get_or (transition_words s conditions actions i at p) j 0
      turn_word paired j e h few long = turn_low paired k (omega arith) ∙ transition_word s conditions actions i at p k j e h few long

      pub turn_other : (paired : Bool) → k < 936 → (k ≡ 8 + key_at s at → ⊥) → ((j : ℕ) → j < 4 → k ≡ 552 + 4 * i + j → ⊥) → get_or (turn_of s conditions actions paired i at p) k 0 ≡ get_or p k 0
      turn_other paired h away out = turn_low paired k h ∙ transition_other s conditions actions i at p k away out

      -- above what transitions put there
      pub turn_alone : 936 ≤ k → i < 96 → get_or (turn_of s conditions actions false i at p) k 0 ≡ get_or p k 0
      unfolding turn_of
      turn_alone h few = transition_other s conditions actions i at p k (λ e. omega (arith, key_below s at)) (λ j b e. omega arith)

      pub turn_beside : 936 ≤ k → i < 96 → (k ≡ 936 + i → ⊥) → ((j : ℕ) → j < 12 → k ≡ 1192 + 12 * i + j → ⊥) → get_or (turn_of s conditions actions true i at p) k 0 ≡ get_or p k 0
      unfolding turn_of
      turn_beside h few away out = pairs_other s conditions i at (with_transition s conditions actions i at p) k away out ∙ turn_alone h few

    module _ (few : i < 96) (long : length p ≡ 2344) where
      pub turn_pairs_head : get_or (turn_of s conditions actions true i at p) (936 + i) 0 ≡ cond (eqb (min (byte s (at + 6)) 4) 0) absent (4 * i)
      unfolding turn_of
      turn_pairs_head = pairs_head s conditions i at (with_transition s conditions actions i at p) (transition_length s conditions actions i at p ∙ long) few

      pub turn_pairs_word : (k j : ℕ) → k ≡ 1192 + 12 * i + j → j < length (pair_words s conditions (min (byte s (at + 6)) 4) (at + 7))
          → get_or (turn_of s conditions actions true i at p) k 0 ≡ get_or (pair_words s conditions (min (byte s (at + 6)) 4) (at + 7)) j 0
      unfolding turn_of
      turn_pairs_word k j e h = pairs_word s conditions i at (with_transition s conditions actions i at p) k j e h few (transition_length s conditions actions i at p ∙ long)

  pub turns_chained : (paired : Bool) → Chained (turn_of s conditions actions paired) (key_at s) (λ k. 8 + k) (λ j. 555 + 4 * j) 96 512 2344
  turns_chained paired =
      record {
        long = λ i at p. turn_length i at p paired;
        within = λ at. key_below s at;
        first = λ i at p few long. turn_low i at p paired (8 + key_at s at) (omega (arith, key_below s at)) ∙ transition_head s conditions actions i at p long;
        others = λ i at p k few h away. turn_other i at p (8 + k) paired (omega arith) (λ e. away (omega arith)) (λ j b e. omega arith);
        gap = λ i at p few long. turn_word i at p (555 + 4 * i) paired 3 (omega arith) (omega arith) few long;
        apart = λ i j at p h few. turn_other i at p (555 + 4 * j) paired (omega arith) (λ e. omega (arith, key_below s at)) (λ m b e. omega arith);
      }

-- a triple
abbrev pub triple_words : List ℕ → List ℕ → ℕ → ℕ → List ℕ → List ℕ
triple_words s conditions i at p = text_place s conditions (triple_form.value (drop at s)).precondition ∷ i ∷ (get_or p (936 + cell_at s at) 0 - suc i) ∷ []

module _ (s conditions : List ℕ) where
  module _ (i at : ℕ) (p : List ℕ) where
    pub triple_length : length (with_triple s conditions i at p) ≡ length p
    unfolding with_triple
    triple_length = entry_length p (1192 + 3 * i) (triple_words s conditions i at p) (936 + cell_at s at) i

    triple_head : length p ≡ 2344 → get_or (with_triple s conditions i at p) (936 + cell_at s at) 0 ≡ i
    unfolding with_triple
    triple_head long = entry_head p (1192 + 3 * i) (triple_words s conditions i at p) (936 + cell_at s at) i (omega (arith, cell_below s at))

    module _ (k : ℕ) where
      pub triple_word : (j : ℕ) → k ≡ 1192 + 3 * i + j → j < 3 → i < 32 → length p ≡ 2344 → get_or (with_triple s conditions i at p) k 0 ≡ get_or (triple_words s conditions i at p) j 0
      unfolding with_triple
      triple_word j e h few long = entry_word p (1192 + 3 * i) (triple_words s conditions i at p) (936 + cell_at s at) i k (λ z. omega (arith, cell_below s at)) j e h (omega arith)

      pub triple_other : (k ≡ 936 + cell_at s at → ⊥) → ((j : ℕ) → j < 3 → k ≡ 1192 + 3 * i + j → ⊥) → get_or (with_triple s conditions i at p) k 0 ≡ get_or p k 0
      unfolding with_triple
      triple_other away out = entry_other p (1192 + 3 * i) (triple_words s conditions i at p) (936 + cell_at s at) i k away out

  pub triples_chained : Chained (with_triple s conditions) (cell_at s) (λ c. 936 + c) (λ j. 1194 + 3 * j) 32 256 2344
  triples_chained =
      record {
        long = λ i at p. triple_length i at p;
        within = λ at. cell_below s at;
        first = λ i at p few long. triple_head i at p long;
        others = λ i at p k few h away. triple_other i at p (936 + k) (λ e. away (omega arith)) (λ j b e. omega arith);
        gap = λ i at p few long. triple_word i at p (1194 + 3 * i) 2 (omega arith) (omega arith) few long;
        apart = λ i j at p h few. triple_other i at p (1194 + 3 * j) (λ e. omega (arith, cell_below s at)) (λ m b e. omega arith);
      }
