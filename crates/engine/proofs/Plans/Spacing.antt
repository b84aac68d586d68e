-- Chains of the records of one key: each with how many stand between it and the next. Assumes nothing.
use mathlib.Core.Path.{◌≡◌, refl, ap, subst, ◌∙◌}
use mathlib.Core.Bool.{Bool, true, false, cond}
use mathlib.Core.List.{List, [], ◌∷◌}
use Prim.Native.Nat.{ℕ, zero, suc, ◌+◌, ◌-◌, ◌≤◌, ◌<◌}
use native.Mathlib.Omega.{arith}
use borrow.Author.Tests.{eqb-true, eqb-false, lt-ltb, le-ltb}
use lib.Dec.{eqb}
use lib.ListN.{length, get_or, drop, length-drop}
use Rattle.step.specs.Lists.{numbers}
use Rattle.engine.specs.Plan.{absent}
use Rattle.engine.specs.Walk.{chain}
use Rattle.engine.specs.Prepared.{linked}
use Rattle.engine.proofs.Plans.Kept.{linked_length, linked_at}

-- a chain ends past its limit, and goes on below it
module _ (gap : ℕ → ℕ) (most : ℕ) where
  pub chain_none : (fuel i : ℕ) → most ≤ i → chain gap most fuel i ≡ []
  unfolding chain
  chain_none zero i h = refl
  chain_none (suc fuel) i h = rw (le-ltb i most h)

  pub chain_some : (fuel i : ℕ) → i < most → chain gap most (suc fuel) i ≡ i ∷ chain gap most fuel (suc (i + gap i))
  unfolding chain
  chain_some fuel i h = rw (lt-ltb i most h)

module _ {A : Type 0} (key : A → ℕ) where
  -- the number, counted from i, of the first with a key
  unfoldable pub next_of : ℕ → ℕ → List A → ℕ
  next_of k i [] = absent
  next_of k i (x ∷ l) = cond (eqb (key x) k) i (next_of k (suc i) l)

  -- each, counted from i, is followed by the next of its key
  abbrev pub Spaced : (ℕ → ℕ) → ℕ → List A → Type 0
  Spaced gap i l = (d : A) (t j : ℕ) → j ≡ i + t → t < length l → suc (j + gap j) ≡ next_of (key (get_or l t d)) (suc j) (drop (suc t) l)

  later : (b : Bool) (i n : ℕ) → suc i ≤ n → i ≤ cond b i n
  later true i n h = omega arith
  later false i n h = omega arith

  next_later : (k : ℕ) (l : List A) (i : ℕ) → i + length l ≤ absent → i ≤ next_of k i l
  unfolding next_of
  next_later k [] i h = omega arith
  next_later k (x ∷ l) i h = later (eqb (key x) k) i (next_of k (suc i) l) (next_later k l (suc i) (omega arith))

  module _ (gap : ℕ → ℕ) (most : ℕ) where
    module _ (low : most ≤ absent) (k : ℕ) where
      go : (x : A) (l : List A) (i fuel : ℕ) → Spaced gap i (x ∷ l) → i < most → suc (length l) ≤ fuel → ((m : ℕ) → length l ≤ m → chain gap most m (next_of k (suc i) l) ≡ numbers (λ y. eqb (key y) k) (suc i) l)
          → (b : Bool) → eqb (key x) k ≡ b → chain gap most fuel (cond b i (next_of k (suc i) l)) ≡ cond b (i ∷ numbers (λ y. eqb (key y) k) (suc i) l) (numbers (λ y. eqb (key y) k) (suc i) l)
      go x l i zero spaced h few rest b e = absurd (omega arith)
      go x l i (suc fuel) spaced h few rest true e =
          let next : suc (i + gap i) ≡ next_of k (suc i) l = spaced x 0 i (omega arith) (omega arith) ∙ ap (λ (m : ℕ). next_of m (suc i) l) (eqb-true (key x) k e) in
          chain_some gap most fuel i h ∙ ap (λ (m : ℕ). i ∷ chain gap most fuel m) next ∙ ap (λ (m : List ℕ). i ∷ m) (rest fuel (omega arith))
      go x l i (suc fuel) spaced h few rest false e = rest (suc fuel) (omega arith)

      -- from the first of a key on, a chain gives the numbers of all of that key
      pub chain_numbers : (l : List A) (i fuel : ℕ) → Spaced gap i l → i + length l ≤ most → length l ≤ fuel → chain gap most fuel (next_of k i l) ≡ numbers (λ y. eqb (key y) k) i l
      unfolding next_of numbers
      chain_numbers [] i fuel spaced h few = chain_none gap most fuel absent low
      chain_numbers (x ∷ l) i fuel spaced h few =
          go x l i fuel spaced (omega arith) few (λ m n. chain_numbers l (suc i) m (λ d t j e b. spaced d (suc t) j (omega arith) (omega arith)) (omega arith) n) (eqb (key x) k) refl

-- Records that are put into a list of a length as the first of their key, each with how many stand before the next: the first of a key at `head`, a record's gap at `space`.
pub record Chained {A : Type 0} (f : ℕ → A → List ℕ → List ℕ) (key : A → ℕ) (head space : ℕ → ℕ) (most limit size : ℕ) : Type 0 where
  pub long : (i : ℕ) (x : A) (p : List ℕ) → length (f i x p) ≡ length p
  pub within : (x : A) → key x < limit
  pub first : (i : ℕ) (x : A) (p : List ℕ) → i < most → length p ≡ size → get_or (f i x p) (head (key x)) 0 ≡ i
  pub others : (i : ℕ) (x : A) (p : List ℕ) (k : ℕ) → i < most → k < limit → (key x ≡ k → ⊥) → get_or (f i x p) (head k) 0 ≡ get_or p (head k) 0
  pub gap : (i : ℕ) (x : A) (p : List ℕ) → i < most → length p ≡ size → get_or (f i x p) (space i) 0 ≡ get_or p (head (key x)) 0 - suc i
  pub apart : (i j : ℕ) (x : A) (p : List ℕ) → i < j → j < most → get_or (f i x p) (space j) 0 ≡ get_or p (space j) 0

module _ {A : Type 0} {f : ℕ → A → List ℕ → List ℕ} {key : A → ℕ} {head space : ℕ → ℕ} {most limit size : ℕ} (c : Chained f key head space most limit size) (p : List ℕ) (long : length p ≡ size) (empty : (k : ℕ) → k < limit → get_or p (head k) 0 ≡ absent) where
  module _ (k : ℕ) (h : k < limit) where
    go_head : (x : A) (i : ℕ) (q : List ℕ) (n : ℕ) → i < most → length q ≡ size → get_or q (head k) 0 ≡ n → (b : Bool) → eqb (key x) k ≡ b → get_or (f i x q) (head k) 0 ≡ cond b i n
    go_head x i q n few e rest true t = subst (λ (m : ℕ). get_or (f i x q) (head m) 0 ≡ i) (eqb-true (key x) k t) (c.first i x q few e)
    go_head x i q n few e rest false t = c.others i x q k few h (eqb-false (key x) k t) ∙ rest

    pub linked_head : (l : List A) (i : ℕ) → i + length l ≤ most → get_or (linked f i l p) (head k) 0 ≡ next_of key k i l
    unfolding linked next_of
    linked_head [] i few = empty k h
    linked_head (x ∷ l) i few =
        go_head x i (linked f (suc i) l p) (next_of key k (suc i) l) (omega arith) (linked_length f c.long l (suc i) p ∙ long) (linked_head l (suc i) (omega arith)) (eqb (key x) k) refl

  pub linked_spaced : most ≤ absent → (l : List A) (i : ℕ) → i + length l ≤ most → Spaced key (λ j. get_or (linked f i l p) (space j) 0) i l
  linked_spaced low l i few d t j e h =
      let x = get_or l t d in
      let rest = drop (suc t) l in
      let fewer : suc j + length rest ≤ most = omega (arith, length-drop (suc t) l) in
      let next = next_of key (key x) (suc j) rest in
      let there : get_or (linked f i l p) (space j) 0 ≡ next - suc j
      = linked_at f (space j) j (λ m y q b. c.apart m j y q b (omega arith)) d l i t p e h
      ∙ c.gap j x (linked f (suc j) rest p) (omega arith) (linked_length f c.long rest (suc j) p ∙ long)
      ∙ ap (λ (n : ℕ). n - suc j) (linked_head (key x) (c.within x) rest (suc j) fewer) in
      let after : suc j ≤ next = next_later key (key x) rest (suc j) (omega arith) in
      ap (λ (n : ℕ). suc (j + n)) there ∙ (omega arith)
