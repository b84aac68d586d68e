-- Chains of numbers: with fuel enough there is one, and what is found or kept of it, and counted, from a number on. Assumes nothing.
use mathlib.Core.Path.{◌≡◌, refl, sym, ap, ◌∙◌}
use mathlib.Core.Bool.{Bool, true, false, cond}
use mathlib.Core.Option.{some}
use mathlib.Core.List.{List, [], ◌∷◌, map}
use Prim.Native.Nat.{ℕ, zero, suc, ◌+◌, ◌≤◌, ◌<◌}
use native.Mathlib.Omega.{arith}
use borrow.Author.Tests.{lt-ltb, le-ltb}
use lib.Dec.{ltb, eqb}
use lib.ListN.{length}
use Rattle.condition.specs.Meaning.{Environment}
use Rattle.condition.specs.Answer.{count_from}
use Rattle.condition.proofs.Counting.{from_few}
use Rattle.step.specs.Lists.{first, keep, up_to, total}
use Rattle.step.proofs.OnLists.Sums.{total_most, length_up_to}
use Rattle.engine.specs.Plan.{guard_of, gap_of, asked_of, number_of, behind_of}
use Rattle.engine.specs.Walk.{holds_by, count_by, chain, otherwise, found_in, found_count, armed_in, armed_count}

module _ (gap : ℕ → ℕ) (most : ℕ) where
  pub chain_past : (k i : ℕ) → most ≤ i → chain gap most k i ≡ []
  unfolding chain
  chain_past zero i h = refl
  chain_past (suc k) i h = rw (le-ltb i most h)

  pub chain_enough : (k m i : ℕ) → most ≤ i + k → most ≤ i + m → chain gap most k i ≡ chain gap most m i
  unfolding chain
  chain_enough zero m i h g = sym (chain_past m i (omega arith))
  chain_enough (suc k) zero i h g = chain_past (suc k) i (omega arith)
  chain_enough (suc k) (suc m) i h g = ap (λ (r : List ℕ). cond (ltb i most) (i ∷ r) []) (chain_enough k m (suc (i + gap i)) (omega arith) (omega arith))

  step : (k i : ℕ) → most ≤ k → i < most → chain gap most k i ≡ i ∷ chain gap most k (suc (i + gap i))
  unfolding chain
  step zero i h g = absurd (omega arith)
  step (suc k) i h g = rw (lt-ltb i most g) (ap (λ (r : List ℕ). i ∷ r) (chain_enough k (suc k) (suc (i + gap i)) (omega arith) (omega arith)))

  chain_few : (k i : ℕ) → length (chain gap most k i) ≤ k
  unfolding chain
  chain_few zero i = omega arith
  chain_few (suc k) i = go (ltb i most) (chain_few k (suc (i + gap i)))
    where
      go : (b : Bool) → length (chain gap most k (suc (i + gap i))) ≤ k → length (cond b (i ∷ chain gap most k (suc (i + gap i))) []) ≤ suc k
      go true h = omega arith
      go false h = omega arith

  -- one number of a chain, and the chain behind it
  pub chain_step : (i n : ℕ) → i < most → n ≡ gap i → chain gap most most i ≡ i ∷ chain gap most most (i + 1 + n)
  chain_step i n h e =
      let next : suc (i + gap i) ≡ i + 1 + n = omega (arith, e) in
      step most i (omega arith) h ∙ ap (λ (j : ℕ). i ∷ chain gap most most j) next

-- What is found or kept of a list whose first element passes, or does not, and what its elements come to.
module _ {A : Type 0} (p : A → Bool) (x : A) (l m : List A) (e : l ≡ x ∷ m) where
  first_here : p x ≡ true → first p l ≡ some x
  unfolding first
  first_here t = rw (e, t)

  first_behind : p x ≡ false → first p l ≡ first p m
  unfolding first
  first_behind t = rw (e, t)

  keep_head : p x ≡ true → keep p l ≡ x ∷ keep p m
  unfolding keep
  keep_head t = rw (e, t)

  keep_behind : p x ≡ false → keep p l ≡ keep p m
  unfolding keep
  keep_behind t = rw (e, t)

  up_to_head : p x ≡ true → up_to p l ≡ x ∷ []
  unfolding up_to
  up_to_head t = rw (e, t)

  up_to_behind : p x ≡ false → up_to p l ≡ x ∷ up_to p m
  unfolding up_to
  up_to_behind t = rw (e, t)

-- a condition counts no more than the most bytes it is looked for in
pub count_few : (s : List ℕ) (at : ℕ) (E : Environment) → count_by s at E ≤ 65534
count_few s at E = go (eqb at 0)
  where
    go : (b : Bool) → cond b 1 (count_from s at E) ≤ 65534
    go true = omega arith
    go false = from_few s at E

-- The first transition of a chain whose condition holds, and how much is evaluated until it is found.
module _ (s p : List ℕ) (E : Environment) where
  abbrev passes : ℕ → Bool
  passes i = holds_by s (guard_of p i) E

  abbrev counts : ℕ → ℕ
  counts i = count_by s (guard_of p i) E

  pub found_few : (t n : ℕ) → n ≡ found_count s p t E → n ≤ 6291264
  unfolding found_count
  found_few t n e =
      let l = chain (gap_of p) 96 96 t in
      omega (arith, e, total_most counts 65534 (λ i. count_few s (guard_of p i) E) (up_to passes l), length_up_to passes l, chain_few (gap_of p) 96 96 t)

  -- looked for from `start` on, having come to t with a count of n
  pub record Seeking (start t n : ℕ) : Type 0 where
    pub same : found_in s p t E ≡ found_in s p start E
    pub counted : n + found_count s p t E ≡ found_count s p start E

  pub seeking_start : (start : ℕ) → Seeking start start 0
  seeking_start start = record { same = refl; counted = omega arith }

  module _ (start t n : ℕ) (g : Seeking start t n) where
    pub seeking_end : 96 ≤ t → (96 ≡ found_in s p start E) × (96 ≤ 96) × (n ≡ found_count s p start E)
    unfolding found_in found_count first up_to total
    seeking_end h =
        let past = chain_past (gap_of p) 96 96 t h in
        (rw past at g.same, omega arith, omega (arith, rw past at g.counted))

    module _ (h : t < 96) (at : ℕ) (ea : at ≡ guard_of p t) (b : Bool) (m : ℕ) (eh : (b ≡ holds_by s at E) × (m ≡ count_by s at E)) where
      passed : b ≡ passes t
      passed = eh.0 ∙ ap (λ (a : ℕ). holds_by s a E) ea

      here : m ≡ counts t
      here = eh.1 ∙ ap (λ (a : ℕ). count_by s a E) ea

      alone : b ≡ true → found_count s p t E ≡ m
      unfolding found_count total
      alone e = ap (total counts) (up_to_head passes t _ _ (chain_step (gap_of p) 96 t _ h refl) (sym passed ∙ e)) ∙ omega (arith, here)

      more : b ≡ false → (k : ℕ) → k ≡ gap_of p t → found_count s p t E ≡ m + found_count s p (t + 1 + k) E
      unfolding found_count total
      more e k f = ap (total counts) (up_to_behind passes t _ _ (chain_step (gap_of p) 96 t k h f) (sym passed ∙ e)) ∙ ap (λ (c : ℕ). c + found_count s p (t + 1 + k) E) (sym here)

      -- the count stays far below 2^32
      pub seeking_fits : n + m < 4294967296
      seeking_fits = go b refl
        where
          go : (a : Bool) → b ≡ a → n + m < 4294967296
          go true e = omega (arith, alone e, g.counted, found_few start _ refl)
          go false e = omega (arith, more e (gap_of p t) refl, g.counted, found_few start _ refl)

      pub seeking_found : b ≡ true → (t ≡ found_in s p start E) × (t ≤ 96) × (n + m ≡ found_count s p start E)
      unfolding found_in
      seeking_found e =
          (sym (ap (otherwise 96) (first_here passes t _ _ (chain_step (gap_of p) 96 t _ h refl) (sym passed ∙ e))) ∙ g.same, omega arith, omega (arith, alone e, g.counted))

      pub seeking_next : b ≡ false → (k : ℕ) → k ≡ gap_of p t → Seeking start (t + 1 + k) (n + m)
      unfolding found_in
      seeking_next e k f =
          record {
            same = sym (ap (otherwise 96) (first_behind passes t _ _ (chain_step (gap_of p) 96 t k h f) (sym passed ∙ e))) ∙ g.same;
            counted = omega (arith, more e k f, g.counted);
          }

-- The numbers of the candidates of a chain whose condition holds.
module _ (s p : List ℕ) (E : Environment) (i : ℕ) where
  pub armed_past : 384 ≤ i → armed_in s p i E ≡ []
  unfolding armed_in keep
  armed_past h = rw (chain_past (behind_of p) 384 384 i h)

  module _ (h : i < 384) (at : ℕ) (ea : at ≡ asked_of p i) (b : Bool) (eb : b ≡ holds_by s at E) (n : ℕ) (g : n ≡ behind_of p i) where
    asks : b ≡ holds_by s (asked_of p i) E
    asks = eb ∙ ap (λ (a : ℕ). holds_by s a E) ea

    pub armed_here : b ≡ true → armed_in s p i E ≡ number_of p i ∷ armed_in s p (i + 1 + n) E
    unfolding armed_in
    armed_here e = ap (map (number_of p)) (keep_head (λ j. holds_by s (asked_of p j) E) i _ _ (chain_step (behind_of p) 384 i n h g) (sym asks ∙ e))

    pub armed_behind : b ≡ false → armed_in s p i E ≡ armed_in s p (i + 1 + n) E
    unfolding armed_in
    armed_behind e = ap (map (number_of p)) (keep_behind (λ j. holds_by s (asked_of p j) E) i _ _ (chain_step (behind_of p) 384 i n h g) (sym asks ∙ e))

-- How much is evaluated of all of them, from `start` on, having come to i with a count of n.
module _ (s p : List ℕ) (E : Environment) where
  pub asked_few : (i n : ℕ) → n ≡ armed_count s p i E → n ≤ 25165056
  unfolding armed_count
  asked_few i n e = omega (arith, e, total_most (λ j. count_by s (asked_of p j) E) 65534 (λ j. count_few s (asked_of p j) E) (chain (behind_of p) 384 384 i), chain_few (behind_of p) 384 384 i)

  module _ (start i n : ℕ) (g : n + armed_count s p i E ≡ armed_count s p start E) where
    pub asked_end : 384 ≤ i → n ≡ armed_count s p start E
    unfolding armed_count total
    asked_end h = omega (arith, rw (chain_past (behind_of p) 384 384 i h) at g)

    module _ (h : i < 384) (at : ℕ) (ea : at ≡ asked_of p i) (m : ℕ) (em : m ≡ count_by s at E) where
      pub asked_next : (k : ℕ) → k ≡ behind_of p i → n + m + armed_count s p (i + 1 + k) E ≡ armed_count s p start E
      unfolding armed_count total
      asked_next k f = omega (arith, em, ap (λ (a : ℕ). count_by s a E) ea, rw (chain_step (behind_of p) 384 i k h f) at g)

      pub asked_fits : n + m < 4294967296
      asked_fits = omega (arith, asked_next (behind_of p i) refl, asked_few start _ refl)
