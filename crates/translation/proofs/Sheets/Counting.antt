-- How many transitions and pairs translating gives: a triple has one state and one unit, so at most one added transition a triple. Assumes nothing.
use mathlib.Core.Path.{◌≡◌, refl, ap, subst}
use mathlib.Core.Bool.{Bool, true, false, cond, ◌&&◌}
use mathlib.Core.List.{List, [], ◌∷◌}
use Prim.Native.Nat.{ℕ, zero, suc, ◌+◌, ◌≤◌, ◌<◌}
use native.Mathlib.Omega.{arith}
use borrow.Author.Tests.{leb-true, le-leb, eqb-true, eqb-false, ne_eqb}
use lib.Dec.{eqb, leb}
use lib.ListN.{length, get_or, length-append}
use Rattle.sheet.specs.declared.Triple.{Triple}
use Rattle.sheet.specs.declared.Pair.{Pair}
use Rattle.sheet.specs.Table.{every}
use Rattle.sheet.specs.Parts.{Sheet}
use Rattle.sheet.specs.Reading.{together}
use Rattle.sheet.proofs.Tables.{and_both, and_parts, every_append}
use Rattle.sheet.proofs.Tests.{and_iff, eqb_iff}
use Rattle.translation.specs.Translate.{pairs_from, pairs_of, back, joined, added}

-- the sum of what belongs to the numbers below n
unfoldable total : ℕ → (ℕ → ℕ) → ℕ
total zero f = 0
total (suc n) f = total n f + f n

total_sum : (f g h : ℕ → ℕ) → ((i : ℕ) → f i ≤ g i + h i) → (n : ℕ) → total n f ≤ total n g + total n h
unfolding total
total_sum f g h k zero = omega arith
total_sum f g h k (suc n) = omega (arith, k n, total_sum f g h k n)

-- where only x has any, and at most m
module _ (f : ℕ → ℕ) (x m : ℕ) (most : (i : ℕ) → f i ≤ m) (other : (i : ℕ) → (x ≡ i → ⊥) → f i ≤ 0) where
  total_none : (n : ℕ) → n ≤ x → total n f ≤ 0
  unfolding total
  total_none zero h = omega arith
  total_none (suc n) h = omega (arith, other n (λ e. omega arith), total_none n (omega arith))

  total_one : (n : ℕ) → total n f ≤ m
  unfolding total
  total_one zero = omega arith
  total_one (suc n) = go (eqb x n) refl (total_one n)
    where
      go : (b : Bool) → eqb x n ≡ b → total n f ≤ m → total n f + f n ≤ m
      go true e h = omega (arith, most n, total_none n (omega (arith, eqb-true x n e)))
      go false e h = omega (arith, h, other n (eqb-false x n e))

total_zero : (f : ℕ → ℕ) → ((i : ℕ) → f i ≤ 0) → (n : ℕ) → total n f ≤ 0
total_zero f h n = total_one f 0 0 h (λ i k. h i) n

-- What is joined: how long it is, and tests on all of it.
module _ {A : Type 0} (f : ℕ → List A) where
  joined_length : (g : ℕ → ℕ) → ((i : ℕ) → length (f i) ≤ g i) → (n : ℕ) → length (joined n f) ≤ total n g
  unfolding joined total
  joined_length g h zero = omega arith
  joined_length g h (suc n) = rw (length-append (joined n f) (f n)) (omega (arith, h n, joined_length g h n))

  pub joined_every : (p : A → Bool) (n : ℕ) → ((i : ℕ) → i < n → every p (f i) ≡ true) → every p (joined n f) ≡ true
  unfolding joined every
  joined_every p zero h = refl
  joined_every p (suc n) h = rw (every_append p (joined n f) (f n)) (and_both (joined_every p n (λ i k. h i (omega arith))) (h n (omega arith)))

-- 1 where a state and a unit are a triple's
abbrev hit : Triple → ℕ → ℕ → ℕ
hit t q u = cond (eqb t.state q && eqb t.unit u) 1 0

one_or_none : (b : Bool) → cond b 1 0 ≤ 1
one_or_none true = omega arith
one_or_none false = omega arith

-- of one triple, at most one state and unit
module _ (t : Triple) where
  hit_most : (q u : ℕ) → hit t q u ≤ cond (eqb t.state q) 1 0
  hit_most q u = go (eqb t.state q) (eqb t.unit u)
    where
      go : (a b : Bool) → cond (a && b) 1 0 ≤ cond a 1 0
      go true b = one_or_none b
      go false b = omega arith

  hit_other : (q u : ℕ) → (t.unit ≡ u → ⊥) → hit t q u ≤ 0
  hit_other q u h = rw (ne_eqb t.unit u h) (go (eqb t.state q))
    where
      go : (a : Bool) → cond (a && false) 1 0 ≤ 0
      go true = omega arith
      go false = omega arith

  hits_state : (U q : ℕ) → total U (hit t q) ≤ cond (eqb t.state q) 1 0
  hits_state U q = total_one (hit t q) t.unit (cond (eqb t.state q) 1 0) (hit_most q) (hit_other q) U

  hits : (Q U : ℕ) → total Q (λ q. total U (hit t q)) ≤ 1
  hits Q U =
      total_one (λ q. total U (hit t q)) t.state 1
      (λ q. omega (arith, hits_state U q, one_or_none (eqb t.state q)))
      (λ q h. subst (λ b. total U (hit t q) ≤ cond b 1 0) (ne_eqb t.state q h) (hits_state U q)) Q

pairs_hit : (i q u : ℕ) (t : Triple) (l : List Triple) → length (pairs_from i q u (t ∷ l)) ≤ hit t q u + length (pairs_from (suc i) q u l)
unfolding pairs_from
pairs_hit i q u t l = go (eqb t.state q && eqb t.unit u)
  where
    go : (b : Bool) → length (cond b (record { condition = t.precondition; template = i } ∷ pairs_from (suc i) q u l) (pairs_from (suc i) q u l)) ≤ cond b 1 0 + length (pairs_from (suc i) q u l)
    go true = omega arith
    go false = omega arith

-- so over all states and units there are at most as many pairs as triples
pairs_total : (Q U i : ℕ) (l : List Triple) → total Q (λ q. total U (λ u. length (pairs_from i q u l))) ≤ length l
unfolding pairs_from
pairs_total Q U i [] = total_zero (λ q. total U (λ u. 0)) (λ q. total_zero (λ u. 0) (λ u. omega arith) U) Q
pairs_total Q U i (t ∷ l) =
    let all = total_sum (λ q. total U (λ u. length (pairs_from i q u (t ∷ l)))) (λ q. total U (hit t q)) (λ q. total U (λ u. length (pairs_from (suc i) q u l)))
    (λ q. total_sum (λ u. length (pairs_from i q u (t ∷ l))) (hit t q) (λ u. length (pairs_from (suc i) q u l)) (λ u. pairs_hit i q u t l) U) Q in
    omega (arith, all, hits t Q U, pairs_total Q U (suc i) l)

back_length : (S : Sheet) (q u : ℕ) (l : List Pair) → length (back S q u l) ≤ length l
back_length S q u [] = omega arith
back_length S q u (p ∷ l) = omega arith

-- at most one transition a triple is added
pub added_length : (S : Sheet) → length (added S) ≤ length S.triples
unfolding added
added_length S =
    let Q = S.common.states in
    let U = S.common.units in
    let all = joined_length (λ q. joined U (λ u. back S q u (pairs_of S q u))) (λ q. total U (λ u. length (pairs_of S q u)))
    (λ q. joined_length (λ u. back S q u (pairs_of S q u)) (λ u. length (pairs_of S q u)) (λ u. back_length S q u (pairs_of S q u)) U) Q in
    omega (arith, all, pairs_total Q U 0 S.triples)

-- What all pairs pass: what those of the triples of that state and unit pass, by their numbers.
pub pairs_every : (p : Pair → Bool) (d : Triple) (i q u : ℕ) (l : List Triple)
    → ((m : ℕ) → m < length l → (get_or l m d).state ≡ q → (get_or l m d).unit ≡ u → p (record { condition = (get_or l m d).precondition; template = i + m }) ≡ true)
    → every p (pairs_from i q u l) ≡ true
unfolding pairs_from every
pairs_every p d i q u [] h = refl
pairs_every p d i q u (t ∷ l) h =
    go (eqb t.state q && eqb t.unit u) refl (pairs_every p d (suc i) q u l (λ m k e f. subst (λ n. p (record { condition = (get_or l m d).precondition; template = n }) ≡ true) (omega arith) (h (suc m) (omega arith) e f)))
  where
    go : (b : Bool) → (eqb t.state q && eqb t.unit u) ≡ b → every p (pairs_from (suc i) q u l) ≡ true
        → every p (cond b (record { condition = t.precondition; template = i } ∷ pairs_from (suc i) q u l) (pairs_from (suc i) q u l)) ≡ true
    go true e r =
        let (x, y) = simp (and_iff, eqb_iff) at e in
        and_both (subst (λ n. p (record { condition = t.precondition; template = n }) ≡ true) (omega arith) (h 0 (omega arith) x y)) r
    go false e r = r

-- as many as there are triples of that state and unit
pairs_together : (t : Triple) (i : ℕ) (l : List Triple) → length (pairs_from i t.state t.unit l) ≡ together t l
unfolding pairs_from together
pairs_together t i [] = refl
pairs_together t i (v ∷ l) = go (eqb v.state t.state && eqb v.unit t.unit) (pairs_together t (suc i) l)
  where
    go : (b : Bool) → length (pairs_from (suc i) t.state t.unit l) ≡ together t l
        → length (cond b (record { condition = v.precondition; template = i } ∷ pairs_from (suc i) t.state t.unit l) (pairs_from (suc i) t.state t.unit l)) ≡ cond b (suc (together t l)) (together t l)
    go true h = ap suc h
    go false h = h

-- a bound on its length that each element gives
few_if_some : {A : Type 0} (n : ℕ) (l : List A) → every (λ x. leb (length l) n) l ≡ true → length l ≤ n
unfolding every
few_if_some n [] h = omega arith
few_if_some n (x ∷ l) h = leb-true (length (x ∷ l)) n (and_parts _ _ h).0

-- at most n, where no state and unit has more triples
pub pairs_few : (d : Triple) (n q u : ℕ) (l : List Triple) → ((m : ℕ) → m < length l → together (get_or l m d) l ≤ n) → length (pairs_from 0 q u l) ≤ n
pairs_few d n q u l h = few_if_some n (pairs_from 0 q u l) (pairs_every (λ p. leb (length (pairs_from 0 q u l)) n) d 0 q u l (λ m k e f.
    let t = get_or l m d in
    let own : length (pairs_from 0 t.state t.unit l) ≤ n = rw (pairs_together t 0 l) (h m k) in
    le-leb (length (pairs_from 0 q u l)) n (rw (← e, ← f) own)))
