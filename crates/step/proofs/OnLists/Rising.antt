-- Numbers that rise, and the loop that tests whether they do. Assumes nothing.
use mathlib.Core.Path.{◌≡◌, refl, sym, ap, subst, ◌∙◌}
use mathlib.Core.Bool.{Bool, true, false, cond, ◌&&◌, false≢true}
use mathlib.Core.List.{List, [], ◌∷◌, ◌++◌, map}
use Prim.Native.Nat.{ℕ, zero, suc, ◌+◌, ◌≤◌, ◌<◌}
use native.Mathlib.Numerals.{add-one}
use native.Mathlib.Omega.{arith}
use borrow.Author.Tests.{ltb-true, lt-ltb, le-ltb, le-leb, lt-leb}
use lib.Dec.{ltb, leb}
use lib.ListN.{length, get_or, drop, drop_of_length-le}
use lib.Seq.{drop-cons}
use Rattle.std.specs.List.{IsAllAdjacentAnswer}
use Rattle.sheet.specs.Table.{every}
use Rattle.sheet.proofs.Tables.{and_parts, and_both, every_weaker, every_append, every_map}
use Rattle.step.specs.Lists.{keep, rising}
use Rattle.step.specs.Calls.{none_zero, none_above, entries_sound}
use Rattle.step.proofs.OnLists.Keeping.{every_keep}

and_comm : (a b : Bool) → (a && b) ≡ (b && a)
and_comm true true = refl
and_comm true false = refl
and_comm false true = refl
and_comm false false = refl

and_false : (a : Bool) → (a && false) ≡ false
and_false true = refl
and_false false = refl

-- Numbers rise if each is below the next.
pub rising_pair : (x y : ℕ) (l : List ℕ) → rising (x ∷ y ∷ l) ≡ (ltb x y && rising (y ∷ l))
unfolding rising every
rising_pair x y l = go (ltb x y) refl (every (ltb x) l) refl (every (ltb y) l) refl
  where
    go : (a : Bool) → ltb x y ≡ a → (b : Bool) → every (ltb x) l ≡ b → (c : Bool) → every (ltb y) l ≡ c → ((a && b) && (c && rising l)) ≡ (a && (c && rising l))
    go false e b f c h = refl
    go true e true f c h = refl
    go true e false f false h = refl
    go true e false f true h = absurd (false≢true (sym f ∙ every_weaker (ltb y) (ltb x) (λ z t. lt-ltb x z (omega (arith, ltb-true x y e, ltb-true y z t))) l h))

rising_short : (l : List ℕ) → length l ≤ 1 → rising l ≡ true
unfolding rising every
rising_short [] h = refl
rising_short (x ∷ []) h = refl
rising_short (x ∷ y ∷ l) h = absurd (omega arith)

-- Numbers that rise still do where some of them go, and where a higher one comes behind them.
pub rising_keep : {A : Type 0} (f : A → ℕ) (q : A → Bool) (l : List A) → rising (map f l) ≡ true → rising (map f (keep q l)) ≡ true
unfolding rising keep
rising_keep f q [] h = h
rising_keep f q (x ∷ l) h =
    let (i, j) = and_parts (every (ltb (f x)) (map f l)) (rising (map f l)) h in
    let above : every (ltb (f x)) (map f (keep q l)) ≡ true = every_map (ltb (f x)) f (keep q l) ∙ every_keep q (λ y. ltb (f x) (f y)) l (sym (every_map (ltb (f x)) f l) ∙ i) in
    go (q x) above (rising_keep f q l j)
  where
    go : (b : Bool) → every (ltb (f x)) (map f (keep q l)) ≡ true → rising (map f (keep q l)) ≡ true → rising (map f (cond b (x ∷ keep q l) (keep q l))) ≡ true
    go true i j = and_both i j
    go false i j = j

pub rising_more : (l : List ℕ) (n : ℕ) → rising l ≡ true → every (λ m. ltb m n) l ≡ true → rising (l ++ n ∷ []) ≡ true
unfolding rising every
rising_more [] n h k = refl
rising_more (x ∷ l) n h k =
    let (i, j) = and_parts (every (ltb x) l) (rising l) h in
    let (a, b) = and_parts (ltb x n) (every (λ m. ltb m n) l) k in
    and_both (every_append (ltb x) l (n ∷ []) ∙ and_both i (and_both a refl)) (rising_more l n j b)

-- The library's answer on neighbours.
rising_all : (l : List ℕ) → ((k d : ℕ) → suc k < length l → ltb (get_or l k d) (get_or l (suc k) d) ≡ true) → rising l ≡ true
rising_all [] h = rising_short [] (omega arith)
rising_all (x ∷ []) h = rising_short (x ∷ []) (omega arith)
rising_all (x ∷ y ∷ l) h = rising_pair x y l ∙ and_both (h 0 0 (omega arith)) (rising_all (y ∷ l) (λ k d q. h (suc k) d (omega arith)))

rising_not : (l : List ℕ) (k : ℕ) → suc k < length l → ((d : ℕ) → ltb (get_or l k d) (get_or l (suc k) d) ≡ false) → rising l ≡ false
rising_not [] k h e = absurd (omega arith)
rising_not (x ∷ []) k h e = absurd (omega arith)
rising_not (x ∷ y ∷ l) zero h e = rising_pair x y l ∙ ap (λ (b : Bool). b && rising (y ∷ l)) (e 0)
rising_not (x ∷ y ∷ l) (suc k) h e = rising_pair x y l ∙ ap (λ (b : Bool). ltb x y && b) (rising_not (y ∷ l) k (omega arith) e) ∙ and_false (ltb x y)

pub rising_answer : (l : List ℕ) (r : Bool) → IsAllAdjacentAnswer (λ x y b. b ≡ ltb x y) l r → r ≡ rising l
rising_answer l true h = sym (rising_all l (λ k d q. sym (subst (λ (m : ℕ). true ≡ ltb (get_or l k d) (get_or l m d)) (add-one k) (h k d (omega arith)))))
rising_answer l false (k, q, h) = sym (rising_not l k (omega arith) (λ d. sym (subst (λ (m : ℕ). false ≡ ltb (get_or l k d) (get_or l m d)) (add-one k) (h d))))

-- What is left of some numbers, behind the last that was seen, settles whether all of them are sound.
module _ (most : ℕ) (all : List ℕ) where
  abbrev pub Climbs : ℕ → List ℕ → Type 0
  Climbs last rest = (rising (last ∷ rest) && none_above most rest) ≡ entries_sound most all

  turned : (a b c : Bool) → ((a && b) && c) ≡ ((a && c) && b)
  turned true b c = and_comm b c
  turned false b c = refl

  pub climbs_start : Climbs 0 all
  unfolding rising
  climbs_start = turned (none_zero all) (rising all) (none_above most all)

  pub climbs_end : (last : ℕ) → Climbs last [] → true ≡ entries_sound most all
  unfolding rising every
  climbs_end last g = g

  module _ (last x : ℕ) (rest : List ℕ) (g : Climbs last (x ∷ rest)) where
    unfolded : ((ltb last x && rising (x ∷ rest)) && (leb x most && none_above most rest)) ≡ entries_sound most all
    unfolding every
    unfolded = ap (λ (b : Bool). b && (leb x most && none_above most rest)) (sym (rising_pair last x rest)) ∙ g

    pub climbs_next : last < x → x ≤ most → Climbs x rest
    climbs_next h k = rw (lt-ltb last x h, le-leb x most k) at unfolded

    pub climbs_low : x ≤ last → false ≡ entries_sound most all
    climbs_low h = rw (le-ltb last x h) at unfolded

    pub climbs_high : most < x → false ≡ entries_sound most all
    climbs_high h = sym (and_false (ltb last x && rising (x ∷ rest))) ∙ (rw (lt-leb x most h) at unfolded)

-- The same over a row, by a number of each element.
module _ {A : Type 0} (f : A → ℕ) (row : List A) (most last i : ℕ) (g : Climbs most (map f row) last (map f (drop i row))) where
  pub climbing_end : length row ≤ i → true ≡ entries_sound most (map f row)
  climbing_end h = climbs_end most (map f row) last (rw (drop_of_length-le row h) at g)

  module _ (d : A) (h : i < length row) where
    here : Climbs most (map f row) last (f (get_or row i d) ∷ map f (drop (suc i) row))
    here = rw (drop-cons row i d h) at g

    pub climbing_next : last < f (get_or row i d) → f (get_or row i d) ≤ most → Climbs most (map f row) (f (get_or row i d)) (map f (drop (i + 1) row))
    climbing_next a b = rw (add-one i) (climbs_next most (map f row) last (f (get_or row i d)) (map f (drop (suc i) row)) here a b)

    pub climbing_low : f (get_or row i d) ≤ last → false ≡ entries_sound most (map f row)
    climbing_low a = climbs_low most (map f row) last (f (get_or row i d)) (map f (drop (suc i) row)) here a

    pub climbing_high : most < f (get_or row i d) → false ≡ entries_sound most (map f row)
    climbing_high a = climbs_high most (map f row) last (f (get_or row i d)) (map f (drop (suc i) row)) here a
