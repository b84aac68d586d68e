-- Laws of lists whose elements are kept by a test: their images, their numbers, their places, the least of them. Assumes nothing.
use mathlib.Core.Path.{◌≡◌, refl, sym, ap, ◌∙◌}
use mathlib.Core.Logic.{inl, inr}
use mathlib.Core.Bool.{Bool, true, false, not, cond, false≢true, ◌&&◌}
use mathlib.Core.Option.{Option, none, some}
use mathlib.Core.List.{List, [], ◌∷◌, ◌++◌, map}
use Prim.Native.Nat.{ℕ, zero, suc, ◌+◌, min, ◌≤◌, ◌<◌}
use native.Mathlib.Numerals.{add-one}
use native.Mathlib.Omega.{arith}
use borrow.Author.Tests.{lt-ltb, eqb-false, ne_eqb}
use lib.Dec.{eqb}
use lib.ListN.{length, get_or, take, drop, length-map, length-take}
use lib.Seq.{get_or-take}
use Rattle.sheet.specs.Table.{every, fit}
use Rattle.sheet.proofs.Tables.{and_parts, and_both}
use Rattle.sheet.proofs.Tests.{and_iff, not_iff}
use Rattle.step.specs.Lists.{Among, first, keep, any, lesser, least, distinct, place_of}
use Rattle.step.specs.Walk.{least_of, number_in}
use Rattle.step.proofs.OnLists.Lists.{any_map, least_some}
use Rattle.step.proofs.OnLists.Filling.{keep_none_left, keep_here, keep_not_here}
use Rattle.step.proofs.OnLists.Turns.{distinct_snoc}
use Rattle.step.proofs.OnLists.Rooms.{take_fitted}

-- What holds of all elements holds of each of them.
pub every_among : {A : Type 0} (p : A → Bool) (l : List A) (x : A) → every p l ≡ true → Among x l → p x ≡ true
unfolding every
every_among p [] x h m = absurd m
every_among p (y ∷ l) x h (inl e) = ap p e ∙ (and_parts (p y) (every p l) h).0
every_among p (y ∷ l) x h (inr m) = every_among p l x (and_parts (p y) (every p l) h).1 m

pub among_every : {A : Type 0} (p : A → Bool) (l : List A) → ((x : A) → Among x l → p x ≡ true) → every p l ≡ true
unfolding every
among_every p [] h = refl
among_every p (x ∷ l) h = and_both (h x (inl refl)) (among_every p l (λ y m. h y (inr m)))

-- an element stands at some place
pub among_at : {A : Type 0} (d : A) (l : List A) (x : A) → Among x l → (i : ℕ) × (i < length l) × (get_or l i d ≡ x)
among_at d [] x m = absurd m
among_at d (y ∷ l) x (inl e) = (0, omega arith, sym e)
among_at d (y ∷ l) x (inr m) = let (i, h, e) = among_at d l x m in (suc i, omega arith, e)

-- Of the elements that are kept: what holds of all still does, they are no more, and what none passes none passes still.
module _ {A : Type 0} (q : A → Bool) where
  pub every_keep : (p : A → Bool) (l : List A) → every p l ≡ true → every p (keep q l) ≡ true
  unfolding every keep
  every_keep p [] h = h
  every_keep p (x ∷ l) h = go (q x) (and_parts (p x) (every p l) h).0 (every_keep p l (and_parts (p x) (every p l) h).1)
    where
      go : (b : Bool) → p x ≡ true → every p (keep q l) ≡ true → every p (cond b (x ∷ keep q l) (keep q l)) ≡ true
      go true i j = and_both i j
      go false i j = j

  pub length_keep : (l : List A) → length (keep q l) ≤ length l
  unfolding keep
  length_keep [] = omega arith
  length_keep (x ∷ l) = go (q x) (length_keep l)
    where
      go : (b : Bool) → length (keep q l) ≤ length l → length (cond b (x ∷ keep q l) (keep q l)) ≤ suc (length l)
      go true h = omega arith
      go false h = omega arith

  pub any_fewer : (p : A → Bool) (l : List A) → any p l ≡ false → any p (keep q l) ≡ false
  unfolding any keep
  any_fewer p [] h = h
  any_fewer p (x ∷ l) h = go (q x) (p x) refl h (any_fewer p l)
    where
      go : (b c : Bool) → p x ≡ c → cond c true (any p l) ≡ false → (any p l ≡ false → any p (keep q l) ≡ false) → any p (cond b (x ∷ keep q l) (keep q l)) ≡ false
      go b true e k f = absurd (false≢true (sym k))
      go true false e k f = rw e (f k)
      go false false e k f = f k

-- Different numbers stay different, and so they do with one more that is not among them.
module _ {A : Type 0} (f : A → ℕ) (q : A → Bool) where
  pub distinct_keep : (l : List A) → distinct (map f l) ≡ true → distinct (map f (keep q l)) ≡ true
  unfolding distinct keep
  distinct_keep [] h = h
  distinct_keep (x ∷ l) h =
      let (i, j) = simp (and_iff, not_iff) at h in
      let m = any_map (eqb (f x)) f in
      go (q x) (m (keep q l) ∙ any_fewer q (λ a. eqb (f x) (f a)) l (sym (m l) ∙ i)) (distinct_keep l j)
    where
      go : (b : Bool) → any (eqb (f x)) (map f (keep q l)) ≡ false → distinct (map f (keep q l)) ≡ true → distinct (map f (cond b (x ∷ keep q l) (keep q l))) ≡ true
      go true i j = rw (i, j)
      go false i j = j

pub distinct_more : (l : List ℕ) (n : ℕ) → distinct l ≡ true → any (λ m. eqb m n) l ≡ false → distinct (l ++ n ∷ []) ≡ true
distinct_more l n h k = distinct_snoc l n ∙ rw (h, k)

-- Of a list's images: those that pass a test, the place of the first, and the one at a place.
module _ {A B : Type 0} (p : B → Bool) (f : A → B) where
  pub keep_map : (l : List A) → keep p (map f l) ≡ map f (keep (λ x. p (f x)) l)
  unfolding keep
  keep_map [] = refl
  keep_map (x ∷ l) = go (p (f x)) (keep_map l)
    where
      go : (b : Bool) → keep p (map f l) ≡ map f (keep (λ x. p (f x)) l) → cond b (f x ∷ keep p (map f l)) (keep p (map f l)) ≡ map f (cond b (x ∷ keep (λ x. p (f x)) l) (keep (λ x. p (f x)) l))
      go true h = ap (λ (m : List B). f x ∷ m) h
      go false h = h

  pub place_map : (l : List A) → place_of p (map f l) ≡ place_of (λ x. p (f x)) l
  unfolding place_of
  place_map [] = refl
  place_map (x ∷ l) = ap (λ n. cond (p (f x)) 0 (suc n)) (place_map l)

pub image_at : {A B : Type 0} (f : A → B) (d : B) (e : A) (l : List A) (i : ℕ) → i < length l → get_or (map f l) i d ≡ f (get_or l i e)
image_at f d e [] i h = absurd (omega arith)
image_at f d e (x ∷ l) zero h = refl
image_at f d e (x ∷ l) (suc i) h = image_at f d e l i (omega arith)

-- A row with the images of a list in front: what stands there and where, and what is left where those that fail a test go.
module _ {A B : Type 0} (f : A → B) (d : B) (size : ℕ) (l : List A) (few : length l ≤ size) where
  pub row_out : take (length l) (fit size d (map f l)) ≡ map f l
  row_out = take_fitted d size (length l) (map f l) (length-map l f) few

  pub row_left : (q : B → Bool) → fit size d (keep q (take (length l) (fit size d (map f l)))) ≡ fit size d (map f (keep (λ x. q (f x)) l))
  row_left q = ap (λ (r : List B). fit size d (keep q r)) row_out ∙ ap (fit size d) (keep_map q f l)

-- Of a list: the first that passes a test stands at its place; a weaker test is passed too; tests that agree on its elements keep the same.
module _ {A : Type 0} (p : A → Bool) where
  pub first_place : (d : A) (l : List A) → any p l ≡ true → first p l ≡ some (get_or l (place_of p l) d)
  unfolding first any place_of
  first_place d [] h = absurd (false≢true h)
  first_place d (x ∷ l) h = go (p x) h (first_place d l)
    where
      go : (b : Bool) → cond b true (any p l) ≡ true → (any p l ≡ true → first p l ≡ some (get_or l (place_of p l) d)) → cond b (some x) (first p l) ≡ some (get_or (x ∷ l) (cond b 0 (suc (place_of p l))) d)
      go true h k = refl
      go false h k = k h

  pub any_weaker : (q : A → Bool) → ((x : A) → q x ≡ true → p x ≡ true) → (l : List A) → any q l ≡ true → any p l ≡ true
  unfolding any
  any_weaker q h [] e = e
  any_weaker q h (x ∷ l) e = go (p x) (q x) (h x) e (any_weaker q h l)
    where
      go : (b c : Bool) → (c ≡ true → b ≡ true) → cond c true (any q l) ≡ true → (any q l ≡ true → any p l ≡ true) → cond b true (any p l) ≡ true
      go true c i e k = refl
      go false true i e k = absurd (false≢true (i refl))
      go false false i e k = k e

  pub keep_same : (q : A → Bool) (l : List A) → ((x : A) → Among x l → p x ≡ q x) → keep p l ≡ keep q l
  unfolding keep
  keep_same q [] h = refl
  keep_same q (x ∷ l) h = rw (h x (inl refl), keep_same q l (λ y m. h y (inr m)))

  -- by two tests at once, and by one after the other
  pub keep_both : (q : A → Bool) (l : List A) → keep (λ x. p x && q x) l ≡ keep q (keep p l)
  unfolding keep
  keep_both q [] = refl
  keep_both q (x ∷ l) = go (p x) (keep_both q l)
    where
      go : (b : Bool) → keep (λ x. p x && q x) l ≡ keep q (keep p l) → cond (b && q x) (x ∷ keep (λ x. p x && q x) l) (keep (λ x. p x && q x) l) ≡ keep q (cond b (x ∷ keep p l) (keep p l))
      go true h = rw h
      go false h = h

-- Of different numbers all but one stay.
module _ {A : Type 0} (f : A → ℕ) (n : ℕ) where
  pub all_stay : (l : List A) → any (eqb n) (map f l) ≡ false → keep (λ a. not (eqb (f a) n)) l ≡ l
  unfolding any keep
  all_stay [] h = refl
  all_stay (x ∷ l) h = go (eqb n (f x)) refl h (all_stay l)
    where
      go : (b : Bool) → eqb n (f x) ≡ b → cond b true (any (eqb n) (map f l)) ≡ false → (any (eqb n) (map f l) ≡ false → keep (λ a. not (eqb (f a) n)) l ≡ l)
          → cond (not (eqb (f x) n)) (x ∷ keep (λ a. not (eqb (f a) n)) l) (keep (λ a. not (eqb (f a) n)) l) ≡ x ∷ l
      go true e h k = absurd (false≢true (sym h))
      go false e h k = rw (ne_eqb (f x) n (λ q. eqb-false n (f x) e (sym q))) (ap (λ (r : List A). x ∷ r) (k h))

-- The least of some bytes, by a number past them.
abbrev pub under : ℕ → Option ℕ → ℕ
under n none = n
under n (some m) = min n m

pub least_under : (n : ℕ) (l : List ℕ) → least_of n l ≡ under n (least l)
unfolding least_of least
least_under n [] = refl
least_under n (m ∷ l) = least_under (min n m) l ∙ go (least l)
  where
    go : (o : Option ℕ) → under (min n m) o ≡ under n (lesser m o)
    go none = refl
    go (some k) = omega arith

pub number_under : (o : Option ℕ) → ((m : ℕ) → o ≡ some m → m < 256) → number_in (under 256 o) ≡ o
number_under none h = refl
number_under (some m) h =
    let low = h m refl in
    let e : min 256 m ≡ m = omega arith in
    rw (e, lt-ltb m 256 low)

pub number_least : (l : List ℕ) → ((m : ℕ) → Among m l → m < 256) → number_in (least_of 256 l) ≡ least l
number_least l h = ap number_in (least_under 256 l) ∙ number_under (least l) (λ m e. h m (least_some l m e).0)

-- The least of the numbers of those among the first `count` elements of an array that pass a test, i of them seen.
module _ {A : Type 0} (f : A → ℕ) (p : A → Bool) (row : List A) (count low i top : ℕ) (g : least_of low (map f (keep p (drop i (take count row)))) ≡ least_of top (map f (keep p (take count row)))) where
  ended : (k : ℕ) → count ≡ k → length (take count row) ≤ i → low ≡ least_of top (map f (keep p (take k row)))
  unfolding least_of
  ended k e h = rw (← e) (rw (keep_none_left p (take count row) i h) at g)

  pub least_end : (k : ℕ) → count ≡ k → count ≤ i → low ≡ least_of top (map f (keep p (take k row)))
  least_end k e h = ended k e (omega (arith, length-take count row))

  module _ (d : A) (h : i < count) (k : i < length row) where
    there : i < length (take count row)
    there = omega (arith, length-take count row)

    pub least_here : p (get_or row i d) ≡ true → least_of (min low (f (get_or row i d))) (map f (keep p (drop (i + 1) (take count row)))) ≡ least_of top (map f (keep p (take count row)))
    unfolding least_of
    least_here t = rw (add-one i) (rw (keep_here p (take count row) i d there (rw (get_or-take count row i d h) t), get_or-take count row i d h) at g)

    pub least_not_here : p (get_or row i d) ≡ false → least_of low (map f (keep p (drop (i + 1) (take count row)))) ≡ least_of top (map f (keep p (take count row)))
    least_not_here t = rw (add-one i) (rw (keep_not_here p (take count row) i d there (rw (get_or-take count row i d h) t)) at g)
