-- Records by their numbers: looking through the numbers of those that pass a first test is looking through the records. Assumes nothing.
use mathlib.Core.Path.{◌≡◌, refl, sym, ap, ap₂, ◌∙◌}
use mathlib.Core.Logic.{inl, inr}
use mathlib.Core.Bool.{Bool, true, false, cond, ◌&&◌, false≢true}
use mathlib.Core.Option.{Option, none, some}
use mathlib.Core.List.{List, [], ◌∷◌, map}
use Prim.Native.Nat.{ℕ, zero, suc, ◌+◌, ◌≤◌, ◌<◌}
use native.Mathlib.Omega.{arith}
use borrow.Author.Tests.{lt-ltb}
use lib.Dec.{ltb}
use lib.ListN.{length, get_or, drop}
use Rattle.sheet.specs.Table.{every}
use Rattle.sheet.proofs.Tables.{and_both}
use Rattle.step.specs.Lists.{Among, first, keep, up_to, total, numbers}
use Rattle.step.proofs.OnLists.Sums.{total_map, total_same, up_to_map, up_to_same, up_to_among}

-- a number and the record that it is of, both found or neither
abbrev pub Both : {A : Type 0} → A → List A → Option ℕ → Option A → Type 0
Both d l none none = Unit {0}
Both d l none (some x) = ⊥
Both d l (some n) none = ⊥
Both d l (some n) (some x) = (n < length l) × (get_or l n d ≡ x)

head_at : {A : Type 0} (d : A) (l : List A) (i : ℕ) (x : A) (m : List A) → drop i l ≡ x ∷ m → (i < length l) × (get_or l i d ≡ x) × (drop (suc i) l ≡ m)
head_at d [] zero x m e = absurd (empty e)
  where
    empty : [] ≡ x ∷ m → ⊥
    empty f = omega (arith, ap length f)
head_at d [] (suc i) x m e = absurd (empty e)
  where
    empty : [] ≡ x ∷ m → ⊥
    empty f = omega (arith, ap length f)
head_at d (y ∷ l) zero x m e = (omega arith, ap (λ (k : List _). get_or k 0 d) e, ap (drop 1) e)
head_at d (y ∷ l) (suc i) x m e =
    let (a, b, c) = head_at d l i x m e in
    (omega arith, b, c)

module _ {A : Type 0} (d : A) (l : List A) (κ h : A → Bool) (g : ℕ → Bool) (same : (i : ℕ) → i < length l → g i ≡ h (get_or l i d)) where
  first_from : (i : ℕ) (m : List A) → drop i l ≡ m → Both d l (first g (numbers κ i m)) (first (λ x. κ x && h x) m)
  unfolding first numbers
  first_from i [] e = tt
  first_from i (x ∷ m) e =
      let (a, b, c) = head_at d l i x m e in
      go (κ x) (g i) refl (a) b (same i a ∙ ap h b) (first_from (suc i) m c)
    where
      go : (k c : Bool) → g i ≡ c → i < length l → get_or l i d ≡ x → g i ≡ h x → Both d l (first g (numbers κ (suc i) m)) (first (λ x. κ x && h x) m)
          → Both d l (first g (cond k (i ∷ numbers κ (suc i) m) (numbers κ (suc i) m))) (cond (k && h x) (some x) (first (λ x. κ x && h x) m))
      go false c f a b s r = r
      go true true f a b s r = rw (f, sym s ∙ f) (a, b)
      go true false f a b s r = rw (f, sym s ∙ f) r

  pub first_numbered : Both d l (first g (numbers κ 0 l)) (first (λ x. κ x && h x) l)
  first_numbered = first_from 0 l refl

  keep_from : (i : ℕ) (m : List A) → drop i l ≡ m → keep g (numbers κ i m) ≡ numbers (λ x. κ x && h x) i m
  unfolding keep numbers
  keep_from i [] e = refl
  keep_from i (x ∷ m) e =
      let (a, b, c) = head_at d l i x m e in
      go (κ x) (g i) refl (same i a ∙ ap h b) (keep_from (suc i) m c)
    where
      go : (k c : Bool) → g i ≡ c → g i ≡ h x → keep g (numbers κ (suc i) m) ≡ numbers (λ x. κ x && h x) (suc i) m
          → keep g (cond k (i ∷ numbers κ (suc i) m) (numbers κ (suc i) m)) ≡ cond (k && h x) (i ∷ numbers (λ x. κ x && h x) (suc i) m) (numbers (λ x. κ x && h x) (suc i) m)
      go false c f s r = r
      go true true f s r = rw (f, sym s ∙ f) (ap (λ (n : List ℕ). i ∷ n) r)
      go true false f s r = rw (f, sym s ∙ f) r

  pub keep_numbered : keep g (numbers κ 0 l) ≡ numbers (λ x. κ x && h x) 0 l
  keep_numbered = keep_from 0 l refl

-- Numbers are those of records that pass the test.
module _ {A : Type 0} (d : A) (l : List A) (p : A → Bool) where
  there_from : (i : ℕ) (m : List A) → drop i l ≡ m → (n : ℕ) → Among n (numbers p i m) → (n < length l) × (p (get_or l n d) ≡ true)
  unfolding numbers
  there_from i [] e n a = absurd a
  there_from i (x ∷ m) e n a =
      let (u, v, w) = head_at d l i x m e in
      go (p x) refl u v a (there_from (suc i) m w n)
    where
      go : (b : Bool) → p x ≡ b → i < length l → get_or l i d ≡ x → Among n (cond b (i ∷ numbers p (suc i) m) (numbers p (suc i) m)) → (Among n (numbers p (suc i) m) → (n < length l) × (p (get_or l n d) ≡ true)) → (n < length l) × (p (get_or l n d) ≡ true)
      go true f u v (inl z) r = rw z (u, ap p v ∙ f)
      go true f u v (inr z) r = r z
      go false f u v z r = r z

  pub numbers_there : (n : ℕ) → Among n (numbers p 0 l) → (n < length l) × (p (get_or l n d) ≡ true)
  numbers_there = there_from 0 l refl

  records_from : (i : ℕ) (m : List A) → drop i l ≡ m → map (λ n. get_or l n d) (numbers p i m) ≡ keep p m
  unfolding numbers keep
  records_from i [] e = refl
  records_from i (x ∷ m) e =
      let (u, v, w) = head_at d l i x m e in
      go (p x) v (records_from (suc i) m w)
    where
      go : (b : Bool) → get_or l i d ≡ x → map (λ n. get_or l n d) (numbers p (suc i) m) ≡ keep p m → map (λ n. get_or l n d) (cond b (i ∷ numbers p (suc i) m) (numbers p (suc i) m)) ≡ cond b (x ∷ keep p m) (keep p m)
      go true v r = ap₂ (λ (y : A) (k : List A). y ∷ k) v r
      go false v r = r

  pub numbers_records : map (λ n. get_or l n d) (numbers p 0 l) ≡ keep p l
  numbers_records = records_from 0 l refl

-- A sum over the numbers is one over the records, over all of them and up to the first that passes a test.
module _ {A : Type 0} (d : A) (l : List A) (κ : A → Bool) (f : ℕ → ℕ) (f' : A → ℕ) (alike : (i : ℕ) → i < length l → f i ≡ f' (get_or l i d)) where
  abbrev record_at : ℕ → A
  record_at n = get_or l n d

  pub total_numbered : total f (numbers κ 0 l) ≡ total f' (keep κ l)
  total_numbered = total_same f (λ n. f' (record_at n)) (numbers κ 0 l) (λ n m. alike n (numbers_there d l κ n m).0) ∙ sym (total_map record_at f' (numbers κ 0 l)) ∙ ap (total f') (numbers_records d l κ)

  pub total_tried : (h : A → Bool) (g : ℕ → Bool) → ((i : ℕ) → i < length l → g i ≡ h (get_or l i d)) → total f (up_to g (numbers κ 0 l)) ≡ total f' (up_to h (keep κ l))
  total_tried h g same =
      let ns = numbers κ 0 l in
      total_same f (λ n. f' (record_at n)) (up_to g ns) (λ n m. alike n (numbers_there d l κ n (up_to_among g ns n m)).0)
      ∙ sym (total_map record_at f' (up_to g ns))
      ∙ ap (λ (k : List ℕ). total f' (map record_at k)) (up_to_same g (λ n. h (record_at n)) ns (λ n m. same n (numbers_there d l κ n m).0))
      ∙ ap (total f') (sym (up_to_map record_at h ns) ∙ ap (up_to h) (numbers_records d l κ))

pub numbers_same : {A : Type 0} (d : A) (p q : A → Bool) (i : ℕ) (l : List A) → ((j : ℕ) → j < length l → p (get_or l j d) ≡ q (get_or l j d)) → numbers p i l ≡ numbers q i l
unfolding numbers
numbers_same d p q i [] h = refl
numbers_same d p q i (x ∷ l) h = rw (h 0 (omega arith), numbers_same d p q (suc i) l (λ j k. h (suc j) (omega arith)))

pub numbers_below : {A : Type 0} (p : A → Bool) (i n : ℕ) (l : List A) → i + length l ≤ n → every (λ j. ltb j n) (numbers p i l) ≡ true
unfolding numbers every
numbers_below p i n [] h = refl
numbers_below p i n (x ∷ l) h = go (p x) (numbers_below p (suc i) n l (omega arith))
  where
    go : (b : Bool) → every (λ j. ltb j n) (numbers p (suc i) l) ≡ true → every (λ j. ltb j n) (cond b (i ∷ numbers p (suc i) l) (numbers p (suc i) l)) ≡ true
    go true k = and_both (lt-ltb i n (omega arith)) k
    go false k = k

-- What a function leaves as it is comes out as it went in.
pub map_same : (f : ℕ → ℕ) (l : List ℕ) → ((n : ℕ) → Among n l → f n ≡ n) → map f l ≡ l
map_same f [] h = refl
map_same f (n ∷ l) h = ap₂ (λ (m : ℕ) (k : List ℕ). m ∷ k) (h n (inl refl)) (map_same f l (λ m a. h m (inr a)))

-- Of two lists with the same images, the same are kept.
pub keep_images : {A B : Type 0} (q : ℕ → Bool) (f g : A → ℕ) (f' g' : B → ℕ) (l : List A) (m : List B) → map f l ≡ map f' m → map g l ≡ map g' m → map g (keep (λ x. q (f x)) l) ≡ map g' (keep (λ y. q (f' y)) m)
unfolding keep
keep_images q f g f' g' [] [] e k = refl
keep_images q f g f' g' [] (y ∷ m) e k = absurd (omega (arith, ap length e))
keep_images q f g f' g' (x ∷ l) [] e k = absurd (omega (arith, ap length e))
keep_images q f g f' g' (x ∷ l) (y ∷ m) e k =
    let a : f x ≡ f' y = ap (λ (n : List ℕ). get_or n 0 0) e in
    let b : g x ≡ g' y = ap (λ (n : List ℕ). get_or n 0 0) k in
    go (q (f x)) (q (f' y)) (ap q a) b (keep_images q f g f' g' l m (ap (drop 1) e) (ap (drop 1) k))
  where
    go : (c c' : Bool) → c ≡ c' → g x ≡ g' y → map g (keep (λ x. q (f x)) l) ≡ map g' (keep (λ y. q (f' y)) m)
        → map g (cond c (x ∷ keep (λ x. q (f x)) l) (keep (λ x. q (f x)) l)) ≡ map g' (cond c' (y ∷ keep (λ y. q (f' y)) m) (keep (λ y. q (f' y)) m))
    go true true s b r = ap₂ (λ (n : ℕ) (k : List ℕ). n ∷ k) b r
    go true false s b r = absurd (false≢true (sym s))
    go false true s b r = absurd (false≢true s)
    go false false s b r = r

-- Numbers of images are those of the records, and a place within a list has no use for a default.
pub numbers_map : {A B : Type 0} (p : B → Bool) (f : A → B) (i : ℕ) (l : List A) → numbers p i (map f l) ≡ numbers (λ x. p (f x)) i l
unfolding numbers
numbers_map p f i [] = refl
numbers_map p f i (x ∷ l) = rw (numbers_map p f (suc i) l)

pub get_d_within : {A : Type 0} (l : List A) (i : ℕ) (d e : A) → i < length l → get_or l i d ≡ get_or l i e
get_d_within [] i d e h = absurd (omega arith)
get_d_within (x ∷ l) zero d e h = refl
get_d_within (x ∷ l) (suc i) d e h = get_d_within l i d e (omega arith)
