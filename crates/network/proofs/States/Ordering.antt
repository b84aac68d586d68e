-- Places in a list that grows or of which some are kept, numbers that never fall, and so the order of checkers by their calls. Assumes nothing.
use mathlib.Core.Path.{◌≡◌, refl, sym, ap, ap₂, ◌∙◌}
use mathlib.Core.Logic.{inl, inr}
use mathlib.Core.Bool.{Bool, true, false, not, cond, false≢true}
use mathlib.Core.List.{List, [], ◌∷◌, ◌++◌, map, map-append, map-map}
use Prim.Native.Nat.{ℕ, zero, suc, ◌≤◌}
use native.Mathlib.Omega.{arith}
use borrow.Author.Tests.{le-leb, leb-true, eq-eqb, eqb-true}
use lib.Dec.{eqb, leb}
use lib.ListN.{length, take}
use Rattle.sheet.specs.Table.{every}
use Rattle.sheet.proofs.Tables.{and_parts, and_both, every_map}
use Rattle.step.specs.Lists.{Among, keep, any, place_of}
use Rattle.step.specs.Calls.{Call}
use Rattle.step.proofs.OnLists.Lists.{kept_passes}
use Rattle.step.proofs.OnLists.Searching.{place_low}
use Rattle.step.proofs.OnLists.Keeping.{every_among, among_every}
use Rattle.network.specs.declared.Checker.{Checker}
use Rattle.network.specs.Network.{bound_to, of_number}
use Rattle.network.specs.Sound.{never_falls, in_order}

-- Images of the elements of a list: equal where they are for each element, and each is one of an element.
module _ {A B : Type 0} where
  pub images_same : (f g : A → B) (l : List A) → ((x : A) → Among x l → f x ≡ g x) → map f l ≡ map g l
  images_same f g [] h = refl
  images_same f g (x ∷ l) h = ap₂ (λ (y : B) (m : List B). y ∷ m) (h x (inl refl)) (images_same f g l (λ y m. h y (inr m)))

  pub among_image : (f : A → B) (l : List A) (y : B) → Among y (map f l) → (x : A) × Among x l × (y ≡ f x)
  among_image f [] y m = absurd m
  among_image f (x ∷ l) y (inl e) = (x, inl refl, e)
  among_image f (x ∷ l) y (inr m) = let (z, i, e) = among_image f l y m in (z, inr i, e)

-- The place of the first that passes a test: in front of more, behind those that do not, and among those that are kept.
module _ {A : Type 0} (p : A → Bool) where
  pub place_front : (l m : List A) → any p l ≡ true → place_of p (l ++ m) ≡ place_of p l
  unfolding any place_of
  place_front [] m h = absurd (false≢true h)
  place_front (x ∷ l) m h = go (p x) h (place_front l m)
    where
      go : (b : Bool) → cond b true (any p l) ≡ true → (any p l ≡ true → place_of p (l ++ m) ≡ place_of p l) → cond b 0 (suc (place_of p (l ++ m))) ≡ cond b 0 (suc (place_of p l))
      go true h k = refl
      go false h k = ap suc (k h)

  pub place_behind : (l : List A) (x : A) → any p l ≡ false → p x ≡ true → place_of p (l ++ x ∷ []) ≡ length l
  unfolding any place_of
  place_behind [] x h t = rw t
  place_behind (y ∷ l) x h t = go (p y) h (λ k. place_behind l x k t)
    where
      go : (b : Bool) → cond b true (any p l) ≡ false → (any p l ≡ false → place_of p (l ++ x ∷ []) ≡ length l) → cond b 0 (suc (place_of p (l ++ x ∷ []))) ≡ suc (length l)
      go true h k = absurd (false≢true (sym h))
      go false h k = ap suc (k h)

  pub place_keep : (q : A → Bool) → ((x : A) → p x ≡ true → q x ≡ true) → (l : List A) → place_of p (keep q l) ≡ length (keep q (take (place_of p l) l))
  unfolding place_of keep
  place_keep q h [] = refl
  place_keep q h (x ∷ l) = go (p x) refl (q x) refl (place_keep q h l)
    where
      go : (b : Bool) → p x ≡ b → (c : Bool) → q x ≡ c → place_of p (keep q l) ≡ length (keep q (take (place_of p l) l))
          → place_of p (cond c (x ∷ keep q l) (keep q l)) ≡ length (keep q (take (cond b 0 (suc (place_of p l))) (x ∷ l)))
      go true e true f k = rw e
      go true e false f k = absurd (false≢true (sym f ∙ h x e))
      go false e true f k = rw (e, f) (ap suc k)
      go false e false f k = rw f k

-- of more elements in front no fewer are kept
pub front_more : {A : Type 0} (q : A → Bool) (l : List A) (i j : ℕ) → i ≤ j → length (keep q (take i l)) ≤ length (keep q (take j l))
unfolding keep
front_more q l zero j h = omega arith
front_more q l (suc i) zero h = absurd (omega arith)
front_more q [] (suc i) (suc j) h = omega arith
front_more q (x ∷ l) (suc i) (suc j) h = go (q x) (front_more q l i j (omega arith))
  where
    go : (b : Bool) → length (keep q (take i l)) ≤ length (keep q (take j l)) → length (cond b (x ∷ keep q (take i l)) (keep q (take i l))) ≤ length (cond b (x ∷ keep q (take j l)) (keep q (take j l)))
    go true k = omega arith
    go false k = k

-- Numbers that never fall: from a lower one on, of fewer elements, of images that keep the order, and with the highest behind them.
pub never_lower : (n m : ℕ) (l : List ℕ) → n ≤ m → never_falls m l ≡ true → never_falls n l ≡ true
unfolding never_falls
never_lower n m [] h e = refl
never_lower n m (k ∷ l) h e = let (a, b) = and_parts (leb m k) (never_falls k l) e in and_both (le-leb n k (omega (arith, leb-true m k a))) b

pub never_keep : {A : Type 0} (f : A → ℕ) (q : A → Bool) (n : ℕ) (l : List A) → never_falls n (map f l) ≡ true → never_falls n (map f (keep q l)) ≡ true
unfolding never_falls keep
never_keep f q n [] e = refl
never_keep f q n (x ∷ l) e = let (a, b) = and_parts (leb n (f x)) (never_falls (f x) (map f l)) e in go (q x) a (never_keep f q (f x) l b)
  where
    go : (b : Bool) → leb n (f x) ≡ true → never_falls (f x) (map f (keep q l)) ≡ true → never_falls n (map f (cond b (x ∷ keep q l) (keep q l))) ≡ true
    go true h k = and_both h k
    go false h k = never_lower n (f x) (map f (keep q l)) (leb-true n (f x) h) k

pub never_image : (g : ℕ → ℕ) → ((i j : ℕ) → i ≤ j → g i ≤ g j) → (n : ℕ) (l : List ℕ) → never_falls n l ≡ true → never_falls (g n) (map g l) ≡ true
unfolding never_falls
never_image g h n [] e = refl
never_image g h n (m ∷ l) e = let (a, b) = and_parts (leb n m) (never_falls m l) e in and_both (le-leb (g n) (g m) (h n m (leb-true n m a))) (never_image g h m l b)

never_same : (n k : ℕ) (l : List ℕ) → n ≤ k → every (λ i. eqb i k) l ≡ true → never_falls n l ≡ true
unfolding never_falls every
never_same n k [] h e = refl
never_same n k (m ∷ l) h e =
    let (a, b) = and_parts (eqb m k) (every (λ i. eqb i k) l) e in
    let same = eqb-true m k a in
    and_both (le-leb n m (omega arith)) (never_same m k l (omega arith) b)

pub never_append : (n k : ℕ) (l m : List ℕ) → n ≤ k → never_falls n l ≡ true → every (λ i. leb i k) l ≡ true → every (λ i. eqb i k) m ≡ true → never_falls n (l ++ m) ≡ true
unfolding never_falls every
never_append n k [] m h e f g = never_same n k m h g
never_append n k (i ∷ l) m h e f g =
    let (a, b) = and_parts (leb n i) (never_falls i l) e in
    let (c, d) = and_parts (leb i k) (every (λ i. leb i k) l) f in
    and_both a (never_append i k l m (leb-true i k c) b d g)

-- Checkers stand in their calls' order where calls and checkers of a number go,
pub order_fewer : (n : ℕ) (calls : List Call) (l : List Checker) → in_order calls l ≡ true → in_order (keep (λ c. not (of_number n c)) calls) (keep (λ h. not (bound_to n h)) l) ≡ true
unfolding in_order keep
order_fewer n calls l h =
    let q : Call → Bool = λ c. not (of_number n c) in
    let r : Checker → Bool = λ x. not (bound_to n x) in
    let f : Checker → ℕ = λ x. place_of (of_number x.number) calls in
    let g : ℕ → ℕ = λ i. length (keep q (take i calls)) in
    let same : map (λ (x : Checker). place_of (of_number x.number) (keep q calls)) (keep r l) ≡ map g (map f (keep r l)) =
    images_same (λ (x : Checker). place_of (of_number x.number) (keep q calls)) (λ x. g (f x)) (keep r l) (λ x m. place_keep (of_number x.number) q (λ c e. rw (eqb-true c.number x.number e) (kept_passes r l x m).1) calls)
    ∙ sym (map-map g f (keep r l)) in
    ap (never_falls 0) same ∙ never_image g (front_more q calls) 0 (map f (keep r l)) (never_keep f r 0 l h)

-- and where a call comes last with its checkers.
pub order_more : (calls : List Call) (c : Call) (l m : List Checker) → in_order calls l ≡ true → every (λ (h : Checker). any (of_number h.number) calls) l ≡ true
    → any (of_number c.number) calls ≡ false → every (bound_to c.number) m ≡ true → in_order (calls ++ c ∷ []) (l ++ m) ≡ true
unfolding in_order
order_more calls c l m h o z b =
    let f : Checker → ℕ = λ x. place_of (of_number x.number) calls in
    let g : Checker → ℕ = λ x. place_of (of_number x.number) (calls ++ c ∷ []) in
    let old : map g l ≡ map f l = images_same g f l (λ x i. place_front (of_number x.number) calls (c ∷ []) (every_among (λ (y : Checker). any (of_number y.number) calls) l x o i)) in
    let low : every (λ i. leb i (length calls)) (map f l) ≡ true = every_map (λ i. leb i (length calls)) f l ∙ among_every (λ x. leb (f x) (length calls)) l (λ x i. le-leb (f x) (length calls) (place_low (of_number x.number) calls)) in
    let last : every (λ i. eqb i (length calls)) (map g m) ≡ true = every_map (λ i. eqb i (length calls)) g m ∙ among_every (λ x. eqb (g x) (length calls)) m (λ x i.
    let n = eqb-true x.number c.number (every_among (bound_to c.number) m x b i) in eq-eqb (g x) (length calls) (rw n (place_behind (of_number c.number) calls c z (eq-eqb c.number c.number refl)))) in
    ap (never_falls 0) (map-append g l m ∙ ap (λ (k : List ℕ). k ++ map g m) old) ∙ never_append 0 (length calls) (map f l) (map g m) (omega arith) h low last
