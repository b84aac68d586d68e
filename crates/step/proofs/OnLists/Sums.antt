-- Laws of a sum over a list, how much it comes to, adding it up element by element, and of a list up to the first element that passes a test. Assumes nothing.
use mathlib.Core.Path.{◌≡◌, refl, ap, ap₂}
use mathlib.Core.Logic.{inl, inr}
use mathlib.Core.Bool.{Bool, true, false, cond}
use mathlib.Core.List.{List, [], ◌∷◌, map}
use Prim.Native.Nat.{ℕ, ◌+◌, suc, ◌*◌, ◌≤◌, ◌<◌}
use native.Mathlib.Nat.{mul-suc}
use native.Mathlib.Numerals.{add-one}
use native.Mathlib.Omega.{arith}
use lib.ListN.{length, get_or, take, drop, drop_of_length-le, length-take}
use lib.Seq.{drop-cons, get_or-take}
use Rattle.step.specs.Lists.{Among, up_to, total}

-- Of a list's images.
module _ {A B : Type 0} (f : A → B) where
  pub total_map : (g : B → ℕ) (l : List A) → total g (map f l) ≡ total (λ x. g (f x)) l
  unfolding total
  total_map g [] = refl
  total_map g (x ∷ l) = ap (λ (n : ℕ). g (f x) + n) (total_map g l)

  pub up_to_map : (p : B → Bool) (l : List A) → up_to p (map f l) ≡ map f (up_to (λ x. p (f x)) l)
  unfolding up_to
  up_to_map p [] = refl
  up_to_map p (x ∷ l) = go (p (f x)) (up_to_map p l)
    where
      go : (b : Bool) → up_to p (map f l) ≡ map f (up_to (λ x. p (f x)) l) → f x ∷ cond b [] (up_to p (map f l)) ≡ map f (x ∷ cond b [] (up_to (λ x. p (f x)) l))
      go true h = refl
      go false h = ap (λ (m : List B). f x ∷ m) h

-- What agrees on a list's elements has the same sum, and comes to the same first one.
module _ {A : Type 0} where
  pub total_same : (f g : A → ℕ) (l : List A) → ((x : A) → Among x l → f x ≡ g x) → total f l ≡ total g l
  unfolding total
  total_same f g [] h = refl
  total_same f g (x ∷ l) h = ap₂ (λ (m n : ℕ). m + n) (h x (inl refl)) (total_same f g l (λ y m. h y (inr m)))

  pub up_to_same : (p q : A → Bool) (l : List A) → ((x : A) → Among x l → p x ≡ q x) → up_to p l ≡ up_to q l
  unfolding up_to
  up_to_same p q [] h = refl
  up_to_same p q (x ∷ l) h = rw (h x (inl refl), up_to_same p q l (λ y m. h y (inr m)))

  pub up_to_among : (p : A → Bool) (l : List A) (x : A) → Among x (up_to p l) → Among x l
  unfolding up_to
  up_to_among p [] x m = m
  up_to_among p (y ∷ l) x (inl e) = inl e
  up_to_among p (y ∷ l) x (inr m) = inr (go (p y) m (up_to_among p l x))
    where
      go : (b : Bool) → Among x (cond b [] (up_to p l)) → (Among x (up_to p l) → Among x l) → Among x l
      go true m h = absurd m
      go false m h = h m

-- no more than the most of each, as often as there are elements
pub total_most : {A : Type 0} (f : A → ℕ) (n : ℕ) → ((x : A) → f x ≤ n) → (l : List A) → total f l ≤ n * length l
unfolding total
total_most f n h [] = omega arith
total_most f n h (x ∷ l) = omega (arith, h x, total_most f n h l, mul-suc n (length l))

pub length_up_to : {A : Type 0} (p : A → Bool) (l : List A) → length (up_to p l) ≤ length l
unfolding up_to
length_up_to p [] = omega arith
length_up_to p (x ∷ l) = go (p x) (length_up_to p l)
  where
    go : (b : Bool) → length (up_to p l) ≤ length l → suc (length (cond b [] (up_to p l))) ≤ suc (length l)
    go true h = omega arith
    go false h = omega arith

-- Of the first `count` elements of an array i are added up, and the others come to the rest of the whole.
module _ {A : Type 0} (f : A → ℕ) (row : List A) (count sum i whole : ℕ) (g : sum + total f (drop i (take count row)) ≡ whole) where
  pub total_end : count ≤ i → sum ≡ whole
  unfolding total
  total_end h =
      let past : length (take count row) ≤ i = omega (arith, length-take count row) in
      omega (arith, rw (drop_of_length-le (take count row) past) at g)

  pub total_next : (d : A) → i < count → i < length row → sum + f (get_or row i d) + total f (drop (i + 1) (take count row)) ≡ whole
  unfolding total
  total_next d h k = rw (add-one i) (omega (arith, rw (drop-cons (take count row) i d (omega (arith, length-take count row)), get_or-take count row i d h) at g))
