-- Filling an array with the elements of a list, or with those that pass a test. Assumes nothing.
use mathlib.Core.Path.{◌≡◌, refl, ap, ◌∙◌}
use mathlib.Core.Bool.{Bool, true, false}
use mathlib.Core.List.{List, [], ◌∷◌, ◌++◌}
use Prim.Native.Nat.{ℕ, zero, suc, ◌+◌, ◌≤◌, ◌<◌, min}
use native.Mathlib.Numerals.{add-one}
use native.Mathlib.Omega.{arith}
use lib.ListN.{length, get_or, set, take, drop, replicate, length-set, length-replicate, drop_of_length-le}
use lib.Seq.{sets, drop-cons}
use Rattle.sheet.specs.Table.{fit}
use Rattle.sheet.proofs.Readers.Indexing.{sets_fit}
use Rattle.step.specs.Lists.{keep}

-- What is left, stored from j on, gives the whole.
pub record Filling {A : Type 0} (n : ℕ) (d : A) (whole out : List A) (j : ℕ) (rest : List A) : Type 0 where
  pub all : sets out j rest ≡ fit n d whole
  pub long : length out ≡ n

module _ {A : Type 0} (n : ℕ) (d : A) (whole : List A) where
  pub filling_start : Filling n d whole (replicate n d) 0 whole
  filling_start = record { all = sets_fit d n whole; long = length-replicate n d }

  module _ (out : List A) (j : ℕ) where
    -- the next element is stored; past the end nothing is
    pub filling_store : (x : A) (rest : List A) → Filling n d whole out j (x ∷ rest) → Filling n d whole (set out j x) (j + 1) rest
    filling_store x rest g = record { all = rw (add-one j) g.all; long = length-set out j x ∙ g.long }

    -- nothing is left
    pub filling_end : (rest : List A) → Filling n d whole out j rest → rest ≡ [] → out ≡ fit n d whole
    filling_end rest g e = rw e at g.all

  -- the next element of a list that is gone through by its places
  pub filling_next : (out : List A) (j : ℕ) (l : List A) (i : ℕ) (e : A) → Filling n d whole out j (drop i l) → i < length l → Filling n d whole (set out j (get_or l i e)) (j + 1) (drop (i + 1) l)
  filling_next out j l i e g h = rw (add-one i) (filling_store out j (get_or l i e) (drop (suc i) l) (rw (drop-cons l i e h) at g))

-- as many as there is room for, and d behind them
module _ {A : Type 0} (d : A) where
  fit_none : (k : ℕ) → replicate k d ≡ fit k d []
  unfolding fit
  fit_none zero = refl
  fit_none (suc k) = ap (λ (l : List A). d ∷ l) (fit_none k)

  pub fit_front : (k : ℕ) (l : List A) (n : ℕ) → n ≡ min (length l) k → take n l ++ drop n (replicate k d) ≡ fit k d l
  unfolding fit
  fit_front zero l n h = let z : n ≡ 0 = omega (arith, h) in rw z refl
  fit_front (suc k) [] n h = let z : n ≡ 0 = omega (arith, h) in rw z (fit_none (suc k))
  fit_front (suc k) (x ∷ l) zero h = absurd (omega (arith, h))
  fit_front (suc k) (x ∷ l) (suc n) h = ap (λ (m : List A). x ∷ m) (fit_front k l n (omega (arith, h)))

-- The elements that pass a test, from a place on.
module _ {A : Type 0} (p : A → Bool) (l : List A) (i : ℕ) where
  pub keep_none_left : length l ≤ i → keep p (drop i l) ≡ []
  unfolding keep
  keep_none_left h = rw (drop_of_length-le l h)

  module _ (e : A) (h : i < length l) where
    pub keep_here : p (get_or l i e) ≡ true → keep p (drop i l) ≡ get_or l i e ∷ keep p (drop (suc i) l)
    unfolding keep
    keep_here t = rw (drop-cons l i e h, t)

    pub keep_not_here : p (get_or l i e) ≡ false → keep p (drop i l) ≡ keep p (drop (suc i) l)
    unfolding keep
    keep_not_here t = rw (drop-cons l i e h, t)
