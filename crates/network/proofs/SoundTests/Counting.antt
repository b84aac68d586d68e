-- How many elements pass a test, by the library's word, and the loop that tests whether numbers never fall. Assumes nothing.
use Rattle.std.proofs.Common.{◌≡◌, ℕ, suc, ◌+◌, ◌≤◌, ◌<◌, Bool, true, false, cond, ◌&&◌, List, [], ◌∷◌, map, length, get_or, drop, filter, leb, refl, ap}
use native.Mathlib.Numerals.{add-one}
use borrow.Author.Tests.{le-leb, lt-leb}
use lib.ListN.{drop_of_length-le}
use lib.Seq.{drop-cons}
use Rattle.step.specs.Lists.{keep}
use Rattle.network.specs.Sound.{never_falls}

pub filter_keep : {A : Type 0} (p : A → Bool) (l : List A) → filter p l ≡ keep p l
unfolding keep
filter_keep p [] = refl
filter_keep {A} p (x ∷ l) = ap (λ (k : List A). cond (p x) (x ∷ k) k) (filter_keep p l)

-- Numbers of a row's elements, i of them seen and none above the last: what is left settles whether any falls.
module _ {A : Type 0} (f : A → ℕ) (row : List A) (last i : ℕ) (b : Bool) (g : never_falls last (map f (drop i row)) ≡ b) where
  pub falls_end : length row ≤ i → true ≡ b
  unfolding never_falls
  falls_end h = rw (drop_of_length-le row h) at g

  module _ (d : A) (h : i < length row) (next : ℕ) (e : next ≡ f (get_or row i d)) where
    here : (leb last next && never_falls next (map f (drop (suc i) row))) ≡ b
    unfolding never_falls
    here = rw e (rw (drop-cons row i d h) at g)

    pub falls_next : last ≤ next → never_falls next (map f (drop (i + 1) row)) ≡ b
    falls_next t = rw (add-one i) (rw (le-leb last next t) at here)

    pub falls_fails : next < last → false ≡ b
    falls_fails t = rw (lt-leb last next t) at here
