-- Looking for the first transition that can be taken, and taking it. Assumes nothing.
use mathlib.Core.Path.{◌≡◌, refl, sym, ◌∙◌}
use mathlib.Core.Bool.{Bool, true, false, cond}
use mathlib.Core.List.{List, [], ◌∷◌}
use Prim.Native.Nat.{ℕ, suc, ◌+◌, ◌≤◌, ◌<◌}
use native.Mathlib.Numerals.{add-one}
use native.Mathlib.Omega.{arith}
use borrow.Author.Tests.{lt-ltb}
use lib.Dec.{ltb, leb-suc-suc}
use lib.ListN.{length, get_or, drop, drop_of_length-le}
use lib.Seq.{drop-cons}
use Rattle.step.specs.Lists.{any, place_of}

-- looking for the first element of a list that passes a test, i of them passed
pub record Passed {A : Type 0} (p : A → Bool) (l : List A) (i : ℕ) : Type 0 where
  pub same : place_of p l ≡ i + place_of p (drop i l)
  pub low : i ≤ length l

module _ {A : Type 0} (p : A → Bool) (l : List A) where
  pub passed_none : Passed p l 0
  passed_none = record { same = omega arith; low = omega arith }

  pub passed_end : (i : ℕ) → Passed p l i → length l ≤ i → i ≡ place_of p l
  unfolding place_of
  passed_end i g h = sym (g.same ∙ rw (drop_of_length-le l h) (omega arith))

  module _ (i : ℕ) (d : A) (g : Passed p l i) (h : i < length l) where
    pub passed_found : p (get_or l i d) ≡ true → i ≡ place_of p l
    unfolding place_of
    passed_found e = sym (g.same ∙ rw (drop-cons l i d h, e) (omega arith))

    pub passed_more : p (get_or l i d) ≡ false → Passed p l (i + 1)
    unfolding place_of
    passed_more e = record { same = rw (add-one i) (omega (arith, rw (drop-cons l i d h, e) at g.same)); low = omega arith }

-- a place is at most the length
pub place_low : {A : Type 0} (p : A → Bool) (l : List A) → place_of p l ≤ length l
unfolding place_of
place_low p [] = omega arith
place_low p (x ∷ l) = go (p x) (place_low p l)
  where
    go : (b : Bool) → place_of p l ≤ length l → cond b 0 (suc (place_of p l)) ≤ suc (length l)
    go true h = omega arith
    go false h = omega arith

-- there is one exactly if its place is within the list
pub any_place : {A : Type 0} (p : A → Bool) (l : List A) → any p l ≡ ltb (place_of p l) (length l)
unfolding any place_of
any_place p [] = refl
any_place p (x ∷ l) = go (p x) (any_place p l)
  where
    go : (b : Bool) → any p l ≡ ltb (place_of p l) (length l) → cond b true (any p l) ≡ ltb (cond b 0 (suc (place_of p l))) (suc (length l))
    go true h = sym (lt-ltb 0 (suc (length l)) (omega arith))
    go false h = h ∙ sym (leb-suc-suc (suc (place_of p l)) (length l))
