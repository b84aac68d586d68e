-- The library's words for tests of lists, and those of the definitions. Assumes nothing.
use Rattle.std.proofs.Common.{◌≡◌, ℕ, suc, ◌+◌, ◌-◌, ◌≤◌, ◌<◌, Bool, true, false, not, cond, ◌&&◌, ◌||◌, List, [], ◌∷◌, map, length, get_or, take, drop, ltb, eqb, Option, Some, None, refl, ap, ◌∙◌, arith}
use native.Mathlib.Numerals.{add-one}
use borrow.Author.Tests.{ltb-false}
use lib.ListN.{drop_of_length-le, length-drop}
use lib.Seq.{drop-cons, take_all}
use Rattle.std.specs.Option.{unwrap_or}
use Rattle.std.specs.List.{list_all, list_any, position_or_len}
use Rattle.std.specs.Option.{MatchOption}
use Rattle.std.specs.List.{FoldsTo}
use Rattle.std.specs.Fn.{Called}
use Rattle.std.specs.Iterator.{YieldsThen}
use Rattle.std.proofs.lemmas.Iterator.{YieldsList}
use Rattle.std.proofs.lemmas.Iterator.Search.{all_from_yields_List, any_from_yields_List}
use denote.Param.Members.{Mut}
use Rattle.sheet.specs.Table.{every}
use Rattle.step.specs.Lists.{any, place_of, distinct}

module _ {A : Type 0} (p : A → Bool) where
  pub all_every : (l : List A) → list_all p l ≡ every p l
  unfolding every
  all_every [] = refl
  all_every (x ∷ l) = ap (λ (b : Bool). p x && b) (all_every l)

  or_cond : (a b : Bool) → (a || b) ≡ cond a true b
  or_cond true b = refl
  or_cond false b = refl

  pub any_any : (l : List A) → list_any p l ≡ any p l
  unfolding any
  any_any [] = refl
  any_any (x ∷ l) = ap (λ (b : Bool). p x || b) (any_any l) ∙ or_cond (p x) (any p l)

  pub position_place : (l : List A) → position_or_len p l ≡ place_of p l
  unfolding place_of
  position_place [] = refl
  position_place (x ∷ l) = go (p x) (position_place l)
    where
      go : (b : Bool) → position_or_len p l ≡ place_of p l → cond (not b) (1 + position_or_len p l) 0 ≡ cond b 0 (suc (place_of p l))
      go true e = refl
      go false e = omega (arith, e)

-- a place, or the length where there is none
pub place_or : (n m : ℕ) → n ≤ m → unwrap_or (cond (ltb n m) (Some n) None) m ≡ n
place_or n m h = go (ltb n m) refl
  where
    go : (b : Bool) → ltb n m ≡ b → unwrap_or (cond b (Some n) None) m ≡ n
    go true e = refl
    go false e = let k = ltb-false n m e in omega arith

-- one element among others by a number of each
pub any_number : {A : Type 0} (f : A → ℕ) (n : ℕ) (l : List A) → any (λ x. eqb n (f x)) l ≡ any (eqb n) (map f l)
unfolding any
any_number f n [] = refl
any_number f n (x ∷ l) = ap (cond (eqb n (f x)) true) (any_number f n l)

-- Different numbers, by a number of each element: what is left settles it.
module _ {A : Type 0} (f : A → ℕ) (row : List A) (i : ℕ) (g : distinct (map f (drop i row)) ≡ distinct (map f row)) where
  pub distinct_end : length row ≤ i → true ≡ distinct (map f row)
  unfolding distinct
  distinct_end h = rw (drop_of_length-le row h) at g

  module _ (d : A) (h : i < length row) (b : Bool) (e : b ≡ any (eqb (f (get_or row i d))) (map f (take (length row - (i + 1)) (drop (i + 1) row)))) where
    rest : take (length row - (i + 1)) (drop (i + 1) row) ≡ drop (i + 1) row
    rest = take_all (length row - (i + 1)) (drop (i + 1) row) (omega (arith, length-drop (i + 1) row))

    unfolded : (not b && distinct (map f (drop (i + 1) row))) ≡ distinct (map f row)
    unfolding distinct
    unfolded = rw (e, rest, add-one i) (rw (drop-cons row i d h) at g)

    pub distinct_next : b ≡ false → distinct (map f (drop (i + 1) row)) ≡ distinct (map f row)
    distinct_next z = rw z at unfolded

    pub distinct_fails : b ≡ true → false ≡ distinct (map f row)
    distinct_fails z = rw z at unfolded

-- What a chain's `all` and `any` answer, by the definitions' words.
module _ {S A B F : Type 0} {steps : S → Option A → S → Type 0} {v : A → B} {g : Mut F (A × Unit {0}) Bool} {s : S} {all : List B} (test : B → Bool) (u : S) (f : F) (r : Bool) where
  pub every_from_all : (xs : List A) × (o : Option A) × (j : F) × YieldsThen steps s xs o u × FoldsTo (λ p x q. Called g p (x, tt) true q) f xs j × MatchOption o (r ≡ true) (λ x. (r ≡ false) × ((h : F) × Called g j (x, tt) false h))
      → YieldsList steps v s all → ((x : A) (b : Bool) (q : F) → Called g f (x, tt) b q → (q ≡ f) × (b ≡ test (v x))) → r ≡ every test all
  every_from_all ran yields k = all_from_yields_List test u f r ran yields k ∙ all_every test all

  pub any_from_any : (xs : List A) × (o : Option A) × (j : F) × YieldsThen steps s xs o u × FoldsTo (λ p x q. Called g p (x, tt) false q) f xs j × MatchOption o (r ≡ false) (λ x. (r ≡ true) × ((h : F) × Called g j (x, tt) true h))
      → YieldsList steps v s all → ((x : A) (b : Bool) (q : F) → Called g f (x, tt) b q → (q ≡ f) × (b ≡ test (v x))) → r ≡ any test all
  any_from_any ran yields k = any_from_yields_List test u f r ran yields k ∙ any_any test all
