-- Tests on what a loop has yet to see of a list, and on what it has seen. Assumes nothing.
use mathlib.Core.Path.{◌≡◌, refl, sym}
use mathlib.Core.Bool.{Bool, true, false, not, cond, ◌&&◌, false≢true}
use mathlib.Core.List.{List, [], ◌∷◌, ◌++◌}
use Prim.Native.Nat.{ℕ}
use lib.Dec.{eqb}
use Rattle.step.specs.Lists.{any, distinct}

-- a test on some element of joined lists
pub any_append : {A : Type 0} (p : A → Bool) (l m : List A) → any p (l ++ m) ≡ cond (any p l) true (any p m)
unfolding any
any_append p [] m = refl
any_append p (x ∷ l) m = go (p x) (any_append p l m)
  where
    go : (b : Bool) → any p (l ++ m) ≡ cond (any p l) true (any p m) → cond b true (any p (l ++ m)) ≡ cond (cond b true (any p l)) true (any p m)
    go true h = refl
    go false h = h

-- Numbers that are all different: one more of them, and those in front of others.
pub distinct_snoc : (l : List ℕ) (n : ℕ) → distinct (l ++ n ∷ []) ≡ (distinct l && not (any (λ m. eqb m n) l))
unfolding distinct any
distinct_snoc [] n = refl
distinct_snoc (x ∷ l) n = rw (any_append (eqb x) l (n ∷ []), distinct_snoc l n) (go (any (eqb x) l) (eqb x n) (distinct l) (any (λ m. eqb m n) l))
  where
    go : (a b d c : Bool) → (not (cond a true (cond b true false)) && (d && not c)) ≡ ((not a && d) && not (cond b true c))
    go true b d c = refl
    go false true true c = refl
    go false true false c = refl
    go false false d c = refl

pub distinct_front : (l m : List ℕ) → distinct l ≡ false → distinct (l ++ m) ≡ false
unfolding distinct any
distinct_front [] m e = absurd (false≢true (sym e))
distinct_front (x ∷ l) m e = rw (any_append (eqb x) l m) (go (any (eqb x) l) (any (eqb x) m) (distinct l) (distinct (l ++ m)) (distinct_front l m) e)
  where
    go : (a b d c : Bool) → (d ≡ false → c ≡ false) → (not a && d) ≡ false → (not (cond a true b) && c) ≡ false
    go true b d c h k = refl
    go false true d c h k = refl
    go false false d c h k = h k
