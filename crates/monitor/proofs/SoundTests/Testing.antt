-- Loops that test the first elements of two rows, or whether numbers rise, and what the tests of a sound state come to. Assumes nothing.
use mathlib.Core.Path.{◌≡◌, refl, ap}
use mathlib.Core.Bool.{Bool, true, ◌&&◌}
use mathlib.Core.List.{List, [], ◌∷◌}
use Prim.Native.Nat.{ℕ}
use native.Mathlib.Omega.{arith}
use lib.ListN.{length}
use Rattle.sheet.specs.Table.{every}
use Rattle.std.specs.List.{zip}
use Rattle.step.specs.Lists.{beside}

-- a test of each element with the one beside it
pub every_zip : {A B C : Type 0} (f : A → B → C) (p : C → Bool) (l : List A) (m : List B) → every (λ (x : A × B). p (f x.0 x.1)) (zip l m) ≡ every p (beside f l m)
unfolding every beside
every_zip f p [] m = refl
every_zip f p (x ∷ l) [] = refl
every_zip f p (x ∷ l) (y ∷ m) = ap (λ (b : Bool). p (f x y) && b) (every_zip f p l m)

-- nothing is armed
pub none_armed : (p : ℕ → Bool) (l : List ℕ) → length l ≡ 0 → true ≡ every p l
unfolding every
none_armed p [] e = refl
none_armed p (x ∷ l) e = absurd (omega (arith, e))
