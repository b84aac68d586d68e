-- Tests that are false, or chained. Assumes nothing.
use mathlib.Core.Path.{◌≡◌}
use mathlib.Core.Bool.{Bool, true, false, cond}
use Prim.Native.Nat.{ℕ}
use lib.Dec.{eqb}
use borrow.Author.Tests.{eqb-true}
use Rattle.std.proofs.lemmas.Bool.{false≢true, cond_both}

pub none_true : {A : Type 0} → ◌≡◌ {A = Bool} false true → A
none_true h = absurd (false≢true h)

-- One test of a chain that goes by a number.
pub pick : {X : Type 0} (P : X → Type 0) (o n : ℕ) (x y : X) → (o ≡ n → P x) → P y → P (cond (eqb o n) x y)
pick P o n x y f p = cond_both (eqb o n) x y P (λ e. f (eqb-true o n e)) (λ e. p)
