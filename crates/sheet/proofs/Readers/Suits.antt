-- Conditions in their roles, by their number. Assumes nothing.
use mathlib.Core.Path.{◌≡◌}
use mathlib.Core.Bool.{Bool, false}
use mathlib.Core.List.{List}
use Prim.Native.Nat.{ℕ, ◌≤◌, ◌<◌}
use borrow.Author.Tests.{lt-ltb, le-ltb}
use lib.ListN.{get_or, drop}
use Rattle.condition.specs.declared.Lent.{Lent}
use Rattle.condition.specs.Tree.{Variable, condition_names}
use Rattle.condition.specs.Answer.{condition_which}
use Rattle.sheet.specs.Decode.{wide, text_form}
use Rattle.sheet.specs.Walk.{names_at}

module _ (p : Variable → Bool) (s index : List ℕ) (n : ℕ) (L : Lent) (i : ℕ) {k : ℕ} (e : k ≡ i) where
  pub names_there : k < n → (a : ℕ) → a ≡ get_or index k 0 → (t : List ℕ) → t ≡ (text_form (wide s)).value (drop a s) → (b : Bool) → b ≡ condition_which (λ c. condition_names c p) L t → b ≡ names_at p s index n L i
  names_there h a f t g b x = rw (← e, lt-ltb k n h, ← f, ← g) x

  pub names_past : n ≤ k → false ≡ names_at p s index n L i
  names_past h = rw (← e, le-ltb k n h)
