-- What a test that holds says, for `simp`: the facts in place of the tests. Assumes nothing.
use mathlib.Core.Path.{◌≡◌}
use mathlib.Core.Bool.{Bool, true, false, not, ◌&&◌, and-eq-true_iff}
use mathlib.Core.Logic.{◌↔◌}
use Prim.Native.Nat.{ℕ, ◌≤◌}
use lib.Dec.{leb, eqb}
use borrow.Author.Tests.{leb-true, le-leb, eqb-true, eq-eqb, not-true}

pub and_iff : (a b : Bool) → (a && b) ≡ true ↔ (a ≡ true) × (b ≡ true)
and_iff a b = and-eq-true_iff a b

-- `ltb m n` too, which is `leb (suc m) n`
pub leb_iff : (m n : ℕ) → leb m n ≡ true ↔ m ≤ n
leb_iff m n = (leb-true m n, le-leb m n)

pub eqb_iff : (m n : ℕ) → eqb m n ≡ true ↔ m ≡ n
eqb_iff m n = (eqb-true m n, eq-eqb m n)

pub not_iff : (a : Bool) → not a ≡ true ↔ a ≡ false
not_iff a = (not-true a, λ e. rw e)
