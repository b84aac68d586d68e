-- Texts stored byte by byte, and one behind the other. Assumes nothing.
use mathlib.Core.Path.{◌≡◌}
use mathlib.Core.Logic.{◌⊎◌}
use mathlib.Core.List.{List, [], ◌∷◌, ◌++◌}
use Prim.Native.Nat.{ℕ, suc, ◌+◌, ◌≤◌, ◌<◌}
use native.Mathlib.Numerals.{add-one}
use native.Mathlib.Omega.{arith}
use lib.ListN.{length, get_or, set, drop, drop_of_length-le}
use lib.Seq.{drop-cons}
use Rattle.translation.proofs.Writing.{Writing, writing_start, stored_is, writing_next, writing_end, writes_then}
use Rattle.lines.specs.Walk.{Puts}

-- The bytes from i on are to be stored.
abbrev pub Storing : List ℕ → ℕ → List ℕ → List ℕ → ℕ → Type 0
Storing o at t out i = Writing o at t out (at + i) (drop i t)

module _ (o : List ℕ) (at : ℕ) (t : List ℕ) where
  pub text_start : Storing o at t o 0
  text_start =
      let e : at + 0 ≡ at = omega arith in
      rw e (writing_start o at t)

  module _ (out : List ℕ) (i : ℕ) (g : Storing o at t out i) where
    pub text_next : i < length t → (p : List ℕ) → ((at + i < length out) × (p ≡ set out (at + i) (get_or t i 0))) ⊎ ((length out ≤ at + i) × (p ≡ out)) → Storing o at t p (i + 1)
    text_next h p w =
        let e : at + (i + 1) ≡ at + i + 1 = omega arith in
        rw (e, add-one i) (writing_next o at t out (at + i) (get_or t i 0 ∷ []) (drop (suc i) t) (rw (drop-cons t i 0 h) at g) p (at + i + 1) (stored_is out p (at + i) (get_or t i 0) w))

    pub text_end : length t ≤ 20 → i ≡ length t → Puts o out at t (at + length t) 20
    text_end few e =
        let all : length t ≤ i = omega arith in
        record { writes = rw (← e) (writing_end o at t out (at + i) (rw (drop_of_length-le t all) at g)); near = omega arith }

-- one behind the other; and a text is no longer than that
module _ {o p q : List ℕ} {at m r a b : ℕ} where
  pub puts_then : (x y : List ℕ) → Puts o p at x m a → Puts p q m y r b → Puts o q at (x ++ y) r (a + b)
  puts_then x y v w = record { writes = writes_then x y v.writes w.writes; near = omega (arith, v.near, w.near) }

pub puts_most : {o p : List ℕ} {at : ℕ} {l : List ℕ} {r a b : ℕ} → Puts o p at l r a → a ≤ b → Puts o p at l r b
puts_most w h = record { writes = w.writes; near = omega (arith, w.near) }

pub puts_near : {o p : List ℕ} {at : ℕ} {l : List ℕ} {r a b : ℕ} → Puts o p at l r a → length l ≤ b → Puts o p at l r b
puts_near w h = record { writes = w.writes; near = omega (arith, w.writes.next) }
