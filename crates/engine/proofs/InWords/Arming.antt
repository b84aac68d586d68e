-- Storing the numbers that an entry arms. Assumes nothing.
use mathlib.Core.Path.{◌≡◌, refl, ap₂}
use mathlib.Core.List.{List, [], ◌∷◌}
use Prim.Native.Nat.{ℕ, suc, ◌+◌, ◌-◌, ◌≤◌, ◌<◌}
use native.Mathlib.Numerals.{add-one}
use native.Mathlib.Omega.{arith}
use lib.ListN.{length, set, take}
use lib.Seq.{sets, take-nil}

-- Of the whole, `rest` is still to come, `count` were seen, and the first four of those are stored.
pub record Storing (whole old : List ℕ) (at : ℕ) (rest row : List ℕ) (count to i : ℕ) : Type 0 where
  pub same : sets row to (take (4 - count) rest) ≡ sets old (at + 3) (take 4 whole)
  pub many : count + length rest ≡ length whole
  pub near : to ≤ at + 3 + count
  pub low : count ≤ i

module _ (whole old : List ℕ) (at : ℕ) where
  pub storing_start : (i : ℕ) → Storing whole old at whole old 0 (at + 3) i
  storing_start i = record { same = refl; many = omega arith; near = omega arith; low = omega arith }

  module _ (rest row : List ℕ) (count to i : ℕ) (g : Storing whole old at rest row count to i) where
    module _ (x : ℕ) (rest₁ : List ℕ) (here : rest ≡ x ∷ rest₁) (n : ℕ) where
      pub storing_store : (y : ℕ) → y ≡ x → count < 4 → Storing whole old at rest₁ (set row to y) (count + 1) (to + 1) (i + 1 + n)
      storing_store y e h =
          let left : 4 - count ≡ suc (4 - (count + 1)) = omega arith in
          record {
            same = rw (add-one to, e) (rw (here, left) at g.same);
            many = omega (arith, rw here at g.many);
            near = omega (arith, g.near);
            low = omega (arith, g.low);
          }

      pub storing_past : 4 ≤ count → Storing whole old at rest₁ row (count + 1) to (i + 1 + n)
      storing_past h =
          let none : 4 - count ≡ 0 = omega arith in
          let none₁ : 4 - (count + 1) ≡ 0 = omega arith in
          record {
            same = rw none₁ (rw none at g.same);
            many = omega (arith, rw here at g.many);
            near = omega (arith, g.near);
            low = omega (arith, g.low);
          }

    pub storing_leave : (rest₁ : List ℕ) → rest ≡ rest₁ → (n : ℕ) → Storing whole old at rest₁ row count to (i + 1 + n)
    storing_leave rest₁ here n = record { same = rw here at g.same; many = rw here at g.many; near = g.near; low = omega (arith, g.low) }

    pub storing_end : rest ≡ [] → set row (at + 2) count ≡ set (sets old (at + 3) (take 4 whole)) (at + 2) (length whole)
    storing_end none =
        let stored : row ≡ sets old (at + 3) (take 4 whole) = rw (none, take-nil {A = ℕ} (4 - count)) at g.same in
        let all : count ≡ length whole = omega (arith, rw none at g.many) in
        ap₂ (λ (r : List ℕ) (n : ℕ). set r (at + 2) n) stored all
