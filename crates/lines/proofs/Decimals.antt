-- The decimal of a number, by its last digit and the rest. Assumes nothing.
use mathlib.Core.Path.{◌≡◌, refl}
use mathlib.Core.Bool.{Bool, true, false}
use mathlib.Core.List.{[], ◌∷◌, ◌++◌}
use Prim.Native.Nat.{ℕ, zero, suc, ◌/◌, ◌%◌, ◌^◌, ◌≤◌, ◌<◌}
use native.Mathlib.Nat.{pow-suc, div-lt_iff_lt-mul, div-lt_self}
use native.Mathlib.Omega.{arith}
use borrow.Author.Tests.{ltb-false, lt-ltb, le-ltb}
use lib.Dec.{ltb}
use lib.ListN.{length, length-append}
use Rattle.lines.specs.Text.{digit, decimal_from, decimal}

-- a bound above the number makes no difference
bounded : (f g n : ℕ) → n < f → n < g → decimal_from f n ≡ decimal_from g n
unfolding decimal_from
bounded zero g n h k = absurd (omega arith)
bounded (suc f) zero n h k = absurd (omega arith)
bounded (suc f) (suc g) n h k = go (ltb n 10) refl (λ less. bounded f g (n / 10) (omega arith) (omega arith))
  where
    go : (b : Bool) → ltb n 10 ≡ b → (n / 10 < n → decimal_from f (n / 10) ≡ decimal_from g (n / 10)) → decimal_from (suc f) n ≡ decimal_from (suc g) n
    go true e rest = rw e
    go false e rest =
        let ten : 10 ≤ n = ltb-false n 10 e in
        rw (e, rest (div-lt_self (omega arith) (omega arith)))

pub decimal_one : (n : ℕ) → n < 10 → digit n ∷ [] ≡ decimal n
unfolding decimal decimal_from
decimal_one n h = rw (lt-ltb n 10 h)

pub decimal_more : (n : ℕ) → 10 ≤ n → decimal (n / 10) ++ digit (n % 10) ∷ [] ≡ decimal n
unfolding decimal decimal_from
decimal_more n h =
    let less : n / 10 < n = div-lt_self (omega arith) (omega arith) in
    rw (le-ltb n 10 h, bounded n (suc (n / 10)) (n / 10) less (omega arith))

-- how many digits there are
few : (f n k : ℕ) → n < 10 ^ suc k → length (decimal_from f n) ≤ suc k
unfolding decimal_from
few zero n k h = omega arith
few (suc f) n k h = go (ltb n 10) refl k h (λ j. few f (n / 10) j)
  where
    go : (b : Bool) → ltb n 10 ≡ b → (k : ℕ) → n < 10 ^ suc k → ((j : ℕ) → n / 10 < 10 ^ suc j → length (decimal_from f (n / 10)) ≤ suc j) → length (decimal_from (suc f) n) ≤ suc k
    go true e k h rest = rw e (omega arith)
    go false e zero h rest = absurd (omega (arith, ltb-false n 10 e))
    go false e (suc k) h rest =
        let fewer : n / 10 < 10 ^ suc k = (div-lt_iff_lt-mul {k = 10} {x = n} {y = 10 ^ suc k} (omega arith)).1 (rw (pow-suc 10 (suc k)) at h) in
        rw e (omega (arith, rest k fewer, length-append (decimal_from f (n / 10)) (digit (n % 10) ∷ [])))

-- ten digits hold every u32
pub decimal_few : (n : ℕ) → n < 4294967296 → length (decimal n) ≤ 10
unfolding decimal
decimal_few n h = few (suc n) n 9 (omega arith)
