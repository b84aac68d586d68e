-- The arithmetic of words, as the code carries it out. Assumes nothing.
use Rattle.std.proofs.Common.{◌≡◌, ℕ, ◌+◌, ◌-◌, ◌%◌, ◌^◌, ◌<◌, Bool, true, false, ltb, refl, arith, ltb-false, ltb-true, le-ltb, lt-ltb}
use lib.Signed.{lt_z}
use Rattle.condition.specs.Word.{signed, difference, less_word}

-- two tests that hold together are equal
pub same_test : (x y a b : ℕ) → (x < y → a < b) → (a < b → x < y) → ltb x y ≡ ltb a b
same_test x y a b f g = go (ltb x y) refl (ltb a b) refl
  where
    go : (t : Bool) → ltb x y ≡ t → (u : Bool) → ltb a b ≡ u → t ≡ u
    go true d true e = refl
    go true d false e = let h = f (ltb-true x y d) in let i = ltb-false a b e in absurd (omega arith)
    go false d true e = let h = g (ltb-true a b e) in let i = ltb-false x y d in absurd (omega arith)
    go false d false e = refl

-- what added to b wraps back to a is the difference
pub wraps_back : (r a b : ℕ) → r < 2 ^ 32 → a < 2 ^ 32 → b < 2 ^ 32 → (r + b) % 2 ^ 32 ≡ a → r ≡ difference a b
unfolding difference
wraps_back r a b x y z e = omega arith

-- 2^31 added to both turns the signed order into the unsigned one
pub less_moved : (a b : ℕ) → a < 2 ^ 32 → b < 2 ^ 32 → ltb ((a + 2147483648) % 2 ^ 32) ((b + 2147483648) % 2 ^ 32) ≡ less_word a b
unfolding less_word signed
less_moved a b x y = go (ltb a (2 ^ 31)) refl (ltb b (2 ^ 31)) refl
  where
    go : (t : Bool) → ltb a (2 ^ 31) ≡ t → (u : Bool) → ltb b (2 ^ 31) ≡ u → ltb ((a + 2147483648) % 2 ^ 32) ((b + 2147483648) % 2 ^ 32) ≡ lt_z (signed a) (signed b)
    go true d true e =
        let i = ltb-true a (2 ^ 31) d in
        let j = ltb-true b (2 ^ 31) e in
        rw (d, e) (same_test ((a + 2147483648) % 2 ^ 32) ((b + 2147483648) % 2 ^ 32) a b (λ h. omega arith) (λ h. omega arith))
    go true d false e =
        let i = ltb-true a (2 ^ 31) d in
        let j = ltb-false b (2 ^ 31) e in
        rw (d, e) (le-ltb ((a + 2147483648) % 2 ^ 32) ((b + 2147483648) % 2 ^ 32) (omega arith))
    go false d true e =
        let i = ltb-false a (2 ^ 31) d in
        let j = ltb-true b (2 ^ 31) e in
        rw (d, e) (lt-ltb ((a + 2147483648) % 2 ^ 32) ((b + 2147483648) % 2 ^ 32) (omega arith))
    go false d false e =
        let i = ltb-false a (2 ^ 31) d in
        let j = ltb-false b (2 ^ 31) e in
        rw (d, e) (same_test ((a + 2147483648) % 2 ^ 32) ((b + 2147483648) % 2 ^ 32) (2 ^ 32 - 1 - b) (2 ^ 32 - 1 - a) (λ h. omega arith) (λ h. omega arith))
