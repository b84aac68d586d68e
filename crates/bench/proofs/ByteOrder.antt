-- The order of byte strings. Assumes nothing.
use mathlib.Core.Path.{◌≡◌, refl, sym, ap, subst, ◌∙◌}
use mathlib.Core.Logic.{◌⊎◌, inl, inr}
use mathlib.Core.Bool.{Bool, true, false, ◌&&◌, ◌||◌}
use mathlib.Core.List.{List, [], ◌∷◌}
use Prim.Native.Nat.{ℕ, ◌≤◌, ◌<◌}
use native.Mathlib.Omega.{arith}
use lib.Dec.{eqb, ltb}
use borrow.Author.Tests.{ltb-true, lt-ltb, le-ltb, eqb-true, eqb-false, eq-eqb}
use Rattle.bench.specs.Bench.{precedes, Least}
use Rattle.bench.proofs.Tests.{none_true}

pub less_precedes : (a b : ℕ) (s t : List ℕ) → a < b → precedes (a ∷ s) (b ∷ t) ≡ true
unfolding precedes
less_precedes a b s t h = rw (lt-ltb a b h)

pub same_precedes : (a : ℕ) (s t : List ℕ) → precedes (a ∷ s) (a ∷ t) ≡ precedes s t
unfolding precedes
same_precedes a s t = rw (le-ltb a a (omega arith), eq-eqb a a refl)

pub precedes_parts : (a b : ℕ) (s t : List ℕ) → precedes (a ∷ s) (b ∷ t) ≡ true → (a < b) ⊎ ((a ≡ b) × (precedes s t ≡ true))
unfolding precedes
precedes_parts a b s t h = go (ltb a b) (eqb a b) refl refl h
  where
    go : (p q : Bool) → ltb a b ≡ p → eqb a b ≡ q → p || (q && precedes s t) ≡ true → (a < b) ⊎ ((a ≡ b) × (precedes s t ≡ true))
    go true q e f h = inl (ltb-true a b e)
    go false true e f h = inr (eqb-true a b f, h)
    go false false e f h = none_true h

pub precedes_trans : (r s t : List ℕ) → precedes r s ≡ true → precedes s t ≡ true → precedes r t ≡ true
unfolding precedes
precedes_trans [] [] t h k = none_true h
precedes_trans [] (b ∷ s) [] h k = k
precedes_trans [] (b ∷ s) (c ∷ t) h k = refl
precedes_trans (a ∷ r) [] t h k = none_true h
precedes_trans (a ∷ r) (b ∷ s) [] h k = k
precedes_trans (a ∷ r) (b ∷ s) (c ∷ t) h k = go (precedes_trans r s t) (precedes_parts a b r s h) (precedes_parts b c s t k)
  where
    go : (precedes r s ≡ true → precedes s t ≡ true → precedes r t ≡ true) → (a < b) ⊎ ((a ≡ b) × (precedes r s ≡ true)) → (b < c) ⊎ ((b ≡ c) × (precedes s t ≡ true))
        → precedes (a ∷ r) (c ∷ t) ≡ true
    go ih (inl l) (inl m) = less_precedes a c r t (omega arith)
    go ih (inl l) (inr (e, m)) = less_precedes a c r t (omega arith)
    go ih (inr (e, l)) (inl m) = less_precedes a c r t (omega arith)
    go ih (inr (e, l)) (inr (f, m)) = subst (λ (x : ℕ). precedes (a ∷ r) (x ∷ t) ≡ true) (e ∙ f) (same_precedes a r t ∙ ih l m)

pub precedes_not : (s : List ℕ) → precedes s s ≡ false
unfolding precedes
precedes_not [] = refl
precedes_not (a ∷ s) = same_precedes a s s ∙ precedes_not s

-- Equal, or behind it.
abbrev pub AtLeast : List ℕ → List ℕ → Type 0
AtLeast s t = (t ≡ s) ⊎ (precedes s t ≡ true)

pub cons_at_least : (a b : ℕ) (s t : List ℕ) → a ≤ b → (a ≡ b → AtLeast s t) → AtLeast (a ∷ s) (b ∷ t)
cons_at_least a b s t l f = go (eqb a b) refl
  where
    go : (q : Bool) → eqb a b ≡ q → AtLeast (a ∷ s) (b ∷ t)
    go true e = let d = eqb-true a b e in subst (λ (x : ℕ). AtLeast (a ∷ s) (x ∷ t)) d (same (f d))
      where
        same : AtLeast s t → AtLeast (a ∷ s) (a ∷ t)
        same (inl g) = inl (ap (λ (m : List ℕ). a ∷ m) g)
        same (inr g) = inr (same_precedes a s t ∙ g)
    go false e = let n = eqb-false a b e in inr (less_precedes a b s t (omega arith))

-- There is one least.
pub least_same : {p : List ℕ → Bool} {s t : List ℕ} → Least p s → Least p t → s ≡ t
least_same {s} {t} u v = go (u.least t v.passes) (v.least s u.passes)
  where
    go : AtLeast s t → AtLeast t s → s ≡ t
    go (inl e) f = sym e
    go (inr e) (inl f) = f
    go (inr e) (inr f) = none_true (sym (precedes_not s) ∙ precedes_trans s t s e f)
