-- An array of the places where the texts of a table begin. Assumes nothing.
use mathlib.Core.Path.{◌≡◌, refl, sym, ap, ◌∙◌}
use mathlib.Core.List.{List, [], ◌∷◌, ◌++◌, map, append_assoc, append-nil}
use Prim.Native.Nat.{ℕ, zero, suc, ◌+◌, ◌-◌, ◌≤◌, ◌<◌}
use native.Mathlib.Nat.{min-eq_left, min-eq_right, sub-zero}
use native.Mathlib.Numerals.{add-one}
use native.Mathlib.Omega.{arith}
use Rattle.std.proofs.Common.{min}
use Rattle.std.proofs.lemmas.Bool.{cases_lt}
use mathlib.Core.Logic.{inl, inr}
use lib.ListN.{length, set, drop, replicate, length-append}
use lib.Seq.{sets, set-append_seam, set_out}
use Rattle.sheet.specs.Table.{Form, starts, fit}

-- storing one behind the other fills the front of a constant list
module _ {A : Type 0} (d : A) where
  fit_nil : (n : ℕ) → fit n d [] ≡ replicate n d
  unfolding fit
  fit_nil zero = refl
  fit_nil (suc n) = ap (λ (l : List A). d ∷ l) (fit_nil n)

  sets_out : (l : List A) (i : ℕ) (m : List A) → length l ≤ i → sets l i m ≡ l
  sets_out l i [] h = refl
  sets_out l i (x ∷ m) h = rw (set_out l i x h) (sets_out l (suc i) m (omega arith))

  sets_behind : (l : List A) (n : ℕ) (p : List A) → sets (p ++ replicate n d) (length p) l ≡ p ++ fit n d l
  unfolding fit
  sets_behind [] n p = rw (fit_nil n)
  sets_behind (x ∷ l) zero p = sets_out (p ++ []) (length p) (x ∷ l) (rw (append-nil p) (omega arith))
  sets_behind (x ∷ l) (suc n) p =
      let e : length (p ++ (x ∷ [])) ≡ suc (length p) = length-append p (x ∷ []) ∙ add-one (length p) in
      rw (set-append_seam p d (replicate n d) x, ← append_assoc p (x ∷ []) (replicate n d), ← e) (sets_behind l n (p ++ (x ∷ [])) ∙ append_assoc p (x ∷ []) (fit n d l))

  pub sets_fit : (n : ℕ) (l : List A) → sets (replicate n d) 0 l ≡ fit n d l
  sets_fit n l = sets_behind l n []

-- A loop that stores what f makes of the records' places, with those from number i on still to store, of which the first begins at `place`.
module _ {A : Type 0} (f : ℕ → ℕ) (F : Form A) (w n i : ℕ) (s : List ℕ) (at place : ℕ) (out : List ℕ) (e : sets out i (map f (starts F (n - i) s place)) ≡ fit w 0 (map f (starts F n s at))) where
  pub stored_next : i < n → (v : ℕ) → v ≡ f place → (k : ℕ) → k ≡ F.size (drop place s) → sets (set out i v) (i + 1) (map f (starts F (n - (i + 1)) s (place + k))) ≡ fit w 0 (map f (starts F n s at))
  unfolding starts
  stored_next h v ev k ek =
      let m : n - i ≡ suc (n - (i + 1)) = omega arith in
      rw (add-one i, ev, ek) (rw (add-one i) at (rw m at e))

  pub stored_all : length out ≡ w → min n w ≤ i → out ≡ fit w 0 (map f (starts F n s at))
  unfolding starts
  stored_all l h = elim (cases_lt n w) [ inl a ↦ past (let b : n ≤ w = omega arith in rw (min-eq_left b) at h) | inr b ↦ full (rw (min-eq_right b) at h) ]
    where
      past : n ≤ i → out ≡ fit w 0 (map f (starts F n s at))
      past k =
          let m : n - i ≡ 0 = omega arith in
          rw m at e

      full : w ≤ i → out ≡ fit w 0 (map f (starts F n s at))
      full k = sym (sets_out 0 out i (map f (starts F (n - i) s place)) (omega arith)) ∙ e

module _ {A : Type 0} (f : ℕ → ℕ) (F : Form A) (w n : ℕ) (s : List ℕ) (at : ℕ) where
  pub stored_none : sets (replicate w 0) 0 (map f (starts F (n - 0) s at)) ≡ fit w 0 (map f (starts F n s at))
  stored_none = rw (sub-zero n) (sets_fit 0 w (map f (starts F n s at)))
