-- The checkers of a call in the row of them all. Assumes nothing.
use mathlib.Core.Path.{◌≡◌, refl, sym, ap, ap₂, ◌∙◌}
use mathlib.Core.Bool.{Bool, true, false, not, cond, false≢true}
use mathlib.Core.Option.{some}
use mathlib.Core.List.{List, [], ◌∷◌, ◌++◌, map, append-nil}
use Prim.Native.Nat.{ℕ}
use borrow.Author.Tests.{eqb-true, eq-eqb}
use lib.Dec.{eqb}
use Rattle.sheet.proofs.Tests.{and_iff, not_iff}
use Rattle.step.specs.Lists.{first, keep, any, distinct}
use Rattle.step.proofs.OnLists.Lists.{none_some, keep_append, any_map}
use Rattle.step.proofs.OnLists.Keeping.{any_weaker, keep_map}
use Rattle.engine.specs.Machine.{Armed, of_number}
use Rattle.network.specs.declared.Checker.{Checker}
use Rattle.network.specs.Network.{bound_to}
use Rattle.network.specs.Grouped.{checker, row_of}

keep_all : {A : Type 0} (b : Bool) (l : List A) → keep (λ x. b) l ≡ cond b l []
unfolding keep
keep_all true [] = refl
keep_all {A} true (x ∷ l) = ap (λ (m : List A). x ∷ m) (keep_all true l)
keep_all false [] = refl
keep_all false (x ∷ l) = keep_all false l

module _ (n : ℕ) where
  -- those of one call, by any test on call numbers
  own : (p : ℕ → Bool) (a : Armed) → keep (λ (h : Checker). p h.number) (map (checker a.call.number a.call.entry) a.armed) ≡ cond (p a.call.number) (map (checker a.call.number a.call.entry) a.armed) []
  own p a = keep_map (λ (h : Checker). p h.number) (checker a.call.number a.call.entry) a.armed ∙ go (p a.call.number)
    where
      go : (b : Bool) → map (checker a.call.number a.call.entry) (keep (λ i. b) a.armed) ≡ cond b (map (checker a.call.number a.call.entry) a.armed) []
      go true = ap (map (checker a.call.number a.call.entry)) (keep_all true a.armed)
      go false = ap (map (checker a.call.number a.call.entry)) (keep_all false a.armed)

  -- Those that an exit leaves are those of the calls that it leaves.
  pub row_left : (l : List Armed) → keep (λ h. not (bound_to n h)) (row_of l) ≡ row_of (keep (λ a. not (of_number n a)) l)
  unfolding keep row_of
  row_left [] = refl
  row_left (a ∷ l) =
      keep_append (λ (h : Checker). not (eqb h.number n)) (map (checker a.call.number a.call.entry) a.armed) (row_of l)
      ∙ ap₂ (λ (x y : List Checker). x ++ y) (own (λ m. not (eqb m n)) a) (row_left l)
      ∙ go (not (eqb a.call.number n))
    where
      go : (b : Bool) → cond b (map (checker a.call.number a.call.entry) a.armed) [] ++ row_of (keep (λ a. not (of_number n a)) l) ≡ row_of (cond b (a ∷ keep (λ a. not (of_number n a)) l) (keep (λ a. not (of_number n a)) l))
      go true = refl
      go false = refl

  -- Those of a number: none where no call has it, and those of its call where no two calls have one number.
  pub bound_none : (l : List Armed) → any (of_number n) l ≡ false → keep (bound_to n) (row_of l) ≡ []
  unfolding any keep row_of
  bound_none [] h = refl
  bound_none (a ∷ l) h =
      keep_append (bound_to n) (map (checker a.call.number a.call.entry) a.armed) (row_of l)
      ∙ ap (λ (x : List Checker). x ++ keep (bound_to n) (row_of l)) (own (λ m. eqb m n) a)
      ∙ go (eqb a.call.number n) h (bound_none l)
    where
      go : (b : Bool) → cond b true (any (of_number n) l) ≡ false → (any (of_number n) l ≡ false → keep (bound_to n) (row_of l) ≡ []) → cond b (map (checker a.call.number a.call.entry) a.armed) [] ++ keep (bound_to n) (row_of l) ≡ []
      go true h k = absurd (false≢true (sym h))
      go false h k = k h

  pub turned : (l : List Armed) → any (λ (a : Armed). eqb n a.call.number) l ≡ false → any (of_number n) l ≡ false
  turned l k = go (any (of_number n) l) refl
    where
      go : (b : Bool) → any (of_number n) l ≡ b → b ≡ false
      go true e = absurd (false≢true (sym k ∙ any_weaker (λ (a : Armed). eqb n a.call.number) (of_number n) (λ a t. eq-eqb n a.call.number (sym (eqb-true a.call.number n t))) l e))
      go false e = refl

  pub bound_first : (l : List Armed) → distinct (map (λ (a : Armed). a.call.number) l) ≡ true → (a : Armed) → first (of_number n) l ≡ some a → keep (bound_to n) (row_of l) ≡ map (checker n a.call.entry) a.armed
  unfolding first keep row_of distinct
  bound_first [] d a h = absurd (none_some h)
  bound_first (x ∷ l) d a h =
      let (i, j) = simp (and_iff, not_iff) at d in
      let apart = sym (any_map (eqb x.call.number) (λ (a : Armed). a.call.number) l) ∙ i in
      keep_append (bound_to n) (map (checker x.call.number x.call.entry) x.armed) (row_of l)
      ∙ ap (λ (y : List Checker). y ++ keep (bound_to n) (row_of l)) (own (λ m. eqb m n) x)
      ∙ go (eqb x.call.number n) refl h apart (bound_first l j a)
    where
      same : {x a : Armed} → some x ≡ some a → x ≡ a
      same e = cc

      go : (b : Bool) → eqb x.call.number n ≡ b → cond b (some x) (first (of_number n) l) ≡ some a → any (λ (a : Armed). eqb x.call.number a.call.number) l ≡ false
          → (first (of_number n) l ≡ some a → keep (bound_to n) (row_of l) ≡ map (checker n a.call.entry) a.armed)
          → cond b (map (checker x.call.number x.call.entry) x.armed) [] ++ keep (bound_to n) (row_of l) ≡ map (checker n a.call.entry) a.armed
      go true e h i k =
          let m = eqb-true x.call.number n e in
          let others = bound_none l (turned l (rw m at i)) in
          rw others (append-nil (map (checker x.call.number x.call.entry) x.armed) ∙ ap₂ (λ (j : ℕ) (c : Armed). map (checker j c.call.entry) c.armed) m (same h))
      go false e h i k = k h
