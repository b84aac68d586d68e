-- The positions of the entries of open calls: the one of a number, and what keeps them sound. Assumes nothing.
use mathlib.Core.Path.{◌≡◌, refl, sym, ap, ◌∙◌}
use mathlib.Core.Bool.{Bool, true, false, cond, ◌&&◌}
use mathlib.Core.Option.{some}
use mathlib.Core.List.{List, [], ◌∷◌, ◌++◌, map}
use Prim.Native.Nat.{ℕ, ◌+◌}
use native.Mathlib.Omega.{arith}
use borrow.Author.Tests.{leb-true, le-leb, lt-ltb}
use lib.Dec.{eqb, leb, ltb}
use Rattle.sheet.specs.Table.{every}
use Rattle.sheet.proofs.Tables.{and_both, every_append, every_map, every_weaker}
use Rattle.sheet.proofs.Tests.{and_iff}
use Rattle.step.specs.Lists.{Among, first, keep}
use Rattle.step.specs.Calls.{Call, entry_in, entry_for, entries_sound}
use Rattle.step.proofs.OnLists.Lists.{none_some}
use Rattle.step.proofs.OnLists.Keeping.{every_among, every_keep}
use Rattle.step.proofs.OnLists.Rising.{rising_keep, rising_more}

-- the call of a number, in a list of what holds calls
pub entry_found : {A : Type 0} (f : A → Call) (n : ℕ) (l : List A) (a : A) → first (λ x. eqb (f x).number n) l ≡ some a → entry_for n (map f l) ≡ (f a).entry
unfolding first
entry_found f n [] a e = absurd (none_some e)
entry_found {A} f n (x ∷ l) a e = go (eqb (f x).number n) e (entry_found f n l a)
  where
    go : (b : Bool) → cond b (some x) (first (λ x. eqb (f x).number n) l) ≡ some a → (first (λ x. eqb (f x).number n) l ≡ some a → entry_for n (map f l) ≡ (f a).entry) → entry_in (cond b (some (f x)) (first (λ c. eqb c.number n) (map f l))) ≡ (f a).entry
    go true h k = let y : x ≡ a = cc in ap (λ (z : A). (f z).entry) y
    go false h k = k h

-- At the next position they stay sound where some of the calls go, and where a call comes that is entered there; and each is before it.
module _ {A : Type 0} (f : A → ℕ) (position : ℕ) (l : List A) (h : entries_sound position (map f l) ≡ true) where
  next_above : every (λ x. leb (f x) (position + 1)) l ≡ true
  next_above =
      let ((z, a), r) = simp and_iff at h in
      every_weaker (λ x. leb (f x) position) (λ x. leb (f x) (position + 1)) (λ x t. le-leb (f x) (position + 1) (omega (arith, leb-true (f x) position t))) l (sym (every_map (λ n. leb n position) f l) ∙ a)

  pub entries_fewer : (q : A → Bool) → entries_sound (position + 1) (map f (keep q l)) ≡ true
  entries_fewer q =
      let ((z, a), r) = simp and_iff at h in
      let low = every_keep q (λ x. leb 1 (f x)) l (sym (every_map (λ n. leb 1 n) f l) ∙ z) in
      and_both (and_both (every_map (λ n. leb 1 n) f (keep q l) ∙ low) (every_map (λ n. leb n (position + 1)) f (keep q l) ∙ every_keep q (λ x. leb (f x) (position + 1)) l next_above)) (rising_keep f q l r)

  pub entries_more : entries_sound (position + 1) (map f l ++ (position + 1) ∷ []) ≡ true
  unfolding every
  entries_more =
      let ((z, a), r) = simp and_iff at h in
      let new = position + 1 in
      let below = every_weaker (λ n. leb n position) (λ n. ltb n new) (λ n t. lt-ltb n new (omega (arith, leb-true n position t))) (map f l) a in
      and_both
      (and_both (every_append (λ n. leb 1 n) (map f l) (new ∷ []) ∙ and_both z (and_both (le-leb 1 new (omega arith)) refl))
      (every_append (λ n. leb n new) (map f l) (new ∷ []) ∙ and_both (every_map (λ n. leb n new) f l ∙ next_above) (and_both (le-leb new new (omega arith)) refl)))
      (rising_more (map f l) new r below)

  pub entry_before : (x : A) → Among x l → (leb 1 (f x) && ltb (f x) (position + 1)) ≡ true
  entry_before x m =
      let ((z, a), r) = simp and_iff at h in
      let high = leb-true (f x) position (every_among (λ y. leb (f y) position) l x (sym (every_map (λ n. leb n position) f l) ∙ a) m) in
      and_both (every_among (λ y. leb 1 (f y)) l x (sym (every_map (λ n. leb 1 n) f l) ∙ z) m) (lt-ltb (f x) (position + 1) (omega arith))
