-- Laws of `first`, `keep`, `any`, `numbers` and `least`, for any test. Assumes nothing.
use mathlib.Core.Path.{◌≡◌, refl, sym, ◌∙◌, ap}
use mathlib.Core.Logic.{◌⊎◌, inl, inr}
use mathlib.Core.Bool.{Bool, true, false, cond, false≢true}
use mathlib.Core.Option.{Option, none, some}
use mathlib.Core.List.{List, [], ◌∷◌, ◌++◌, map}
use Prim.Native.Nat.{ℕ, zero, suc, ◌+◌, ◌≤◌, ◌<◌, min}
use native.Mathlib.Omega.{arith}
use native.Mathlib.Nat.{le_of_suc-le-suc}
use lib.Dec.{leb}
use lib.ListN.{length, get_or}
use borrow.Author.Tests.{leb-true, leb-false}
use Rattle.step.specs.Lists.{Among, first, keep, any, numbers, lesser, least}

pub none_some : {A : Type 0} {x : A} → none ≡ some x → ⊥
none_some e = let z : ◌≡◌ {A = ℕ} 0 1 = cc in omega arith

-- the first element
abbrev pub head_of : {A : Type 0} → List A → Option A
head_of [] = none
head_of (x ∷ l) = some x

module _ {A : Type 0} (p : A → Bool) where
  first_step : (b : Bool) (x : A) (r : Option A) (k : List A) → r ≡ head_of k → cond b (some x) r ≡ head_of (cond b (x ∷ k) k)
  first_step true x r k h = refl
  first_step false x r k h = h

  -- the first that passes is the first of those that pass
  pub first_keep : (l : List A) → first p l ≡ head_of (keep p l)
  unfolding first keep
  first_keep [] = refl
  first_keep (x ∷ l) = first_step (p x) x (first p l) (keep p l) (first_keep l)

  append_step : (b : Bool) (x : A) (j k m : List A) → j ≡ k ++ m → cond b (x ∷ j) j ≡ cond b (x ∷ k) k ++ m
  append_step true x j k m h = ap (λ l. x ∷ l) h
  append_step false x j k m h = h

  pub keep_append : (l m : List A) → keep p (l ++ m) ≡ keep p l ++ keep p m
  unfolding keep
  keep_append [] m = refl
  keep_append (x ∷ l) m = append_step (p x) x (keep p (l ++ m)) (keep p l) (keep p m) (keep_append l m)

  none_step : (b : Bool) (x : A) (r : Bool) (k : List A) → (r ≡ false → k ≡ []) → cond b true r ≡ false → cond b (x ∷ k) k ≡ []
  none_step true x r k h e = absurd (false≢true (sym e))
  none_step false x r k h e = h e

  pub keep_none : (l : List A) → any p l ≡ false → keep p l ≡ []
  unfolding any keep
  keep_none [] e = refl
  keep_none (x ∷ l) e = none_step (p x) x (any p l) (keep p l) (keep_none l) e

  module _ (q : A → Bool) where
    -- keeping by a weaker test first, and by a test that excludes this one
    again_step : (b c : Bool) (x : A) (j k : List A) → p x ≡ b → (b ≡ true → c ≡ true) → keep p j ≡ k → keep p (cond c (x ∷ j) j) ≡ cond b (x ∷ k) k
    unfolding keep
    again_step true true x j k e h i = rw (e, i)
    again_step true false x j k e h i = absurd (false≢true (h refl))
    again_step false true x j k e h i = rw (e, i)
    again_step false false x j k e h i = i

    pub keep_again : ((x : A) → p x ≡ true → q x ≡ true) → (l : List A) → keep p (keep q l) ≡ keep p l
    unfolding keep
    keep_again h [] = refl
    keep_again h (x ∷ l) = again_step (p x) (q x) x (keep q l) (keep p l) refl (h x) (keep_again h l)

    without_step : (b c : Bool) (x : A) (j : List A) → p x ≡ b → (b ≡ true → c ≡ false) → keep p j ≡ [] → keep p (cond c (x ∷ j) j) ≡ []
    unfolding keep
    without_step true true x j e h i = absurd (false≢true (sym (h refl)))
    without_step true false x j e h i = i
    without_step false true x j e h i = rw (e, i)
    without_step false false x j e h i = i

    pub keep_without : ((x : A) → p x ≡ true → q x ≡ false) → (l : List A) → keep p (keep q l) ≡ []
    unfolding keep
    keep_without h [] = refl
    keep_without h (x ∷ l) = without_step (p x) (q x) x (keep q l) refl (h x) (keep_without h l)

    -- a stronger test is passed among those that pass this one, or not at all
    any_step : (b c : Bool) (x : A) (r : Bool) (k : List A) → q x ≡ c → (c ≡ true → b ≡ true) → r ≡ any q k → cond c true r ≡ any q (cond b (x ∷ k) k)
    unfolding any
    any_step true c x r k e h i = rw (e, i)
    any_step false true x r k e h i = absurd (false≢true (h refl))
    any_step false false x r k e h i = i

    pub any_keep : ((x : A) → q x ≡ true → p x ≡ true) → (l : List A) → any q l ≡ any q (keep p l)
    unfolding any keep
    any_keep h [] = refl
    any_keep h (x ∷ l) = any_step (p x) (q x) x (any q l) (keep p l) refl (h x) (any_keep h l)

  pub any_map : {B : Type 0} (f : B → A) (l : List B) → any p (map f l) ≡ any (λ x. p (f x)) l
  unfolding any
  any_map f [] = refl
  any_map f (x ∷ l) = ap (λ b. cond (p (f x)) true b) (any_map f l)

  -- Those that pass are just the elements that pass.
  kept_step : (b : Bool) (x y : A) (l : List A) → p y ≡ b → (Among x (keep p l) → Among x l × (p x ≡ true)) → Among x (cond b (y ∷ keep p l) (keep p l)) → Among x (y ∷ l) × (p x ≡ true)
  kept_step true x y l e h (inl i) = (inl i, ap p i ∙ e)
  kept_step true x y l e h (inr m) = (inr (h m).0, (h m).1)
  kept_step false x y l e h m = (inr (h m).0, (h m).1)

  pub kept_passes : (l : List A) (x : A) → Among x (keep p l) → Among x l × (p x ≡ true)
  unfolding keep
  kept_passes [] x m = absurd m
  kept_passes (y ∷ l) x m = kept_step (p y) x y l refl (kept_passes l x) m

  pass_step : (b : Bool) (x y : A) (k : List A) → p y ≡ b → p x ≡ true → (x ≡ y) ⊎ Among x k → Among x (cond b (y ∷ k) k)
  pass_step true x y k e t m = m
  pass_step false x y k e t (inl i) = absurd (false≢true (sym e ∙ ap p (sym i) ∙ t))
  pass_step false x y k e t (inr m) = m

  pub passes_kept : (l : List A) (x : A) → Among x l → p x ≡ true → Among x (keep p l)
  unfolding keep
  passes_kept [] x m t = absurd m
  passes_kept (y ∷ l) x (inl i) t = pass_step (p y) x y (keep p l) refl t (inl i)
  passes_kept (y ∷ l) x (inr m) t = pass_step (p y) x y (keep p l) refl t (inr (passes_kept l x m t))

  -- The first that passes is an element that passes, and there is none only where no element passes.
  head_step : (k : List A) (x : A) → head_of k ≡ some x → Among x k
  head_step [] x e = absurd (none_some e)
  head_step (y ∷ k) x e = inl (cc)

  head_none : (k : List A) → head_of k ≡ none → (x : A) → Among x k → ⊥
  head_none [] e x a = a
  head_none (y ∷ k) e x a = none_some (sym e)

  pub first_passes : (l : List A) (x : A) → first p l ≡ some x → Among x l × (p x ≡ true)
  first_passes l x e = kept_passes l x (head_step (keep p l) x (sym (first_keep l) ∙ e))

  pub none_passes : (l : List A) → first p l ≡ none → (x : A) → Among x l → p x ≡ true → ⊥
  none_passes l e x a t = head_none (keep p l) (sym (first_keep l) ∙ e) x (passes_kept l x a t)

  -- The numbers of the elements that pass are just the places of elements that pass.
  module _ (d : A) where
    number_step : (b : Bool) (x : A) (l : List A) (i j : ℕ) → p x ≡ b
        → (Among j (numbers p (suc i) l) → (m : ℕ) × (j ≡ suc i + m) × (m < length l) × (p (get_or l m d) ≡ true))
        → Among j (cond b (i ∷ numbers p (suc i) l) (numbers p (suc i) l)) → (m : ℕ) × (j ≡ i + m) × (m < length (x ∷ l)) × (p (get_or (x ∷ l) m d) ≡ true)
    number_step true x l i j e h (inl k) = (0, omega arith, omega arith, e)
    number_step true x l i j e h (inr a) = let (m, k, n, t) = h a in (suc m, omega arith, omega arith, t)
    number_step false x l i j e h a = let (m, k, n, t) = h a in (suc m, omega arith, omega arith, t)

    pub number_passes : (l : List A) (i j : ℕ) → Among j (numbers p i l) → (m : ℕ) × (j ≡ i + m) × (m < length l) × (p (get_or l m d) ≡ true)
    unfolding numbers
    number_passes [] i j a = absurd a
    number_passes (x ∷ l) i j a = number_step (p x) x l i j refl (number_passes l (suc i) j) a

    there : (b : Bool) (i j : ℕ) (k : List ℕ) → ((b ≡ true) × (j ≡ i)) ⊎ Among j k → Among j (cond b (i ∷ k) k)
    there true i j k (inl e) = inl e.1
    there true i j k (inr a) = inr a
    there false i j k (inl e) = absurd (false≢true e.0)
    there false i j k (inr a) = a

    pub passes_number : (l : List A) (i j m : ℕ) → j ≡ i + m → m < length l → p (get_or l m d) ≡ true → Among j (numbers p i l)
    unfolding numbers
    passes_number [] i j m e h t = absurd (omega arith)
    passes_number (x ∷ l) i j zero e h t = there (p x) i j (numbers p (suc i) l) (inl (t, omega arith))
    passes_number (x ∷ l) i j (suc m) e h t = there (p x) i j (numbers p (suc i) l) (inr (passes_number l (suc i) j m (omega arith) (le_of_suc-le-suc h) t))

-- The least of some numbers is one of them, and none is below it; there is none only of no numbers.
never_none : (n : ℕ) (o : Option ℕ) → lesser n o ≡ none → ⊥
never_none n none e = none_some (sym e)
never_none n (some m) e = none_some (sym e)

pub least_none : (l : List ℕ) → least l ≡ none → (j : ℕ) → Among j l → ⊥
unfolding least
least_none [] e j a = a
least_none (n ∷ l) e j a = never_none n (least l) e

abbrev Least : List ℕ → ℕ → Type 0
Least l i = Among i l × ((j : ℕ) → Among j l → i ≤ j)

smaller : (b : Bool) (n m i : ℕ) (l : List ℕ) → leb n m ≡ b → min n m ≡ i → Least l m → Least (n ∷ l) i
smaller true n m i l t e h = let k = leb-true n m t in (inl (omega arith), λ j. elim [ inl x ↦ omega arith | inr a ↦ omega (arith, h.1 j a) ])
smaller false n m i l t e h =
    let k = leb-false n m t in
    let q : m ≡ i = omega arith in
    (inr (rw q at h.0), λ j. elim [ inl x ↦ omega arith | inr a ↦ omega (arith, h.1 j a) ])

least_step : (n i : ℕ) (l : List ℕ) (o : Option ℕ) → least l ≡ o → ((m : ℕ) → least l ≡ some m → Least l m) → lesser n o ≡ some i → Least (n ∷ l) i
least_step n i l none e h q =
    let k : n ≡ i = cc in
    (inl (sym k), λ j. elim [ inl x ↦ omega arith | inr a ↦ absurd (least_none l e j a) ])
least_step n i l (some m) e h q = smaller (leb n m) n m i l refl (cc) (h m e)

pub least_some : (l : List ℕ) (i : ℕ) → least l ≡ some i → Among i l × ((j : ℕ) → Among j l → i ≤ j)
unfolding least
least_some [] i e = absurd (none_some e)
least_some (n ∷ l) i e = least_step n i l (least l) refl (least_some l) e
