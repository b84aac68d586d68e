-- What is claimed of the two operations' answers holds. Assumes nothing.
use mathlib.Core.Path.{◌≡◌, refl, sym, ap, ap₂, subst, ◌∙◌}
use mathlib.Core.Logic.{◌⊎◌, inl, inr}
use mathlib.Core.Bool.{true}
use mathlib.Core.List.{List, [], ◌∷◌, map}
use Prim.Native.Nat.{ℕ, ◌-◌, ◌<◌}
use native.Mathlib.Omega.{arith}
use lib.ListN.{length, take, replicate}
use lib.Seq.{take_at}
use Rattle.std.specs.Prelude.{Option, None as none, Some as some, Result, Ok, Err, get_or}
use Rattle.refusal.specs.declared.Refusal.{Refusal}
use Rattle.refusal.specs.declared.Refusal.TheVariants as refusal
use Rattle.refusal.specs.Numbers.{number_of}
use Rattle.refusal.proofs.Numbers.{number_one}
use Rattle.bench.specs.Bench.{is_test_condition, precedes, IsFirst, is_greater, IsNext, NoneGreater, padded, gives, FirstReply, NextReply, NextAnswer}
use Rattle.bench.specs.Claims.{FirstIsLeast, NextIsLeastGreater, NoneExactly, FirstDetermined, NextDetermined, ListDetermined, Among, Rising, Lists, GoesOn, AnsweredLists}
use Rattle.std.proofs.lemmas.Bool.{and_parts, and_from}
use Rattle.bench.proofs.Tests.{none_true}
use Rattle.bench.proofs.ByteOrder.{precedes_trans, precedes_not, least_same}
use Rattle.bench.proofs.Answering.{test_in}

-- The first n of a condition's eight bytes.
pub front_padded : (n : ℕ) (s : List ℕ) → is_test_condition n s ≡ true → take n (padded s) ≡ s
front_padded n s h = take_at s (replicate (8 - length s) 0) n (test_in n s h).0

-- A refusal's number is not 0.
not_refused : {A : Type 0} {m k : ℕ} → 0 < m → m ≡ k → k ≡ 0 → A
not_refused l e f = absurd (omega arith)

greater_is : (n : ℕ) (g s : List ℕ) → is_greater n g s ≡ true → (is_test_condition n s ≡ true) × (precedes g s ≡ true)
greater_is n g s h = and_parts (is_test_condition n s) (precedes g s) h

first_given : (n : ℕ) (bytes : List ℕ) → FirstReply n (gives bytes) → IsFirst n (take n bytes)
first_given n bytes (z, (s, (i, b))) = subst (IsFirst n) (sym (ap (take n) b ∙ front_padded n s i.passes)) i

pub first_is_least : FirstIsLeast
first_is_least n (Ok bytes) h e = (bytes, (refl, first_given n bytes h))
first_is_least n (Err m) (l, k) e = not_refused l k e

next_given : (n : ℕ) (g bytes : List ℕ) → NextReply n g (gives bytes) → IsNext n (take n g) (take n bytes)
next_given n g bytes (z, (s, (i, b))) = subst (IsNext n (take n g)) (sym (ap (take n) b ∙ front_padded n s (greater_is n (take n g) s i.passes).0)) i

pub next_is_least_greater : NextIsLeastGreater
next_is_least_greater n g bytes r h e = next_given n g bytes (subst (NextAnswer n g) e h)

pub none_exactly : NoneExactly
none_exactly n g r h z = (λ e. (subst (NextAnswer n g) e h).1, go r h)
  where
    go : (r : Result (Option (List ℕ)) Refusal) → NextAnswer n g r → NoneGreater n (take n g) → r ≡ Ok none
    go (Ok (some bytes)) (y, (s, (i, b))) none_above_lem = none_true (sym (none_above_lem s) ∙ i.passes)
    go (Ok none) x none_above_lem = refl
    go (Err m) (l, k) none_above_lem = not_refused l k z

-- A refusal is known by its number.
same_refusal : {d e : Refusal} {n : ℕ} → number_of d ≡ n → number_of e ≡ n → d ≡ e
same_refusal {d} {e} f g = number_one d e (f ∙ sym g)

-- Two answers are the same.
pub first_determined : FirstDetermined
first_determined n (Ok a) (Ok b) (x, (s, (i, p))) (y, (u, (j, q))) = ap Ok (p ∙ ap padded (least_same i j) ∙ sym q)
first_determined n (Ok a) (Err e) (x, i) (l, k) = not_refused l k x
first_determined n (Err d) (Ok b) (l, k) (y, j) = not_refused l k y
first_determined n (Err d) (Err e) (l, k) (z, j) = ap Err (same_refusal k j)

pub next_determined : NextDetermined
next_determined n g (Ok (some a)) (Ok (some b)) (x, (s, (i, p))) (y, (u, (j, q))) = ap (λ v. Ok (some v)) (p ∙ ap padded (least_same i j) ∙ sym q)
next_determined n g (Ok (some a)) (Ok none) (x, (s, (i, p))) (y, none_above_lem) = none_true (sym (none_above_lem s) ∙ i.passes)
next_determined n g (Ok (some a)) (Err e) (x, i) (l, k) = not_refused l k x
next_determined n g (Ok none) (Ok (some b)) (x, none_above_lem) (y, (u, (j, q))) = none_true (sym (none_above_lem u) ∙ j.passes)
next_determined n g (Ok none) (Ok none) x y = refl
next_determined n g (Ok none) (Err e) (x, i) (l, k) = not_refused l k x
next_determined n g (Err d) (Ok (some b)) (l, k) (y, j) = not_refused l k y
next_determined n g (Err d) (Ok none) (l, k) (y, j) = not_refused l k y
next_determined n g (Err d) (Err e) (l, k) (z, j) = ap Err (same_refusal k j)

-- Two lists that rise and have the same strings are the same.
module _ {a b : List ℕ} (l m : List (List ℕ)) (e : a ≡ b) (u : Rising (a ∷ l)) (h : (t : List ℕ) → Among t (a ∷ l) → Among t (b ∷ m)) where
  rest_among : (t : List ℕ) → Among t l → Among t m
  rest_among t k = go (h t (inr k))
    where
      go : (t ≡ b) ⊎ Among t m → Among t m
      go (inl d) = none_true (sym (precedes_not a) ∙ subst (λ (s : List ℕ). precedes a s ≡ true) (d ∙ sym e) (u.0 t k))
      go (inr i) = i

rising_same : (l m : List (List ℕ)) → Rising l → Rising m → ((t : List ℕ) → Among t l → Among t m) → ((t : List ℕ) → Among t m → Among t l) → l ≡ m
rising_same [] [] u v h k = refl
rising_same [] (b ∷ m) u v h k = absurd (k b (inl refl))
rising_same (a ∷ l) [] u v h k = absurd (h a (inl refl))
rising_same (a ∷ l) (b ∷ m) u v h k =
    let e = same_head (h a (inl refl)) (k b (inl refl)) in
    ap₂ ◌∷◌ e (rising_same l m u.1 v.1 (rest_among l m e u h) (rest_among m l (sym e) v k))
  where
    same_head : (a ≡ b) ⊎ Among a m → (b ≡ a) ⊎ Among b l → a ≡ b
    same_head (inl e) f = e
    same_head (inr e) (inl f) = sym f
    same_head (inr e) (inr f) = none_true (sym (precedes_not a) ∙ precedes_trans a b a (u.0 b f) (v.0 a e))

pub list_determined : ListDetermined
list_determined n l m u v = rising_same l m u.rising v.rising (λ t k. v.every t (u.only t k)) (λ t k. u.every t (v.only t k))

-- From the first, and from each to the next, until none is greater.
abbrev pub Next : ℕ → List ℕ → List (List ℕ) → Type 0
Next n g [] = NoneGreater n g
Next n g (h ∷ w) = IsNext n g h × Next n h w

abbrev pub Firsts : ℕ → List (List ℕ) → Type 0
Firsts n [] = ⊥
Firsts n (g ∷ w) = IsFirst n g × Next n g w

-- What goes on from g lists what is greater than g.
module _ (n : ℕ) where
  rest_only : (g : List ℕ) (w : List (List ℕ)) → Next n g w → (t : List ℕ) → Among t w → (is_test_condition n t ≡ true) × (precedes g t ≡ true)
  rest_only g [] f t m = absurd m
  rest_only g (h ∷ w) (x, f) t (inl e) = greater_is n g t (subst (λ (s : List ℕ). is_greater n g s ≡ true) (sym e) x.passes)
  rest_only g (h ∷ w) (x, f) t (inr m) =
      let (a, b) = rest_only h w f t m in
      (a, precedes_trans g h t (greater_is n g h x.passes).1 b)

  rest_every : (g : List ℕ) (w : List (List ℕ)) → Next n g w → (t : List ℕ) → is_greater n g t ≡ true → Among t w
  rest_every g [] f t e = none_true (sym (f t) ∙ e)
  rest_every g (h ∷ w) (x, f) t e = go (rest_every h w f t) (x.least t e)
    where
      go : (is_greater n h t ≡ true → Among t w) → (t ≡ h) ⊎ (precedes h t ≡ true) → Among t (h ∷ w)
      go ih (inl d) = inl d
      go ih (inr d) = inr (ih (and_from _ _ (greater_is n g t e).0 d))

  rest_rising : (g : List ℕ) (w : List (List ℕ)) → Next n g w → Rising w
  rest_rising g [] f = tt
  rest_rising g (h ∷ w) (x, f) = (λ t m. (rest_only h w f t m).1, rest_rising h w f)

  pub firsts_list : (w : List (List ℕ)) → Firsts n w → Lists n w
  firsts_list [] f = absurd f
  firsts_list (g ∷ w) (x, f) = record {
    every = λ t e. every t e (x.least t e);
    only = only;
    rising = (λ t m. (rest_only g w f t m).1, rest_rising g w f);
  }
    where
      every : (t : List ℕ) → is_test_condition n t ≡ true → (t ≡ g) ⊎ (precedes g t ≡ true) → Among t (g ∷ w)
      every t e (inl d) = inl d
      every t e (inr d) = inr (rest_every g w f t (and_from _ _ e d))

      only : (t : List ℕ) → Among t (g ∷ w) → is_test_condition n t ≡ true
      only t (inl d) = subst (λ (s : List ℕ). is_test_condition n s ≡ true) (sym d) x.passes
      only t (inr m) = (rest_only g w f t m).0

  goes_next : (g : List ℕ) (w : List (List ℕ)) → GoesOn n g w → Next n (take n g) (map (take n) w)
  goes_next g [] a = a.1
  goes_next g (h ∷ w) (a, more) = (next_given n g h a, goes_next h w more)

pub answered_lists : AnsweredLists
answered_lists n [] a = absurd a
answered_lists n (g ∷ w) (a, more) =
    firsts_list n (map (take n) (g ∷ w)) (first_given n g a, goes_next n g w more)
