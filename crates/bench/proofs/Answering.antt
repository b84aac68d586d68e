-- From what the search finds to what the two operations answer. Assumes nothing.
use mathlib.Core.Path.{◌≡◌, refl, sym, ap, subst, ◌∙◌}
use mathlib.Core.Logic.{inl, inr}
use mathlib.Core.Bool.{Bool, true, false, ◌&&◌}
use mathlib.Core.List.{List, [], ◌∷◌, ◌++◌}
use Prim.Native.Nat.{ℕ, zero, suc, ◌+◌, ◌-◌, ◌≤◌}
use native.Mathlib.Omega.{arith}
use lib.Dec.{eqb, leb}
use lib.ListN.{length, take, drop, replicate, length-drop}
use Rattle.std.proofs.lemmas.List.Elements.{All-cons}
use lib.Seq.{sets, length-take-le, sets-eq}
use borrow.Author.Tests.{eqb-true, eq-eqb, leb-true}
use Rattle.std.specs.Prelude.{Option, None as none, Some as some, Ok, is_some, unwrap_or, IsSome, IsTrue, All, ◌↔◌}
use Rattle.bench.specs.declared.parts.Part.TheVariants.{Condition as a_condition}
use Rattle.bench.specs.declared.parts.Pending.{Pending}
use Rattle.bench.specs.Bench.{is_test_condition, precedes, IsFirst, IsNext, NoneGreater, in_range, padded, all_zero, is_given, next_refusal, FirstAnswer, NextAnswer}
use Rattle.bench.specs.Walk.{one_condition, completed, following, accepts, stored}
use Rattle.std.proofs.lemmas.Bool.{and_parts, and_from}
use Rattle.std.specs.Cmp.{both_ways}
use Rattle.bench.proofs.LeastBytes.InOrder.{counted, admits}
use Rattle.bench.proofs.LeastBytes.Holding.{fit_out}
use Rattle.bench.proofs.LeastBytes.Finding.{accepts_admits, LeastOf, completed_least, NextAdmitted, following_finds}
use Rattle.bench.proofs.Grammar.{start, test_admits}

-- A test condition has so many bytes, which are exactly one pending condition.
module _ (n : ℕ) (s : List ℕ) where
  pub test_in : is_test_condition n s ≡ true → (length s ≡ n) × (admits start s ≡ true)
  test_in h = let (a, b) = and_parts (eqb (length s) n) (admits start s) (sym (test_admits n s) ∙ h) in (eqb-true (length s) n a, b)

  pub test_out : length s ≡ n → admits start s ≡ true → is_test_condition n s ≡ true
  test_out e a = test_admits n s ∙ and_from _ _ (eq-eqb (length s) n e) a

pub range_parts : (n : ℕ) → in_range n ≡ true → (1 ≤ n) × (n ≤ 8)
range_parts n h = let (a, b) = and_parts (leb 1 n) (leb n 8) h in (leb-true 1 n a, leb-true n 8 b)

-- What the search finds is the first and the next.
module _ (n : ℕ) (range : in_range n ≡ true) where
  high : n ≤ 8
  high = (range_parts n range).1

  first_least : LeastOf n (a_condition ∷ []) (completed n one_condition)
  unfolding counted
  first_least = let l = (range_parts n range).0 in completed_least n high (a_condition ∷ []) (fit_out n (counted (a_condition ∷ [])) (omega arith, inr (inl (omega arith))))

  pub first_found : (s : List ℕ) × ((completed n one_condition ≡ some s) × IsFirst n s)
  first_found = go (completed n one_condition) refl first_least
    where
      go : (o : Option (List ℕ)) → completed n one_condition ≡ o → LeastOf n (a_condition ∷ []) o → (s : List ℕ) × ((completed n one_condition ≡ some s) × IsFirst n s)
      go none e i = absurd i
      go (some s) e i = (s, (e, record { passes = test_out n s i.long i.is; least = λ t d. let (a, b) = test_in n t d in i.first t a b tt }))

  module _ (g : List ℕ) (is : is_test_condition n g ≡ true) where
    long : length g ≡ n
    long = (test_in n g is).0

    found : NextAdmitted start g (following one_condition g)
    unfolding counted
    found = let h = high in let l = long in following_finds g (omega arith) (a_condition ∷ []) (test_in n g is).1

    pub next_is : (r : List ℕ) → following one_condition g ≡ some r → IsNext n g r
    next_is r e =
        let f : NextAdmitted start g (some r) = subst (NextAdmitted start g) e found in
        record {
          passes = and_from _ _ (test_out n r (f.long ∙ long) f.is) f.meets;
          least = λ t e.
              let (a, b) = and_parts (is_test_condition n t) (precedes g t) e in
              let (l, m) = test_in n t a in
              f.first t (l ∙ sym long) m b;
        }

    pub none_is : following one_condition g ≡ none → NoneGreater n g
    none_is e t = go (is_test_condition n t) (precedes g t) refl refl
      where
        f : NextAdmitted start g none
        f = subst (NextAdmitted start g) e found

        go : (a b : Bool) → is_test_condition n t ≡ a → precedes g t ≡ b → a && b ≡ false
        go true true p q = let (l, m) = test_in n t p in absurd (f t (l ∙ sym long) m q)
        go true false p q = refl
        go false b p q = refl

-- Zeros behind the n.
zeros : (z : List ℕ) (k : ℕ) → all_zero z ≡ true → length z ≡ k → z ≡ replicate k 0
unfolding all_zero
zeros [] zero h e = refl
zeros [] (suc k) h e = absurd (omega arith)
zeros (b ∷ z) zero h e = absurd (omega arith)
zeros (b ∷ z) (suc k) h e =
    let (x, y) = and_parts (eqb b 0) (all_zero z) h in
    ap (λ c. c ∷ z) (eqb-true b 0 x) ∙ ap (λ t. 0 ∷ t) (zeros z k y (omega arith))

pub zero_eight : (k n : ℕ) → all_zero (drop n (replicate k 0)) ≡ true
unfolding all_zero
zero_eight zero zero = refl
zero_eight zero (suc n) = refl
zero_eight (suc k) zero = zero_eight k zero
zero_eight (suc k) (suc n) = zero_eight k n

-- The test of them.
all_zero_in : (l : List ℕ) → All (λ b. b ≡ 0) l → all_zero l ≡ true
unfolding all_zero
all_zero_in [] a = refl
all_zero_in (b ∷ l) a = and_from _ _ (eq-eqb b 0 (a 0 0 (omega arith))) (all_zero_in l (λ k d h. a (suc k) d (omega arith)))

all_zero_out : (l : List ℕ) → all_zero l ≡ true → All (λ b. b ≡ 0) l
unfolding all_zero
all_zero_out [] h = λ k d l. absurd (omega arith)
all_zero_out (b ∷ l) h = let (x, y) = and_parts (eqb b 0) (all_zero l) h in All-cons (λ c. c ≡ 0) b l (eqb-true b 0 x) (all_zero_out l y)

clear_zero : (l : List ℕ) {t : Bool} → IsTrue t ↔ All (λ b. b ≡ 0) l → t ≡ all_zero l
clear_zero l {t} (f, g) = both_ways t (all_zero l) (λ e. all_zero_in l (f e)) (λ e. g (all_zero_out l e))

-- A condition stored over the first n of eight bytes.
stored_padded : (n : ℕ) (g s : List ℕ) → length g ≡ 8 → n ≤ 8 → length s ≡ n → all_zero (drop n g) ≡ true → sets g 0 s ≡ padded s
stored_padded n g s eight high long z =
    sets-eq s g 0 (omega arith)
    ∙ ap (λ k. s ++ drop k g) (let e : 0 + length s ≡ n = omega arith in e)
    ∙ ap (λ t. s ++ t) (zeros (drop n g) (8 - n) z (length-drop n g ∙ omega arith))
    ∙ ap (λ k. s ++ replicate (8 - k) 0) (sym long)

module _ (n : ℕ) {t : Bool} (e : t ≡ in_range n) where
  pub in_range_lem : t ≡ true → n ≤ 8
  in_range_lem d = (range_parts n (sym e ∙ d)).1

-- The answers of `first`.
module _ (n : ℕ) (range : in_range n ≡ true) {k : ℕ} (e : k ≡ n) {p : Pending} (u : p ≡ one_condition) {o : Option (List ℕ)}
    (h : o ≡ stored (replicate 8 0) 0 (completed (k - 0) p)) where
  first_padded : (s : List ℕ) × ((o ≡ some (padded s)) × IsFirst n s)
  first_padded =
      let (s, (d, i)) = first_found n range in
      let z : k - 0 ≡ n = omega arith in
      let c : o ≡ stored (replicate 8 0) 0 (completed n one_condition) = h ∙ rw (u, z) in
      (s, (c ∙ ap (stored (replicate 8 0) 0) d ∙ ap some (stored_padded n (replicate 8 0) s refl (high n range) (test_in n s i.passes).0 (zero_eight 8 n)), i))

  pub first_some : IsSome o
  first_some = ap is_some first_padded.1.0

  pub first_answer : {r : List ℕ} → o ≡ some r → FirstAnswer n (Ok r)
  first_answer {r} d =
      let (s, (f, i)) = first_padded in
      let bytes : r ≡ padded s = ap (λ x. unwrap_or x []) (sym d ∙ f) in
      (rw range, (s, (i, bytes)))

-- The answers of `next`.
module _ (n : ℕ) (g : List ℕ) (eight : length g ≡ 8) where
  module _ (high : n ≤ 8) {a : Bool} (u : a ≡ accepts one_condition (take n g)) where
    given_is : (a && all_zero (drop n g)) ≡ is_given n g
    unfolding is_given counted
    given_is =
        let l : length (take n g) ≡ n = length-take-le n g (omega arith) in
        let test : is_test_condition n (take n g) ≡ a = test_admits n (take n g) ∙ rw (eq-eqb (length (take n g)) n l) (sym (u ∙ accepts_admits (take n g) (a_condition ∷ []) (omega arith))) in
        rw test

    pub given_not : a ≡ false → a ≡ is_given n g
    given_not e = e ∙ sym (ap (λ b. b && all_zero (drop n g)) e) ∙ given_is

    pub given_clear : a ≡ true → {z : Bool} → IsTrue z ↔ All (λ b. b ≡ 0) (drop n g) → z ≡ is_given n g
    given_clear e v = clear_zero (drop n g) v ∙ sym (ap (λ b. b && all_zero (drop n g)) e) ∙ given_is

  pub next_answer : in_range n ≡ true → is_given n g ≡ true → {k : ℕ} → k ≡ n → {p : Pending} → p ≡ one_condition → {r : Option (List ℕ)}
      → r ≡ stored g 0 (following p (drop 0 (take k g))) → NextAnswer n g (Ok r)
  unfolding is_given
  next_answer range given {k} e w {r} s = subst (λ (o : Option (List ℕ)). NextAnswer n g (Ok o)) (sym step_is) (go (following one_condition (take n g)) refl)
    where
      step_is : r ≡ stored g 0 (following one_condition (take n g))
      step_is = s ∙ ap (λ q. stored g 0 (following q (take k g))) w ∙ ap (λ j. stored g 0 (following one_condition (take j g))) e

      accepted : next_refusal n g ≡ 0
      accepted = rw (range, given)

      given_parts : (is_test_condition n (take n g) ≡ true) × (all_zero (drop n g) ≡ true)
      given_parts = and_parts (is_test_condition n (take n g)) (all_zero (drop n g)) given

      go : (o : Option (List ℕ)) → following one_condition (take n g) ≡ o → NextAnswer n g (Ok (stored g 0 o))
      go none i = (accepted, none_is n range (take n g) given_parts.0 i)
      go (some v) i =
          let k = next_is n range (take n g) given_parts.0 v i in
          let l = (test_in n v (and_parts (is_test_condition n v) (precedes (take n g) v) k.passes).0).0 in
          (accepted, (v, (k, stored_padded n g v eight (high n range) l given_parts.1)))
