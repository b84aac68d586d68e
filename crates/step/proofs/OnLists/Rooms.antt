-- Arrays with room behind what is there: what goes in comes out again, and what stands there goes in again. Assumes nothing.
use mathlib.Core.Path.{◌≡◌, refl, sym, ap, ap₂, subst, ◌∙◌}
use mathlib.Core.Bool.{Bool, true, false, ◌&&◌}
use mathlib.Core.Option.{Option, none, some}
use mathlib.Core.List.{List, [], ◌∷◌, ◌++◌, map, append-nil, map-append, map-map}
use Prim.Native.Nat.{ℕ, zero, suc, ◌≤◌}
use native.Mathlib.Numerals.{add-one}
use native.Mathlib.Omega.{arith}
use borrow.Author.Tests.{eq-eqb}
use lib.Dec.{eqb}
use lib.ListN.{length, get_or, set, take, drop, length-append, length-map, replicate}
use lib.Seq.{sets, append_snoc}
use Rattle.sheet.specs.Table.{every, fit}
use Rattle.sheet.proofs.Tables.{and_parts, and_both, and_assoc}
use Rattle.sheet.proofs.Tests.{and_iff, eqb_iff}
use Rattle.step.specs.declared.Call.{Call}
use Rattle.step.specs.declared.Verdict.{Verdict}
use Rattle.std.specs.Prelude as Prelude
use Rattle.std.specs.Prelude.{Some, None}
use Rattle.step.specs.Calls as Calls
use Rattle.step.specs.Verdicts.{outcome_of, verdict_in}
use Rattle.step.specs.Padding.{unpad, zero_call, pad_call, clear, padded, is_zero_call}

-- Room for n elements: what fits comes out again, and what stands in an array goes in again where the rest is d.
module _ {A : Type 0} (d : A) where
  pub take_fit : (n : ℕ) (l : List A) → length l ≤ n → take (length l) (fit n d l) ≡ l
  unfolding fit
  take_fit n [] h = refl
  take_fit zero (x ∷ l) h = absurd (omega arith)
  take_fit (suc n) (x ∷ l) h = ap (λ (m : List A). x ∷ m) (take_fit n l (omega arith))

  pub take_fitted : (n m : ℕ) (l : List A) → length l ≡ m → m ≤ n → take m (fit n d l) ≡ l
  take_fitted n m l e h = rw (← e) (take_fit n l (rw (← e) at h))

  -- what replaces the first elements, with the rest of the room behind it
  pub behind_fit : (n : ℕ) (l m : List A) → length l ≡ length m → length m ≤ n → m ++ drop (length l) (fit n d l) ≡ fit n d m
  unfolding fit
  behind_fit n [] [] e h = refl
  behind_fit n [] (y ∷ m) e h = absurd (omega arith)
  behind_fit n (x ∷ l) [] e h = absurd (omega arith)
  behind_fit zero (x ∷ l) (y ∷ m) e h = absurd (omega arith)
  behind_fit (suc n) (x ∷ l) (y ∷ m) e h = ap (λ (r : List A). y ∷ r) (behind_fit n l m (omega arith) (omega arith))

  pub fit_take : (p : A → Bool) → ((x : A) → p x ≡ true → x ≡ d) → (k : ℕ) (l : List A) → every p (drop k l) ≡ true → fit (length l) d (take k l) ≡ l
  unfolding fit every
  fit_take p h zero [] e = refl
  fit_take p h zero (x ∷ l) e = let (a, b) = and_parts (p x) (every p l) e in ap₂ (λ (y : A) (m : List A). y ∷ m) (sym (h x a)) (fit_take p h zero l b)
  fit_take p h (suc k) [] e = refl
  fit_take p h (suc k) (x ∷ l) e = ap (λ (m : List A). x ∷ m) (fit_take p h k l e)

-- as many places as there is room for
pub length_fit : {A : Type 0} (n : ℕ) (d : A) (l : List A) → length (fit n d l) ≡ n
unfolding fit
length_fit zero d l = refl
length_fit (suc n) d [] = ap suc (length_fit n d [])
length_fit (suc n) d (x ∷ l) = ap suc (length_fit n d l)

pub fit_all : {A : Type 0} (d : A) (n : ℕ) (l : List A) → length l ≡ n → fit n d l ≡ l
unfolding fit
fit_all d zero [] h = refl
fit_all d zero (x ∷ l) h = absurd (omega arith)
fit_all d (suc n) [] h = absurd (omega arith)
fit_all {A} d (suc n) (x ∷ l) h = ap (λ (m : List A). x ∷ m) (fit_all d n l (omega arith))

-- one more element behind those of an array, and more of them; past the end nothing is stored
module _ {A : Type 0} (d : A) where
  pub set_fit : (n : ℕ) (l : List A) (x : A) → set (fit n d l) (length l) x ≡ fit n d (l ++ x ∷ [])
  unfolding fit
  set_fit zero l x = refl
  set_fit (suc n) [] x = refl
  set_fit (suc n) (y ∷ l) x = ap (λ (m : List A). y ∷ m) (set_fit n l x)

  pub sets_more : (n : ℕ) (l m : List A) → sets (fit n d l) (length l) m ≡ fit n d (l ++ m)
  sets_more n l [] = ap (fit n d) (sym (append-nil l))
  sets_more n l (x ∷ m) =
      let longer : length (l ++ x ∷ []) ≡ suc (length l) = length-append l (x ∷ []) ∙ add-one (length l) in
      rw (set_fit n l x, ← longer) (sets_more n (l ++ x ∷ []) m ∙ ap (fit n d) (append_snoc l x m))

pub row_more : {A B : Type 0} (f : B → A) (d : A) (size : ℕ) (row : List A) (l : List B) (x : B) (n : ℕ) (y : A) → fit size d (map f l) ≡ row → n ≡ length l → y ≡ f x
    → set row n y ≡ fit size d (map f (l ++ x ∷ []))
row_more f d size row l x n y e g k =
    let there : n ≡ length (map f l) = g ∙ sym (length-map l f) in
    rw (← e, there, k) (set_fit d size (map f l) (f x) ∙ ap (fit size d) (sym (map-append f l (x ∷ []))))

-- What takes each element apart and puts it together leaves a list as it is; what holds of all elements holds of some of them.
module _ {C : Type 0} (p : C → Bool) where
  pub map_same : (f : C → C) → ((x : C) → p x ≡ true → f x ≡ x) → (l : List C) → every p l ≡ true → map f l ≡ l
  unfolding every
  map_same f h [] e = refl
  map_same f h (x ∷ l) e = let (a, b) = and_parts (p x) (every p l) e in ap₂ (λ (y : C) (m : List C). y ∷ m) (h x a) (map_same f h l b)

  pub every_drop : (k : ℕ) (l : List C) → every p l ≡ true → every p (drop k l) ≡ true
  unfolding every
  every_drop zero l e = e
  every_drop (suc k) [] e = e
  every_drop (suc k) (x ∷ l) e = every_drop k l (and_parts (p x) (every p l) e).1

  pub every_both : (q : C → Bool) (l : List C) → every p l ≡ true → every q l ≡ true → every (λ x. p x && q x) l ≡ true
  unfolding every
  every_both q [] e f = refl
  every_both q (x ∷ l) e f =
      let (a, b) = and_parts (p x) (every p l) e in
      let (c, d) = and_parts (q x) (every q l) f in
      and_both (and_both a c) (every_both q l b d)

  pub every_take : (k : ℕ) (l : List C) → every p l ≡ true → every p (take k l) ≡ true
  unfolding every
  every_take zero l e = refl
  every_take (suc k) [] e = refl
  every_take (suc k) (x ∷ l) e = let (a, b) = and_parts (p x) (every p l) e in and_both a (every_take k l b)

-- Numbers with zeros behind them.
pub is_zero : (x : ℕ) → eqb x 0 ≡ true → x ≡ 0
is_zero x h = simp eqb_iff at h

pub fit_padded : (size n : ℕ) (l : List ℕ) → eqb (length l) size ≡ true → clear n l ≡ true → fit size 0 (take n l) ≡ l
unfolding clear
fit_padded size n l e c =
    let long : length l ≡ size = simp eqb_iff at e in
    rw (← long) (fit_take 0 (λ x. eqb x 0) is_zero n l c)

-- Room for n elements, d behind what is there: a test on all of it, and on what is behind.
module _ {A : Type 0} (p : A → Bool) (d : A) (z : p d ≡ true) where
  pub every_fit : (n : ℕ) (l : List A) → every p l ≡ true → every p (fit n d l) ≡ true
  unfolding every fit
  every_fit zero l h = refl
  every_fit (suc n) [] h = and_both z (every_fit n [] refl)
  every_fit (suc n) (x ∷ l) h = let (a, b) = and_parts (p x) (every p l) h in and_both a (every_fit n l b)

  pub every_behind : (n : ℕ) (l : List A) → every p (drop (length l) (fit n d l)) ≡ true
  unfolding every fit
  every_behind zero [] = refl
  every_behind zero (x ∷ l) = refl
  every_behind (suc n) [] = and_both z (every_fit n [] refl)
  every_behind (suc n) (x ∷ l) = every_behind n l

-- numbers with zeros behind them
pub padded_fit : (size n : ℕ) (l : List ℕ) → length l ≡ n → padded size n (fit size 0 l) ≡ true
unfolding clear
padded_fit size n l e = and_both (eq-eqb _ _ (length_fit size 0 l)) (subst (λ (m : ℕ). every (λ x. eqb x 0) (drop m (fit size 0 l)) ≡ true) e (every_behind (λ x. eqb x 0) 0 refl size l))

pub zero_padded : (P : ℕ) → padded 8 P zero_call.kept ≡ true
unfolding clear every
zero_padded P = and_both refl (every_drop (λ x. eqb x 0) P (replicate 8 0) refl)

-- the first four of eight words
abbrev pub four : List ℕ → List ℕ
four w = get_or w 0 0 ∷ get_or w 1 0 ∷ get_or w 2 0 ∷ get_or w 3 0 ∷ []

pub four_of_eight : (l : List ℕ) → four (fit 8 0 l) ≡ fit 4 0 l
unfolding fit
four_of_eight [] = refl
four_of_eight (a ∷ []) = refl
four_of_eight (a ∷ b ∷ []) = refl
four_of_eight (a ∷ b ∷ c ∷ []) = refl
four_of_eight (a ∷ b ∷ c ∷ d ∷ l) = refl

-- A call, taken out of its padding and put in again.
pub pad_call_lem : (P : ℕ) (c : Call) → padded 8 P c.kept ≡ true → pad_call (unpad P c) ≡ c
pad_call_lem P c h =
    let (k, z) = simp and_iff at h in
    let e = fit_padded 8 P c.kept k z in
    λ i. record { number = c.number; unit = c.unit; entry = c.entry; kept = e i }

pub zero_call_lem : (P : ℕ) (c : Call) → (padded 8 P c.kept && is_zero_call c) ≡ true → c ≡ zero_call
unfolding fit
zero_call_lem P c h =
    let ((k, b), (n, (u, (a, z)))) = simp and_iff at h in
    let e = fit_padded 8 0 c.kept k z in
    λ i. record { number = is_zero c.number n i; unit = is_zero c.unit u i; entry = is_zero c.entry a i; kept = sym e i }

-- Rows of calls: what stands in one goes in again, and what goes in comes out again.
module _ (P : ℕ) where
  pub rows_in : (opened : ℕ) (calls : List Call) → every (λ (c : Call). padded 8 P c.kept) calls ≡ true → every is_zero_call (drop opened calls) ≡ true
      → fit (length calls) zero_call (map pad_call (map (unpad P) (take opened calls))) ≡ calls
  rows_in opened calls h z =
      let p : Call → Bool = λ c. padded 8 P c.kept in
      let same = map_same p (λ c. pad_call (unpad P c)) (pad_call_lem P) (take opened calls) (every_take p opened calls h) in
      ap (fit (length calls) zero_call) (map-map pad_call (unpad P) (take opened calls) ∙ same)
      ∙ fit_take zero_call (λ c. p c && is_zero_call c) (zero_call_lem P) opened calls (every_both p is_zero_call (drop opened calls) (every_drop p opened calls h) z)

  pub call_back : P ≤ 8 → (c : Calls.Call) → eqb (length c.kept) P ≡ true → unpad P (pad_call c) ≡ c
  call_back few c h =
      let kept = take_fitted 0 8 P c.kept (simp eqb_iff at h) few in
      λ i. record { number = c.number; unit = c.unit; entry = c.entry; kept = kept i }

  pub rows_out : (l : List Calls.Call) → P ≤ 8 → every (λ (c : Calls.Call). eqb (length c.kept) P) l ≡ true → length l ≤ 16
      → map (unpad P) (take (length l) (fit 16 zero_call (map pad_call l))) ≡ l
  rows_out l few h room =
      ap (map (unpad P)) (take_fitted zero_call 16 (length l) (map pad_call l) (length-map l pad_call) room)
      ∙ map-map (unpad P) pad_call l
      ∙ map_same (λ (c : Calls.Call). eqb (length c.kept) P) (λ c. unpad P (pad_call c)) (call_back few) l h

-- A row of calls is tidy if those that are open keep zeros behind their values, and from there on there is none.
exchanged : (a b c d : Bool) → ((a && b) && (c && d)) ≡ ((a && c) && (b && d))
exchanged true true c d = refl
exchanged true false true d = refl
exchanged true false false d = refl
exchanged false b c d = refl

-- two tests on every element
pub every_and : {A : Type 0} (p q : A → Bool) (l : List A) → every (λ x. p x && q x) l ≡ (every p l && every q l)
unfolding every
every_and p q [] = refl
every_and p q (x ∷ l) = ap (λ (b : Bool). (p x && q x) && b) (every_and p q l) ∙ exchanged (p x) (q x) (every p l) (every q l)

never : (b : Bool) → (b && false) ≡ false
never true = refl
never false = refl

nowhere : (n u a : Bool) → (n && (u && (a && false))) ≡ false
nowhere true true true = refl
nowhere true true false = refl
nowhere true false a = refl
nowhere false u a = refl

no_call : (P : ℕ) (c : Call) → (padded 8 0 c.kept && is_zero_call c) ≡ (padded 8 P c.kept && is_zero_call c)
unfolding clear
no_call P c = go (eqb (length c.kept) 8) (eqb c.number 0) (eqb c.unit 0) (eqb c.entry 0) (every (λ x. eqb x 0) c.kept) refl
  where
    go : (l n u a b : Bool) → every (λ x. eqb x 0) c.kept ≡ b → ((l && b) && (n && (u && (a && b)))) ≡ ((l && every (λ x. eqb x 0) (drop P c.kept)) && (n && (u && (a && b))))
    go l n u a true e = rw (every_drop (λ x. eqb x 0) P c.kept e)
    go false n u a false e = refl
    go true n u a false e = rw (nowhere n u a) (sym (never (every (λ x. eqb x 0) (drop P c.kept))))

pub tidy_calls : (P n : ℕ) (l : List Call) → (every (λ (c : Call). padded 8 P c.kept) (take n l) && every (λ (c : Call). padded 8 0 c.kept && is_zero_call c) (drop n l)) ≡ (every (λ (c : Call). padded 8 P c.kept) l && every is_zero_call (drop n l))
unfolding every
tidy_calls P zero [] = refl
tidy_calls P zero (c ∷ l) = ap₂ (λ (x y : Bool). x && y) (no_call P c) (tidy_calls P zero l) ∙ exchanged (padded 8 P c.kept) (is_zero_call c) (every (λ (c : Call). padded 8 P c.kept) l) (every is_zero_call l)
tidy_calls P (suc n) [] = refl
tidy_calls P (suc n) (c ∷ l) = and_assoc (padded 8 P c.kept) _ _ ∙ ap (λ (b : Bool). padded 8 P c.kept && b) (tidy_calls P n l) ∙ sym (and_assoc (padded 8 P c.kept) _ _)

-- An outcome and the verdict in it.
pub outcome_verdict : (o : Prelude.Option Verdict) → outcome_of (verdict_in o) ≡ o
outcome_verdict None = refl
outcome_verdict (Some v) = refl

pub verdict_outcome : (o : Option Verdict) → verdict_in (outcome_of o) ≡ o
verdict_outcome none = refl
verdict_outcome (some v) = refl
