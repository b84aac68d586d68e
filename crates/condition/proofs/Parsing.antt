-- Parsing and bytes undo each other, and what is lent decides only whether a tree is admitted. Assumes nothing.
use Rattle.std.proofs.Common.{◌≡◌, ℕ, zero, suc, ◌+◌, ◌≤◌, Bool, true, false, cond, not, ◌&&◌, ◌||◌, eqb, ltb, List, [], ◌∷◌, ◌++◌, length, sym, refl, ap, ◌∙◌, subst, ap₂, subst₂, append_assoc, append-nil, arith, length-append, eqb-true}
use mathlib.Core.Path.{fun_ext}
use mathlib.Core.Bool.{and-eq-true_iff}
use mathlib.Mathlib.Data.Bool.Basic.{or-eq-false-eq-eq-false-and-eq-false as or-clear}
use mathlib.Core.Option.{Option, none, some}
use borrow.Author.Tests.{not-false}
use Rattle.condition.specs.declared.Lent.{Lent}
use Rattle.condition.specs.Tree.{Variable, program, monitor, at_entry, Condition, always, negation, both, either, less, equal, within, Value, constant, variable, plus, minus, choose, Assignment, variable_bytes, condition_bytes, value_bytes, action_bytes, condition_names, value_names, action_names}
use Rattle.condition.specs.Parse.{is_lent, unlent, targets_below, Parsed, malformed, parsed, Reader, and_then, one, two, three, literal, numbered, ConditionOperator, op_true, op_not, op_and, op_or, op_less, op_equal, op_within, condition_operator, condition_with, ValueOperator, op_constant, op_program, op_monitor, op_at_entry, op_plus, op_minus, op_choose, value_operator, value_with, condition_from, value_from, exactly, parse_condition, parse_value, assignment_from, prefixed, then_run, run_from, parse_action}

-- What was found, if anything, satisfies P.
record Found {A : Type 0} (P : A → List ℕ → Type 0) (x : Parsed A) : Type 0 where
  of : {a : A} {r : List ℕ} → x ≡ parsed a r → P a r

module _ {A : Type 0} {P : A → List ℕ → Type 0} where
  found_none : Found P malformed
  found_none = record { of = λ e. let z : ◌≡◌ {A = ℕ} 0 1 = cc in absurd (omega arith) }

  found : {a : A} {r : List ℕ} → P a r → Found P (parsed a r)
  found {a} {r} p = record { of = λ {a = b} {r = t} e. let d : a ≡ b = cc in let f : r ≡ t = cc in subst₂ P d f p }

found_then : {A B : Type 0} {P : A → List ℕ → Type 0} {Q : B → List ℕ → Type 0} (x : Parsed A) (g : A → List ℕ → Parsed B)
    → Found P x → ((a : A) (r : List ℕ) → P a r → Found Q (g a r)) → Found Q (and_then x g)
found_then malformed g p h = found_none
found_then (parsed a r) g p h = h a r (p.of refl)

-- The bytes of a tree and the variables it names: one image beside another, and behind an operator's byte.
record Image : Type 0 where
  bytes : List ℕ
  names : (Variable → Bool) → Bool

abbrev beside : Image → Image → Image
beside i j = record { bytes = i.bytes ++ j.bytes; names = λ p. i.names p || j.names p }

abbrev behind : ℕ → Image → Image
behind n i = record { bytes = n ∷ i.bytes; names = i.names }

abbrev of_condition : Condition → Image
of_condition c = record { bytes = condition_bytes c; names = condition_names c }

abbrev of_value : Value → Image
of_value e = record { bytes = value_bytes e; names = value_names e }

-- What R, for each count of what is lent, makes of s: for L the tree d, whose image is i, and t behind it.
record Reads {D : Type 0} (i : Image) (R : Lent → Parsed D) (L : Lent) (s : List ℕ) (d : D) (t : List ℕ) : Type 0 where
  exact : s ≡ i.bytes ++ t
  clear : i.names (unlent L) ≡ false
  under : (L' : Lent) → R L' ≡ cond (i.names (unlent L')) malformed (parsed d t)

cond_map : {A B : Type 0} (f : A → B) (p : Bool) (x y : A) → f (cond p x y) ≡ cond p (f x) (f y)
cond_map f true x y = refl
cond_map f false x y = refl

cond_or : {A : Type 0} (p q : Bool) (x y : A) → cond p x (cond q x y) ≡ cond (p || q) x y
cond_or true q x y = refl
cond_or false q x y = refl

cond_not : {A : Type 0} (b : Bool) (x y : A) → cond b x y ≡ cond (not b) y x
cond_not true x y = refl
cond_not false x y = refl

-- The last operand, an operand before others, and the operator before them.
module _ {A : Type 0} {i : Image} {R : Lent → Parsed A} {L : Lent} {s : List ℕ} {a : A} {r : List ℕ} where
  reads_last : {D : Type 0} (f : A → D) → Reads i R L s a r → Reads i (λ L'. one (λ _. R L') f s) L s (f a) r
  reads_last f p = record { exact = p.exact; clear = p.clear; under = λ L'. rw (p.under L') (cond_map (λ x. one (λ _. x) f s) (i.names (unlent L')) _ _) }

  reads_then : {D : Type 0} {j : Image} {d : D} {t : List ℕ} (G : Lent → A → List ℕ → Parsed D)
      → Reads i R L s a r → Reads j (λ L'. G L' a r) L r d t → Reads (beside i j) (λ L'. and_then (R L') (G L')) L s d t
  reads_then {j} {t} G p q = record {
    exact = rw (append_assoc i.bytes j.bytes t) (cc);
    clear = rw (p.clear, q.clear);
    under = λ L'.
        rw (p.under L', cond_map (λ x. and_then x (G L')) (i.names (unlent L')), q.under L')
        (cond_or (i.names (unlent L')) (j.names (unlent L')) _ _);
  }

  reads_after : {o n : ℕ} → o ≡ n → Reads i R L s a r → Reads (behind n i) R L (o ∷ s) a r
  reads_after e p = record { exact = ap₂ ◌∷◌ e p.exact; clear = p.clear; under = p.under }

-- A reader of trees with such images, for each count of what is lent.
record Lawful {A : Type 0} (K : A → Image) (R : Lent → Reader A) : Type 0 where
  reads : (L : Lent) (s : List ℕ) → Found (λ a r. Reads (K a) (λ L'. R L' s) L s a r) (R L s)

module _ {A D : Type 0} {K : A → Image} {F : Lent → Reader A} {Q : D → List ℕ → Type 0} where
  one_lawful : (f : A → D) (L : Lent) (s : List ℕ) → Lawful K F
      → ((a : A) (t : List ℕ) → Reads (K a) (λ L'. one (F L') f s) L s (f a) t → Q (f a) t)
      → Found Q (one (F L) f s)
  one_lawful f L s l h = found_then (F L s) _ (l.reads L s) (λ a r u. found (h a r (reads_last f u)))

module _ {A B D : Type 0} {K : A → Image} {M : B → Image} {F : Lent → Reader A} {G : Lent → Reader B} {Q : D → List ℕ → Type 0} where
  two_lawful : (f : A → B → D) (L : Lent) (s : List ℕ) → Lawful K F → Lawful M G
      → ((a : A) (b : B) (t : List ℕ) → Reads (beside (K a) (M b)) (λ L'. two (F L') (G L') f s) L s (f a b) t → Q (f a b) t)
      → Found Q (two (F L) (G L) f s)
  two_lawful f L s l m h = found_then (F L s) _ (l.reads L s)
      (λ a r u. one_lawful (f a) L r m (λ b t v. h a b t (reads_then (λ L' a r. one (G L') (f a) r) u v)))

module _ {A B C D : Type 0} {K : A → Image} {M : B → Image} {N : C → Image} {F : Lent → Reader A} {G : Lent → Reader B} {H : Lent → Reader C} {Q : D → List ℕ → Type 0} where
  three_lawful : (f : A → B → C → D) (L : Lent) (s : List ℕ) → Lawful K F → Lawful M G → Lawful N H
      → ((a : A) (b : B) (c : C) (t : List ℕ) → Reads (beside (K a) (beside (M b) (N c))) (λ L'. three (F L') (G L') (H L') f s) L s (f a b c) t → Q (f a b c) t)
      → Found Q (three (F L) (G L) (H L) f s)
  three_lawful f L s l m n h = found_then (F L s) _ (l.reads L s)
      (λ a r u. two_lawful (f a) L r m n (λ b c t v. h a b c t (reads_then (λ L' a r. two (G L') (H L') (f a) r) u v)))

-- One test of the chain that finds an operator.
pick : {X : Type 0} (P : X → Type 0) (o n : ℕ) (x y : X) → (o ≡ n → P x) → P y → P (cond (eqb o n) x y)
pick P o n x y f p = go (eqb o n) refl
  where
    go : (b : Bool) → eqb o n ≡ b → P (cond b x y)
    go true t = f (eqb-true o n t)
    go false t = p

-- What each operator's reader finds, behind the operator.
literal_reads : {o : ℕ} → o ≡ 16 → (L : Lent) (s : List ℕ) → Found (λ e r. Reads (of_value e) (λ L'. literal s) L (o ∷ s) e r) (literal s)
unfolding literal value_bytes value_names
literal_reads e L [] = found_none
literal_reads e L (a ∷ []) = found_none
literal_reads e L (a ∷ b ∷ []) = found_none
literal_reads e L (a ∷ b ∷ c ∷ []) = found_none
literal_reads e L (a ∷ b ∷ c ∷ d ∷ r) = found (record { exact = ap (λ n. n ∷ a ∷ b ∷ c ∷ d ∷ r) e; clear = refl; under = λ L'. refl })

module _ {o : ℕ} (n : ℕ) (kind : ℕ → Variable) (h : (i : ℕ) → variable_bytes (kind i) ≡ n ∷ i ∷ []) (e : o ≡ n) (L : Lent) where
  numbered_reads : (s : List ℕ) → Found (λ v r. Reads (of_value v) (λ L'. numbered L' kind s) L (o ∷ s) v r) (numbered L kind s)
  unfolding numbered value_bytes value_names
  numbered_reads [] = found_none
  numbered_reads (i ∷ r) = go (is_lent L (kind i)) refl
    where
      go : (b : Bool) → is_lent L (kind i) ≡ b
          → Found (λ v t. Reads (of_value v) (λ L'. numbered L' kind (i ∷ r)) L (o ∷ i ∷ r) v t) (cond b (parsed (variable (kind i)) r) malformed)
      go true t = found (record { exact = rw (h i) (ap (λ n. n ∷ i ∷ r) e); clear = rw t; under = λ L'. cond_not (is_lent L' (kind i)) _ _ })
      go false t = found_none

module _ {F : Lent → Reader Condition} {G : Lent → Reader Value} (l : Lawful of_condition F) (m : Lawful of_value G) (o : ℕ) (L : Lent) (s : List ℕ) where
  ConditionAt : ConditionOperator → Type 0
  ConditionAt x = Found (λ c r. Reads (of_condition c) (λ L'. condition_with (F L') (G L') x s) L (o ∷ s) c r) (condition_with (F L) (G L) x s)

  condition_with_lem : ConditionAt (condition_operator o)
  unfolding ConditionAt condition_operator condition_bytes condition_names
  condition_with_lem =
      let at = pick ConditionAt o in
      at 0 op_true _ (λ e. found (record { exact = ap (λ n. n ∷ s) e; clear = refl; under = λ L'. refl })) (
      at 1 op_not _ (λ e. one_lawful negation L s l (λ a t. reads_after e)) (
      at 2 op_and _ (λ e. two_lawful both L s l l (λ a b t. reads_after e)) (
      at 3 op_or _ (λ e. two_lawful either L s l l (λ a b t. reads_after e)) (
      at 4 op_less _ (λ e. two_lawful less L s m m (λ a b t. reads_after e)) (
      at 5 op_equal _ (λ e. two_lawful equal L s m m (λ a b t. reads_after e)) (
      at 6 op_within _ (λ e. three_lawful within L s m m m (λ a b c t. reads_after e)) found_none))))))

  ValueAt : ValueOperator → Type 0
  ValueAt x = Found (λ v r. Reads (of_value v) (λ L'. value_with L' (F L') (G L') x s) L (o ∷ s) v r) (value_with L (F L) (G L) x s)

  value_with_lem : ValueAt (value_operator o)
  unfolding ValueAt value_operator value_bytes value_names variable_bytes
  value_with_lem =
      let at = pick ValueAt o in
      at 16 op_constant _ (λ e. literal_reads e L s) (
      at 17 op_program _ (λ e. numbered_reads 17 program (λ i. refl) e L s) (
      at 18 op_monitor _ (λ e. numbered_reads 18 monitor (λ i. refl) e L s) (
      at 19 op_at_entry _ (λ e. numbered_reads 19 at_entry (λ i. refl) e L s) (
      at 20 op_plus _ (λ e. two_lawful plus L s m m (λ a b t. reads_after e)) (
      at 21 op_minus _ (λ e. two_lawful minus L s m m (λ a b t. reads_after e)) (
      at 22 op_choose _ (λ e. three_lawful choose L s l m m (λ a b c t. reads_after e)) found_none))))))

-- So both parsers are lawful, with any fuel.
lawful : (k : ℕ) → Lawful of_condition (condition_from k) × Lawful of_value (value_from k)
unfolding condition_from value_from ConditionAt ValueAt
lawful zero = (record { reads = λ L s. found_none }, record { reads = λ L s. found_none })
lawful (suc k) =
    let (l, m) = lawful k in (
      record { reads = λ L. elim [ [] ↦ found_none | o ∷ s ↦ condition_with_lem l m o L s ] },
      record { reads = λ L. elim [ [] ↦ found_none | o ∷ s ↦ value_with_lem l m o L s ] },
    )

-- The bytes in front are the tree's, it names only what is lent, and for other counts the answer is the same unless it names what is not lent.
module _ (k : ℕ) (L : Lent) (s : List ℕ) {c : Condition} {r : List ℕ} (h : condition_from k L s ≡ parsed c r) where
  pub condition_exact : s ≡ condition_bytes c ++ r
  condition_exact = (((lawful k).0.reads L s).of h).exact

  pub condition_lent : condition_names c (unlent L) ≡ false
  condition_lent = (((lawful k).0.reads L s).of h).clear

  pub condition_under : (L' : Lent) → condition_from k L' s ≡ cond (condition_names c (unlent L')) malformed (parsed c r)
  condition_under = (((lawful k).0.reads L s).of h).under

module _ (k : ℕ) (L : Lent) (s : List ℕ) {e : Value} {r : List ℕ} (h : value_from k L s ≡ parsed e r) where
  pub value_exact : s ≡ value_bytes e ++ r
  value_exact = (((lawful k).1.reads L s).of h).exact

  pub value_lent : value_names e (unlent L) ≡ false
  value_lent = (((lawful k).1.reads L s).of h).clear

  pub value_under : (L' : Lent) → value_from k L' s ≡ cond (value_names e (unlent L')) malformed (parsed e r)
  value_under = (((lawful k).1.reads L s).of h).under

-- For L, and any fuel that is as much as its bytes, R finds a in front of any bytes, if it names only what is lent.
record Parses {A : Type 0} (L : Lent) (R : ℕ → Reader A) (i : Image) (a : A) : Type 0 where
  front : (k : ℕ) → i.names (unlent L) ≡ false → length i.bytes ≤ k → (t : List ℕ) → R k (i.bytes ++ t) ≡ parsed a t

module _ {A : Type 0} {L : Lent} {F : ℕ → Reader A} {i : Image} {a : A} where
  one_parses : {D : Type 0} (f : A → D) → Parses L F i a → Parses L (λ k. one (F k) f) i (f a)
  one_parses f u = record { front = λ k e h t. rw (u.front k e h t) }

  then_parses : {D : Type 0} {j : Image} {d : D} (g : ℕ → A → Reader D)
      → Parses L F i a → Parses L (λ k. g k a) j d → Parses L (λ k s. and_then (F k s) (g k)) (beside i j) d
  then_parses {j} g u v = record {
    front = λ k e h t.
        let l : length i.bytes + length j.bytes ≤ k = rw length-append at h in
        let c = (or-clear (i.names (unlent L)) (j.names (unlent L))).0 e in
        rw (append_assoc i.bytes j.bytes t, u.front k c.0 (omega arith)) (v.front k c.1 (omega arith) t);
  }

  after : {R : ℕ → Reader A} {n : ℕ} → ((k : ℕ) (t : List ℕ) → R (suc k) (n ∷ t) ≡ F k t) → Parses L F i a → Parses L R (behind n i) a
  after h u = record {
    front = elim [ zero ↦ λ e l t. absurd (omega arith) | suc k ↦ λ e l t. rw (h k (i.bytes ++ t)) (u.front k e (omega arith) t) ];
  }

module _ {A B D : Type 0} {L : Lent} {F : ℕ → Reader A} {G : ℕ → Reader B} {i j : Image} {a : A} {b : B} where
  two_parses : (f : A → B → D) → Parses L F i a → Parses L G j b → Parses L (λ k. two (F k) (G k) f) (beside i j) (f a b)
  two_parses f u v = then_parses (λ k a. one (G k) (f a)) u (one_parses (f a) v)

module _ {A B C D : Type 0} {L : Lent} {F : ℕ → Reader A} {G : ℕ → Reader B} {H : ℕ → Reader C} {i j m : Image} {a : A} {b : B} {c : C} where
  three_parses : (f : A → B → C → D) → Parses L F i a → Parses L G j b → Parses L H m c
      → Parses L (λ k. three (F k) (G k) (H k) f) (beside i (beside j m)) (f a b c)
  three_parses f u v w = then_parses (λ k a. two (G k) (H k) (f a)) u (two_parses (f a) v w)

module _ (L : Lent) where
  numbered_parses : (kind : ℕ → Variable) (i : ℕ)
      → Parses L (λ k. numbered L kind) (record { bytes = i ∷ []; names = λ p. p (kind i) }) (variable (kind i))
  unfolding numbered
  numbered_parses kind i = record { front = λ k e h t. rw (not-false (is_lent L (kind i)) e) }

  -- Any tree is found behind its operator, as its operands are.
  mutual
    unfolding condition_from value_from condition_bytes value_bytes variable_bytes condition_names value_names condition_operator value_operator literal

    condition_found : (c : Condition) → Parses L (λ k. condition_from k L) (of_condition c) c
    condition_found always = after {F = λ k t. parsed always t} (λ k t. refl) (record { front = λ k e h t. refl })
    condition_found (negation c) = after (λ k t. refl) (one_parses negation (condition_found c))
    condition_found (both c d) = after (λ k t. refl) (two_parses both (condition_found c) (condition_found d))
    condition_found (either c d) = after (λ k t. refl) (two_parses either (condition_found c) (condition_found d))
    condition_found (less e f) = after (λ k t. refl) (two_parses less (value_found e) (value_found f))
    condition_found (equal e f) = after (λ k t. refl) (two_parses equal (value_found e) (value_found f))
    condition_found (within e f g) = after (λ k t. refl) (three_parses within (value_found e) (value_found f) (value_found g))

    value_found : (e : Value) → Parses L (λ k. value_from k L) (of_value e) e
    value_found (constant a b c d) = after {F = λ k. literal} (λ k t. refl) (record { front = λ k e h t. refl })
    value_found (variable (program i)) = after (λ k t. refl) (numbered_parses program i)
    value_found (variable (monitor i)) = after (λ k t. refl) (numbered_parses monitor i)
    value_found (variable (at_entry i)) = after (λ k t. refl) (numbered_parses at_entry i)
    value_found (plus e f) = after (λ k t. refl) (two_parses plus (value_found e) (value_found f))
    value_found (minus e f) = after (λ k t. refl) (two_parses minus (value_found e) (value_found f))
    value_found (choose c e f) = after (λ k t. refl) (three_parses choose (condition_found c) (value_found e) (value_found f))

  pub condition_parses : (k : ℕ) (c : Condition) (r : List ℕ)
      → condition_names c (unlent L) ≡ false → length (condition_bytes c) ≤ k → condition_from k L (condition_bytes c ++ r) ≡ parsed c r
  condition_parses k c r e h = (condition_found c).front k e h r

  pub value_parses : (k : ℕ) (e : Value) (r : List ℕ)
      → value_names e (unlent L) ≡ false → length (value_bytes e) ≤ k → value_from k L (value_bytes e ++ r) ≡ parsed e r
  value_parses k e r n h = (value_found e).front k n h r

-- What follows a tree plays no part.
pub condition_front : (k : ℕ) (L : Lent) (s : List ℕ) {c : Condition} {r : List ℕ} → condition_from k L s ≡ parsed c r
    → (j : ℕ) (t : List ℕ) → length (condition_bytes c) ≤ j → condition_from j L (condition_bytes c ++ t) ≡ parsed c t
condition_front k L s {c} h j t = condition_parses L j c t (condition_lent k L s h)

pub value_front : (k : ℕ) (L : Lent) (s : List ℕ) {e : Value} {r : List ℕ} → value_from k L s ≡ parsed e r
    → (j : ℕ) (t : List ℕ) → length (value_bytes e) ≤ j → value_from j L (value_bytes e ++ t) ≡ parsed e t
value_front k L s {e} h j t = value_parses L j e t (value_lent k L s h)

-- Nor does fuel beyond the number of bytes, whether they parse or not.
agree : {A : Type 0} (x y : Parsed A) → Found (λ a r. y ≡ parsed a r) x → Found (λ a r. x ≡ parsed a r) y → x ≡ y
agree (parsed a r) y f g = sym (f.of refl)
agree malformed (parsed a r) f g = g.of refl
agree malformed malformed f g = refl

module _ {A : Type 0} {K : A → Image} {R : ℕ → Lent → Reader A} (l : (k : ℕ) → Lawful K (R k)) (L : Lent) (m : (a : A) → Parses L (λ k. R k L) (K a) a) (s : List ℕ) where
  again : (k j : ℕ) → length s ≤ j → Found (λ a r. R j L s ≡ parsed a r) (R k L s)
  again k j h = record {
    of = λ {a} {r} e.
        let u = ((l k).reads L s).of e in
        let n : length (K a).bytes ≤ j = omega (arith, rw length-append at (ap length u.exact)) in
        subst (λ x. R j L x ≡ parsed a r) (sym u.exact) ((m a).front j u.clear n r);
  }

  fuel : (k j : ℕ) → length s ≤ k → length s ≤ j → R k L s ≡ R j L s
  fuel k j g h = agree (R k L s) (R j L s) (again k j h) (again j k g)

pub condition_fuel : (L : Lent) (s : List ℕ) (k j : ℕ) → length s ≤ k → length s ≤ j → condition_from k L s ≡ condition_from j L s
condition_fuel L = fuel (λ k. (lawful k).0) L (condition_found L)

pub value_fuel : (L : Lent) (s : List ℕ) (k j : ℕ) → length s ≤ k → length s ≤ j → value_from k L s ≡ value_from j L s
value_fuel L = fuel (λ k. (lawful k).1) L (value_found L)

-- The image of an assignment names its target too, and that of a run what its assignments name.
abbrev of_assignment : Assignment → Image
of_assignment a = record { bytes = a.target ∷ value_bytes a.source; names = λ p. p (monitor a.target) || value_names a.source p }

touches : List Assignment → (Variable → Bool) → Bool
touches [] p = false
touches (a ∷ more) p = (of_assignment a).names p || touches more p

abbrev of_action : List Assignment → Image
of_action a = record { bytes = action_bytes a; names = touches a }

action_names_lem : (L : Lent) (a : List Assignment) → touches a (unlent L) ≡ (not (targets_below L.monitors a) || action_names a (unlent L))
unfolding touches targets_below action_names is_lent
action_names_lem L [] = refl
action_names_lem L (a ∷ more) = rw (action_names_lem L more) (go (ltb a.target L.monitors) _ (targets_below L.monitors more) _)
  where
    go : (t n u m : Bool) → ((not t || n) || (not u || m)) ≡ (not (t && u) || (n || m))
    go true true true m = refl
    go true true false m = refl
    go true false true m = refl
    go true false false m = refl
    go false n u m = refl

assignment_lawful : (k : ℕ) → Lawful of_assignment (assignment_from k)
unfolding assignment_from is_lent
assignment_lawful k = record { reads = λ L. elim [ [] ↦ found_none | i ∷ s ↦ go L i s (ltb i L.monitors) refl ] }
  where
    go : (L : Lent) (i : ℕ) (s : List ℕ) (b : Bool) → ltb i L.monitors ≡ b
        → Found (λ a r. Reads (of_assignment a) (λ L'. assignment_from k L' (i ∷ s)) L (i ∷ s) a r) (cond b (one (value_from k L) (λ e. record { target = i; source = e }) s) malformed)
    go L i s true h = one_lawful (λ e. record { target = i; source = e }) L s (lawful k).1 (λ e t u. record {
      exact = ap (λ s. i ∷ s) u.exact;
      clear = rw h u.clear;
      under = λ L'. rw (u.under L') (cond_not (ltb i L'.monitors) _ _ ∙ cond_or (unlent L' (monitor i)) (value_names e (unlent L')) _ _);
    })
    go L i s false h = found_none

-- A run reads as an assignment and then a run, with nothing behind it.
abbrev whole : {A : Type 0} → Option A → Parsed A
whole none = malformed
whole (some a) = parsed a []

exactly_whole : {A : Type 0} (x : Option A) → exactly (whole x) ≡ x
exactly_whole none = refl
exactly_whole (some a) = refl

whole_run : (x : Parsed Assignment) (run : List ℕ → Option (List Assignment))
    → and_then x (λ a. one (λ t. whole (run t)) (λ m. a ∷ m)) ≡ whole (then_run x run)
whole_run malformed run = refl
whole_run (parsed a r) run = go (run r)
  where
    go : (x : Option (List Assignment)) → and_then (whole x) (λ m t. parsed (a ∷ m) t) ≡ whole (prefixed a x)
    go none = refl
    go (some m) = refl

empty_run : {L : Lent} → Reads {D = List Assignment} (of_action []) (λ L'. whole (some [])) L [] [] []
unfolding touches action_bytes
empty_run = record { exact = refl; clear = refl; under = λ L'. refl }

run_lawful : (k : ℕ) → Lawful of_action (λ L s. whole (run_from k L s))
unfolding run_from touches action_bytes
run_lawful zero = record { reads = λ L. elim [ [] ↦ found empty_run | i ∷ s ↦ found_none ] }
run_lawful (suc k) =
    let l = run_lawful k in
    record {
      reads = λ L. elim [
        | [] ↦ found empty_run
        | i ∷ s ↦ subst (λ (R : Lent → Parsed (List Assignment)). Found (λ a r. Reads (of_action a) R L (i ∷ s) a r) (R L))
            (fun_ext (λ L'. whole_run (assignment_from k L' (i ∷ s)) (run_from k L')))
            (two_lawful ◌∷◌ L (i ∷ s) (assignment_lawful k) l (λ a m t u. u))
      ];
    }

-- The same laws of a run; its targets too are below what is lent.
module _ (k : ℕ) (L : Lent) (s : List ℕ) {a : List Assignment} (h : run_from k L s ≡ some a) where
  run_reads : Reads (of_action a) (λ L'. whole (run_from k L' s)) L s a []
  run_reads = ((run_lawful k).reads L s).of (ap whole h)

  run_clear : (not (targets_below L.monitors a) ≡ false) × (action_names a (unlent L) ≡ false)
  run_clear = (or-clear (not (targets_below L.monitors a)) (action_names a (unlent L))).0 (sym (action_names_lem L a) ∙ run_reads.clear)

  pub action_exact : s ≡ action_bytes a
  action_exact = rw append-nil at run_reads.exact

  pub action_lent : action_names a (unlent L) ≡ false
  action_lent = run_clear.1

  pub action_targets : targets_below L.monitors a ≡ true
  action_targets = not-false (targets_below L.monitors a) run_clear.0

  pub action_under_any : (L' : Lent) → run_from k L' s ≡ cond (not (targets_below L'.monitors a) || action_names a (unlent L')) none (some a)
  action_under_any L' = rw (← action_names_lem L' a)
      (sym (exactly_whole (run_from k L' s)) ∙ ap exactly (run_reads.under L') ∙ cond_map exactly (touches a (unlent L')) _ _)

  pub action_under : (L' : Lent) → L.monitors ≡ L'.monitors → run_from k L' s ≡ cond (action_names a (unlent L')) none (some a)
  action_under L' e = rw (rw e at action_targets) at (action_under_any L')

pub action_parses : (L : Lent) (k : ℕ) (a : List Assignment)
    → action_names a (unlent L) ≡ false → targets_below L.monitors a ≡ true → length (action_bytes a) ≤ k → run_from k L (action_bytes a) ≡ some a
unfolding run_from action_bytes action_names targets_below assignment_from
action_parses L zero [] n t h = refl
action_parses L zero (a ∷ more) n t h = absurd (omega arith)
action_parses L (suc k) [] n t h = refl
action_parses L (suc k) (a ∷ more) n t h =
    let j : length (value_bytes a.source) + length (action_bytes more) ≤ k = omega (arith, rw length-append at h) in
    let clear = (or-clear (value_names a.source (unlent L)) (action_names more (unlent L))).0 n in
    let below = (and-eq-true_iff (ltb a.target L.monitors) (targets_below L.monitors more)).0 t in
    rw (below.0, value_parses L k a.source (action_bytes more) clear.0 (omega arith), action_parses L k more clear.1 below.1 (omega arith))

agree_run : (x y : Option (List Assignment))
    → ((a : List Assignment) → x ≡ some a → y ≡ some a) → ((a : List Assignment) → y ≡ some a → x ≡ some a) → x ≡ y
agree_run (some a) y f g = sym (f a refl)
agree_run none (some a) f g = g a refl
agree_run none none f g = refl

module _ (L : Lent) (s : List ℕ) where
  run_again : (k j : ℕ) → length s ≤ j → (a : List Assignment) → run_from k L s ≡ some a → run_from j L s ≡ some a
  run_again k j h a e =
      let n : length (action_bytes a) ≤ j = omega (arith, ap length (action_exact k L s e)) in
      subst (λ x. run_from j L x ≡ some a) (sym (action_exact k L s e)) (action_parses L j a (action_lent k L s e) (action_targets k L s e) n)

  pub action_fuel : (k j : ℕ) → length s ≤ k → length s ≤ j → run_from k L s ≡ run_from j L s
  action_fuel k j g h = agree_run (run_from k L s) (run_from j L s) (run_again k j h) (run_again j k g)

-- The same of whole parses, with as much fuel as bytes.
exactly_some : {A : Type 0} (x : Parsed A) {a : A} → exactly x ≡ some a → x ≡ parsed a []
exactly_some malformed e = cc
exactly_some (parsed a []) e = cc
exactly_some (parsed a (b ∷ s)) e = cc

module _ (L : Lent) (s : List ℕ) {c : Condition} (h : parse_condition L s ≡ some c) where
  condition_all : condition_from (length s) L s ≡ parsed c []
  unfolding parse_condition
  condition_all = exactly_some (condition_from (length s) L s) h

  pub condition_whole : s ≡ condition_bytes c
  condition_whole = rw append-nil at (condition_exact (length s) L s condition_all)

  pub parse_lent : condition_names c (unlent L) ≡ false
  parse_lent = condition_lent (length s) L s condition_all

  pub parse_under : (L' : Lent) → parse_condition L' s ≡ cond (condition_names c (unlent L')) none (some c)
  unfolding parse_condition
  parse_under L' = rw (condition_under (length s) L s condition_all L') (cond_map exactly (condition_names c (unlent L')) _ _)

module _ (L : Lent) (s : List ℕ) {e : Value} (h : parse_value L s ≡ some e) where
  value_all : value_from (length s) L s ≡ parsed e []
  unfolding parse_value
  value_all = exactly_some (value_from (length s) L s) h

  pub value_whole : s ≡ value_bytes e
  value_whole = rw append-nil at (value_exact (length s) L s value_all)

  pub parse_value_under : (L' : Lent) → parse_value L' s ≡ cond (value_names e (unlent L')) none (some e)
  unfolding parse_value
  parse_value_under L' = rw (value_under (length s) L s value_all L') (cond_map exactly (value_names e (unlent L')) _ _)

module _ (L : Lent) (s : List ℕ) {a : List Assignment} (h : parse_action L s ≡ some a) where
  pub action_whole : s ≡ action_bytes a
  unfolding parse_action
  action_whole = action_exact (length s) L s h

  pub parse_action_lent : action_names a (unlent L) ≡ false
  unfolding parse_action
  parse_action_lent = action_lent (length s) L s h

  pub parse_action_under : (L' : Lent) → L.monitors ≡ L'.monitors → parse_action L' s ≡ cond (action_names a (unlent L')) none (some a)
  unfolding parse_action
  parse_action_under = action_under (length s) L s h

module _ (L : Lent) where
  pub parse_bytes : (c : Condition) → condition_names c (unlent L) ≡ false → parse_condition L (condition_bytes c) ≡ some c
  unfolding parse_condition
  parse_bytes c n = ap exactly (rw append-nil at (condition_parses L (length (condition_bytes c)) c [] n (omega arith)))

  pub parse_value_bytes : (e : Value) → value_names e (unlent L) ≡ false → parse_value L (value_bytes e) ≡ some e
  unfolding parse_value
  parse_value_bytes e n = ap exactly (rw append-nil at (value_parses L (length (value_bytes e)) e [] n (omega arith)))

  pub parse_action_bytes : (a : List Assignment) → action_names a (unlent L) ≡ false → targets_below L.monitors a ≡ true → parse_action L (action_bytes a) ≡ some a
  unfolding parse_action
  parse_action_bytes a n t = action_parses L (length (action_bytes a)) a n t (omega arith)
