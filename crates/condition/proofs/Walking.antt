-- From places in the bytes to the parsers' definitions: where a condition or a value ends, and what it means, from where its
-- operands end and what they mean. Assumes nothing.
use Rattle.std.proofs.Common.{◌≡◌, ℕ, zero, suc, ◌+◌, ◌-◌, ◌<◌, ◌≤◌, Bool, true, false, cond, ltb, leb, ◌⊎◌, List, [], ◌∷◌, length, get_or, drop, sym, refl, ap, ◌∙◌, subst, inl, inr, ⊎_elim, add-one, arith, length-drop, drop_of_length-le, drop-cons, ltb-false, ltb-true, ne_eqb, leb-false, leb-true}
use Rattle.condition.specs.declared.Lent.{Lent}
use Rattle.condition.specs.Tree.{Variable, program, monitor, at_entry, Condition, negation, both, either, less, equal, within, Value, constant, variable, plus, minus, choose}
use Rattle.condition.specs.Parse.{is_lent, literal, numbered, Parsed, malformed, parsed, Reader, and_then, one, two, three, ConditionOperator, op_true, op_not, op_and, op_or, op_less, op_equal, op_within, no_condition, condition_operator, condition_with, ValueOperator, op_constant, op_program, op_monitor, op_at_entry, op_plus, op_minus, op_choose, no_value, value_operator, value_with, condition_from, value_from}
use Rattle.condition.specs.Walk.{Ends, Skips, condition_reader, value_reader, literal_end, variable_end, Tried, EndTried, LeafSkipped}

pub open_at : (s : List ℕ) (at : ℕ) → at < length s → drop at s ≡ get_or s at 0 ∷ drop (at + 1) s
open_at s at h = rw add-one (drop-cons s at 0 h)

-- the byte at a place is read first, and the rest at one level less
pub condition_opens : (P : Parsed Condition → Type 0) (L : Lent) (s : List ℕ) (at : ℕ) (o : ConditionOperator) → at < length s → condition_operator (get_or s at 0) ≡ o → ((k : ℕ) → length s - (at + 1) ≤ k → P (condition_with (condition_reader L k) (value_reader L k) o (drop (at + 1) s))) → (k : ℕ) → length s - at ≤ k → P (condition_from k L (drop at s))
unfolding condition_from
condition_opens P L s at o h e f zero d = absurd (omega arith)
condition_opens P L s at o h e f (suc k) d = rw (open_at s at h, e) (f k (omega arith))

pub value_opens : (P : Parsed Value → Type 0) (L : Lent) (s : List ℕ) (at : ℕ) (o : ValueOperator) → at < length s → value_operator (get_or s at 0) ≡ o → ((k : ℕ) → length s - (at + 1) ≤ k → P (value_with L (condition_reader L k) (value_reader L k) o (drop (at + 1) s))) → (k : ℕ) → length s - at ≤ k → P (value_from k L (drop at s))
unfolding value_from
value_opens P L s at o h e f zero d = absurd (omega arith)
value_opens P L s at o h e f (suc k) d = rw (open_at s at h, e) (f k (omega arith))

pub condition_nil : (L : Lent) (k : ℕ) → condition_from k L [] ≡ malformed
unfolding condition_from
condition_nil L zero = refl
condition_nil L (suc k) = refl

pub value_nil : (L : Lent) (k : ℕ) → value_from k L [] ≡ malformed
unfolding value_from
value_nil L zero = refl
value_nil L (suc k) = refl

-- at the end and past it nothing is read
module _ (A : Type 0) (R : ℕ → Reader A) (nil : (k : ℕ) → R k [] ≡ malformed) (s : List ℕ) (at : ℕ) where
  pub none_past : (P : Parsed A → Type 0) → P malformed → length s ≤ at → (k : ℕ) → P (R k (drop at s))
  none_past P x h k = rw (drop_of_length-le s h, nil k) x

  pub skips_past : length s ≤ at → at ≤ length s + 1 → Skips R s at (length s + 1)
  skips_past h i = record { low = i; high = omega arith; ends = λ k d. none_past (Ends s (length s + 1)) refl h k }

-- where a part ends, the next one is read from
ends_then : {A B : Type 0} (s : List ℕ) (q r : ℕ) (p : Parsed A) (f : A → List ℕ → Parsed B) → Ends s q p → q ≤ r → r ≤ length s + 1 → ((a : A) (rest : List ℕ) → drop q s ≡ rest → Ends s r (f a rest)) → Ends s r (and_then p f)
ends_then s q r malformed f e low high g = omega arith
ends_then s q r (parsed a rest) f e low high g = g a rest e.0

pub ends_one : {A D : Type 0} (s : List ℕ) (r : ℕ) (p : Parsed A) (f : A → D) → Ends s r p → Ends s r (and_then p (λ a rest. parsed (f a) rest))
ends_one s r malformed f e = e
ends_one s r (parsed a rest) f e = e

module _ {A B D : Type 0} (R : ℕ → Reader A) (S : ℕ → Reader B) (s : List ℕ) (at q r : ℕ) (x : Skips R s at q) (y : Skips S s q r) (f : A → B → D) where
  ends_two : (k : ℕ) → length s - at ≤ k → Ends s r (two (R k) (S k) f (drop at s))
  ends_two k d =
      ends_then s q r (R k (drop at s)) (λ a rest. one (S k) (f a) rest) (x.ends k d) y.low y.high
      (λ a rest e. subst (λ (t : List ℕ). Ends s r (one (S k) (f a) t)) e (ends_one s r (S k (drop q s)) (f a) (y.ends k (omega (arith, x.low)))))

module _ {A B C D : Type 0} (R : ℕ → Reader A) (S : ℕ → Reader B) (T : ℕ → Reader C) (s : List ℕ) (at q u r : ℕ) (x : Skips R s at q) (y : Skips S s q u) (z : Skips T s u r) (f : A → B → C → D) where
  ends_three : (k : ℕ) → length s - at ≤ k → Ends s r (three (R k) (S k) (T k) f (drop at s))
  ends_three k d =
      ends_then s q r (R k (drop at s)) (λ a rest. two (S k) (T k) (f a) rest) (x.ends k d) (omega (arith, y.low, z.low)) z.high
      (λ a rest e. subst (λ (t : List ℕ). Ends s r (two (S k) (T k) (f a) t)) e (ends_two S T s q u r y z (f a) k (omega (arith, x.low))))

one_of_two : (n a : ℕ) → a ≤ n → n ≤ a + 1 → (n ≡ a) ⊎ (n ≡ a + 1)
one_of_two n a i j = go (ltb a n) refl
  where
    go : (b : Bool) → ltb a n ≡ b → (n ≡ a) ⊎ (n ≡ a + 1)
    go true e = let h = ltb-true a n e in inr (omega arith)
    go false e = let h = ltb-false a n e in inl (omega arith)

-- where a condition or a value ends, from where its operands end
module _ (L : Lent) (s : List ℕ) (at : ℕ) (h : at < length s) where
  pub condition_skips : (o : ConditionOperator) (r : ℕ) → condition_operator (get_or s at 0) ≡ o → at ≤ r → r ≤ length s + 1 → ((k : ℕ) → length s - (at + 1) ≤ k → Ends s r (condition_with (condition_reader L k) (value_reader L k) o (drop (at + 1) s))) → Skips (condition_reader L) s at r
  condition_skips o r e low high f = record { low = low; high = high; ends = condition_opens (Ends s r) L s at o h e f }

  pub value_skips : (o : ValueOperator) (r : ℕ) → value_operator (get_or s at 0) ≡ o → at ≤ r → r ≤ length s + 1 → ((k : ℕ) → length s - (at + 1) ≤ k → Ends s r (value_with L (condition_reader L k) (value_reader L k) o (drop (at + 1) s))) → Skips (value_reader L) s at r
  value_skips o r e low high f = record { low = low; high = high; ends = value_opens (Ends s r) L s at o h e f }

  pub skips_true : get_or s at 0 ≡ 0 → Skips (condition_reader L) s at (at + 1)
  unfolding condition_operator
  skips_true e = condition_skips op_true (at + 1) (ap condition_operator e) (omega arith) (omega arith) (λ k d. (refl, omega arith))

  pub skips_not : (r : ℕ) → get_or s at 0 ≡ 1 → Skips (condition_reader L) s (at + 1) r → Skips (condition_reader L) s at r
  unfolding condition_operator
  skips_not r e x = condition_skips op_not r (ap condition_operator e) (omega (arith, x.low)) x.high (λ k d. ends_one s r (condition_reader L k (drop (at + 1) s)) negation (x.ends k d))

  module _ {A B : Type 0} (R : ℕ → Reader A) (S : ℕ → Reader B) (q r : ℕ) (x : Skips R s (at + 1) q) (y : Skips S s q r) where
    pub condition_two : (f : A → B → Condition) (o : ConditionOperator) → ((k : ℕ) (t : List ℕ) → condition_with (condition_reader L k) (value_reader L k) o t ≡ two (R k) (S k) f t) → condition_operator (get_or s at 0) ≡ o → Skips (condition_reader L) s at r
    condition_two f o w e = condition_skips o r e (omega (arith, x.low, y.low)) y.high (λ k d. rw (w k) (ends_two R S s (at + 1) q r x y f k d))

    pub value_two : (f : A → B → Value) (o : ValueOperator) → ((k : ℕ) (t : List ℕ) → value_with L (condition_reader L k) (value_reader L k) o t ≡ two (R k) (S k) f t) → value_operator (get_or s at 0) ≡ o → Skips (value_reader L) s at r
    value_two f o w e = value_skips o r e (omega (arith, x.low, y.low)) y.high (λ k d. rw (w k) (ends_two R S s (at + 1) q r x y f k d))

  module _ {A B C : Type 0} (R : ℕ → Reader A) (S : ℕ → Reader B) (T : ℕ → Reader C) (q u r : ℕ) (x : Skips R s (at + 1) q) (y : Skips S s q u) (z : Skips T s u r) where
    pub condition_three : (f : A → B → C → Condition) (o : ConditionOperator) → ((k : ℕ) (t : List ℕ) → condition_with (condition_reader L k) (value_reader L k) o t ≡ three (R k) (S k) (T k) f t) → condition_operator (get_or s at 0) ≡ o → Skips (condition_reader L) s at r
    condition_three f o w e = condition_skips o r e (omega (arith, x.low, y.low, z.low)) z.high (λ k d. rw (w k) (ends_three R S T s (at + 1) q u r x y z f k d))

    pub value_three : (f : A → B → C → Value) (o : ValueOperator) → ((k : ℕ) (t : List ℕ) → value_with L (condition_reader L k) (value_reader L k) o t ≡ three (R k) (S k) (T k) f t) → value_operator (get_or s at 0) ≡ o → Skips (value_reader L) s at r
    value_three f o w e = value_skips o r e (omega (arith, x.low, y.low, z.low)) z.high (λ k d. rw (w k) (ends_three R S T s (at + 1) q u r x y z f k d))

  module _ (q r : ℕ) (x : Skips (condition_reader L) s (at + 1) q) (y : Skips (condition_reader L) s q r) where
    pub skips_and : get_or s at 0 ≡ 2 → Skips (condition_reader L) s at r
    unfolding condition_operator
    skips_and e = condition_two (condition_reader L) (condition_reader L) q r x y both op_and (λ k t. refl) (ap condition_operator e)

    pub skips_or : get_or s at 0 ≡ 3 → Skips (condition_reader L) s at r
    unfolding condition_operator
    skips_or e = condition_two (condition_reader L) (condition_reader L) q r x y either op_or (λ k t. refl) (ap condition_operator e)

  module _ (q r : ℕ) (x : Skips (value_reader L) s (at + 1) q) (y : Skips (value_reader L) s q r) where
    skips_less : get_or s at 0 ≡ 4 → Skips (condition_reader L) s at r
    unfolding condition_operator
    skips_less e = condition_two (value_reader L) (value_reader L) q r x y less op_less (λ k t. refl) (ap condition_operator e)

    skips_equal : get_or s at 0 ≡ 5 → Skips (condition_reader L) s at r
    unfolding condition_operator
    skips_equal e = condition_two (value_reader L) (value_reader L) q r x y equal op_equal (λ k t. refl) (ap condition_operator e)

    skips_plus : get_or s at 0 ≡ 20 → Skips (value_reader L) s at r
    unfolding value_operator
    skips_plus e = value_two (value_reader L) (value_reader L) q r x y plus op_plus (λ k t. refl) (ap value_operator e)

    skips_minus : get_or s at 0 ≡ 21 → Skips (value_reader L) s at r
    unfolding value_operator
    skips_minus e = value_two (value_reader L) (value_reader L) q r x y minus op_minus (λ k t. refl) (ap value_operator e)

    -- either of two operators that stand side by side
    pub skips_compared : 4 ≤ get_or s at 0 → get_or s at 0 < 6 → Skips (condition_reader L) s at r
    skips_compared i j = ⊎_elim skips_less skips_equal (one_of_two (get_or s at 0) 4 i (omega arith))

    pub skips_joined : 20 ≤ get_or s at 0 → get_or s at 0 < 22 → Skips (value_reader L) s at r
    skips_joined i j = ⊎_elim skips_plus skips_minus (one_of_two (get_or s at 0) 20 i (omega arith))

  module _ (q u r : ℕ) (y : Skips (value_reader L) s q u) (z : Skips (value_reader L) s u r) where
    pub skips_within : get_or s at 0 ≡ 6 → Skips (value_reader L) s (at + 1) q → Skips (condition_reader L) s at r
    unfolding condition_operator
    skips_within e x = condition_three (value_reader L) (value_reader L) (value_reader L) q u r x y z within op_within (λ k t. refl) (ap condition_operator e)

    pub skips_choose : get_or s at 0 ≡ 22 → Skips (condition_reader L) s (at + 1) q → Skips (value_reader L) s at r
    unfolding value_operator
    skips_choose e x = value_three (condition_reader L) (value_reader L) (value_reader L) q u r x y z choose op_choose (λ k t. refl) (ap value_operator e)

  pub skips_no_condition : condition_operator (get_or s at 0) ≡ no_condition → Skips (condition_reader L) s at (length s + 1)
  skips_no_condition e = condition_skips no_condition (length s + 1) e (omega arith) (omega arith) (λ k d. refl)

  pub skips_no_value : value_operator (get_or s at 0) ≡ no_value → Skips (value_reader L) s at (length s + 1)
  skips_no_value e = value_skips no_value (length s + 1) e (omega arith) (omega arith) (λ k d. refl)

  -- a value takes two bytes
  nothing_read : (o : ValueOperator) (k : ℕ) → value_with L (condition_reader L k) (value_reader L k) o [] ≡ malformed
  unfolding literal numbered
  nothing_read op_constant k = refl
  nothing_read op_program k = refl
  nothing_read op_monitor k = refl
  nothing_read op_at_entry k = refl
  nothing_read op_plus k = rw (value_nil L k)
  nothing_read op_minus k = rw (value_nil L k)
  nothing_read op_choose k = rw (condition_nil L k)
  nothing_read no_value k = refl

  pub none_short : (P : Parsed Value → Type 0) → P malformed → (o : ValueOperator) → length s ≤ at + 1 → (k : ℕ) → P (value_with L (condition_reader L k) (value_reader L k) o (drop (at + 1) s))
  none_short P x o g k = none_past Value (λ k t. value_with L (condition_reader L k) (value_reader L k) o t) (nothing_read o) s (at + 1) P x g k

  pub skips_short : length s ≤ at + 1 → Skips (value_reader L) s at (length s + 1)
  skips_short g =
      let o = value_operator (get_or s at 0) in
      value_skips o (length s + 1) refl (omega arith) (omega arith) (λ k d. none_short (Ends s (length s + 1)) refl o g k)

-- a byte that is no operator
module _ (o : ℕ) where
  pub no_condition_lem : (o ≡ 0 → ⊥) → (o ≡ 1 → ⊥) → (o ≡ 2 → ⊥) → (o ≡ 3 → ⊥) → (o ≡ 4 → ⊥) → (o ≡ 5 → ⊥) → (o ≡ 6 → ⊥) → condition_operator o ≡ no_condition
  unfolding condition_operator
  no_condition_lem a b c d e f g = rw (ne_eqb o 0 a, ne_eqb o 1 b, ne_eqb o 2 c, ne_eqb o 3 d, ne_eqb o 4 e, ne_eqb o 5 f, ne_eqb o 6 g)

  pub no_value_lem : (o ≡ 16 → ⊥) → (o ≡ 17 → ⊥) → (o ≡ 18 → ⊥) → (o ≡ 19 → ⊥) → (o ≡ 20 → ⊥) → (o ≡ 21 → ⊥) → (o ≡ 22 → ⊥) → value_operator o ≡ no_value
  unfolding value_operator
  no_value_lem a b c d e f g = rw (ne_eqb o 16 a, ne_eqb o 17 b, ne_eqb o 18 c, ne_eqb o 19 d, ne_eqb o 20 e, ne_eqb o 21 f, ne_eqb o 22 g)

-- what was tried, found or not
pub tried : {F N : Type 0} (r : ℕ) → 0 < r → F → Tried F N r
tried r h x = record { found = λ f. x; none = λ z. absurd (omega arith) }

pub tried_none : {F N : Type 0} → N → Tried F N 0
tried_none x = record { found = λ f. absurd (f refl); none = λ z. x }

-- of an operand, what holds where a call gave it and where it was found
pub either_way : {A B N T : Type 0} (P : T → Type 0) (next : T → ℕ) (l a : T) → Tried (P l) N (next l) → A ⊎ B → (A → P a) → (B → (next l ≡ 0 → ⊥) × (a ≡ l)) → P a
either_way P next l a x c f g = ⊎_elim f (λ w. subst P (sym (g w).1) (x.found (g w).0)) c

-- constants and variables at a place
open_to : (s : List ℕ) (a b : ℕ) → a + 1 ≡ b → a < length s → drop a s ≡ get_or s a 0 ∷ drop b s
open_to s a b e h = open_at s a h ∙ ap (λ (n : ℕ). get_or s a 0 ∷ drop n s) e

too_short : (t : List ℕ) → length t < 4 → literal t ≡ malformed
unfolding literal
too_short [] h = refl
too_short (a ∷ []) h = refl
too_short (a ∷ b ∷ []) h = refl
too_short (a ∷ b ∷ c ∷ []) h = refl
too_short (a ∷ b ∷ c ∷ d ∷ t) h = absurd (omega arith)

module _ (s : List ℕ) (at : ℕ) where
  pub literal_at_lem : at + 5 ≤ length s → literal (drop (at + 1) s) ≡ parsed (constant (get_or s (at + 1) 0) (get_or s (at + 2) 0) (get_or s (at + 3) 0) (get_or s (at + 4) 0)) (drop (at + 5) s)
  unfolding literal
  literal_at_lem h = rw (open_to s (at + 1) (at + 2) (omega arith) (omega arith), open_to s (at + 2) (at + 3) (omega arith) (omega arith), open_to s (at + 3) (at + 4) (omega arith) (omega arith), open_to s (at + 4) (at + 5) (omega arith) (omega arith))

  pub literal_short : length s < at + 5 → literal (drop (at + 1) s) ≡ malformed
  literal_short h = too_short (drop (at + 1) s) (rw length-drop (omega arith))

  pub numbered_at : (L : Lent) (kind : ℕ → Variable) → at + 1 < length s → numbered L kind (drop (at + 1) s) ≡ cond (is_lent L (kind (get_or s (at + 1) 0))) (parsed (variable (kind (get_or s (at + 1) 0))) (drop (at + 2) s)) malformed
  unfolding numbered
  numbered_at L kind h = rw (open_to s (at + 1) (at + 2) (omega arith) (omega arith))

  pub numbered_short : (L : Lent) (kind : ℕ → Variable) → length s ≤ at + 1 → numbered L kind (drop (at + 1) s) ≡ malformed
  unfolding numbered
  numbered_short L kind h = rw (drop_of_length-le s h)

  -- by the test that the code makes
  literal_ends : (b : Bool) → leb (at + 5) (length s) ≡ b → Ends s (cond b (at + 5) (length s + 1)) (literal (drop (at + 1) s))
  literal_ends true e = rw (literal_at_lem (leb-true (at + 5) (length s) e)) (refl, leb-true (at + 5) (length s) e)
  literal_ends false e = rw (literal_short (leb-false (at + 5) (length s) e)) refl

  literal_bounds : at < length s → (b : Bool) → leb (at + 5) (length s) ≡ b → (at ≤ cond b (at + 5) (length s + 1)) × (cond b (at + 5) (length s + 1) ≤ length s + 1)
  literal_bounds h true e = (omega arith, omega (arith, leb-true (at + 5) (length s) e))
  literal_bounds h false e = (omega arith, omega arith)

  module _ (L : Lent) (kind : ℕ → Variable) (limit : ℕ) (lends : (i : ℕ) → is_lent L (kind i) ≡ ltb i limit) where
    numbered_ends : (b : Bool) → ltb (at + 1) (length s) ≡ b → (d : Bool) → ltb (get_or s (at + 1) 0) limit ≡ d → Ends s (cond b (cond d (at + 2) (length s + 1)) (length s + 1)) (numbered L kind (drop (at + 1) s))
    numbered_ends true e true f = rw (numbered_at L kind (ltb-true (at + 1) (length s) e), lends, f) (refl, omega (arith, ltb-true (at + 1) (length s) e))
    numbered_ends true e false f = rw (numbered_at L kind (ltb-true (at + 1) (length s) e), lends, f) refl
    numbered_ends false e d f = rw (numbered_short L kind (ltb-false (at + 1) (length s) e)) refl

  numbered_bounds : at < length s → (b : Bool) → ltb (at + 1) (length s) ≡ b → (d : Bool) → (at ≤ cond b (cond d (at + 2) (length s + 1)) (length s + 1)) × (cond b (cond d (at + 2) (length s + 1)) (length s + 1) ≤ length s + 1)
  numbered_bounds h true e true = (omega arith, omega (arith, ltb-true (at + 1) (length s) e))
  numbered_bounds h true e false = (omega arith, omega arith)
  numbered_bounds h false e d = (omega arith, omega arith)

module _ (L : Lent) (s : List ℕ) (at : ℕ) (h : at < length s) where
  pub skips_literal : (r : ℕ) → get_or s at 0 ≡ 16 → r ≡ literal_end s at → Skips (value_reader L) s at r
  unfolding value_operator
  skips_literal r e f =
      rw f
      (value_skips L s at h op_constant (literal_end s at) (ap value_operator e) (literal_bounds s at h (leb (at + 5) (length s)) refl).0 (literal_bounds s at h (leb (at + 5) (length s)) refl).1
      (λ k d. literal_ends s at (leb (at + 5) (length s)) refl))

  pub skips_variable : (kind : ℕ → Variable) (o : ValueOperator) (limit r : ℕ) → ((i : ℕ) → is_lent L (kind i) ≡ ltb i limit) → ((k : ℕ) (t : List ℕ) → value_with L (condition_reader L k) (value_reader L k) o t ≡ numbered L kind t) → value_operator (get_or s at 0) ≡ o → r ≡ variable_end s at limit → Skips (value_reader L) s at r
  skips_variable kind o limit r lends w e f =
      let b = ltb (at + 1) (length s) in
      let d = ltb (get_or s (at + 1) 0) limit in
      rw f
      (value_skips L s at h o (variable_end s at limit) e (numbered_bounds s at h b refl d).0 (numbered_bounds s at h b refl d).1
      (λ k x. rw (w k) (numbered_ends s at L kind limit lends b refl d refl)))

  pub skips_program : (r : ℕ) → get_or s at 0 ≡ 17 → r ≡ variable_end s at L.programs → Skips (value_reader L) s at r
  unfolding value_operator is_lent
  skips_program r e f = skips_variable program op_program L.programs r (λ i. refl) (λ k t. refl) (ap value_operator e) f

  pub skips_monitor : (r : ℕ) → get_or s at 0 ≡ 18 → r ≡ variable_end s at L.monitors → Skips (value_reader L) s at r
  unfolding value_operator is_lent
  skips_monitor r e f = skips_variable monitor op_monitor L.monitors r (λ i. refl) (λ k t. refl) (ap value_operator e) f

  pub skips_entry : (r : ℕ) → get_or s at 0 ≡ 19 → r ≡ variable_end s at L.kept → Skips (value_reader L) s at r
  unfolding value_operator is_lent
  skips_entry r e f = skips_variable at_entry op_at_entry L.kept r (λ i. refl) (λ k t. refl) (ap value_operator e) f

-- what is passed over without a call
module _ (L : Lent) (s : List ℕ) (at : ℕ) where
  pub leaf_short : length s ≤ at + 1 → LeafSkipped L s at 0
  leaf_short g = tried_none (λ n. skips_short L s at n.0 g)

  pub leaf_none : (get_or s at 0 ≡ 16 → ⊥) → (get_or s at 0 ≡ 17 → ⊥) → (get_or s at 0 ≡ 18 → ⊥) → (get_or s at 0 ≡ 19 → ⊥) → LeafSkipped L s at 0
  leaf_none e f g i = tried_none (λ n. skips_no_value L s at n.0 (no_value_lem (get_or s at 0) e f g i n.1.0 n.1.1.0 n.1.1.1))

  pub as_leaf : (next r : ℕ) → EndTried s next r → Skips (value_reader L) s at next → LeafSkipped L s at r
  as_leaf next r t x = record { found = λ f. rw (t.found f) x; none = λ z n. rw (t.none z) at x }

  -- an operand that was passed over by a call or without
  pub operand : {A B : Type 0} (l a : ℕ) → LeafSkipped L s at l → A ⊎ B → (A → Skips (value_reader L) s at a) → (B → (l ≡ 0 → ⊥) × (a ≡ l)) → Skips (value_reader L) s at a
  operand l a x c f g = either_way (Skips (value_reader L) s at) (λ (n : ℕ). n) l a x c f g
