-- What a condition or a value means, from what its operands mean. Assumes nothing.
use Rattle.std.proofs.Common.{◌≡◌, ℕ, suc, ◌+◌, ◌-◌, ◌*◌, ◌/◌, ◌%◌, ◌^◌, ◌<◌, ◌≤◌, Bool, true, false, not, ltb, ◌⊎◌, List, length, get_or, drop, sym, refl, ap, ◌∙◌, subst, inl, inr, ⊎_elim, arith, Bor, ltb-false, ltb-true, le-ltb, lt-ltb, le-leb}
use borrow.Author.Tests.{lt-leb}
use Rattle.condition.specs.Word.{plus_word, minus_word, less_word, equal_word, within_word, big_endian}
use Rattle.condition.specs.Tree.{Variable, program, monitor, at_entry, Condition, negation, both, either, less, equal, within, Value, plus, minus, choose}
use Rattle.condition.specs.Parse.{Parsed, malformed, parsed, Reader, and_then, one, two, three, is_lent, literal, numbered, ConditionOperator, op_true, op_not, op_and, op_or, op_less, op_equal, op_within, no_condition, condition_operator, condition_with, ValueOperator, op_constant, op_program, op_monitor, op_at_entry, op_plus, op_minus, op_choose, no_value, value_operator, value_with}
use Rattle.condition.specs.Meaning.{Environment, lent, value_of, holds, word}
use Rattle.condition.specs.Count.{condition_count, value_count}
use Rattle.condition.specs.Walk.{bit, Ends, Skips, Gives, Evaluates, condition_reader, value_reader, condition_bit, value_word, condition_reached, value_reached, EvaluatesCondition, EvaluatesValue, ConditionAt, ValueAt, Cursor, Passes, Judged, Packed, literal_at, variable_at, negated, LeafEvaluated, SimpleEvaluated, LiteralTried, VariableTried, bank, banks}
use Rattle.condition.proofs.Walking.{condition_opens, value_opens, none_past, skips_past, condition_nil, value_nil, no_value_lem, none_short, skips_short, tried, tried_none, either_way, literal_at_lem, literal_short, numbered_at, condition_two, value_two, skips_true, skips_not, skips_and, skips_or, skips_within, skips_literal, skips_variable, skips_choose, skips_no_condition, skips_no_value}

-- from what is known of the parts to what is known of the whole
pub gives_any : {A : Type 0} (p : Parsed A) → Gives (λ _. Unit {0}) p
gives_any malformed = tt
gives_any (parsed a rest) = tt

pub gives_one : {A D : Type 0} (P : A → Type 0) (Z : D → Type 0) (f : A → D) (p : Parsed A) → Gives P p → ((a : A) → P a → Z (f a)) → Gives Z (and_then p (λ a rest. parsed (f a) rest))
gives_one P Z f malformed x g = tt
gives_one P Z f (parsed a rest) x g = g a x

gives_then : {A D : Type 0} (s : List ℕ) (q : ℕ) (P : A → Type 0) (Z : D → Type 0) (F : A → List ℕ → Parsed D) (p : Parsed A) → Ends s q p → Gives P p → ((a : A) (rest : List ℕ) → drop q s ≡ rest → P a → Gives Z (F a rest)) → Gives Z (and_then p F)
gives_then s q P Z F malformed e x g = tt
gives_then s q P Z F (parsed a rest) e x g = g a rest e.0 x

-- what is known of what a reader finds at a place, for any depth that is enough
abbrev Known : {A : Type 0} → (A → Type 0) → (ℕ → Reader A) → List ℕ → ℕ → Type 0
Known P R s at = (k : ℕ) → length s - at ≤ k → Gives P (R k (drop at s))

module _ {A B D : Type 0} (R : ℕ → Reader A) (S : ℕ → Reader B) (P : A → Type 0) (Q : B → Type 0) (Z : D → Type 0) (f : A → B → D) (s : List ℕ) (at q : ℕ) (x : Skips R s at q) (u : Known P R s at) (v : Known Q S s q) (g : (a : A) (b : B) → P a → Q b → Z (f a b)) where
  gives_two : (k : ℕ) → length s - at ≤ k → Gives Z (two (R k) (S k) f (drop at s))
  gives_two k d =
      gives_then s q P Z (λ a rest. one (S k) (f a) rest) (R k (drop at s)) (x.ends k d) (u k d)
      (λ a rest e p. subst (λ (t : List ℕ). Gives Z (one (S k) (f a) t)) e (gives_one Q Z (f a) (S k (drop q s)) (v k (omega (arith, x.low))) (λ b. g a b p)))

module _ {A B C D : Type 0} (R : ℕ → Reader A) (S : ℕ → Reader B) (T : ℕ → Reader C) (P : A → Type 0) (Q : B → Type 0) (O : C → Type 0) (Z : D → Type 0) (f : A → B → C → D) (s : List ℕ) (at q r : ℕ) (x : Skips R s at q) (y : Skips S s q r) (u : Known P R s at) (v : Known Q S s q) (w : Known O T s r) (g : (a : A) (b : B) (c : C) → P a → Q b → O c → Z (f a b c)) where
  gives_three : (k : ℕ) → length s - at ≤ k → Gives Z (three (R k) (S k) (T k) f (drop at s))
  gives_three k d =
      gives_then s q P Z (λ a rest. two (S k) (T k) (f a) rest) (R k (drop at s)) (x.ends k d) (u k d)
      (λ a rest e p. subst (λ (t : List ℕ). Gives Z (two (S k) (T k) (f a) t)) e (gives_two S T Q O Z (f a) s q r y v w (λ b c. g a b c p) k (omega (arith, x.low))))

bit_true : (b : Bool) (u : ℕ) → u ≡ bit b → u ≡ 1 → b ≡ true
bit_true true u e f = refl
bit_true false u e f = absurd (omega arith)

bit_false : (b : Bool) (u : ℕ) → u ≡ bit b → (u ≡ 1 → ⊥) → b ≡ false
bit_false true u e f = absurd (f e)
bit_false false u e f = refl

bit_negated : (b : Bool) → bit (negated (bit b)) ≡ bit (not b)
bit_negated true = refl
bit_negated false = refl

-- counts of one part, of two and of three, and of one where the other is not reached
count_one : (n x m : ℕ) → m ≡ (n + 1) + x → m ≡ n + suc x
count_one n x m e = omega arith

count_two : (n x y q m : ℕ) → q ≡ (n + 1) + x → m ≡ q + y → m ≡ n + suc (x + y)
count_two n x y q m e f = omega arith

count_three : (n x y z p q m : ℕ) → p ≡ (n + 1) + x → q ≡ p + y → m ≡ q + z → m ≡ n + suc (x + y + z)
count_three n x y z p q m e f g = omega arith

count_left : (n x m : ℕ) → m ≡ (n + 1) + x → m ≡ n + suc (x + 0)
count_left n x m e = omega arith

-- what is known of a part
abbrev IsCondition : Environment → ℕ → ℕ → ℕ → Condition → Type 0
IsCondition E n u m c = (u ≡ condition_bit E c) × (m ≡ n + condition_reached E c)

abbrev IsValue : Environment → ℕ → ℕ → ℕ → Value → Type 0
IsValue E n u m e = (u ≡ value_word E e) × (m ≡ n + value_reached E e)

-- cursors: one byte and one count on, and past the end
module _ (c : ℕ) (h : c % 65536 < 65535) where
  place_on : (c + 65537) % 65536 ≡ c % 65536 + 1
  place_on = omega arith

  count_on : (c + 65537) / 65536 ≡ c / 65536 + 1
  count_on = omega arith

module _ (s : List ℕ) (z : length s ≤ 65534) where
  pub beyond_place : (length s + 1) % 65536 ≡ length s + 1
  beyond_place = omega arith

  pub beyond_count : (length s + 1) / 65536 ≡ 0
  beyond_count = omega arith

  inside : (c : ℕ) → c % 65536 < length s → c % 65536 < 65535
  inside c h = omega arith

module _ {A : Type 0} (R : ℕ → Reader A) (f g : A → ℕ) (s : List ℕ) where
  pub started : (c : ℕ) → Cursor s c → c % 65536 < length s → (q w m : ℕ) → Evaluates R f g s ((c + 65537) % 65536) ((c + 65537) / 65536) q w m → Evaluates R f g s (c % 65536 + 1) (c / 65536 + 1) q w m
  started c z h q w m x = rw (place_on c (inside s z.0 c h), count_on c (inside s z.0 c h)) at x

  pub badly : length s ≤ 65534 → (at n : ℕ) → Evaluates R f g s at n (length s + 1) 0 0 → Evaluates R f g s at n ((length s + 1) % 65536) 0 ((length s + 1) / 65536)
  badly z at n x = rw (beyond_place s z, beyond_count s z) x

-- a result as one number
module _ (E : Environment) (s : List ℕ) (at n : ℕ) where
  pub as_judged : (q : ℕ) (b : Bool) (r : ℕ) → Judged q b r → EvaluatesCondition E s at n (q % 65536) (bit b) (q / 65536) → EvaluatesCondition E s at n (r / 2 % 65536) (r % 2) (r / 2 / 65536)
  as_judged q b r j x = rw (j.place, j.truth) x

  pub as_packed : (q w r : ℕ) → Packed q w r → EvaluatesValue E s at n (q % 65536) w (q / 65536) → EvaluatesValue E s at n (r / 2 ^ 32 % 65536) (r % 2 ^ 32) (r / 2 ^ 32 / 65536)
  as_packed q w r j x = rw (j.place, j.value) x

  -- at the end and past it
  pub condition_past : length s ≤ at → at ≤ length s + 1 → EvaluatesCondition E s at n (length s + 1) (bit false) 0
  condition_past h i = record { skips = skips_past Condition (condition_reader (lent E)) (condition_nil (lent E)) s at h i; few = omega arith; means = λ k d. none_past Condition (condition_reader (lent E)) (condition_nil (lent E)) s at (Gives (IsCondition E n 0 0)) tt h k }

  pub value_past : length s ≤ at → at ≤ length s + 1 → EvaluatesValue E s at n (length s + 1) 0 0
  value_past h i = record { skips = skips_past Value (value_reader (lent E)) (value_nil (lent E)) s at h i; few = omega arith; means = λ k d. none_past Value (value_reader (lent E)) (value_nil (lent E)) s at (Gives (IsValue E n 0 0)) tt h k }

module _ (E : Environment) (s : List ℕ) (at n : ℕ) (h : at < length s) where
  condition_evaluates : (o : ConditionOperator) (r w m : ℕ) → condition_operator (get_or s at 0) ≡ o → m ≤ r → Skips (condition_reader (lent E)) s at r → ((k : ℕ) → length s - (at + 1) ≤ k → Gives (IsCondition E n w m) (condition_with (condition_reader (lent E) k) (value_reader (lent E) k) o (drop (at + 1) s))) → EvaluatesCondition E s at n r w m
  condition_evaluates o r w m e i x f = record { skips = x; few = i; means = condition_opens (Gives (IsCondition E n w m)) (lent E) s at o h e f }

  value_evaluates : (o : ValueOperator) (r w m : ℕ) → value_operator (get_or s at 0) ≡ o → m ≤ r → Skips (value_reader (lent E)) s at r → ((k : ℕ) → length s - (at + 1) ≤ k → Gives (IsValue E n w m) (value_with (lent E) (condition_reader (lent E) k) (value_reader (lent E) k) o (drop (at + 1) s))) → EvaluatesValue E s at n r w m
  value_evaluates o r w m e i x f = record { skips = x; few = i; means = value_opens (Gives (IsValue E n w m)) (lent E) s at o h e f }

  pub evaluates_true : n ≤ at → get_or s at 0 ≡ 0 → EvaluatesCondition E s at n (at + 1) (bit true) (n + 1)
  unfolding condition_operator holds condition_count
  evaluates_true i e = condition_evaluates op_true (at + 1) 1 (n + 1) (ap condition_operator e) (omega arith) (skips_true (lent E) s at h e) (λ k d. (refl, refl))

  pub evaluates_not : (q u m : ℕ) → get_or s at 0 ≡ 1 → EvaluatesCondition E s (at + 1) (n + 1) q u m → EvaluatesCondition E s at n q (bit (negated u)) m
  unfolding condition_operator holds condition_count
  evaluates_not q u m e x =
      condition_evaluates op_not q (bit (negated u)) m (ap condition_operator e) x.few (skips_not (lent E) s at h q e x.skips)
      (λ k d. gives_one (IsCondition E (n + 1) u m) (IsCondition E n (bit (negated u)) m) negation (condition_reader (lent E) k (drop (at + 1) s)) (x.means k d) (λ c p. (ap (λ n. bit (negated n)) p.0 ∙ bit_negated (holds c E), count_one n (condition_count c E) m p.1)))

  -- two operands: what the right one is known to be may be nothing
  module _ (q r u w p m : ℕ) (x : EvaluatesCondition E s (at + 1) (n + 1) q u p) (i : m ≤ r) (Q : Condition → Type 0) (y : Skips (condition_reader (lent E)) s q r) (v : Known Q (condition_reader (lent E)) s q) where
    and_with : get_or s at 0 ≡ 2 → ((c d : Condition) → IsCondition E (n + 1) u p c → Q d → IsCondition E n w m (both c d)) → EvaluatesCondition E s at n r w m
    unfolding condition_operator
    and_with e g = condition_evaluates op_and r w m (ap condition_operator e) i (skips_and (lent E) s at h q r x.skips y e) (gives_two (condition_reader (lent E)) (condition_reader (lent E)) (IsCondition E (n + 1) u p) Q (IsCondition E n w m) both s (at + 1) q x.skips x.means v g)

    or_with : get_or s at 0 ≡ 3 → ((c d : Condition) → IsCondition E (n + 1) u p c → Q d → IsCondition E n w m (either c d)) → EvaluatesCondition E s at n r w m
    unfolding condition_operator
    or_with e g = condition_evaluates op_or r w m (ap condition_operator e) i (skips_or (lent E) s at h q r x.skips y e) (gives_two (condition_reader (lent E)) (condition_reader (lent E)) (IsCondition E (n + 1) u p) Q (IsCondition E n w m) either s (at + 1) q x.skips x.means v g)

  module _ (q r u p m : ℕ) (x : EvaluatesCondition E s (at + 1) (n + 1) q u p) where
    pub and_right : (w : ℕ) → get_or s at 0 ≡ 2 → u ≡ 1 → EvaluatesCondition E s q p r w m → EvaluatesCondition E s at n r w m
    unfolding holds condition_count
    and_right w e i y = and_with q r u w p m x y.few (IsCondition E p w m) y.skips y.means e (λ c d a b. rw (bit_true (holds c E) u a.0 i) (b.0, count_two n (condition_count c E) (condition_count d E) p m a.1 b.1))

    pub and_left : get_or s at 0 ≡ 2 → (u ≡ 1 → ⊥) → Skips (condition_reader (lent E)) s q r → m ≡ p → EvaluatesCondition E s at n r (bit false) m
    unfolding holds condition_count
    and_left e i y z = and_with q r u 0 p m x (omega (arith, x.few, y.low)) (λ d. Unit {0}) y (λ k t. gives_any (condition_reader (lent E) k (drop q s))) e (λ c d a b. rw (bit_false (holds c E) u a.0 i) (refl, count_left n (condition_count c E) m (z ∙ a.1)))

    pub or_right : (w : ℕ) → get_or s at 0 ≡ 3 → (u ≡ 1 → ⊥) → EvaluatesCondition E s q p r w m → EvaluatesCondition E s at n r w m
    unfolding holds condition_count
    or_right w e i y = or_with q r u w p m x y.few (IsCondition E p w m) y.skips y.means e (λ c d a b. rw (bit_false (holds c E) u a.0 i) (b.0, count_two n (condition_count c E) (condition_count d E) p m a.1 b.1))

    pub or_left : get_or s at 0 ≡ 3 → u ≡ 1 → Skips (condition_reader (lent E)) s q r → m ≡ p → EvaluatesCondition E s at n r (bit true) m
    unfolding holds condition_count
    or_left e i y z = or_with q r u 1 p m x (omega (arith, x.few, y.low)) (λ d. Unit {0}) y (λ k t. gives_any (condition_reader (lent E) k (drop q s))) e (λ c d a b. rw (bit_true (holds c E) u a.0 i) (refl, count_left n (condition_count c E) m (z ∙ a.1)))

  module _ (q r a b p m : ℕ) (x : EvaluatesValue E s (at + 1) (n + 1) q a p) (y : EvaluatesValue E s q p r b m) where
    -- two values compared, two values joined
    compared :
        (g : ℕ → ℕ → Bool) (f : Value → Value → Condition) (o : ConditionOperator) →
        ((k : ℕ) (t : List ℕ) → condition_with (condition_reader (lent E) k) (value_reader (lent E) k) o t ≡ two (value_reader (lent E) k) (value_reader (lent E) k) f t) →
        ((d e : Value) → holds (f d e) E ≡ g (word d E) (word e E)) → ((d e : Value) → condition_count (f d e) E ≡ suc (value_count d E + value_count e E)) → condition_operator (get_or s at 0) ≡ o → EvaluatesCondition E s at n r (bit (g a b)) m
    compared g f o w l t e =
        condition_evaluates o r (bit (g a b)) m e y.few (condition_two (lent E) s at h (value_reader (lent E)) (value_reader (lent E)) q r x.skips y.skips f o w e)
        (λ k i. rw (w k) (gives_two (value_reader (lent E)) (value_reader (lent E)) (IsValue E (n + 1) a p) (IsValue E p b m) (IsCondition E n (bit (g a b)) m) f s (at + 1) q x.skips x.means y.means (λ d e u v. (rw (l d e, u.0, v.0), rw (t d e) (count_two n (value_count d E) (value_count e E) p m u.1 v.1))) k i))

    joined :
        (g : ℕ → ℕ → ℕ) (f : Value → Value → Value) (o : ValueOperator) →
        ((k : ℕ) (t : List ℕ) → value_with (lent E) (condition_reader (lent E) k) (value_reader (lent E) k) o t ≡ two (value_reader (lent E) k) (value_reader (lent E) k) f t) →
        ((d e : Value) → word (f d e) E ≡ g (word d E) (word e E)) → ((d e : Value) → value_count (f d e) E ≡ suc (value_count d E + value_count e E)) → value_operator (get_or s at 0) ≡ o → EvaluatesValue E s at n r (g a b) m
    joined g f o w l t e =
        value_evaluates o r (g a b) m e y.few (value_two (lent E) s at h (value_reader (lent E)) (value_reader (lent E)) q r x.skips y.skips f o w e)
        (λ k i. rw (w k) (gives_two (value_reader (lent E)) (value_reader (lent E)) (IsValue E (n + 1) a p) (IsValue E p b m) (IsValue E n (g a b) m) f s (at + 1) q x.skips x.means y.means (λ d e u v. (rw (l d e, u.0, v.0), rw (t d e) (count_two n (value_count d E) (value_count e E) p m u.1 v.1))) k i))

    pub evaluates_less : get_or s at 0 ≡ 4 → EvaluatesCondition E s at n r (bit (less_word a b)) m
    unfolding condition_operator holds condition_count
    evaluates_less e = compared less_word less op_less (λ k t. refl) (λ d e. refl) (λ d e. refl) (ap condition_operator e)

    pub evaluates_equal : get_or s at 0 ≡ 5 → EvaluatesCondition E s at n r (bit (equal_word a b)) m
    unfolding condition_operator holds condition_count
    evaluates_equal e = compared equal_word equal op_equal (λ k t. refl) (λ d e. refl) (λ d e. refl) (ap condition_operator e)

    pub evaluates_plus : get_or s at 0 ≡ 20 → EvaluatesValue E s at n r (plus_word a b) m
    unfolding value_operator word value_count
    evaluates_plus e = joined plus_word plus op_plus (λ k t. refl) (λ d e. refl) (λ d e. refl) (ap value_operator e)

    pub evaluates_minus : get_or s at 0 ≡ 21 → EvaluatesValue E s at n r (minus_word a b) m
    unfolding value_operator word value_count
    evaluates_minus e = joined minus_word minus op_minus (λ k t. refl) (λ d e. refl) (λ d e. refl) (ap value_operator e)

    pub evaluates_within : (t k l : ℕ) → get_or s at 0 ≡ 6 → EvaluatesValue E s r m t k l → EvaluatesCondition E s at n t (bit (within_word a b k)) l
    unfolding condition_operator holds condition_count
    evaluates_within t k l e z =
        condition_evaluates op_within t (bit (within_word a b k)) l (ap condition_operator e) z.few (skips_within (lent E) s at h q r t y.skips z.skips e x.skips)
        (gives_three (value_reader (lent E)) (value_reader (lent E)) (value_reader (lent E)) (IsValue E (n + 1) a p) (IsValue E p b m) (IsValue E m k l) (IsCondition E n (bit (within_word a b k)) l) within s (at + 1) q r x.skips y.skips x.means y.means z.means (λ d f g i j o. (rw (i.0, j.0, o.0), count_three n (value_count d E) (value_count f E) (value_count g E) p m l i.1 j.1 o.1)))

  module _ (q r t u p m : ℕ) (x : EvaluatesCondition E s (at + 1) (n + 1) q u p) where
    choose_with : (w : ℕ) (P Q : Value → Type 0) → m ≤ t → Skips (value_reader (lent E)) s q r → Skips (value_reader (lent E)) s r t → Known P (value_reader (lent E)) s q → Known Q (value_reader (lent E)) s r → get_or s at 0 ≡ 22 → ((c : Condition) (e f : Value) → IsCondition E (n + 1) u p c → P e → Q f → IsValue E n w m (choose c e f)) → EvaluatesValue E s at n t w m
    unfolding value_operator
    choose_with w P Q i y z k l e g = value_evaluates op_choose t w m (ap value_operator e) i (skips_choose (lent E) s at h q r t y z e x.skips) (gives_three (condition_reader (lent E)) (value_reader (lent E)) (value_reader (lent E)) (IsCondition E (n + 1) u p) P Q (IsValue E n w m) choose s (at + 1) q r x.skips y x.means k l g)

    pub choose_left : (w l : ℕ) → get_or s at 0 ≡ 22 → u ≡ 1 → EvaluatesValue E s q p r w l → Skips (value_reader (lent E)) s r t → m ≡ l → EvaluatesValue E s at n t w m
    unfolding word value_count
    choose_left w l e i y z j = choose_with w (IsValue E p w l) (λ f. Unit {0}) (omega (arith, y.few, z.low)) y.skips z y.means (λ k d. gives_any (value_reader (lent E) k (drop r s))) e (λ c e f a b o. rw (bit_true (holds c E) u a.0 i) (b.0, count_two n (condition_count c E) (value_count e E) p m a.1 (j ∙ b.1)))

    pub choose_right : (w l : ℕ) → get_or s at 0 ≡ 22 → (u ≡ 1 → ⊥) → Skips (value_reader (lent E)) s q r → l ≡ p → EvaluatesValue E s r l t w m → EvaluatesValue E s at n t w m
    unfolding word value_count
    choose_right w l e i y j z = choose_with w (λ e. Unit {0}) (IsValue E l w m) z.few y z.skips (λ k d. gives_any (value_reader (lent E) k (drop q s))) z.means e (λ c e f a o b. rw (bit_false (holds c E) u a.0 i) (b.0, count_two n (condition_count c E) (value_count f E) l m (j ∙ a.1) b.1))

  pub no_condition_there : condition_operator (get_or s at 0) ≡ no_condition → EvaluatesCondition E s at n (length s + 1) (bit false) 0
  no_condition_there e = condition_evaluates no_condition (length s + 1) 0 0 e (omega arith) (skips_no_condition (lent E) s at h e) (λ k d. tt)

  no_value_there : value_operator (get_or s at 0) ≡ no_value → EvaluatesValue E s at n (length s + 1) 0 0
  no_value_there e = value_evaluates no_value (length s + 1) 0 0 e (omega arith) (skips_no_value (lent E) s at h e) (λ k d. tt)

  value_short : length s ≤ at + 1 → EvaluatesValue E s at n (length s + 1) 0 0
  value_short g =
      let o = value_operator (get_or s at 0) in
      value_evaluates o (length s + 1) 0 0 refl (omega arith) (skips_short (lent E) s at h g) (λ k d. none_short (lent E) s at h (Gives (IsValue E n 0 0)) tt o g k)

  -- a constant
  literal_means : at + 5 ≤ length s → Gives (IsValue E n (literal_at s at) (n + 1)) (literal (drop (at + 1) s))
  unfolding word value_count
  literal_means e = rw (literal_at_lem s at e, le-leb (at + 5) (length s) e) (refl, refl)

  pub evaluates_literal : n ≤ at → get_or s at 0 ≡ 16 → at + 5 ≤ length s → EvaluatesValue E s at n (at + 5) (literal_at s at) (n + 1)
  unfolding value_operator
  evaluates_literal i e f = value_evaluates op_constant (at + 5) (literal_at s at) (n + 1) (ap value_operator e) (omega arith) (skips_literal (lent E) s at h (at + 5) e (rw (le-leb (at + 5) (length s) f))) (λ k d. literal_means f)

  pub no_literal : get_or s at 0 ≡ 16 → length s < at + 5 → EvaluatesValue E s at n (length s + 1) 0 0
  unfolding value_operator
  no_literal e f = value_evaluates op_constant (length s + 1) 0 0 (ap value_operator e) (omega arith) (skips_literal (lent E) s at h (length s + 1) e (rw (lt-leb (at + 5) (length s) f))) (λ k d. rw (literal_short s at f) tt)

  -- a variable of any kind
  module _ (g : at + 1 < length s) (kind : ℕ → Variable) (values : List ℕ) (lends : (i : ℕ) → is_lent (lent E) (kind i) ≡ ltb i (length values)) (reads : (i : ℕ) → value_of (kind i) E ≡ get_or values i 0) (o : ValueOperator) (w : (k : ℕ) (t : List ℕ) → value_with (lent E) (condition_reader (lent E) k) (value_reader (lent E) k) o t ≡ numbered (lent E) kind t) (e : value_operator (get_or s at 0) ≡ o) where
    evaluates_variable : n ≤ at → get_or s (at + 1) 0 < length values → EvaluatesValue E s at n (at + 2) (variable_at s at values) (n + 1)
    unfolding word value_count
    evaluates_variable i f =
        value_evaluates o (at + 2) (variable_at s at values) (n + 1) e (omega arith) (skips_variable (lent E) s at h kind o (length values) (at + 2) lends w e (rw (lt-ltb (at + 1) (length s) g, lt-ltb (get_or s (at + 1) 0) (length values) f)))
        (λ k d. rw (w k, numbered_at s at (lent E) kind g, lends, lt-ltb (get_or s (at + 1) 0) (length values) f, lt-ltb (at + 1) (length s) g) (sym (reads (get_or s (at + 1) 0)), refl))

    no_variable : length values ≤ get_or s (at + 1) 0 → EvaluatesValue E s at n (length s + 1) 0 0
    no_variable f =
        value_evaluates o (length s + 1) 0 0 e (omega arith) (skips_variable (lent E) s at h kind o (length values) (length s + 1) lends w e (rw (lt-ltb (at + 1) (length s) g, le-ltb (get_or s (at + 1) 0) (length values) f)))
        (λ k d. rw (w k, numbered_at s at (lent E) kind g, lends, le-ltb (get_or s (at + 1) 0) (length values) f) tt)

-- what is read without a call: a constant, and a variable
module _ (c : ℕ) where
  place_two : c % 65536 + 2 < 65536 → (c + 65538) % 65536 ≡ c % 65536 + 2
  place_two h = omega arith

  count_after_two : c % 65536 + 2 < 65536 → (c + 65538) / 65536 ≡ c / 65536 + 1
  count_after_two h = omega arith

  place_five : c % 65536 + 5 < 65536 → (c + 65541) % 65536 ≡ c % 65536 + 5
  place_five h = omega arith

  count_after_five : c % 65536 + 5 < 65536 → (c + 65541) / 65536 ≡ c / 65536 + 1
  count_after_five h = omega arith

module _ (E : Environment) (s : List ℕ) (c : ℕ) (z : Cursor s c) (h : c % 65536 + 1 < length s) (q w : ℕ) where
  constant_leaf : get_or s (c % 65536) 0 ≡ 16 → LiteralTried s c (c % 65536) q w → LeafEvaluated E s c q w
  constant_leaf e t =
      let few : c % 65536 + 5 ≤ length s → c % 65536 + 5 < 65536 = λ f. omega (arith, z.0) in
      record {
        found = λ g. rw ((t.found g).1.0, (t.found g).1.1, place_five c (few (t.found g).0), count_after_five c (few (t.found g).0)) (evaluates_literal E s (c % 65536) (c / 65536) (omega arith) z.1.1 e (t.found g).0);
        none = λ g n. no_literal E s (c % 65536) (c / 65536) n.0 e (t.none g);
      }

  module _ (kind : ℕ → Variable) (values : List ℕ) (lends : (i : ℕ) → is_lent (lent E) (kind i) ≡ ltb i (length values)) (reads : (i : ℕ) → value_of (kind i) E ≡ get_or values i 0) (o : ValueOperator) (v : (k : ℕ) (t : List ℕ) → value_with (lent E) (condition_reader (lent E) k) (value_reader (lent E) k) o t ≡ numbered (lent E) kind t) (e : value_operator (get_or s (c % 65536) 0) ≡ o) where
    leaf_kind : VariableTried s c (c % 65536) values q w → LeafEvaluated E s c q w
    leaf_kind t =
        let few : c % 65536 + 2 < 65536 = omega (arith, z.0) in
        record {
          found = λ g. rw ((t.found g).1.0, (t.found g).1.1, place_two c few, count_after_two c few) (evaluates_variable E s (c % 65536) (c / 65536) (omega arith) h kind values lends reads o v e z.1.1 (t.found g).0);
          none = λ g n. no_variable E s (c % 65536) (c / 65536) n.0 h kind values lends reads o v e (t.none g);
        }

  program_leaf : get_or s (c % 65536) 0 ≡ 17 → VariableTried s c (c % 65536) E.programs q w → LeafEvaluated E s c q w
  unfolding value_operator is_lent value_of
  program_leaf e t = leaf_kind program E.programs (λ i. refl) (λ i. refl) op_program (λ k t. refl) (ap value_operator e) t

  monitor_leaf : get_or s (c % 65536) 0 ≡ 18 → VariableTried s c (c % 65536) E.monitors q w → LeafEvaluated E s c q w
  unfolding value_operator is_lent value_of
  monitor_leaf e t = leaf_kind monitor E.monitors (λ i. refl) (λ i. refl) op_monitor (λ k t. refl) (ap value_operator e) t

  entry_leaf : get_or s (c % 65536) 0 ≡ 19 → VariableTried s c (c % 65536) E.kept q w → LeafEvaluated E s c q w
  unfolding value_operator is_lent value_of
  entry_leaf e t = leaf_kind at_entry E.kept (λ i. refl) (λ i. refl) op_at_entry (λ k t. refl) (ap value_operator e) t

-- o is the byte there, and `at` the cursor's place
module _ (s : List ℕ) (c at : ℕ) (y : at ≡ c % 65536) where
  byte_there : (o : ℕ) → o ≡ get_or s at 0 → o ≡ get_or s (c % 65536) 0
  byte_there o e = e ∙ ap (λ (a : ℕ). get_or s a 0) y

  pub leaf_short : (E : Environment) → length s ≤ at + 1 → LeafEvaluated E s c 0 0
  leaf_short E g = tried_none (λ n. value_short E s (c % 65536) (c / 65536) n.0 (rw y at g))

  module _ (o : ℕ) (e : o ≡ get_or s at 0) where
    pub leaf_none : (E : Environment) → (o ≡ 16 → ⊥) → (o ≡ 17 → ⊥) → (o ≡ 18 → ⊥) → (o ≡ 19 → ⊥) → LeafEvaluated E s c 0 0
    leaf_none E f g i j =
        let p = byte_there o e in
        tried_none (λ n. no_value_there E s (c % 65536) (c / 65536) n.0 (no_value_lem (get_or s (c % 65536) 0) (rw p at f) (rw p at g) (rw p at i) (rw p at j) n.1.0 n.1.1.0 n.1.1.1))

    module _ (z : Cursor s c) (h : at + 1 < length s) (q w : ℕ) where
      pub leaf_literal : (E : Environment) → o ≡ 16 → LiteralTried s c at q w → LeafEvaluated E s c q w
      leaf_literal E f t = constant_leaf E s c z (rw y at h) q w (sym (byte_there o e) ∙ f) (rw y at t)

one_of_three : (o : ℕ) → 17 ≤ o → o ≤ 19 → (o ≡ 17) ⊎ ((o ≡ 18) ⊎ (o ≡ 19))
one_of_three o i j = go (ltb 17 o) refl (ltb 18 o) refl
  where
    go : (a : Bool) → ltb 17 o ≡ a → (b : Bool) → ltb 18 o ≡ b → (o ≡ 17) ⊎ ((o ≡ 18) ⊎ (o ≡ 19))
    go false e b f = let h = ltb-false 17 o e in inl (omega arith)
    go true e false f = let h = ltb-true 17 o e in let g = ltb-false 18 o f in inr (inl (omega arith))
    go true e true f = let h = ltb-true 18 o f in inr (inr (omega arith))

-- a variable's kind is the slice at its operator's place among three
module _ (l : List (Bor (List ℕ))) (s : List ℕ) (c at : ℕ) (y : at ≡ c % 65536) (z : Cursor s c) (h : at + 1 < length s) (q w : ℕ) where
  pub leaf_variable : (o : ℕ) → o ≡ get_or s at 0 → 17 ≤ o → o ≤ 19 → VariableTried s c at (bank l (o - 17)) q w → LeafEvaluated (banks l) s c q w
  unfolding banks
  leaf_variable o e i j t =
      let of : (n : ℕ) → o ≡ n → VariableTried s c (c % 65536) (bank l (n - 17)) q w = λ n f. subst (λ (m : ℕ). VariableTried s c (c % 65536) (bank l (m - 17)) q w) f (subst (λ (a : ℕ). VariableTried s c a (bank l (o - 17)) q w) y t) in
      let there : (n : ℕ) → o ≡ n → get_or s (c % 65536) 0 ≡ n = λ n f. sym (byte_there s c at y o e) ∙ f in
      let k : c % 65536 + 1 < length s = rw y at h in
      ⊎_elim (λ f. program_leaf (banks l) s c z k q w (there 17 f) (of 17 f))
      (⊎_elim (λ f. monitor_leaf (banks l) s c z k q w (there 18 f) (of 18 f)) (λ f. entry_leaf (banks l) s c z k q w (there 19 f) (of 19 f)))
      (one_of_three o i j)

-- what the small functions give
module _ (s : List ℕ) (c at w : ℕ) where
  pub literal_found : at + 5 ≤ length s → w ≡ big_endian (get_or s (at + 1) 0) (get_or s (at + 2) 0) (get_or s (at + 3) 0) (get_or s (at + 4) 0) → LiteralTried s c at (c + 65541) w
  literal_found h e = rw (le-leb (at + 5) (length s) h) (tried (c + 65541) (omega arith) (h, (refl, e)))

  module _ (values : List ℕ) (i : ℕ) (e : i ≡ get_or s (at + 1) 0) where
    pub variable_found : at + 1 < length s → i < length values → w ≡ get_or values i 0 → VariableTried s c at values (c + 65538) w
    variable_found h f g = rw (lt-ltb (at + 1) (length s) h, ← e, lt-ltb i (length values) f) (tried (c + 65538) (omega arith) (f, (refl, g)))

    pub variable_none : length values ≤ i → VariableTried s c at values 0 w
    variable_none f = tried_none (rw e at f)

pub passes : {A : Type 0} (R : ℕ → Reader A) (s : List ℕ) (c r : ℕ) → length s ≤ 65534 → Skips R s (c % 65536) r → Passes R s c (r + c / 65536 * 65536)
passes R s c r z x =
    let e : (r + c / 65536 * 65536) % 65536 ≡ r = omega (arith, x.high) in
    let f : (r + c / 65536 * 65536) / 65536 ≡ c / 65536 = omega (arith, x.high) in
    record { skips = rw e x; count = f }

-- an operand that was read, or judged, by a call or without
module _ (E : Environment) (s : List ℕ) (c : ℕ) where
  pub operand : {A B T : Type 0} (l a : T) (next word : T → ℕ) → LeafEvaluated E s c (next l) (word l) → A ⊎ B → (A → ValueAt E s c (next a) (word a)) → (B → (next l ≡ 0 → ⊥) × (a ≡ l)) → ValueAt E s c (next a) (word a)
  operand l a next word x o f g = either_way (λ t. ValueAt E s c (next t) (word t)) next l a x o f g

  pub sub_condition : {A B : Type 0} (q a : ℕ) → SimpleEvaluated E s c q → A ⊎ B → (A → ConditionAt E s c (a / 2) (a % 2)) → (B → (q ≡ 0 → ⊥) × (a ≡ q)) → ConditionAt E s c (a / 2) (a % 2)
  sub_condition q a x o f g = either_way (λ (r : ℕ). ConditionAt E s c (r / 2) (r % 2)) (λ (r : ℕ). r) q a x o f g

  pub as_simple : (q : ℕ) (b : Bool) (r : ℕ) → Judged q b r → (q ≡ 0 → ⊥) → EvaluatesCondition E s (c % 65536) (c / 65536) (q % 65536) (bit b) (q / 65536) → SimpleEvaluated E s c r
  as_simple q b r j f x = tried r (omega (arith, j.place)) (as_judged E s (c % 65536) (c / 65536) q b r j x)

  pub true_at : Cursor s c → c % 65536 < length s → get_or s (c % 65536) 0 ≡ 0 → EvaluatesCondition E s (c % 65536) (c / 65536) ((c + 65537) % 65536) (bit true) ((c + 65537) / 65536)
  true_at z h e = rw (place_on c (inside s z.0 c h), count_on c (inside s z.0 c h)) (evaluates_true E s (c % 65536) (c / 65536) h z.1.1 e)
