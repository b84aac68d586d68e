-- From where a whole condition, value or action ends to the operations' answers. Assumes nothing.
use Rattle.std.proofs.Common.{◌≡◌, ℕ, ◌+◌, ◌-◌, ◌<◌, ◌≤◌, Bool, true, false, cond, not, ◌&&◌, eqb, leb, List, [], ◌∷◌, length, take, drop, sym, refl, ap, ◌∙◌, arith, length-drop, drop_of_length-le, take_all, eq-eqb, ne_eqb, eqb-true, le-leb, leb-true}
use mathlib.Core.Option.{Option, none, some}
use borrow.Author.Tests.{lt-leb, eqb-false}
use lib.Seq.{drop-length}
use Rattle.condition.specs.declared.Lent.{Lent}
use Rattle.condition.specs.Tree.{Condition, condition_names, action_names, is_monitor, is_at_entry}
use Rattle.condition.specs.Parse.{Parsed, malformed, parsed, Reader, exactly, condition_from, parse_condition, parse_value, parse_action}
use Rattle.condition.specs.Meaning.{Environment, lent, holds}
use Rattle.condition.specs.Answer.{refused, given, sized, longest, action_sized, longest_action, condition_outcome, value_outcome, condition_counted, value_counted, truth_of, count_of, holds_from, count_from, run_outcome, action_outcome, run_counted, action_counted, whether, condition_which, action_which}
use Rattle.condition.specs.Word.{signed}
use Rattle.condition.specs.Walk.{bit, Ends, Skips, Means, condition_reader, value_reader, condition_bit, value_word, condition_reached, value_reached, EvaluatesCondition, EvaluatesValue, Cursor}
use Rattle.condition.proofs.Walking.{condition_nil}
use Rattle.condition.proofs.Naming.{unkept, unmonitored, entry_narrow, monitor_narrow, action_entry_narrow}

pub sized_length : (s : List ℕ) → sized s ≡ true → length s ≤ longest
sized_length s e = go (leb 1 (length s)) (leb (length s) longest) refl e
  where
    go : (a b : Bool) → leb (length s) longest ≡ b → (a && b) ≡ true → length s ≤ longest
    go a true f e = leb-true (length s) longest f
    go true false f e = absurd (omega (arith, ap bit e))
    go false false f e = absurd (omega (arith, ap bit e))

-- short enough to be walked over from the start
pub walkable : (s : List ℕ) → sized s ≡ true → Cursor s 0
walkable s e = (omega (arith, sized_length s e), (omega arith, omega arith))

-- what ends just at the end is one and nothing behind it; anything else is not exactly one
module _ {A : Type 0} (s : List ℕ) (q : ℕ) where
  ends_whole : (p : Parsed A) → Ends s q p → q ≡ length s → (a : A) × (p ≡ parsed a [])
  ends_whole malformed e h = absurd (omega arith)
  ends_whole (parsed a rest) e h = (a, ap (parsed a) (sym e.0 ∙ ap (λ (n : ℕ). drop n s) h ∙ drop-length s))

  ends_elsewhere : (p : Parsed A) → Ends s q p → (q ≡ length s → ⊥) → exactly p ≡ none
  ends_elsewhere malformed e h = refl
  ends_elsewhere (parsed a []) e h = absurd (h (omega (arith, e.1, sym (length-drop q s) ∙ ap length e.0)))
  ends_elsewhere (parsed a (b ∷ t)) e h = refl

module _ {A : Type 0} (R : ℕ → Reader A) (s : List ℕ) (q : ℕ) (x : Skips R s 0 q) where
  pub whole : q ≡ length s → (a : A) × (R (length s) s ≡ parsed a [])
  whole h = ends_whole s q (R (length s) s) (x.ends (length s) (omega arith)) h

  pub elsewhere : (q ≡ length s → ⊥) → exactly (R (length s) s) ≡ none
  elsewhere h = ends_elsewhere s q (R (length s) s) (x.ends (length s) (omega arith)) h

bit_one : (b : Bool) (w : ℕ) → w ≡ bit b → eqb w 1 ≡ b
bit_one true w e = eq-eqb w 1 e
bit_one false w e = ne_eqb w 1 (λ h. omega arith)

-- the meaning and the count of the one that was parsed
means_parsed : {A : Type 0} (f g : A → ℕ) (w m : ℕ) (a : A) (p : Parsed A) → p ≡ parsed a [] → Means f g 0 w m p → (w ≡ f a) × (m ≡ g a)
means_parsed f g w m a p e x = let y : (w ≡ f a) × (m ≡ 0 + g a) = rw e at x in (y.0, omega (arith, y.1))

module _ (s : List ℕ) (E : Environment) where
  pub condition_length : sized s ≡ false → (refused 4 ≡ condition_outcome s E) × (0 ≡ condition_counted s E)
  unfolding condition_outcome condition_counted
  condition_length e = rw e (refl, refl)

  pub value_length : sized s ≡ false → (refused 4 ≡ value_outcome s E) × (0 ≡ value_counted s E)
  unfolding value_outcome value_counted
  value_length e = rw e (refl, refl)

  module _ (z : sized s ≡ true) (q w m : ℕ) where
    pub condition_answer : EvaluatesCondition E s 0 0 q w m → q ≡ length s → (given (eqb w 1) ≡ condition_outcome s E) × (m ≡ condition_counted s E)
    unfolding condition_outcome condition_counted parse_condition
    condition_answer x h =
        let y = whole (condition_reader (lent E)) s q x.skips h in
        let a = means_parsed (condition_bit E) (condition_reached E) w m y.0 (condition_reader (lent E) (length s) s) y.1 (x.means (length s) (omega arith)) in
        rw (z, y.1) (ap given (bit_one (holds y.0 E) w a.0), a.1)

    pub condition_malformed : EvaluatesCondition E s 0 0 q w m → (q ≡ length s → ⊥) → (refused 5 ≡ condition_outcome s E) × (0 ≡ condition_counted s E)
    unfolding condition_outcome condition_counted parse_condition
    condition_malformed x h = rw (z, elsewhere (condition_reader (lent E)) s q x.skips h) (refl, refl)

    pub value_answer : EvaluatesValue E s 0 0 q w m → q ≡ length s → (given (signed w) ≡ value_outcome s E) × (m ≡ value_counted s E)
    unfolding value_outcome value_counted parse_value
    value_answer x h =
        let y = whole (value_reader (lent E)) s q x.skips h in
        let a = means_parsed (value_word E) (value_reached E) w m y.0 (value_reader (lent E) (length s) s) y.1 (x.means (length s) (omega arith)) in
        rw (z, y.1) (ap (λ (v : ℕ). given (signed v)) a.0, a.1)

    pub value_malformed : EvaluatesValue E s 0 0 q w m → (q ≡ length s → ⊥) → (refused 5 ≡ value_outcome s E) × (0 ≡ value_counted s E)
    unfolding value_outcome value_counted parse_value
    value_malformed x h = rw (z, elsewhere (value_reader (lent E)) s q x.skips h) (refl, refl)

-- what some bytes begin with
module _ (E : Environment) (t : List ℕ) (q w m : ℕ) where
  front_there : (p : Parsed Condition) → Ends t q p → Means (condition_bit E) (condition_reached E) 0 w m p → q ≤ length t → (eqb w 1 ≡ truth_of E p) × (m ≡ count_of E p)
  front_there malformed e x h = absurd (omega arith)
  front_there (parsed c rest) e x h = (bit_one (holds c E) w x.0, omega (arith, x.1))

  front_none : (p : Parsed Condition) → Ends t q p → length t < q → (false ≡ truth_of E p) × (0 ≡ count_of E p)
  front_none malformed e h = (refl, refl)
  front_none (parsed c rest) e h = absurd (omega (arith, e.1))

-- what is lent from a place on is all that is left
pub rest_all : (s : List ℕ) (a : ℕ) → take (length s - a) (drop a s) ≡ drop a s
rest_all s a = take_all (length s - a) (drop a s) (omega (arith, length-drop a s))

-- at a place, what the bytes from there on begin with
module _ (s : List ℕ) (at : ℕ) (E : Environment) where
  pub place_past : length s ≤ at → (false ≡ holds_from s at E) × (0 ≡ count_from s at E)
  unfolding holds_from count_from
  place_past h = rw (drop_of_length-le s {i = at} h, condition_nil (lent E) 0) (refl, refl)

  module _ (t : List ℕ) (e : t ≡ drop at s) where
    pub place_long : 65534 < length t → (false ≡ holds_from s at E) × (0 ≡ count_from s at E)
    unfolding holds_from count_from
    place_long h = rw (← e, lt-leb (length t) 65534 h) (refl, refl)

    module _ (z : length t ≤ 65534) (q w m : ℕ) (x : EvaluatesCondition E t 0 0 q w m) where
      pub place_answer : q ≤ length t → (eqb w 1 ≡ holds_from s at E) × (m ≡ count_from s at E)
      unfolding holds_from count_from
      place_answer h = rw (← e, le-leb (length t) 65534 z) (front_there E t q w m (condition_from (length t) (lent E) t) (x.skips.ends (length t) (omega arith)) (x.means (length t) (omega arith)) h)

      pub place_malformed : length t < q → (false ≡ holds_from s at E) × (0 ≡ count_from s at E)
      unfolding holds_from count_from
      place_malformed h = rw (← e, le-leb (length t) 65534 z) (front_none E t q w m (condition_from (length t) (lent E) t) (x.skips.ends (length t) (omega arith)) h)

-- whether the bytes are a condition at all
module _ (L : Lent) (s : List ℕ) where
  pub no_length : sized s ≡ false → false ≡ condition_which (λ _. true) L s
  unfolding condition_which
  no_length e = rw e

  pub is_one : sized s ≡ true → (q : ℕ) → Skips (condition_reader L) s 0 q → eqb q (length s) ≡ condition_which (λ _. true) L s
  unfolding condition_which parse_condition
  is_one e q x = rw e (go (eqb q (length s)) refl)
    where
      go : (b : Bool) → eqb q (length s) ≡ b → b ≡ whether (exactly (condition_reader L (length s) s)) (λ _. true)
      go true h = rw (whole (condition_reader L) s q x (eqb-true q (length s) h)).1
      go false h = rw (elsewhere (condition_reader L) s q x (eqb-false q (length s) h))

-- what is one for some counts and not for fewer names a variable of the kind that was taken away
narrowed : {A : Type 0} (b : Bool) (x y : Option A) (p : A → Bool) → ((a : A) → x ≡ some a → y ≡ cond (p a) none (some a)) → ((b && whether x (λ _. true)) && not (b && whether y (λ _. true))) ≡ (b && whether x p)
narrowed false x y p h = refl
narrowed true none y p h = refl
narrowed true (some a) y p h = rw (h a refl) (go (p a))
  where
    go : (t : Bool) → not (whether (cond t none (some a)) (λ _. true)) ≡ t
    go true = refl
    go false = refl

module _ (L : Lent) (s : List ℕ) where
  pub has_entry : (condition_which (λ _. true) L s && not (condition_which (λ _. true) (unkept L) s)) ≡ condition_which (λ c. condition_names c is_at_entry) L s
  unfolding condition_which
  has_entry = narrowed (sized s) (parse_condition L s) (parse_condition (unkept L) s) (λ c. condition_names c is_at_entry) (λ c e. entry_narrow L s e)

  pub has_monitor : (condition_which (λ _. true) L s && not (condition_which (λ _. true) (unmonitored L) s)) ≡ condition_which (λ c. condition_names c is_monitor) L s
  unfolding condition_which
  has_monitor = narrowed (sized s) (parse_condition L s) (parse_condition (unmonitored L) s) (λ c. condition_names c is_monitor) (λ c e. monitor_narrow L s e)

  pub run_has_entry : (action_which (λ _. true) L s && not (action_which (λ _. true) (unkept L) s)) ≡ action_which (λ a. action_names a is_at_entry) L s
  unfolding action_which
  run_has_entry = narrowed (action_sized s) (parse_action L s) (parse_action (unkept L) s) (λ a. action_names a is_at_entry) (λ a e. action_entry_narrow L s e)

-- The same where the second is asked first: no where it holds, and else as the first.
module _ (a b c : Bool) (h : (a && not b) ≡ c) where
  pub none_named : b ≡ true → false ≡ c
  none_named e = go a (rw e at h)
    where
      go : (x : Bool) → (x && false) ≡ c → false ≡ c
      go true k = k
      go false k = k

  pub some_named : b ≡ false → a ≡ c
  some_named e = go a (rw e at h)
    where
      go : (x : Bool) → (x && true) ≡ c → x ≡ c
      go true k = k
      go false k = k

-- an action may be empty
action_sized_lem : (s : List ℕ) → length s ≤ longest_action → action_sized s ≡ true
action_sized_lem s h = le-leb (length s) longest_action h

action_long : (s : List ℕ) → longest_action < length s → action_sized s ≡ false
action_long s h = lt-leb (length s) longest_action h

module _ (s : List ℕ) where
  pub run_long : (L : Lent) → longest_action < length s → false ≡ action_which (λ _. true) L s
  unfolding action_which
  run_long L h = rw (action_long s h)

  pub run_judged : (L : Lent) → length s ≤ longest_action → whether (parse_action L s) (λ _. true) ≡ action_which (λ _. true) L s
  unfolding action_which
  run_judged L h = rw (action_sized_lem s h)

  pub action_refused : (E : Environment) → longest_action < length s → (refused 4 ≡ action_outcome s E) × (0 ≡ action_counted s E)
  unfolding action_outcome action_counted
  action_refused E h = rw (action_long s h) (refl, refl)

  pub action_performed : (E : Environment) → length s ≤ longest_action → (run_outcome s E ≡ action_outcome s E) × (run_counted s E ≡ action_counted s E)
  unfolding action_outcome action_counted
  action_performed E h = rw (action_sized_lem s h) (refl, refl)
