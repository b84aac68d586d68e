-- No more is counted than there are bytes. Assumes nothing.
use Rattle.std.proofs.Common.{◌≡◌, ℕ, ◌+◌, ◌≤◌, Bool, true, false, cond, leb, List, [], ◌∷◌, ◌++◌, length, drop, refl, ap, subst, arith, length-append, leb-true}
use mathlib.Core.Option.{Option, none, some}
use Rattle.condition.specs.Tree.{program, monitor, at_entry, Condition, always, negation, both, either, less, equal, within, Value, constant, variable, plus, minus, choose, Assignment, condition_bytes, value_bytes, variable_bytes, action_bytes}
use Rattle.condition.specs.Parse.{Parsed, malformed, parsed, condition_from, parse_condition, parse_value, parse_action}
use Rattle.condition.specs.Meaning.{Environment, lent, holds, assigned}
use Rattle.condition.specs.Count.{condition_count, value_count, action_count}
use Rattle.condition.specs.Answer.{sized, action_sized, count_in, count_of, count_from, condition_counted, value_counted, run_counted, action_counted}
use Rattle.condition.proofs.Parsing.{condition_exact, condition_whole, value_whole, action_whole}

-- one of two, or none
left_only : (b : Bool) (x n : ℕ) → x ≤ n → cond b x 0 ≤ n
left_only true x n h = h
left_only false x n h = omega arith

right_only : (b : Bool) (x n : ℕ) → x ≤ n → cond b 0 x ≤ n
right_only true x n h = omega arith
right_only false x n h = h

either_of : (b : Bool) (x y n m : ℕ) → x ≤ n → y ≤ m → cond b x y ≤ n + m
either_of true x y n m h i = omega arith
either_of false x y n m h i = omega arith

mutual
  unfolding condition_count value_count condition_bytes value_bytes variable_bytes

  pub condition_few : (c : Condition) (E : Environment) → condition_count c E ≤ length (condition_bytes c)
  condition_few always E = omega arith
  condition_few (negation c) E = omega (arith, condition_few c E)
  condition_few (both c d) E = rw (length-append (condition_bytes c) (condition_bytes d)) (omega (arith, condition_few c E, left_only (holds c E) (condition_count d E) (length (condition_bytes d)) (condition_few d E)))
  condition_few (either c d) E = rw (length-append (condition_bytes c) (condition_bytes d)) (omega (arith, condition_few c E, right_only (holds c E) (condition_count d E) (length (condition_bytes d)) (condition_few d E)))
  condition_few (less e f) E = rw (length-append (value_bytes e) (value_bytes f)) (omega (arith, value_few e E, value_few f E))
  condition_few (equal e f) E = rw (length-append (value_bytes e) (value_bytes f)) (omega (arith, value_few e E, value_few f E))
  condition_few (within e f g) E = rw (length-append (value_bytes e) (value_bytes f ++ value_bytes g), length-append (value_bytes f) (value_bytes g)) (omega (arith, value_few e E, value_few f E, value_few g E))

  pub value_few : (e : Value) (E : Environment) → value_count e E ≤ length (value_bytes e)
  value_few (constant a b c d) E = omega arith
  value_few (variable (program i)) E = omega arith
  value_few (variable (monitor i)) E = omega arith
  value_few (variable (at_entry i)) E = omega arith
  value_few (plus e f) E = rw (length-append (value_bytes e) (value_bytes f)) (omega (arith, value_few e E, value_few f E))
  value_few (minus e f) E = rw (length-append (value_bytes e) (value_bytes f)) (omega (arith, value_few e E, value_few f E))
  value_few (choose c e f) E = rw (length-append (condition_bytes c) (value_bytes e ++ value_bytes f), length-append (value_bytes e) (value_bytes f)) (omega (arith, condition_few c E, either_of (holds c E) (value_count e E) (value_count f E) (length (value_bytes e)) (length (value_bytes f)) (value_few e E) (value_few f E)))

pub action_few : (a : List Assignment) (E : Environment) → action_count a E ≤ length (action_bytes a)
unfolding action_count action_bytes
action_few [] E = omega arith
action_few (a ∷ more) E = rw (length-append (value_bytes a.source) (action_bytes more)) (omega (arith, value_few a.source E, action_few more (assigned a E)))

-- of bytes that are one by the grammar or not, and have the right length or not
counted_few : {A : Type 0} (g : A → ℕ) (bytes : A → List ℕ) (s : List ℕ) → ((a : A) → g a ≤ length (bytes a)) → (o : Option A) → ((a : A) → o ≡ some a → s ≡ bytes a) → (b : Bool) → cond b (count_in o g) 0 ≤ length s
counted_few g bytes s few o w false = omega arith
counted_few g bytes s few none w true = omega arith
counted_few g bytes s few (some a) w true = omega (arith, few a, ap length (w a refl))

module _ (s : List ℕ) (E : Environment) where
  pub condition_counted_few : condition_counted s E ≤ length s
  unfolding condition_counted
  condition_counted_few = counted_few (λ c. condition_count c E) condition_bytes s (λ c. condition_few c E) (parse_condition (lent E) s) (λ c h. condition_whole (lent E) s h) (sized s)

  pub value_counted_few : value_counted s E ≤ length s
  unfolding value_counted
  value_counted_few = counted_few (λ e. value_count e E) value_bytes s (λ e. value_few e E) (parse_value (lent E) s) (λ e h. value_whole (lent E) s h) (sized s)

  pub action_counted_few : action_counted s E ≤ length s
  unfolding action_counted run_counted
  action_counted_few = counted_few (λ a. action_count a E) action_bytes s (λ a. action_few a E) (parse_action (lent E) s) (λ a h. action_whole (lent E) s h) (action_sized s)

  -- and of an action of the right length
  pub action_counted_most : action_counted s E ≤ 64
  unfolding action_counted
  action_counted_most = go (action_sized s) refl
    where
      go : (b : Bool) → action_sized s ≡ b → cond b (run_counted s E) 0 ≤ 64
      go true h = omega (arith, leb-true (length s) 64 h, subst (λ (b : Bool). cond b (run_counted s E) 0 ≤ length s) h action_counted_few)
      go false h = omega arith

-- what the bytes begin with
pub front_few : (k : ℕ) (t : List ℕ) (E : Environment) → count_of E (condition_from k (lent E) t) ≤ length t
front_few k t E = go (condition_from k (lent E) t) refl
  where
    go : (x : Parsed Condition) → condition_from k (lent E) t ≡ x → count_of E x ≤ length t
    go malformed h = omega arith
    go (parsed c r) h = omega (arith, condition_few c E, ap length (condition_exact k (lent E) t h), length-append (condition_bytes c) r)

pub from_few : (s : List ℕ) (at : ℕ) (E : Environment) → count_from s at E ≤ 65534
unfolding count_from
from_few s at E = go (leb (length (drop at s)) 65534) refl
  where
    go : (b : Bool) → leb (length (drop at s)) 65534 ≡ b → cond b (count_of E (condition_from (length (drop at s)) (lent E) (drop at s))) 0 ≤ 65534
    go true h = omega (arith, leb-true (length (drop at s)) 65534 h, front_few (length (drop at s)) (drop at s) E)
    go false h = omega arith
