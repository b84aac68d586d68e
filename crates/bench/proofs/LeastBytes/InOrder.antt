-- What is pending as a list of parts, in order: the numbers that the functions keep are the list's. Assumes nothing.
use mathlib.Core.Path.{◌≡◌, refl, ap, ◌∙◌}
use mathlib.Core.Bool.{Bool, true, false, cond, ◌&&◌}
use mathlib.Core.List.{List, [], ◌∷◌}
use Prim.Native.Nat.{ℕ, zero, suc, ◌+◌, ◌-◌, ◌*◌, ◌/◌, ◌%◌, ◌≤◌, ◌<◌}
use native.Mathlib.Omega.{arith}
use lib.Dec.{eqb, ltb, leb}
use borrow.Author.Tests.{leb-true, lt-ltb}
use Rattle.condition.specs.Parse.{ConditionOperator, op_true, op_not, op_and, op_or, op_less, op_equal, op_within, no_condition, condition_operator, ValueOperator, op_constant, op_program, op_monitor, op_at_entry, op_plus, op_minus, op_choose, no_value, value_operator}
use Rattle.std.specs.Prelude.{Option, None as none, Some as some, option_map, option_and_then}
use Rattle.bench.specs.declared.parts.Part.{Part}
use Rattle.bench.specs.declared.parts.Part.TheVariants.{Condition as a_condition, Value as a_value, Number as a_number}
use Rattle.bench.specs.declared.parts.Pending.{Pending}
use Rattle.bench.specs.Walk.{nothing, with_condition, with_value, with_number, with_part, less_condition, less_value, less_number, split_first, after_condition, after_value, after_part, after, fewest, enough, orders, fits, fitting, onward}
use Rattle.std.proofs.lemmas.Bool.{and_parts}

-- What an operator leaves to be written, in front of what follows it; none where it cannot stand there.
abbrev pub behind_condition : ConditionOperator → List Part → Option (List Part)
behind_condition op_true p = some p
behind_condition op_not p = some (a_condition ∷ p)
behind_condition op_and p = some (a_condition ∷ a_condition ∷ p)
behind_condition op_or p = some (a_condition ∷ a_condition ∷ p)
behind_condition op_less p = some (a_value ∷ a_value ∷ p)
behind_condition op_equal p = some (a_value ∷ a_value ∷ p)
behind_condition op_within p = some (a_value ∷ a_value ∷ a_value ∷ p)
behind_condition no_condition p = none

abbrev pub behind_value : ValueOperator → List Part → Option (List Part)
behind_value op_constant p = none
behind_value op_program p = some (a_number ∷ p)
behind_value op_monitor p = none
behind_value op_at_entry p = none
behind_value op_plus p = some (a_value ∷ a_value ∷ p)
behind_value op_minus p = some (a_value ∷ a_value ∷ p)
behind_value op_choose p = some (a_condition ∷ a_value ∷ a_value ∷ p)
behind_value no_value p = none

-- What is left to be written behind a byte.
unfoldable pub behind_list : List Part → ℕ → Option (List Part)
behind_list [] b = none
behind_list (a_condition ∷ p) b = behind_condition (condition_operator b) p
behind_list (a_value ∷ p) b = behind_value (value_operator b) p
behind_list (a_number ∷ p) b = cond (eqb b 0) (some p) none

abbrev pub behind : Option (List Part) → ℕ → Option (List Part)
behind none b = none
behind (some p) b = behind_list p b

-- The numbers that stand for it.
unfoldable pub counted : List Part → Pending
counted [] = nothing
counted (a ∷ p) = with_part a (counted p)

abbrev pub shown : Option (List Part) → Option Pending
shown o = option_map counted o

-- Exactly k bytes can hold it.
abbrev pub holds : ℕ → Option (List Part) → Bool
holds k none = false
holds k (some p) = enough (counted p) k

-- Behind a byte.
module _ (p : List Part) where
  condition_shown : (o : ConditionOperator) → after_condition o (counted p) ≡ shown (behind_condition o p)
  unfolding counted
  condition_shown op_true = refl
  condition_shown op_not = refl
  condition_shown op_and = refl
  condition_shown op_or = refl
  condition_shown op_less = refl
  condition_shown op_equal = refl
  condition_shown op_within = refl
  condition_shown no_condition = refl

  value_shown : (o : ValueOperator) → after_value o (counted p) ≡ shown (behind_value o p)
  unfolding counted
  value_shown op_constant = refl
  value_shown op_program = refl
  value_shown op_monitor = refl
  value_shown op_at_entry = refl
  value_shown op_plus = refl
  value_shown op_minus = refl
  value_shown op_choose = refl
  value_shown no_value = refl

module _ (p : Pending) where
  condition_less : less_condition (with_condition p) ≡ p
  condition_less = let e : (p.order * 4 + 1) / 4 ≡ p.order = omega arith in let f : p.conditions + 1 - 1 ≡ p.conditions = omega arith in rw (e, f)

  value_less : less_value (with_value p) ≡ p
  value_less = let e : (p.order * 4 + 2) / 4 ≡ p.order = omega arith in let f : p.values + 1 - 1 ≡ p.values = omega arith in rw (e, f)

  number_less : less_number (with_number p) ≡ p
  number_less = let e : (p.order * 4 + 3) / 4 ≡ p.order = omega arith in let f : p.numbers + 1 - 1 ≡ p.numbers = omega arith in rw (e, f)

pub split_shown : (a : Part) (p : List Part) → split_first (counted (a ∷ p)) ≡ some (a, counted p)
unfolding counted
split_shown a_condition p = let e : ((counted p).order * 4 + 1) % 4 ≡ 1 = omega arith in rw (e, condition_less (counted p))
split_shown a_value p = let e : ((counted p).order * 4 + 2) % 4 ≡ 2 = omega arith in rw (e, value_less (counted p))
split_shown a_number p = let e : ((counted p).order * 4 + 3) % 4 ≡ 3 = omega arith in rw (e, number_less (counted p))

pub after_shown : (p : List Part) (b : ℕ) → after (counted p) b ≡ shown (behind_list p b)
unfolding after counted behind_list
after_shown [] b = refl
after_shown (a ∷ p) b = ap (option_and_then (after_part b)) (split_shown a p) ∙ go a
  where
    number : (t : Bool) → cond t (some (counted p)) none ≡ shown (cond t (some p) none)
    number true = refl
    number false = refl

    go : (a : Part) → after_part b (a, counted p) ≡ shown (behind_list (a ∷ p) b)
    go a_condition = condition_shown p (condition_operator b)
    go a_value = value_shown p (value_operator b)
    go a_number = number (eqb b 0)

-- The order of what k bytes can hold is below 4 ^ k.
abbrev power : ℕ → ℕ
power zero = 1
power (suc k) = 4 * power k

power_low : (k : ℕ) → 1 ≤ power k
power_low zero = omega arith
power_low (suc k) = let h = power_low k in omega arith

order_below : (k : ℕ) (p : List Part) → fewest (counted p) ≤ k → (counted p).order < power k
unfolding counted
order_below k [] h = let l = power_low k in omega arith
order_below zero (a_condition ∷ p) h = absurd (omega arith)
order_below zero (a_value ∷ p) h = absurd (omega arith)
order_below zero (a_number ∷ p) h = absurd (omega arith)
order_below (suc k) (a_condition ∷ p) h = let l = order_below k p (omega arith) in omega arith
order_below (suc k) (a_value ∷ p) h = let l = order_below k p (omega arith) in omega arith
order_below (suc k) (a_number ∷ p) h = let l = order_below k p (omega arith) in omega arith

-- What k bytes can hold of it.
abbrev pub kept : ℕ → Option (List Part) → Option (List Part)
kept k o = option_and_then (λ p. cond (enough (counted p) k) (some p) none) o

module _ (k : ℕ) (l : k ≤ 8) where
  pub fits_shown : (p : List Part) → fits (counted p) k ≡ enough (counted p) k
  unfolding fits
  fits_shown p = go (enough (counted p) k) refl
    where
      no : (t : Bool) → t && false ≡ false
      no true = refl
      no false = refl

      go : (t : Bool) → enough (counted p) k ≡ t → (ltb (counted p).order orders && t) ≡ t
      go true e =
          let m = leb-true (fewest (counted p)) k (and_parts (leb (fewest (counted p)) k) _ e).0 in
          let h : (counted p).order < 65536 = order_below 8 p (omega arith) in
          rw (lt-ltb (counted p).order orders h)
      go false e = no (ltb (counted p).order orders)

  pub onward_shown : (p : List Part) (b : ℕ) → onward (counted p) b k ≡ shown (kept k (behind_list p b))
  onward_shown p b = ap (option_and_then (fitting k)) (after_shown p b) ∙ go (behind_list p b)
    where
      pick : (q : List Part) (t : Bool) → cond t (some (counted q)) none ≡ shown (cond t (some q) none)
      pick q true = refl
      pick q false = refl

      go : (o : Option (List Part)) → option_and_then (fitting k) (shown o) ≡ shown (kept k o)
      go none = refl
      go (some q) = rw (fits_shown q) (pick q (enough (counted q) k))

-- Bytes that are exactly what is pending.
unfoldable pub admits : Option (List Part) → List ℕ → Bool
admits o [] = holds 0 o
admits o (b ∷ l) = admits (behind o b) l

pub none_admits : (l : List ℕ) → admits none l ≡ false
unfolding admits
none_admits [] = refl
none_admits (b ∷ l) = none_admits l
