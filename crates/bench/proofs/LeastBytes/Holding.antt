-- Exactly so many bytes can hold what is pending where one byte fewer can hold what is left behind some byte. Assumes nothing.
use mathlib.Core.Path.{◌≡◌, refl}
use mathlib.Core.Logic.{◌⊎◌, inl, inr}
use mathlib.Core.Bool.{Bool, true, false, cond, ◌&&◌, ◌||◌}
use Rattle.std.specs.Prelude.{Option, None as none, Some as some}
use mathlib.Core.List.{List, [], ◌∷◌}
use Prim.Native.Nat.{ℕ, suc, ◌+◌, ◌≤◌, ◌<◌}
use native.Mathlib.Omega.{arith}
use lib.Dec.{eqb, ltb, leb}
use borrow.Author.Tests.{ltb-true, lt-ltb, eqb-true, eqb-false, leb-true, le-leb, eq-eqb}
use Rattle.condition.specs.Parse.{ConditionOperator, op_true, op_not, op_and, op_or, op_less, op_equal, op_within, no_condition, condition_operator, ValueOperator, op_constant, op_program, op_monitor, op_at_entry, op_plus, op_minus, op_choose, no_value, value_operator}
use Rattle.bench.specs.declared.parts.Pending.{Pending}
use Rattle.bench.specs.Walk.{fewest, enough, lowest, limit}
use Rattle.bench.proofs.Tests.{none_true, pick}
use Rattle.bench.specs.declared.parts.Part.{Part}
use Rattle.bench.specs.declared.parts.Part.TheVariants.{Condition as a_condition, Value as a_value, Number as a_number}
use Rattle.bench.proofs.LeastBytes.InOrder.{behind_condition, behind_value, behind_list, behind, counted, holds}

-- The test, in cases.
abbrev pub Fit : ℕ → Pending → Type 0
Fit k p = (fewest p ≤ k) × ((fewest p ≡ k) ⊎ ((0 < p.conditions) ⊎ ((0 < p.values) × (fewest p + 3 ≤ k))))

module _ (k : ℕ) (p : Pending) where
  pub fit_in : enough p k ≡ true → Fit k p
  fit_in h = go (leb (fewest p) k) (eqb (fewest p) k) (ltb 0 p.conditions) (ltb 0 p.values) (leb (fewest p + 3) k) refl refl refl refl refl h
    where
      go : (a e c v l : Bool) → leb (fewest p) k ≡ a → eqb (fewest p) k ≡ e → ltb 0 p.conditions ≡ c → ltb 0 p.values ≡ v → leb (fewest p + 3) k ≡ l
          → a && (e || (c || (v && l))) ≡ true → Fit k p
      go true true c v l f g r s t h = (leb-true _ k f, inl (eqb-true _ k g))
      go true false true v l f g r s t h = (leb-true _ k f, inr (inl (ltb-true 0 _ r)))
      go true false false true true f g r s t h = (leb-true _ k f, inr (inr (ltb-true 0 _ s, leb-true _ k t)))
      go true false false true false f g r s t h = none_true h
      go true false false false l f g r s t h = none_true h
      go false e c v l f g r s t h = none_true h

  pub fit_out : Fit k p → enough p k ≡ true
  fit_out (a, inl e) = rw (le-leb (fewest p) k a, eq-eqb (fewest p) k e)
  fit_out (a, inr (inl e)) = rw (le-leb (fewest p) k a, lt-ltb 0 p.conditions e) (go (eqb (fewest p) k))
    where
      go : (b : Bool) → b || true ≡ true
      go true = refl
      go false = refl
  fit_out (a, inr (inr (e, l))) = rw (le-leb (fewest p) k a, lt-ltb 0 p.values e, le-leb (fewest p + 3) k l) (go (eqb (fewest p) k) (ltb 0 p.conditions))
    where
      go : (b d : Bool) → b || (d || true) ≡ true
      go true d = refl
      go false true = refl
      go false false = refl

-- Behind a byte fewer bytes are enough.
module _ (k : ℕ) where
  down_condition : (o : ConditionOperator) (p : List Part) → holds k (behind_condition o p) ≡ true → enough (counted (a_condition ∷ p)) (suc k) ≡ true
  unfolding counted
  down_condition o p h = fit_out (suc k) (counted (a_condition ∷ p)) (few o h, inr (inl (omega arith)))
    where
      few : (o : ConditionOperator) → holds k (behind_condition o p) ≡ true → fewest (counted (a_condition ∷ p)) ≤ suc k
      few op_true h = let f = (fit_in k (counted p) h).0 in omega arith
      few op_not h = let f = (fit_in k (counted (a_condition ∷ p)) h).0 in omega arith
      few op_and h = let f = (fit_in k (counted (a_condition ∷ a_condition ∷ p)) h).0 in omega arith
      few op_or h = let f = (fit_in k (counted (a_condition ∷ a_condition ∷ p)) h).0 in omega arith
      few op_less h = let f = (fit_in k (counted (a_value ∷ a_value ∷ p)) h).0 in omega arith
      few op_equal h = let f = (fit_in k (counted (a_value ∷ a_value ∷ p)) h).0 in omega arith
      few op_within h = let f = (fit_in k (counted (a_value ∷ a_value ∷ a_value ∷ p)) h).0 in omega arith
      few no_condition h = none_true h

  down_value : (o : ValueOperator) (p : List Part) → holds k (behind_value o p) ≡ true → Fit (suc k) (counted (a_value ∷ p))
  unfolding counted
  down_value op_program p h = go (fit_in k (counted (a_number ∷ p)) h)
    where
      go : Fit k (counted (a_number ∷ p)) → Fit (suc k) (counted (a_value ∷ p))
      go (a, inl e) = (omega arith, inl (omega arith))
      go (a, inr (inl e)) = (omega arith, inr (inl e))
      go (a, inr (inr (e, l))) = (omega arith, inr (inr (omega arith, omega arith)))
  down_value op_plus p h = let f = (fit_in k (counted (a_value ∷ a_value ∷ p)) h).0 in (omega arith, inr (inr (omega arith, omega arith)))
  down_value op_minus p h = let f = (fit_in k (counted (a_value ∷ a_value ∷ p)) h).0 in (omega arith, inr (inr (omega arith, omega arith)))
  down_value op_choose p h = let f = (fit_in k (counted (a_condition ∷ a_value ∷ a_value ∷ p)) h).0 in (omega arith, inr (inr (omega arith, omega arith)))
  down_value op_constant p h = none_true h
  down_value op_monitor p h = none_true h
  down_value op_at_entry p h = none_true h
  down_value no_value p h = none_true h

  number_up : (p : List Part) → Fit (suc k) (counted (a_number ∷ p)) → Fit k (counted p)
  unfolding counted
  number_up p (a, inl e) = (omega arith, inl (omega arith))
  number_up p (a, inr (inl e)) = (omega arith, inr (inl e))
  number_up p (a, inr (inr (e, l))) = (omega arith, inr (inr (e, omega arith)))

  number_down : (p : List Part) → Fit k (counted p) → Fit (suc k) (counted (a_number ∷ p))
  unfolding counted
  number_down p (a, inl e) = (omega arith, inl (omega arith))
  number_down p (a, inr (inl e)) = (omega arith, inr (inl e))
  number_down p (a, inr (inr (e, l))) = (omega arith, inr (inr (e, omega arith)))

  pub holds_down : (o : Option (List Part)) (b : ℕ) → holds k (behind o b) ≡ true → holds (suc k) o ≡ true
  unfolding behind_list
  holds_down none b h = none_true h
  holds_down (some []) b h = none_true h
  holds_down (some (a_condition ∷ p)) b h = down_condition (condition_operator b) p h
  holds_down (some (a_value ∷ p)) b h = fit_out (suc k) (counted (a_value ∷ p)) (down_value (value_operator b) p h)
  holds_down (some (a_number ∷ p)) b h = go (eqb b 0) h
    where
      go : (t : Bool) → holds k (cond t (some p) none) ≡ true → enough (counted (a_number ∷ p)) (suc k) ≡ true
      go true h = fit_out (suc k) (counted (a_number ∷ p)) (number_down p (fit_in k (counted p) h))
      go false h = none_true h

  -- Some byte leaves what fewer bytes can hold.
  abbrev pub Some : Option (List Part) → Type 0
  Some o = (b : ℕ) × (holds k (behind o b) ≡ true)

  up_condition : (p : List Part) → fewest (counted (a_condition ∷ p)) ≤ suc k → Some (some (a_condition ∷ p))
  unfolding behind_list counted condition_operator
  up_condition p l = go (eqb (fewest (counted p)) k) refl
    where
      go : (t : Bool) → eqb (fewest (counted p)) k ≡ t → Some (some (a_condition ∷ p))
      go true e = (0, fit_out k (counted p) (omega arith, inl (eqb-true _ k e)))
      go false e = let n = eqb-false _ k e in (1, fit_out k (counted (a_condition ∷ p)) (omega arith, inr (inl (omega arith))))

  up_value : (p : List Part) → Fit (suc k) (counted (a_value ∷ p)) → Some (some (a_value ∷ p))
  unfolding behind_list counted value_operator
  up_value p (a, inl e) = (17, fit_out k (counted (a_number ∷ p)) (omega arith, inl (omega arith)))
  up_value p (a, inr (inl e)) = (17, fit_out k (counted (a_number ∷ p)) (omega arith, inr (inl e)))
  up_value p (a, inr (inr (e, l))) = go (eqb (fewest (counted p) + 4) k) refl
    where
      go : (t : Bool) → eqb (fewest (counted p) + 4) k ≡ t → Some (some (a_value ∷ p))
      go true d = let n = eqb-true _ k d in (20, fit_out k (counted (a_value ∷ a_value ∷ p)) (omega arith, inl (omega arith)))
      go false d = let n = eqb-false _ k d in (22, fit_out k (counted (a_condition ∷ a_value ∷ a_value ∷ p)) (omega arith, inr (inl (omega arith))))

  pub holds_up : (o : Option (List Part)) → holds (suc k) o ≡ true → Some o
  unfolding behind_list counted
  holds_up none h = none_true h
  holds_up (some []) h = go (fit_in (suc k) (counted []) h)
    where
      go : Fit (suc k) (counted []) → Some (some [])
      go (a, inl e) = absurd (omega arith)
      go (a, inr (inl e)) = absurd (omega arith)
      go (a, inr (inr (e, l))) = absurd (omega arith)
  holds_up (some (a_condition ∷ p)) h = up_condition p (fit_in (suc k) (counted (a_condition ∷ p)) h).0
  holds_up (some (a_value ∷ p)) h = up_value p (fit_in (suc k) (counted (a_value ∷ p)) h)
  holds_up (some (a_number ∷ p)) h = (0, fit_out k (counted p) (number_up p (fit_in (suc k) (counted (a_number ∷ p)) h)))

-- A part begins with a byte from the lowest on and below the limit.
abbrev pub InReach : Part → ℕ → Type 0
InReach a b = (lowest a ≤ b) × (b < limit a)

module _ (k b : ℕ) (p : List Part) where
  condition_reach : holds k (behind_condition (condition_operator b) p) ≡ true → InReach a_condition b
  unfolding condition_operator
  condition_reach =
      let at = pick (λ o. holds k (behind_condition o p) ≡ true → InReach a_condition b) b in
      at 0 op_true _ (λ e h. (omega arith, omega arith)) (at 1 op_not _ (λ e h. (omega arith, omega arith)) (at 2 op_and _ (λ e h. (omega arith, omega arith)) (
      at 3 op_or _ (λ e h. (omega arith, omega arith)) (at 4 op_less _ (λ e h. (omega arith, omega arith)) (at 5 op_equal _ (λ e h. (omega arith, omega arith)) (
      at 6 op_within _ (λ e h. (omega arith, omega arith)) none_true))))))

  value_reach : holds k (behind_value (value_operator b) p) ≡ true → InReach a_value b
  unfolding value_operator
  value_reach =
      let at = pick (λ o. holds k (behind_value o p) ≡ true → InReach a_value b) b in
      at 16 op_constant _ (λ e. none_true) (at 17 op_program _ (λ e h. (omega arith, omega arith)) (at 18 op_monitor _ (λ e. none_true) (
      at 19 op_at_entry _ (λ e. none_true) (at 20 op_plus _ (λ e h. (omega arith, omega arith)) (at 21 op_minus _ (λ e h. (omega arith, omega arith)) (
      at 22 op_choose _ (λ e h. (omega arith, omega arith)) none_true))))))

pub byte_reach : (k : ℕ) (a : Part) (p : List Part) (b : ℕ) → holds k (behind_list (a ∷ p) b) ≡ true → InReach a b
unfolding behind_list
byte_reach k a_condition p b h = condition_reach k b p h
byte_reach k a_value p b h = value_reach k b p h
byte_reach k a_number p b h = pick (λ o. holds k o ≡ true → InReach a_number b) b 0 (some p) none (λ e h. (omega arith, omega arith)) none_true h
