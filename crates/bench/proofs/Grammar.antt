-- Bytes are exactly one pending condition where they are a test condition by the grammar. Assumes nothing.
use mathlib.Core.Path.{◌≡◌, refl, sym, ap, ap₂, ◌∙◌}
use mathlib.Core.Bool.{Bool, true, false, not, cond, ◌&&◌, ◌||◌}
use mathlib.Mathlib.Data.Bool.Basic.{or-eq-false-eq-eq-false-and-eq-false as or-clear}
use mathlib.Core.Option.{Option as Parsed, none as unparsed, some as parsed}
use Rattle.std.specs.Prelude.{Option, None as none, Some as some}
use mathlib.Core.List.{List, [], ◌∷◌, ◌++◌, append_assoc, append-nil}
use Prim.Native.Nat.{ℕ}
use native.Mathlib.Omega.{arith}
use lib.Dec.{eqb, ltb}
use lib.ListN.{length}
use borrow.Author.Tests.{ltb-true, eqb-true, eq-eqb, not-false, not-true}
use Rattle.condition.specs.Tree.{program, monitor, at_entry, Condition, always, negation, both, either, less, equal, within, Value, constant, variable, plus, minus, choose, variable_bytes, condition_bytes, value_bytes, condition_names, value_names}
use Rattle.condition.specs.Parse.{is_lent, unlent, ConditionOperator, op_true, op_not, op_and, op_or, op_less, op_equal, op_within, condition_operator, ValueOperator, op_constant, op_program, op_monitor, op_at_entry, op_plus, op_minus, op_choose, value_operator, parse_condition}
use Rattle.condition.specs.Answer.{whether}
use Rattle.condition.proofs.Parsing.{condition_whole, parse_lent, parse_bytes}
use Rattle.bench.specs.declared.parts.Part.{Part}
use Rattle.bench.specs.declared.parts.Part.TheVariants.{Condition as a_condition, Value as a_value, Number as a_number}
use Rattle.bench.specs.Bench.{condition_has_constant, value_has_constant, lending, is_test_condition}
use Rattle.std.specs.Cmp.{both_ways}
use Rattle.bench.proofs.Tests.{none_true, pick}
use Rattle.bench.proofs.LeastBytes.InOrder.{behind_condition, behind_value, behind_list, counted, admits, none_admits}
use Rattle.bench.proofs.LeastBytes.Holding.{fit_in}

-- One condition is still to be written.
abbrev pub start : Option (List Part)
start = some (a_condition ∷ [])

-- The bytes of a tree, whether it has a constant, and whether it names what is not lent.
record Image : Type 0 where
  bytes : List ℕ
  constants : Bool
  names : Bool

abbrev beside : Image → Image → Image
beside i j = record { bytes = i.bytes ++ j.bytes; constants = i.constants || j.constants; names = i.names || j.names }

abbrev under : ℕ → Image → Image
under n i = record { bytes = n ∷ i.bytes; constants = i.constants; names = i.names }

abbrev of_condition : Condition → Image
of_condition c = record { bytes = condition_bytes c; constants = condition_has_constant c; names = condition_names c (unlent lending) }

abbrev of_value : Value → Image
of_value e = record { bytes = value_bytes e; constants = value_has_constant e; names = value_names e (unlent lending) }

abbrev Plain : Image → Type 0
Plain i = (i.constants ≡ false) × (i.names ≡ false)

-- The bytes of a plain tree are what k says.
record Written (k : List Part) (i : Image) : Type 0 where
  front : Plain i → (p : List Part) (r : List ℕ) → admits (some (k ++ p)) (i.bytes ++ r) ≡ admits (some p) r

then_written : {k j : List Part} {x y : Image} → Written k x → Written j y → Written (k ++ j) (beside x y)
then_written {k} {j} {x} {y} u v = record {
  front = λ e p r.
      let a = (or-clear x.constants y.constants).0 e.0 in
      let b = (or-clear x.names y.names).0 e.1 in
      rw (append_assoc k j p, append_assoc x.bytes y.bytes r) (u.front (a.0, b.0) (j ++ p) (y.bytes ++ r) ∙ v.front (a.1, b.1) p r);
}

operator : {k : List Part} {i : Image} (j : Part) (o : ℕ) → ((p : List Part) → behind_list (j ∷ p) o ≡ some (k ++ p)) → Written k i → Written (j ∷ []) (under o i)
unfolding admits
operator {i} j o h u = record { front = λ e p r. ap (λ x. admits x (i.bytes ++ r)) (h p) ∙ u.front e p r }

nothing_written : Written [] (record { bytes = []; constants = false; names = false })
nothing_written = record { front = λ e p r. refl }

mutual
  unfolding condition_bytes value_bytes variable_bytes condition_names value_names condition_has_constant value_has_constant behind_list condition_operator value_operator is_lent admits

  condition_written : (c : Condition) → Written (a_condition ∷ []) (of_condition c)
  condition_written always = operator a_condition 0 (λ p. refl) nothing_written
  condition_written (negation c) = operator a_condition 1 (λ p. refl) (condition_written c)
  condition_written (both c d) = operator a_condition 2 (λ p. refl) (then_written (condition_written c) (condition_written d))
  condition_written (either c d) = operator a_condition 3 (λ p. refl) (then_written (condition_written c) (condition_written d))
  condition_written (less e f) = operator a_condition 4 (λ p. refl) (then_written (value_written e) (value_written f))
  condition_written (equal e f) = operator a_condition 5 (λ p. refl) (then_written (value_written e) (value_written f))
  condition_written (within e f g) = operator a_condition 6 (λ p. refl) (then_written (value_written e) (then_written (value_written f) (value_written g)))

  value_written : (e : Value) → Written (a_value ∷ []) (of_value e)
  value_written (constant a b c d) = record { front = λ e p r. none_true (sym e.0) }
  value_written (variable (program i)) = record { front = λ e p r. let h = ltb-true i 1 (not-false (ltb i 1) e.1) in rw (eq-eqb i 0 (omega arith)) }
  value_written (variable (monitor i)) = record { front = λ e p r. let h = ltb-true i 0 (not-false (ltb i 0) e.1) in absurd (omega arith) }
  value_written (variable (at_entry i)) = record { front = λ e p r. let h = ltb-true i 0 (not-false (ltb i 0) e.1) in absurd (omega arith) }
  value_written (plus e f) = operator a_value 20 (λ p. refl) (then_written (value_written e) (value_written f))
  value_written (minus e f) = operator a_value 21 (λ p. refl) (then_written (value_written e) (value_written f))
  value_written (choose c e f) = operator a_value 22 (λ p. refl) (then_written (condition_written c) (then_written (value_written e) (value_written f)))

-- Bytes begin with those of a plain tree, and the rest is what F says.
record Spelt (i : Image) (F : List ℕ → Type 0) (l : List ℕ) : Type 0 where
  rest : List ℕ
  exact : l ≡ i.bytes ++ rest
  plain : Plain i
  more : F rest

then_spelt : {i j : Image} {F G : List ℕ → Type 0} {l : List ℕ} (u : Spelt i F l) → Spelt j G u.rest → Spelt (beside i j) G l
then_spelt {i} {j} u v = record {
  rest = v.rest;
  exact = rw (append_assoc i.bytes j.bytes v.rest) (u.exact ∙ ap (λ t. i.bytes ++ t) v.exact);
  plain = (rw (u.plain.0, v.plain.0), rw (u.plain.1, v.plain.1));
  more = v.more;
}

led : {i : Image} {F : List ℕ → Type 0} {l : List ℕ} {o n : ℕ} → o ≡ n → Spelt i F l → Spelt (under n i) F (o ∷ l)
led e u = record { rest = u.rest; exact = ap₂ ◌∷◌ e u.exact; plain = u.plain; more = u.more }

-- The trees that bytes are, in order.
abbrev Trees : List Part → List ℕ → Type 0
Trees [] l = l ≡ []
Trees (a_condition ∷ p) l = (c : Condition) × Spelt (of_condition c) (Trees p) l
Trees (a_value ∷ p) l = (e : Value) × Spelt (of_value e) (Trees p) l
Trees (a_number ∷ p) l = Spelt (record { bytes = 0 ∷ []; constants = false; names = false }) (Trees p) l

nowhere_admits : {A : Type 0} (l : List ℕ) → admits none l ≡ true → A
nowhere_admits l h = none_true (sym (none_admits l) ∙ h)

module _ (b : ℕ) (l : List ℕ) (p : List Part) (ih : (q : List Part) → admits (some q) l ≡ true → Trees q l) where
  abbrev ConditionAt : ConditionOperator → Type 0
  ConditionAt o = admits (behind_condition o p) l ≡ true → Trees (a_condition ∷ p) (b ∷ l)

  condition_at : ConditionAt (condition_operator b)
  unfolding condition_operator condition_bytes condition_names condition_has_constant
  condition_at =
      let at = pick ConditionAt b in
      at 0 op_true _ (λ e h. (always, record { rest = l; exact = ap (λ n. n ∷ l) e; plain = (refl, refl); more = ih p h })) (
      at 1 op_not _ (λ e h. let (c, u) = ih (a_condition ∷ p) h in (negation c, led e u)) (
      at 2 op_and _ (λ e h. let (c, u) = ih (a_condition ∷ a_condition ∷ p) h in let (d, v) = u.more in (both c d, led e (then_spelt u v))) (
      at 3 op_or _ (λ e h. let (c, u) = ih (a_condition ∷ a_condition ∷ p) h in let (d, v) = u.more in (either c d, led e (then_spelt u v))) (
      at 4 op_less _ (λ e h. let (c, u) = ih (a_value ∷ a_value ∷ p) h in let (d, v) = u.more in (less c d, led e (then_spelt u v))) (
      at 5 op_equal _ (λ e h. let (c, u) = ih (a_value ∷ a_value ∷ p) h in let (d, v) = u.more in (equal c d, led e (then_spelt u v))) (
      at 6 op_within _ (λ e h. let (c, u) = ih (a_value ∷ a_value ∷ a_value ∷ p) h in let (d, v) = u.more in let (f, w) = v.more in (within c d f, led e (then_spelt u (then_spelt v w))))
      (nowhere_admits l)))))))

  abbrev ValueAt : ValueOperator → Type 0
  ValueAt o = admits (behind_value o p) l ≡ true → Trees (a_value ∷ p) (b ∷ l)

  value_at : ValueAt (value_operator b)
  unfolding value_operator value_bytes variable_bytes value_names value_has_constant is_lent
  value_at =
      let at = pick ValueAt b in
      at 16 op_constant _ (λ e. nowhere_admits l) (
      at 17 op_program _ (λ e h. (variable (program 0), led e (ih (a_number ∷ p) h))) (
      at 18 op_monitor _ (λ e. nowhere_admits l) (
      at 19 op_at_entry _ (λ e. nowhere_admits l) (
      at 20 op_plus _ (λ e h. let (c, u) = ih (a_value ∷ a_value ∷ p) h in let (d, v) = u.more in (plus c d, led e (then_spelt u v))) (
      at 21 op_minus _ (λ e h. let (c, u) = ih (a_value ∷ a_value ∷ p) h in let (d, v) = u.more in (minus c d, led e (then_spelt u v))) (
      at 22 op_choose _ (λ e h. let (c, u) = ih (a_condition ∷ a_value ∷ a_value ∷ p) h in let (d, v) = u.more in let (f, w) = v.more in (choose c d f, led e (then_spelt u (then_spelt v w))))
      (nowhere_admits l)))))))

  number_at : (t : Bool) → eqb b 0 ≡ t → admits (cond t (some p) none) l ≡ true → Trees (a_number ∷ p) (b ∷ l)
  number_at true e h = record { rest = l; exact = ap (λ n. n ∷ l) (eqb-true b 0 e); plain = (refl, refl); more = ih p h }
  number_at false e h = nowhere_admits l h

trees : (l : List ℕ) (p : List Part) → admits (some p) l ≡ true → Trees p l
unfolding admits behind_list counted
trees [] [] h = refl
trees [] (a_condition ∷ p) h = let f = (fit_in 0 (counted (a_condition ∷ p)) h).0 in absurd (omega arith)
trees [] (a_value ∷ p) h = let f = (fit_in 0 (counted (a_value ∷ p)) h).0 in absurd (omega arith)
trees [] (a_number ∷ p) h = let f = (fit_in 0 (counted (a_number ∷ p)) h).0 in absurd (omega arith)
trees (b ∷ l) [] h = nowhere_admits l h
trees (b ∷ l) (a_condition ∷ p) h = condition_at b l p (trees l) h
trees (b ∷ l) (a_value ∷ p) h = value_at b l p (trees l) h
trees (b ∷ l) (a_number ∷ p) h = number_at b l p (trees l) (eqb b 0) refl h

-- A test condition of any length.
abbrev plain_parse : List ℕ → Bool
plain_parse s = whether (parse_condition lending s) (λ c. not (condition_has_constant c))

plain_admits : (s : List ℕ) → plain_parse s ≡ true → admits start s ≡ true
unfolding admits counted
plain_admits s h = go (parse_condition lending s) refl h
  where
    go : (o : Parsed Condition) → parse_condition lending s ≡ o → whether o (λ c. not (condition_has_constant c)) ≡ true → admits start s ≡ true
    go unparsed e t = none_true t
    go (parsed c) e t =
        let f = (condition_written c).front (not-true (condition_has_constant c) t, parse_lent lending s e) [] [] in
        ap (admits start) (condition_whole lending s e ∙ sym (append-nil (condition_bytes c))) ∙ f

admits_plain : (s : List ℕ) → admits start s ≡ true → plain_parse s ≡ true
admits_plain s h =
    let (c, u) = trees s (a_condition ∷ []) h in
    let e : s ≡ condition_bytes c = u.exact ∙ ap (λ t. condition_bytes c ++ t) u.more ∙ append-nil (condition_bytes c) in
    rw (e, parse_bytes lending c u.plain.1, u.plain.0)

pub test_admits : (n : ℕ) (s : List ℕ) → is_test_condition n s ≡ (eqb (length s) n && admits start s)
unfolding is_test_condition
test_admits n s = ap (λ b. eqb (length s) n && b) (both_ways (plain_parse s) (admits start s) (plain_admits s) (admits_plain s))
