-- Parsing operator-first bytes (document 01, "Conditions and values"), for given numbers of lent values.
use Rattle.std.specs.Prelude.{ℕ, zero, suc, Bool, true, cond, not, ◌&&◌, List, [], ◌∷◌, length, ◌==◌, nat_lt}
use Rattle.std.proofs.Math.Option.{Option, none, some}
use Rattle.condition.specs.declared.Lent.{Lent}
use Rattle.condition.specs.Tree.{Variable, program, monitor, at_entry, Condition, always, negation, both, either, less, equal, within, Value, constant, variable, plus, minus, choose, Assignment}

-- "name a value that isn't lent": a number at or past what is lent of its kind
unfoldable pub is_lent : Lent → Variable → Bool
is_lent L (program i) = nat_lt i L.programs
is_lent L (monitor i) = nat_lt i L.monitors
is_lent L (at_entry i) = nat_lt i L.kept

abbrev pub unlent : Lent → Variable → Bool
unlent L v = not (is_lent L v)

-- whether the variables that an action assigns are below m
unfoldable pub targets_below : ℕ → List Assignment → Bool
targets_below m [] = true
targets_below m (a ∷ more) = nat_lt a.target m && targets_below m more

-- What stands at the front of some bytes, with the bytes behind it.
pub data Parsed (A : Type 0) : Type 0 where
  malformed : Parsed A
  parsed : A → List ℕ → Parsed A

-- A reader: what it makes of the front of some bytes.
abbrev pub Reader : Type 0 → Type 0
Reader A = List ℕ → Parsed A

abbrev pub and_then : {A B : Type 0} → Parsed A → (A → List ℕ → Parsed B) → Parsed B
and_then malformed f = malformed
and_then (parsed a rest) f = f a rest

-- One operand, two in order, three in order.
abbrev pub one : {A D : Type 0} → Reader A → (A → D) → Reader D
one A f s = and_then (A s) (λ a rest. parsed (f a) rest)

abbrev pub two : {A B D : Type 0} → Reader A → Reader B → (A → B → D) → Reader D
two A B f s = and_then (A s) (λ a rest. one B (f a) rest)

abbrev pub three : {A B C D : Type 0} → Reader A → Reader B → Reader C → (A → B → C → D) → Reader D
three A B C f s = and_then (A s) (λ a rest. two B C (f a) rest)

-- "16 and four bytes"
unfoldable pub literal : Reader Value
literal [] = malformed
literal (a ∷ []) = malformed
literal (a ∷ b ∷ []) = malformed
literal (a ∷ b ∷ c ∷ []) = malformed
literal (a ∷ b ∷ c ∷ d ∷ rest) = parsed (constant a b c d) rest

-- the number of a variable, which has to be lent
unfoldable pub numbered : Lent → (ℕ → Variable) → Reader Value
numbered L kind [] = malformed
numbered L kind (i ∷ rest) = cond (is_lent L (kind i)) (parsed (variable (kind i)) rest) malformed

-- "A condition is 0 true; 1 not c; 2 and c c; 3 or c c; 4 less e e; 5 equal e e; 6 within e e e"
pub data ConditionOperator : Type 0 where
  op_true op_not op_and op_or op_less op_equal op_within no_condition : ConditionOperator

unfoldable pub condition_operator : ℕ → ConditionOperator
condition_operator o = cond (o == 0) op_true (cond (o == 1) op_not (cond (o == 2) op_and (cond (o == 3) op_or (cond (o == 4) op_less (cond (o == 5) op_equal (cond (o == 6) op_within no_condition))))))

abbrev pub condition_with : Reader Condition → Reader Value → ConditionOperator → Reader Condition
condition_with c e op_true s = parsed always s
condition_with c e op_not s = one c negation s
condition_with c e op_and s = two c c both s
condition_with c e op_or s = two c c either s
condition_with c e op_less s = two e e less s
condition_with c e op_equal s = two e e equal s
condition_with c e op_within s = three e e e within s
condition_with c e no_condition s = malformed

-- "A value e is 16 and four bytes; 17, 18 and 19 and a variable's number; 20 plus e e; 21 minus e e; 22 choose c e e"
pub data ValueOperator : Type 0 where
  op_constant op_program op_monitor op_at_entry op_plus op_minus op_choose no_value : ValueOperator

unfoldable pub value_operator : ℕ → ValueOperator
value_operator o = cond (o == 16) op_constant (cond (o == 17) op_program (cond (o == 18) op_monitor (cond (o == 19) op_at_entry (cond (o == 20) op_plus (cond (o == 21) op_minus (cond (o == 22) op_choose no_value))))))

abbrev pub value_with : Lent → Reader Condition → Reader Value → ValueOperator → Reader Value
value_with L c e op_constant s = literal s
value_with L c e op_program s = numbered L program s
value_with L c e op_monitor s = numbered L monitor s
value_with L c e op_at_entry s = numbered L at_entry s
value_with L c e op_plus s = two e e plus s
value_with L c e op_minus s = two e e minus s
value_with L c e op_choose s = three c e e choose s
value_with L c e no_value s = malformed

-- Both parsers, at most k operators deep: as deep as there are bytes is deep enough (proofs/Parsing.antt).
unfoldable mutual
  pub condition_from : ℕ → Lent → Reader Condition
  condition_from zero L s = malformed
  condition_from (suc k) L [] = malformed
  condition_from (suc k) L (o ∷ s) = condition_with (λ t. condition_from k L t) (λ t. value_from k L t) (condition_operator o) s

  pub value_from : ℕ → Lent → Reader Value
  value_from zero L s = malformed
  value_from (suc k) L [] = malformed
  value_from (suc k) L (o ∷ s) = value_with L (λ t. condition_from k L t) (λ t. value_from k L t) (value_operator o) s

-- "exactly one": nothing behind it
abbrev pub exactly : {A : Type 0} → Parsed A → Option A
exactly malformed = none
exactly (parsed a []) = some a
exactly (parsed a (b ∷ s)) = none

unfoldable pub parse_condition : Lent → List ℕ → Option Condition
parse_condition L s = exactly (condition_from (length s) L s)

unfoldable pub parse_value : Lent → List ℕ → Option Value
parse_value L s = exactly (value_from (length s) L s)

-- one assignment: the number of a monitor variable, then a value
unfoldable pub assignment_from : ℕ → Lent → Reader Assignment
assignment_from k L [] = malformed
assignment_from k L (i ∷ s) = cond (nat_lt i L.monitors) (one (value_from k L) (λ e. record { target = i; source = e }) s) malformed

-- an assignment in front of the run that follows it
abbrev pub prefixed : Assignment → Option (List Assignment) → Option (List Assignment)
prefixed a none = none
prefixed a (some more) = some (a ∷ more)

abbrev pub then_run : Parsed Assignment → (List ℕ → Option (List Assignment)) → Option (List Assignment)
then_run malformed run = none
then_run (parsed a rest) run = prefixed a (run rest)

-- "exactly a run of assignments", at most k of them
unfoldable pub run_from : ℕ → Lent → List ℕ → Option (List Assignment)
run_from zero L [] = some []
run_from zero L (i ∷ s) = none
run_from (suc k) L [] = some []
run_from (suc k) L (i ∷ s) = then_run (assignment_from k L (i ∷ s)) (run_from k L)

unfoldable pub parse_action : Lent → List ℕ → Option (List Assignment)
parse_action L s = run_from (length s) L s
