-- What the private functions promise: what is still to be written of a condition that is begun, whether so many bytes can hold it, and the search.
use Rattle.std.specs.Prelude.{Bool, false, cond, ◌&&◌, ◌||◌, List, [], ◌∷◌, ℕ, zero, suc, ◌+◌, ◌-◌, ◌*◌, ◌/◌, ◌%◌, ◌≤◌, ◌<◌, max, eqb, ltb, leb, length, Option, None, Some, option_map, option_and_then}
use Rattle.std.specs.Option.{option_or}
use Rattle.std.proofs.lemmas.List.Edits.{sets}
use Rattle.condition.specs.Parse.{ConditionOperator, op_true, op_not, op_and, op_or, op_less, op_equal, op_within, no_condition, condition_operator, ValueOperator, op_constant, op_program, op_monitor, op_at_entry, op_plus, op_minus, op_choose, no_value, value_operator}
use Rattle.bench.specs.declared.parts.Part.{Part}
use Rattle.bench.specs.declared.parts.Part.TheVariants as part
use Rattle.bench.specs.declared.parts.Pending.{Pending}
use Rattle.bench.specs.declared.search.Found.{Found}

-- Nothing is left to write.
abbrev pub nothing : Pending
nothing = record { order = 0; conditions = 0; values = 0; numbers = 0 }

-- A part more, in front of the others.
abbrev pub with_condition : Pending → Pending
with_condition p = record { order = p.order * 4 + 1; conditions = p.conditions + 1; values = p.values; numbers = p.numbers }

abbrev pub with_value : Pending → Pending
with_value p = record { order = p.order * 4 + 2; conditions = p.conditions; values = p.values + 1; numbers = p.numbers }

abbrev pub with_number : Pending → Pending
with_number p = record { order = p.order * 4 + 3; conditions = p.conditions; values = p.values; numbers = p.numbers + 1 }

abbrev pub with_part : Part → Pending → Pending
with_part part.Condition p = with_condition p
with_part part.Value p = with_value p
with_part part.Number p = with_number p

abbrev pub one_condition : Pending
one_condition = with_condition nothing

-- The first part less, by its kind.
abbrev pub less_condition : Pending → Pending
less_condition p = record { order = p.order / 4; conditions = p.conditions - 1; values = p.values; numbers = p.numbers }

abbrev pub less_value : Pending → Pending
less_value p = record { order = p.order / 4; conditions = p.conditions; values = p.values - 1; numbers = p.numbers }

abbrev pub less_number : Pending → Pending
less_number p = record { order = p.order / 4; conditions = p.conditions; values = p.values; numbers = p.numbers - 1 }

-- The first part, by its digit, and what is pending behind it.
abbrev pub split_at : ℕ → Pending → Option (Part × Pending)
split_at digit p =
    cond (eqb digit 1) (Some (part.Condition, less_condition p))
    (cond (eqb digit 2) (Some (part.Value, less_value p))
    (cond (eqb digit 3) (Some (part.Number, less_number p)) None))

abbrev pub split_first : Pending → Option (Part × Pending)
split_first p = split_at (p.order % 4) p

-- An operator's operands in front of what follows it; none where no condition is written so.
abbrev pub after_condition : ConditionOperator → Pending → Option Pending
after_condition op_true p = Some p
after_condition op_not p = Some (with_condition p)
after_condition op_and p = Some (with_condition (with_condition p))
after_condition op_or p = Some (with_condition (with_condition p))
after_condition op_less p = Some (with_value (with_value p))
after_condition op_equal p = Some (with_value (with_value p))
after_condition op_within p = Some (with_value (with_value (with_value p)))
after_condition no_condition p = None

abbrev pub after_value : ValueOperator → Pending → Option Pending
after_value op_constant p = None
after_value op_program p = Some (with_number p)
after_value op_monitor p = None
after_value op_at_entry p = None
after_value op_plus p = Some (with_value (with_value p))
after_value op_minus p = Some (with_value (with_value p))
after_value op_choose p = Some (with_condition (with_value (with_value p)))
after_value no_value p = None

abbrev pub after_number : ℕ → Pending → Option Pending
after_number b p = cond (eqb b 0) (Some p) None

-- What is pending behind a byte, by the kind of the part that it begins.
abbrev pub after_part : ℕ → Part × Pending → Option Pending
after_part b (part.Condition, p) = after_condition (condition_operator b) p
after_part b (part.Value, p) = after_value (value_operator b) p
after_part b (part.Number, p) = after_number b p

unfoldable pub after : Pending → ℕ → Option Pending
after p b = option_and_then (after_part b) (split_first p)

-- The fewest bytes that hold what is pending: a condition takes one, a value two, a variable's number one.
abbrev pub fewest : Pending → ℕ
fewest p = p.conditions + 2 * p.values + p.numbers

-- Exactly k bytes can hold it: a condition can be any number of bytes longer, a value three or more.
abbrev pub enough : Pending → ℕ → Bool
enough p k = leb (fewest p) k && (eqb (fewest p) k || (ltb 0 p.conditions || (ltb 0 p.values && leb (fewest p + 3) k)))

-- above the order of any parts that eight bytes can hold
abbrev pub orders : ℕ
orders = 65536

unfoldable pub fits : Pending → ℕ → Bool
fits p k = ltb p.order orders && enough p k

-- what is pending, if exactly k bytes can hold it
abbrev pub fitting : ℕ → Pending → Option Pending
fitting k p = cond (fits p k) (Some p) None

abbrev pub onward : Pending → ℕ → ℕ → Option Pending
onward p b k = option_and_then (fitting k) (after p b)

-- The bytes that a part can begin with are from the lowest on and below the limit.
abbrev pub lowest : Part → ℕ
lowest part.Condition = 0
lowest part.Value = 17
lowest part.Number = 0

abbrev pub limit : Part → ℕ
limit part.Condition = 7
limit part.Value = 23
limit part.Number = 1

-- a byte and what is pending behind it, or what is found else
abbrev pub found_or : ℕ → Option Pending → Option Found → Option Found
found_or b None o = o
found_or b (Some p) o = Some (record { byte = b; pending = p })

-- the least of n bytes from b on behind which something is pending
unfoldable pub seek : (ℕ → Option Pending) → ℕ → ℕ → Option Found
seek f zero b = None
seek f (suc n) b = found_or b (f b) (seek f n (suc b))

-- the search from b on, below the limit
abbrev pub sought : Pending → ℕ → ℕ → ℕ → Option Found
sought p k end b = seek (λ x. onward p x k) (end - b) b

-- the least byte from a given one on behind which k bytes are enough
abbrev pub least_of : Pending → ℕ → ℕ → Option (Part × Pending) → Option Found
least_of p k from None = None
least_of p k from (Some (kind, rest)) = sought p k (limit kind) (max from (lowest kind))

unfoldable pub least : Pending → ℕ → ℕ → Option Found
least p k from = least_of p k from (split_first p)

abbrev pub prefixed : ℕ → Option (List ℕ) → Option (List ℕ)
prefixed b None = None
prefixed b (Some l) = Some (b ∷ l)

-- the least k bytes that hold what is pending, if there are such
unfoldable pub completed : ℕ → Pending → Option (List ℕ)
completed zero p = Some []
completed (suc k) p = option_and_then (λ f. prefixed f.byte (completed k f.pending)) (least p k 0)

-- the least byte above b, if there is one, and behind it the least bytes
abbrev pub greater_at : ℕ → Pending → ℕ → Option (List ℕ)
greater_at k p b = option_and_then (λ (f : Found). prefixed f.byte (completed k f.pending)) (least p k (suc b))

-- the next bytes after given ones: with the same first byte if there are such, else with a greater one
unfoldable pub following : Pending → List ℕ → Option (List ℕ)
following p [] = None
following p (b ∷ g) = option_or (option_and_then (λ q. prefixed b (following q g)) (onward p b (length g))) (greater_at (length g) p b)

-- whether there is something of which a test is true
abbrev pub if_some : Option Pending → (Pending → Bool) → Bool
if_some None f = false
if_some (Some p) f = f p

-- whether bytes are exactly what is pending
unfoldable pub accepts : Pending → List ℕ → Bool
accepts p [] = fits p 0
accepts p (b ∷ l) = if_some (onward p b (length l)) (λ q. accepts q l)

-- what was found put into given bytes from a place on
abbrev pub stored : List ℕ → ℕ → Option (List ℕ) → Option (List ℕ)
stored g i o = option_map (sets g i) o

-- Bounds in which every sum fits: of what is pending before a byte is looked at, and behind it.
pub record Small (p : Pending) : Type 0 where
  pub order : p.order < orders
  pub parts : fewest p ≤ 9

pub record Room (p : Pending) : Type 0 where
  pub order : p.order < 100000000
  pub conditions : p.conditions < 1000
  pub values : p.values < 1000
  pub numbers : p.numbers < 1000
