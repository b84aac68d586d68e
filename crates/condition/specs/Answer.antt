-- The answers of the crate's operations (document 01, "What each operation turns away").
use Rattle.std.specs.Prelude.{ℕ, ◌+◌, Bool, false, cond, ◌&&◌, List, ◌++◌, length, take, drop, ℤ, nat_le, slice_index, Result, Ok, Err}
use Rattle.std.proofs.Math.Option.{Option, none, some}
use Rattle.condition.specs.declared.Lent.{Lent}
use Rattle.refusal.specs.declared.Refusal.{Refusal}
use Rattle.refusal.specs.Numbers.{number_of}
use Rattle.condition.specs.Word.{signed}
use Rattle.condition.specs.Tree.{Condition, Assignment}
use Rattle.condition.specs.Parse.{Parsed, malformed, parsed, condition_from, parse_condition, parse_value, parse_action}
use Rattle.condition.specs.Meaning.{Environment, lent, holds, word, performed}
use Rattle.condition.specs.Count.{condition_count, value_count, action_count}

-- What the paper answers: the number of a refusal, or what is given.
pub data Evaluation (A : Type 0) : Type 0 where
  refused : ℕ → Evaluation A
  given : A → Evaluation A

-- "conditions of 1 to 1,024 bytes, and the evaluator takes the same lengths": the most bytes of a condition or a value
abbrev pub longest : ℕ
longest = 1024

abbrev pub sized : List ℕ → Bool
sized s = nat_le 1 (length s) && nat_le (length s) longest

-- "actions: a length byte 0-64"
abbrev pub longest_action : ℕ
longest_action = 64

abbrev pub action_sized : List ℕ → Bool
action_sized s = nat_le (length s) longest_action

-- "monitor variables V, 0-4"
abbrev pub most_variables : ℕ
most_variables = 4

-- "5 if the bytes aren't exactly one by the grammar or name a value that isn't lent. Otherwise it gives the value"
abbrev pub judged : {A B : Type 0} → Option A → (A → B) → Evaluation B
judged none f = refused 5
judged (some a) f = given (f a)

-- "4 if its length isn't" one of these; "then 5"
unfoldable pub condition_outcome : List ℕ → Environment → Evaluation Bool
condition_outcome s E = cond (sized s) (judged (parse_condition (lent E) s) (λ c. holds c E)) (refused 4)

unfoldable pub value_outcome : List ℕ → Environment → Evaluation ℤ
value_outcome s E = cond (sized s) (judged (parse_value (lent E) s) (λ e. signed (word e E))) (refused 4)

-- "A refused event or evaluation counts 0": how much of what was read is evaluated
abbrev pub count_in : {A : Type 0} → Option A → (A → ℕ) → ℕ
count_in none f = 0
count_in (some a) f = f a

unfoldable pub condition_counted : List ℕ → Environment → ℕ
condition_counted s E = cond (sized s) (count_in (parse_condition (lent E) s) (λ c. condition_count c E)) 0

unfoldable pub value_counted : List ℕ → Environment → ℕ
value_counted s E = cond (sized s) (count_in (parse_value (lent E) s) (λ e. value_count e E)) 0

-- What was found at the front of some bytes is a condition, and holds.
abbrev pub truth_of : Environment → Parsed Condition → Bool
truth_of E malformed = false
truth_of E (parsed c rest) = holds c E

abbrev pub count_of : Environment → Parsed Condition → ℕ
count_of E malformed = 0
count_of E (parsed c rest) = condition_count c E

-- Whether the bytes from a place on, of fewer than a sheet or network has at most, begin with a condition that holds, whatever stands behind it; and how much of it
-- is evaluated.
unfoldable pub holds_from : List ℕ → ℕ → Environment → Bool
holds_from s at E = nat_le (length (drop at s)) 65534 && truth_of E (condition_from (length (drop at s)) (lent E) (drop at s))

unfoldable pub count_from : List ℕ → ℕ → Environment → ℕ
count_from s at E = cond (nat_le (length (drop at s)) 65534) (count_of E (condition_from (length (drop at s)) (lent E) (drop at s))) 0

-- The same of an action, which may be empty: the monitor variables afterwards.
unfoldable pub run_outcome : List ℕ → Environment → Evaluation (List ℕ)
run_outcome s E = judged (parse_action (lent E) s) (λ a. performed a E)

unfoldable pub action_outcome : List ℕ → Environment → Evaluation (List ℕ)
action_outcome s E = cond (action_sized s) (run_outcome s E) (refused 4)

unfoldable pub run_counted : List ℕ → Environment → ℕ
run_counted s E = count_in (parse_action (lent E) s) (λ a. action_count a E)

unfoldable pub action_counted : List ℕ → Environment → ℕ
action_counted s E = cond (action_sized s) (run_counted s E) 0

-- The paper's number and value for each case of the answers; a value is read as signed, an action gives none.
abbrev pub condition_paper : Result Bool Refusal → Evaluation Bool
condition_paper (Ok b) = given b
condition_paper (Err r) = refused (number_of r)

abbrev pub value_paper : Result ℕ Refusal → Evaluation ℤ
value_paper (Ok w) = given (signed w)
value_paper (Err r) = refused (number_of r)

abbrev pub action_paper : Result (Unit {0}) Refusal → Evaluation (Unit {0})
action_paper (Ok done) = given tt
action_paper (Err r) = refused (number_of r)

abbrev pub done : Evaluation (List ℕ) → Evaluation (Unit {0})
done (refused n) = refused n
done (given l) = given tt

-- Of four variables the first are the action's: those it leaves come back, and on a refusal all of them.
abbrev pub performed_on : ℕ → List ℕ → Evaluation (List ℕ) → List ℕ
performed_on count variables (refused n) = variables
performed_on count variables (given l) = l ++ drop count variables

-- The text whose length byte stands at a place, cut short where the bytes end.
abbrev pub text_from : List ℕ → ℕ → List ℕ
text_from s at = take (slice_index s at) (drop (at + 1) s)

-- Whether there is one, and it passes a test.
abbrev pub whether : {A : Type 0} → Option A → (A → Bool) → Bool
whether none p = false
whether (some a) p = p a

-- "exactly one .. by the grammar" for so many variables, and what it names
unfoldable pub condition_which : (Condition → Bool) → Lent → List ℕ → Bool
condition_which p L s = sized s && whether (parse_condition L s) p

unfoldable pub action_which : (List Assignment → Bool) → Lent → List ℕ → Bool
action_which p L s = action_sized s && whether (parse_action L s) p
