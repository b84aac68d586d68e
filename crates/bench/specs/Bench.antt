-- Test conditions for the card's bench (document 02, request 10): which there are, their order, and what the two operations answer.
use Rattle.std.specs.Prelude.{◌≡◌, ◌⊎◌, Bool, true, false, not, cond, ◌&&◌, ◌||◌, List, [], ◌∷◌, ◌++◌, ℕ, ◌-◌, ◌<◌, eqb, ltb, leb, length, take, drop, replicate, Option, None, Some, Result, Ok, Err}
use Rattle.condition.specs.declared.Lent.{Lent}
use Rattle.condition.specs.Tree.{Condition, always, negation, both, either, less, equal, within, Value, constant, variable, plus, minus, choose}
use Rattle.condition.specs.Parse.{parse_condition}
use Rattle.condition.specs.Answer.{whether}
use Rattle.refusal.specs.declared.Refusal.{Refusal}
use Rattle.refusal.specs.Numbers.{number_of}

-- "no constants": whether a tree has one
unfoldable mutual
  pub condition_has_constant : Condition → Bool
  condition_has_constant always = false
  condition_has_constant (negation c) = condition_has_constant c
  condition_has_constant (both c d) = condition_has_constant c || condition_has_constant d
  condition_has_constant (either c d) = condition_has_constant c || condition_has_constant d
  condition_has_constant (less e f) = value_has_constant e || value_has_constant f
  condition_has_constant (equal e f) = value_has_constant e || value_has_constant f
  condition_has_constant (within e f g) = value_has_constant e || (value_has_constant f || value_has_constant g)

  pub value_has_constant : Value → Bool
  value_has_constant (constant a b c d) = true
  value_has_constant (variable v) = false
  value_has_constant (plus e f) = value_has_constant e || value_has_constant f
  value_has_constant (minus e f) = value_has_constant e || value_has_constant f
  value_has_constant (choose c e f) = condition_has_constant c || (value_has_constant e || value_has_constant f)

-- "one program variable, no monitor variables, .. and no values at entry": what there is to name
abbrev pub lending : Lent
lending = record { programs = 1; monitors = 0; kept = 0 }

-- "every condition of exactly n bytes, .. with one program variable, no monitor variables, no constants and no values at entry"
unfoldable pub is_test_condition : ℕ → List ℕ → Bool
is_test_condition n s = eqb (length s) n && whether (parse_condition lending s) (λ c. not (condition_has_constant c))

-- "in byte order": the first byte in which two strings differ decides, and a string stands before those that go on from it
unfoldable pub precedes : List ℕ → List ℕ → Bool
precedes [] [] = false
precedes [] (b ∷ t) = true
precedes (a ∷ s) [] = false
precedes (a ∷ s) (b ∷ t) = ltb a b || (eqb a b && precedes s t)

-- s is the least, in that order, of the strings that pass a test
pub record Least (p : List ℕ → Bool) (s : List ℕ) : Type 0 where
  pub passes : p s ≡ true
  pub least : (t : List ℕ) → p t ≡ true → (t ≡ s) ⊎ (precedes s t ≡ true)

-- "the first for n"
abbrev pub IsFirst : ℕ → List ℕ → Type 0
IsFirst n s = Least (is_test_condition n) s

-- a test condition that is greater than g
abbrev pub is_greater : ℕ → List ℕ → List ℕ → Bool
is_greater n g t = is_test_condition n t && precedes g t

-- "the next one after a given one"
abbrev pub IsNext : ℕ → List ℕ → List ℕ → Type 0
IsNext n g s = Least (is_greater n g) s

-- "or says there is none"
abbrev pub NoneGreater : ℕ → List ℕ → Type 0
NoneGreater n g = (t : List ℕ) → is_greater n g t ≡ false

-- "n from 1 to 8"
abbrev pub in_range : ℕ → Bool
in_range n = leb 1 n && leb n 8

-- "answered as eight bytes, zeros behind the n"
abbrev pub padded : List ℕ → List ℕ
padded s = s ++ replicate (8 - length s) 0

unfoldable pub all_zero : List ℕ → Bool
all_zero [] = true
all_zero (b ∷ l) = eqb b 0 && all_zero l

-- "Given .. as eight bytes, zeros behind the n"
unfoldable pub is_given : ℕ → List ℕ → Bool
is_given n g = is_test_condition n (take n g) && all_zero (drop n g)

-- "22 for n out of range; then 26 if the given bytes aren't such a condition": 0 where it is not turned away
abbrev pub first_refusal : ℕ → ℕ
first_refusal n = cond (in_range n) 0 22

abbrev pub next_refusal : ℕ → List ℕ → ℕ
next_refusal n g = cond (in_range n) (cond (is_given n g) 0 26) 22

-- What the paper answers: eight bytes, that there is no condition to give, or the number of a refusal.
pub data Reply : Type 0 where
  gives : List ℕ → Reply
  says_none : Reply
  refused : ℕ → Reply

-- The paper's reply for each case of an answer. Where no condition is given, no bytes come back.
abbrev pub first_paper : Result (List ℕ) Refusal → Reply
first_paper (Ok bytes) = gives bytes
first_paper (Err e) = refused (number_of e)

abbrev pub next_paper : Result (Option (List ℕ)) Refusal → Reply
next_paper (Ok (Some bytes)) = gives bytes
next_paper (Ok None) = says_none
next_paper (Err e) = refused (number_of e)

-- "gives by value the first for n"
abbrev pub FirstReply : ℕ → Reply → Type 0
FirstReply n (gives bytes) = (first_refusal n ≡ 0) × ((s : List ℕ) × (IsFirst n s × (bytes ≡ padded s)))
FirstReply n says_none = ⊥
FirstReply n (refused m) = (0 < m) × (m ≡ first_refusal n)

abbrev pub FirstAnswer : ℕ → Result (List ℕ) Refusal → Type 0
FirstAnswer n r = FirstReply n (first_paper r)

-- "and the next one after a given one, or says there is none"
abbrev pub NextReply : ℕ → List ℕ → Reply → Type 0
NextReply n g (gives bytes) = (next_refusal n g ≡ 0) × ((s : List ℕ) × (IsNext n (take n g) s × (bytes ≡ padded s)))
NextReply n g says_none = (next_refusal n g ≡ 0) × NoneGreater n (take n g)
NextReply n g (refused m) = (0 < m) × (m ≡ next_refusal n g)

abbrev pub NextAnswer : ℕ → List ℕ → Result (Option (List ℕ)) Refusal → Type 0
NextAnswer n g r = NextReply n g (next_paper r)
