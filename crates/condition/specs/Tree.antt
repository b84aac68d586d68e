-- The grammar of document 01, "Conditions and values", as trees, and the bytes of a tree.
use Rattle.std.specs.Prelude.{ℕ, Bool, true, false, ◌||◌, List, [], ◌∷◌, ◌++◌}

-- "17 and a program variable's number; 18 and a monitor variable's; 19 and a program variable's number, meaning its value at entry"
pub data Variable : Type 0 where
  program : ℕ → Variable
  monitor : ℕ → Variable
  at_entry : ℕ → Variable

-- "a condition may contain values, and a value may contain conditions". A constant keeps its four bytes.
mutual
  pub data Condition : Type 0 where
    always : Condition
    negation : Condition → Condition
    both : Condition → Condition → Condition
    either : Condition → Condition → Condition
    less : Value → Value → Condition
    equal : Value → Value → Condition
    within : Value → Value → Value → Condition

  pub data Value : Type 0 where
    constant : ℕ → ℕ → ℕ → ℕ → Value
    variable : Variable → Value
    plus : Value → Value → Value
    minus : Value → Value → Value
    choose : Condition → Value → Value → Value

-- "An action is a run of assignments, each a monitor variable's number and a value"
pub record Assignment : Type 0 where
  pub target : ℕ
  pub source : Value

unfoldable pub variable_bytes : Variable → List ℕ
variable_bytes (program i) = 17 ∷ i ∷ []
variable_bytes (monitor i) = 18 ∷ i ∷ []
variable_bytes (at_entry i) = 19 ∷ i ∷ []

-- "Written operator first"
unfoldable mutual
  pub condition_bytes : Condition → List ℕ
  condition_bytes always = 0 ∷ []
  condition_bytes (negation c) = 1 ∷ condition_bytes c
  condition_bytes (both c d) = 2 ∷ (condition_bytes c ++ condition_bytes d)
  condition_bytes (either c d) = 3 ∷ (condition_bytes c ++ condition_bytes d)
  condition_bytes (less e f) = 4 ∷ (value_bytes e ++ value_bytes f)
  condition_bytes (equal e f) = 5 ∷ (value_bytes e ++ value_bytes f)
  condition_bytes (within e f g) = 6 ∷ (value_bytes e ++ (value_bytes f ++ value_bytes g))

  pub value_bytes : Value → List ℕ
  value_bytes (constant a b c d) = 16 ∷ a ∷ b ∷ c ∷ d ∷ []
  value_bytes (variable v) = variable_bytes v
  value_bytes (plus e f) = 20 ∷ (value_bytes e ++ value_bytes f)
  value_bytes (minus e f) = 21 ∷ (value_bytes e ++ value_bytes f)
  value_bytes (choose c e f) = 22 ∷ (condition_bytes c ++ (value_bytes e ++ value_bytes f))

unfoldable pub action_bytes : List Assignment → List ℕ
action_bytes [] = []
action_bytes (a ∷ more) = a.target ∷ (value_bytes a.source ++ action_bytes more)

-- Whether a tree names a variable that p picks.
unfoldable mutual
  pub condition_names : Condition → (Variable → Bool) → Bool
  condition_names always p = false
  condition_names (negation c) p = condition_names c p
  condition_names (both c d) p = condition_names c p || condition_names d p
  condition_names (either c d) p = condition_names c p || condition_names d p
  condition_names (less e f) p = value_names e p || value_names f p
  condition_names (equal e f) p = value_names e p || value_names f p
  condition_names (within e f g) p = value_names e p || (value_names f p || value_names g p)

  pub value_names : Value → (Variable → Bool) → Bool
  value_names (constant a b c d) p = false
  value_names (variable v) p = p v
  value_names (plus e f) p = value_names e p || value_names f p
  value_names (minus e f) p = value_names e p || value_names f p
  value_names (choose c e f) p = condition_names c p || (value_names e p || value_names f p)

-- The same of the values that a run of assignments reads.
unfoldable pub action_names : List Assignment → (Variable → Bool) → Bool
action_names [] p = false
action_names (a ∷ more) p = value_names a.source p || action_names more p

unfoldable pub is_monitor : Variable → Bool
is_monitor (program i) = false
is_monitor (monitor i) = true
is_monitor (at_entry i) = false

unfoldable pub is_at_entry : Variable → Bool
is_at_entry (program i) = false
is_at_entry (monitor i) = false
is_at_entry (at_entry i) = true
