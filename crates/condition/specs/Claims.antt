-- What is claimed of conditions, values and actions beside what the operations promise.
use Rattle.std.specs.Prelude.{◌≡◌, ℕ, ◌^◌, ◌<◌, ◌≤◌, true, false, List, length, Result, Ok, Err}
use Rattle.std.proofs.Math.Option.{some}
use Rattle.condition.specs.declared.Lent.{Lent}
use Rattle.refusal.specs.declared.Refusal.{Refusal}
use Rattle.condition.specs.Tree.{Condition, Value, Assignment, condition_bytes, value_bytes, action_bytes, condition_names, value_names, action_names}
use Rattle.condition.specs.Parse.{unlent, targets_below, parse_condition, parse_value, parse_action}
use Rattle.condition.specs.Answer.{condition_paper, value_paper, action_paper, condition_counted, value_counted, action_counted}
use Rattle.condition.specs.Meaning.{Environment}

-- "a definition gives this paper's number and values for each of its cases": no two have the same, so that a promise about them determines the answer
abbrev pub Injective : {A B : Type 0} → (A → B) → Type 0
Injective {A} f = (a b : A) → f a ≡ f b → a ≡ b

abbrev pub IsWord : Result ℕ Refusal → Type 0
IsWord (Ok w) = w < 2 ^ 32
IsWord (Err r) = Unit {0}

pub record Told : Type 0 where
  pub conditions : Injective condition_paper
  pub values : (a b : Result ℕ Refusal) → IsWord a → IsWord b → value_paper a ≡ value_paper b → a ≡ b
  pub actions : Injective action_paper

-- Parsing and bytes undo each other: a tree that names only what is lent is read back from its bytes, and what is read has no other bytes.
pub record RoundTrip (L : Lent) : Type 0 where
  pub conditions : (c : Condition) → condition_names c (unlent L) ≡ false → parse_condition L (condition_bytes c) ≡ some c
  pub values : (e : Value) → value_names e (unlent L) ≡ false → parse_value L (value_bytes e) ≡ some e
  pub actions : (a : List Assignment) → action_names a (unlent L) ≡ false → targets_below L.monitors a ≡ true → parse_action L (action_bytes a) ≡ some a
  pub of_condition : (s : List ℕ) (c : Condition) → parse_condition L s ≡ some c → s ≡ condition_bytes c
  pub of_value : (s : List ℕ) (e : Value) → parse_value L s ≡ some e → s ≡ value_bytes e
  pub of_action : (s : List ℕ) (a : List Assignment) → parse_action L s ≡ some a → s ≡ action_bytes a

-- Document 02, request 3: a text of n bytes counts at most n.
pub record AtMostBytes (s : List ℕ) (E : Environment) : Type 0 where
  pub conditions : condition_counted s E ≤ length s
  pub values : value_counted s E ≤ length s
  pub actions : action_counted s E ≤ length s

abbrev pub FewCounted : Type 0
FewCounted = (s : List ℕ) (E : Environment) → AtMostBytes s E
