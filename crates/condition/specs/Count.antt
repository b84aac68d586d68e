-- How much is evaluated (document 02, request 3), beside what conditions, values and actions mean.
use Rattle.std.specs.Prelude.{ℕ, suc, ◌+◌, cond, List, [], ◌∷◌}
use Rattle.condition.specs.Tree.{Condition, always, negation, both, either, less, equal, within, Value, constant, variable, plus, minus, choose, Assignment}
use Rattle.condition.specs.Meaning.{Environment, holds, assigned}

-- "how many operators and operands it evaluated: each once when reached, the right side of `and` only if the left is true, of `or` only if the left is false, and
-- one branch of `choose`"
unfoldable mutual
  pub condition_count : Condition → Environment → ℕ
  condition_count always E = 1
  condition_count (negation c) E = suc (condition_count c E)
  condition_count (both c d) E = suc (condition_count c E + cond (holds c E) (condition_count d E) 0)
  condition_count (either c d) E = suc (condition_count c E + cond (holds c E) 0 (condition_count d E))
  condition_count (less e f) E = suc (value_count e E + value_count f E)
  condition_count (equal e f) E = suc (value_count e E + value_count f E)
  condition_count (within e f g) E = suc (value_count e E + value_count f E + value_count g E)

  pub value_count : Value → Environment → ℕ
  value_count (constant a b c d) E = 1
  value_count (variable v) E = 1
  value_count (plus e f) E = suc (value_count e E + value_count f E)
  value_count (minus e f) E = suc (value_count e E + value_count f E)
  value_count (choose c e f) E = suc (condition_count c E + cond (holds c E) (value_count e E) (value_count f E))

-- of an action "the values assigned", in order; later ones see earlier ones
unfoldable pub action_count : List Assignment → Environment → ℕ
action_count [] E = 0
action_count (a ∷ more) E = value_count a.source E + action_count more (assigned a E)
