-- Conditions and actions of a sheet by their numbers, and how much of them is evaluated (document 02, request 3).
use Rattle.std.specs.Prelude.{Bool, List, [], ℕ, get_or}
use Rattle.std.proofs.Math.Option.{Option, none, some}
use Rattle.condition.specs.Tree.{Assignment}
use Rattle.condition.specs.Parse.{parse_condition, parse_action}
use Rattle.condition.specs.Meaning.{Environment, holds, performed}
use Rattle.condition.specs.Count.{condition_count, action_count}
use Rattle.condition.specs.Answer.{whether, count_in}
use Rattle.sheet.specs.Parts.{Common}
use Rattle.sheet.specs.Reading.{lent_in, condition_in}

-- whether a condition holds
unfoldable pub meets : Common → ℕ → Environment → Bool
meets C i E = whether (parse_condition (lent_in C) (condition_in C i)) (λ c. holds c E)

unfoldable pub meets_count : Common → ℕ → Environment → ℕ
meets_count C i E = count_in (parse_condition (lent_in C) (condition_in C i)) (λ c. condition_count c E)

-- the monitor variables after an action
abbrev pub performed_by : Option (List Assignment) → Environment → List ℕ
performed_by none E = E.monitors
performed_by (some a) E = performed a E

unfoldable pub acted : Common → ℕ → Environment → List ℕ
acted C i E = performed_by (parse_action (lent_in C) (get_or C.actions i [])) E

unfoldable pub acted_count : Common → ℕ → Environment → ℕ
acted_count C i E = count_in (parse_action (lent_in C) (get_or C.actions i [])) (λ a. action_count a E)
