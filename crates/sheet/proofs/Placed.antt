-- The conditions and actions of accepted bytes, by their numbers in the index. Assumes nothing.
use mathlib.Core.Path.{◌≡◌}
use mathlib.Core.Bool.{Bool, true, false}
use mathlib.Core.List.{List, [], ◌∷◌}
use Prim.Native.Nat.{ℕ, ◌≤◌, ◌<◌}
use native.Mathlib.Omega.{arith}
use lib.ListN.{length, get_or, drop}
use Rattle.sheet.specs.Table.{starts, fit}
use Rattle.sheet.specs.Decode.{wide, text_form, conditions_in, actions_in, conditions_at, actions_at, common_of}
use Rattle.sheet.specs.Reading.{Layout, condition_in, network_layout}
use Rattle.sheet.proofs.Tables.{length_records, indexed}
use Rattle.sheet.proofs.Accepted.{Accepted, bounds}

-- the index of the conditions, and that of the actions
abbrev pub condition_places : List ℕ → List ℕ
condition_places s = fit 161 0 (starts (text_form (wide s)) (conditions_in s) s (conditions_at s))

abbrev pub action_places : List ℕ → List ℕ
action_places s = fit 161 0 (starts (text_form false) (actions_in s) s (actions_at s))

-- so many conditions have places in the index
pub network_few : (w : Bool) → network_layout.conditions w ≤ 161
network_few true = omega arith
network_few false = omega arith

module _ {T R : Type 0} {F : Layout T R} {s : List ℕ} (a : Accepted F s) (i : ℕ) where
  pub condition_there : F.conditions (wide s) ≤ 161 → i < length (common_of s).conditions → (text_form (wide s)).value (drop (get_or (condition_places s) i 0) s) ≡ condition_in (common_of s) i
  unfolding common_of
  condition_there few h =
      let long = length_records (text_form (wide s)) (conditions_in s) (drop (conditions_at s) s) in
      let most = (bounds a).conditions in
      indexed (text_form (wide s)) 161 (conditions_in s) s (conditions_at s) i (0 ∷ []) (omega arith) (omega arith)

  pub action_there : F.actions ≤ 161 → i < length (common_of s).actions → (text_form false).value (drop (get_or (action_places s) i 0) s) ≡ get_or (common_of s).actions i []
  unfolding common_of
  action_there few h =
      let long = length_records (text_form false) (actions_in s) (drop (actions_at s) s) in
      let most = (bounds a).actions in
      indexed (text_form false) 161 (actions_in s) s (actions_at s) i [] (omega arith) (omega arith)
