-- The conditions, actions and templates of a sheet's network are those of the sheet. Assumes nothing.
use mathlib.Core.Path.{◌≡◌, refl, ap}
use mathlib.Core.Bool.{true, ◌&&◌}
use mathlib.Core.List.{List, [], ◌∷◌, ◌++◌}
use Prim.Native.Nat.{ℕ, zero, suc}
use lib.Dec.{eqb}
use lib.ListN.{length, get_or, get_or-map}
use Rattle.condition.specs.Parse.{condition_operator, condition_from, run_from, parse_condition, parse_action}
use Rattle.condition.specs.Meaning.{Environment, holds, performed}
use Rattle.condition.specs.Answer.{whether}
use Rattle.sheet.specs.declared.Transition.{Transition}
use Rattle.sheet.specs.Parts.{Common, Sheet}
use Rattle.sheet.specs.Reading.{lent_in}
use Rattle.sheet.specs.Log.{Event}
use Rattle.step.specs.Meets.{meets, performed_by, acted}
use Rattle.step.specs.Moves.{Configuration, seen, enabled}
use Rattle.engine.specs.Machines.{no_triple}
use Rattle.translation.specs.Translate.{extended, template_of, translate}
use Rattle.monitor.specs.Monitor.{triple_in}
use Rattle.network.specs.Network.{template_in}

-- What is looked up and not there is what translating adds behind the rest.
get_d_snoc : {A : Type 0} (l : List A) (d : A) (i : ℕ) → get_or (l ++ d ∷ []) i d ≡ get_or l i d
get_d_snoc [] d zero = refl
get_d_snoc [] d (suc i) = refl
get_d_snoc (x ∷ l) d zero = refl
get_d_snoc (x ∷ l) d (suc i) = get_d_snoc l d i

get_d_last : {A : Type 0} (l : List A) (d : A) → get_or (l ++ d ∷ []) (length l) d ≡ d
get_d_last [] d = refl
get_d_last (x ∷ l) d = get_d_last l d

module _ (C : Common) where
  pub meets_extended : (i : ℕ) (E : Environment) → meets (extended C) i E ≡ meets C i E
  unfolding meets extended
  meets_extended i E = ap (λ (t : List ℕ). whether (parse_condition (lent_in C) t) (λ c. holds c E)) (get_d_snoc C.conditions (0 ∷ []) i)

  pub acted_extended : (i : ℕ) (E : Environment) → acted (extended C) i E ≡ acted C i E
  unfolding acted extended
  acted_extended i E = ap (λ (t : List ℕ). performed_by (parse_action (lent_in C) t) E) (get_d_snoc C.actions [] i)

  pub enabled_extended : (k : Configuration) (e : Event) (t : Transition) → enabled (extended C) k e t ≡ enabled C k e t
  unfolding enabled
  enabled_extended k e t = ap (λ b. eqb t.from k.main && (eqb t.kind e.kind && (eqb t.unit e.unit && b))) (meets_extended t.condition (seen e k))

  -- "condition `true` (one byte, 0) and an empty action are added last"
  pub added_condition : (E : Environment) → meets (extended C) (length C.conditions) E ≡ true
  unfolding meets extended parse_condition condition_from condition_operator holds
  added_condition E = ap (λ (t : List ℕ). whether (parse_condition (lent_in C) t) (λ c. holds c E)) (get_d_last C.conditions (0 ∷ []))

  pub added_action : (E : Environment) → acted (extended C) (length C.actions) E ≡ E.monitors
  unfolding acted extended parse_action run_from performed
  added_action E = ap (λ (t : List ℕ). performed_by (parse_action (lent_in C) t) E) (get_d_last C.actions [])

-- "Triple i becomes template i."
pub template_same : (S : Sheet) (i : ℕ) → template_in (translate S) i ≡ template_of (triple_in S i)
unfolding translate
template_same S i = get_or-map template_of S.triples i no_triple
