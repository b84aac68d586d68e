-- What the private functions that walk over the tables promise.
use Rattle.std.specs.Prelude.{Bool, false, not, ◌&&◌, ◌≡◌, List, ℕ, ◌≤◌, ltb, get_or, drop}
use Rattle.condition.specs.declared.Lent.{Lent}
use Rattle.condition.specs.Tree.{condition_names, is_monitor, is_at_entry, Variable}
use Rattle.condition.specs.Answer.{condition_which}
use Rattle.sheet.specs.declared.Transition.{Transition}
use Rattle.sheet.specs.declared.Triple.{Triple}
use Rattle.sheet.specs.declared.Pair.{Pair}
use Rattle.sheet.specs.declared.Template.{Template}
use Rattle.sheet.specs.Parts.{Paired}
use Rattle.sheet.specs.declared.names.Conditions.{Conditions}
use Rattle.sheet.specs.declared.names.Names.{Names}
use Rattle.sheet.specs.declared.Places.{Places}
use Rattle.sheet.specs.declared.walk.Tables.{Tables}
use Rattle.sheet.specs.Table.{Form, table, after, starts, fit, every}
use Rattle.sheet.specs.Decode.{wide, text_form, length_form, pair_count_form, template_form, conditions_in, actions_in, transitions_in, last_in, conditions_at, actions_at, transitions_at, last_at, common_of}
use Rattle.sheet.specs.declared.Counts.{Counts}
use Rattle.sheet.specs.Reading.{between, most_bytes, lent_in, transition_ranged, pair_ranged}

-- whether the length bytes of the conditions, of the actions and of a network's transitions are in range
abbrev pub condition_lengths : List ℕ → Bool
condition_lengths s = every (between 1 (most_bytes (wide s))) (table (length_form (wide s)) (conditions_in s) s (conditions_at s))

abbrev pub action_lengths : List ℕ → Bool
action_lengths s = every (between 0 (most_bytes false)) (table (length_form false) (actions_in s) s (actions_at s))

abbrev pub pair_counts : List ℕ → Bool
pair_counts s = every (between 0 4) (table pair_count_form (transitions_in s) s (transitions_at s))

-- where the tables begin, the last two with records of these forms, and where the last ends
pub record Finds {T R : Type 0} (F : Form T) (G : Form R) (s : List ℕ) (r : Tables) : Type 0 where
  pub conditions : r.conditions ≡ conditions_at s
  pub actions : r.actions ≡ actions_at s
  pub transitions : r.transitions ≡ transitions_at s
  pub last : r.last ≡ last_at F s
  pub end : r.end ≡ after G (last_in s) s (last_at F s)
  pub small_conditions : r.conditions ≤ 70000000
  pub small_actions : r.actions ≤ 70000000
  pub small_transitions : r.transitions ≤ 70000000
  pub small_last : r.last ≤ 70000000

-- where the parts stand, by the tables
abbrev pub places_by : List ℕ → Tables → Places
places_by s t = record { conditions = fit 161 0 (starts (text_form (wide s)) (conditions_in s) s t.conditions); actions = fit 161 0 (starts (text_form false) (actions_in s) s t.actions); transitions = t.transitions; last = t.last }

-- the conditions by their number, of which the first begins at a place
pub record Numbered (s : List ℕ) (at : ℕ) (C : Conditions) : Type 0 where
  pub bytes : C.s.now ≡ s
  pub index : C.index ≡ fit 161 0 (starts (text_form (wide s)) (conditions_in s) s at)
  pub count : C.count ≡ conditions_in s
  pub lent : C.lent ≡ lent_in (common_of s)

-- whether a condition names a variable that p picks, by its number: the places where the conditions begin, and how many there are
abbrev pub names_at : (Variable → Bool) → List ℕ → List ℕ → ℕ → Lent → ℕ → Bool
names_at p s index n L i = ltb i n && condition_which (λ c. condition_names c p) L ((text_form (wide s)).value (drop (get_or index i 0) s))

abbrev pub names_in : (Variable → Bool) → Conditions → ℕ → Bool
names_in p C i = names_at p C.s.now C.index C.count C.lent i

abbrev pub guard_suits : Conditions → Transition → Bool
guard_suits C t = not (names_in is_at_entry C t.condition)

abbrev pub triple_suits : Conditions → Triple → Bool
triple_suits C t = not (names_in is_at_entry C t.precondition) && not (names_in is_monitor C t.postcondition)

abbrev pub pair_suits : Conditions → Pair → Bool
pair_suits C p = not (names_in is_at_entry C p.condition)

abbrev pub paired_suits : Conditions → Paired → Bool
paired_suits C t = guard_suits C t.base && every (pair_suits C) t.pairs

abbrev pub template_suits : Conditions → Template → Bool
template_suits C t = not (names_in is_monitor C t.postcondition)

-- a triple of one of sixteen states and one of sixteen units, which 3 and 6 leave
abbrev pub within : Triple → Bool
within t = ltb t.state 16 && ltb t.unit 16

-- the templates that a network's transitions may name
abbrev pub templates_of : Names → List Template
templates_of N = table template_form N.templates N.s.now N.last

-- 6 of a transition with pairs
abbrev pub paired_ranged : Counts → List Template → Paired → Bool
paired_ranged n rs t = transition_ranged n t.base && every (pair_ranged n rs t.base) t.pairs
