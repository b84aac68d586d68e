-- Reading a sheet and reading a network (document 01, "What each operation turns away"): the first refusal that applies, by number over the whole
-- input, or 0. One definition over a description of the layout.
use Rattle.std.specs.Prelude.{Bool, true, false, not, cond, ◌&&◌, List, [], ◌∷◌, map, ℕ, zero, suc, ◌/◌, ◌%◌, ◌^◌, leb, ltb, eqb, length, get_or}
use Rattle.condition.specs.declared.Lent.{Lent}
use Rattle.condition.specs.Tree.{condition_names, action_names, is_monitor, is_at_entry}
use Rattle.condition.specs.Answer.{condition_which, action_which}
use Rattle.sheet.specs.declared.Counts.{Counts}
use Rattle.sheet.specs.declared.Transition.{Transition}
use Rattle.sheet.specs.declared.Triple.{Triple}
use Rattle.sheet.specs.declared.Pair.{Pair}
use Rattle.sheet.specs.declared.Template.{Template}
use Rattle.sheet.specs.Bytes.{byte, half}
use Rattle.sheet.specs.Table.{Form, table, after, every}
use Rattle.sheet.specs.Parts.{Common, Paired}
use Rattle.sheet.specs.Decode.{wide, length_form, transition_form, triple_form, paired_form, pair_count_form, template_form, conditions_in, actions_in, transitions_in, last_in, conditions_at, actions_at, transitions_at, last_at, common_of}

-- The parts in which a condition is used.
pub data Role : Type 0 where
  guard precondition postcondition : Role

pub record Use : Type 0 where
  pub number : ℕ
  pub role : Role

-- What tells a sheet's layout from a network's: the versions, the most conditions (by whether their lengths are wide), actions and transitions, the transitions T and the last table's
-- records R, how many pairs a transition says that it has, what 6 asks of both, in which roles they use conditions, and what 8 asks.
pub record Layout (T R : Type 0) : Type 0 where
  pub version : ℕ → Bool
  pub conditions : Bool → ℕ
  pub actions : ℕ
  pub transitions : ℕ
  pub transition : Form T
  pub last : Form R
  pub pair_counts : Form ℕ
  pub transition_ranged : Common → List R → T → Bool
  pub last_ranged : Common → R → Bool
  pub transition_uses : T → List Use
  pub last_uses : R → List Use
  pub spread : List R → Bool

abbrev pub between : ℕ → ℕ → ℕ → Bool
between low high n = leb low n && leb n high

-- the bit worth 2^s
abbrev pub is_bad : ℕ → ℕ → Bool
is_bad m s = eqb (m / 2 ^ s % 2) 1

-- what the conditions and actions may name: program variables, monitor variables, values at entry
abbrev pub lent_in : Common → Lent
lent_in C = record { programs = C.programs; monitors = C.monitors; kept = C.programs }

-- a condition by its number; one that is not there is `true`
abbrev pub condition_in : Common → ℕ → List ℕ
condition_in C i = get_or C.conditions i (0 ∷ [])

-- 1: "under 14 bytes, or the length isn't the slice's"
unfoldable pub whole : List ℕ → Bool
whole s = leb 14 (length s) && eqb (half s 0) (length s)

-- "start not below Q, a bad bit at or above Q, or start bad"
abbrev pub start_holds : List ℕ → Bool
start_holds s = ltb (byte s 7) (byte s 3) && (eqb (half s 8 / 2 ^ byte s 3) 0 && not (is_bad (half s 8) (byte s 7)))

-- 3: "a count out of range, start not below Q, a bad bit at or above Q, or start bad", for the most conditions, actions and transitions
abbrev pub counts_hold : ℕ → ℕ → ℕ → List ℕ → Bool
counts_hold conditions actions transitions s =
    between 1 16 (byte s 3) && (between 1 16 (byte s 4) && (leb (byte s 5) 8 && (leb (byte s 6) 4 && (leb (conditions_in s) conditions && (leb (actions_in s) actions && (leb (transitions_in s) transitions && (leb (last_in s) 32
    && start_holds s)))))))

unfoldable pub counted : {T R : Type 0} → Layout T R → List ℕ → Bool
counted F s = counts_hold (F.conditions (wide s)) F.actions F.transitions s

-- the most bytes of a condition, by whether lengths are wide; and of an action, whose lengths never are
abbrev pub most_bytes : Bool → ℕ
most_bytes w = cond w 1024 64

-- 4: "a length byte out of range, or the tables don't end exactly at the end"; for a network "4 includes n over 4"
unfoldable pub tabled : {T R : Type 0} → Layout T R → List ℕ → Bool
tabled F s =
    every (between 1 (most_bytes (wide s))) (table (length_form (wide s)) (conditions_in s) s (conditions_at s)) && (every (between 0 (most_bytes false)) (table (length_form false) (actions_in s) s (actions_at s)) && (every (between 0 4) (table F.pair_counts (transitions_in s) s (transitions_at s))
    && eqb (after F.last (last_in s) s (last_at F.transition s)) (length s)))

-- 5: "a condition or action isn't exactly one, or exactly a run of assignments, by the grammar, or has a variable out of range"
unfoldable pub formed : Common → Bool
formed C = every (condition_which (λ _. true) (lent_in C)) C.conditions && every (action_which (λ _. true) (lent_in C)) C.actions

-- 7: whether a condition may stand in a role
abbrev pub names_entry : Common → List ℕ → Bool
names_entry C t = condition_which (λ c. condition_names c is_at_entry) (lent_in C) t

abbrev pub names_monitor : Common → List ℕ → Bool
names_monitor C t = condition_which (λ c. condition_names c is_monitor) (lent_in C) t

abbrev pub suits : Common → List ℕ → Role → Bool
suits C t guard = not (names_entry C t)
suits C t precondition = not (names_entry C t)
suits C t postcondition = not (names_monitor C t)

abbrev pub used_well : Common → Use → Bool
used_well C u = suits C (condition_in C u.number) u.role

-- 7: "value-at-entry in an action or transition's condition; value-at-entry .. in a precondition; a monitor variable in a postcondition"; document 02, request
-- 13: "7 no longer turns away monitor variables in preconditions and pairs"
unfoldable pub roled : {T R : Type 0} → Layout T R → Common → List T → List R → Bool
roled F C ts rs =
    every (λ a. not (action_which (λ r. action_names r is_at_entry) (lent_in C) a)) C.actions && (every (λ t. every (used_well C) (F.transition_uses t)) ts && every (λ r. every (used_well C) (F.last_uses r)) rs)

-- 6: "a transition or triple has a number out of range"
unfoldable pub ranged : {T R : Type 0} → Layout T R → Common → List T → List R → Bool
ranged F C ts rs = every (F.transition_ranged C rs) ts && every (F.last_ranged C) rs

abbrev pub unless : Bool → ℕ → ℕ → ℕ
unless true n rest = rest
unless false n rest = n

-- the first of two numbers that is not 0
abbrev pub or_else : ℕ → ℕ → ℕ
or_else zero m = m
or_else (suc n) m = suc n

abbrev pub transitions_of : {T R : Type 0} → Layout T R → List ℕ → List T
transitions_of F s = table F.transition (transitions_in s) s (transitions_at s)

abbrev pub last_of : {T R : Type 0} → Layout T R → List ℕ → List R
last_of F s = table F.last (last_in s) s (last_at F.transition s)

-- "accepted, or the first that applies. 1 .. 2: other version .. 8"
unfoldable pub reading : {T R : Type 0} → Layout T R → List ℕ → ℕ
reading F s =
    unless (whole s) 1
    (unless (F.version (byte s 2)) 2
    (unless (counted F s) 3
    (unless (tabled F s) 4
    (unless (formed (common_of s)) 5
    (unless (ranged F (common_of s) (transitions_of F s) (last_of F s)) 6
    (unless (roled F (common_of s) (transitions_of F s) (last_of F s)) 7
    (unless (F.spread (last_of F s)) 8 0)))))))

-- how many there are of what a transition, triple or template names
abbrev pub counts_of : Common → Counts
counts_of C = record { states = C.states; units = C.units; conditions = length C.conditions; actions = length C.actions }

-- 6 of a transition's six numbers
unfoldable pub transition_ranged : Counts → Transition → Bool
transition_ranged n t =
    ltb t.from n.states && (leb t.kind 1 && (ltb t.unit n.units && (ltb t.condition n.conditions && (ltb t.action n.actions && ltb t.to n.states))))

unfoldable pub triple_ranged : Counts → Triple → Bool
triple_ranged n t = ltb t.state n.states && (ltb t.unit n.units && (ltb t.precondition n.conditions && ltb t.postcondition n.conditions))

-- 8: "over four triples of one state and unit"
unfoldable pub together : Triple → List Triple → ℕ
together t [] = 0
together t (u ∷ l) = cond (eqb u.state t.state && eqb u.unit t.unit) (suc (together t l)) (together t l)

abbrev pub sheet_layout : Layout Transition Triple
sheet_layout =
    record {
      version = between 1 1;
      conditions = λ w. 64;
      actions = 32;
      transitions = 64;
      transition = transition_form;
      last = triple_form;
      pair_counts = record { value = λ s. 0; size = λ s. 6 };
      transition_ranged = λ C rs t. transition_ranged (counts_of C) t;
      last_ranged = λ C t. triple_ranged (counts_of C) t;
      transition_uses = λ t. record { number = t.condition; role = guard } ∷ [];
      last_uses = λ t. record { number = t.precondition; role = precondition } ∷ record { number = t.postcondition; role = postcondition } ∷ [];
      spread = λ l. every (λ t. leb (together t l) 4) l;
    }

-- "6 includes pairs on an exit, and a template of another unit than its transition's"
abbrev pub no_template : Template
no_template = record { unit = 0; postcondition = 0 }

unfoldable pub pair_ranged : Counts → List Template → Transition → Pair → Bool
pair_ranged n rs t p = eqb t.kind 0 && (ltb p.condition n.conditions && (ltb p.template (length rs) && eqb (get_or rs p.template no_template).unit t.unit))

unfoldable pub template_ranged : Counts → Template → Bool
template_ranged n t = ltb t.unit n.units && ltb t.postcondition n.conditions

-- "As the sheet, but version 2, with up to 65 conditions, 33 actions, 96 transitions"; "version 3 allows up to 161 conditions of 1 to 1,024 bytes"; "the same with its layout and without 8"; "In 7, pairs count as
-- preconditions"
abbrev pub network_layout : Layout Paired Template
network_layout =
    record {
      version = between 2 3;
      conditions = λ w. cond w 161 65;
      actions = 33;
      transitions = 96;
      transition = paired_form;
      last = template_form;
      pair_counts = pair_count_form;
      transition_ranged = λ C rs t. transition_ranged (counts_of C) t.base && every (pair_ranged (counts_of C) rs t.base) t.pairs;
      last_ranged = λ C t. template_ranged (counts_of C) t;
      transition_uses = λ t. record { number = t.base.condition; role = guard } ∷ map (λ p. record { number = p.condition; role = precondition }) t.pairs;
      last_uses = λ t. record { number = t.postcondition; role = postcondition } ∷ [];
      spread = λ l. true;
    }
