-- The network for the conflict monitor card (change request 5): of each state, kind and unit at most one transition is enabled, so that their order is none.
use Rattle.std.specs.Prelude.{Bool, cond, ◌&&◌, List, [], ◌∷◌, ◌++◌, ℕ, suc, eqb, length}
use Rattle.sheet.specs.declared.Transition.{Transition}
use Rattle.sheet.specs.Parts.{Common, Sheet, Paired, Network, bases}
use Rattle.sheet.specs.Reading.{condition_in}
use Rattle.translation.specs.Translate.{translate}

-- "of the same state, kind and unit"
abbrev pub is_of : ℕ → ℕ → ℕ → Transition → Bool
is_of state kind unit t = eqb t.from state && (eqb t.kind kind && eqb t.unit unit)

-- "for each earlier transition of the same state, kind and unit, in order, the bytes of `and`, `not` and that one's old condition, then its own"
unfoldable pub joined_text : Common → Transition → List Transition → List ℕ
joined_text C t [] = condition_in C t.condition
joined_text C t (u ∷ earlier) = cond (is_of t.from t.kind t.unit u) (2 ∷ 1 ∷ (condition_in C u.condition ++ joined_text C t earlier)) (joined_text C t earlier)

-- "new ones, one for each transition in order"
unfoldable pub joined_from : Common → List Transition → List Transition → List (List ℕ)
joined_from C earlier [] = []
joined_from C earlier (t ∷ l) = joined_text C t earlier ∷ joined_from C (earlier ++ t ∷ []) l

abbrev pub joined_conditions : Network → List (List ℕ)
joined_conditions N = joined_from N.common [] (bases N)

-- "and used by it"
abbrev pub guarded_by : ℕ → Paired → Paired
guarded_by i t = record { base = record { from = t.base.from; kind = t.base.kind; unit = t.base.unit; condition = i; action = t.base.action; to = t.base.to }; pairs = t.pairs }

unfoldable pub guarded_from : ℕ → List Paired → List Paired
guarded_from i [] = []
guarded_from i (t ∷ l) = guarded_by i t ∷ guarded_from (suc i) l

-- "After the old conditions come new ones"
unfoldable pub with_conditions : Common → List (List ℕ) → Common
with_conditions C new =
    record {
      states = C.states;
      units = C.units;
      programs = C.programs;
      monitors = C.monitors;
      start = C.start;
      bad = C.bad;
      initial = C.initial;
      conditions = C.conditions ++ new;
      actions = C.actions;
    }

unfoldable pub separated : Network → Network
separated N =
    record {
      common = with_conditions N.common (joined_conditions N);
      transitions = guarded_from (length N.common.conditions) N.transitions;
      templates = N.templates;
    }

-- "From an accepted sheet write its network in a second form"
unfoldable pub card : Sheet → Network
card S = separated (translate S)
