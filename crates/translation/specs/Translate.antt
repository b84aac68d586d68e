-- Translating a sheet to its network (document 01, "Network layout and translation"; source document 003, algorithm 2).
use Rattle.std.specs.Prelude.{cond, ◌&&◌, List, [], ◌∷◌, ◌++◌, map, ℕ, zero, suc, eqb, length}
use Rattle.sheet.specs.declared.Transition.{Transition}
use Rattle.sheet.specs.declared.Triple.{Triple}
use Rattle.sheet.specs.declared.Pair.{Pair}
use Rattle.sheet.specs.declared.Template.{Template}
use Rattle.sheet.specs.Parts.{Common, Sheet, Paired, Network}

-- "the pairs (precondition, triple number) of its state's and unit's triples, in triple order", from a first number on
unfoldable pub pairs_from : ℕ → ℕ → ℕ → List Triple → List Pair
pairs_from i q u [] = []
pairs_from i q u (t ∷ l) = cond (eqb t.state q && eqb t.unit u) (record { condition = t.precondition; template = i } ∷ pairs_from (suc i) q u l) (pairs_from (suc i) q u l)

abbrev pub pairs_of : Sheet → ℕ → ℕ → List Pair
pairs_of S q u = pairs_from 0 q u S.triples

-- "Each transition is copied; an entry one gets the pairs"
abbrev pub copied : Sheet → Transition → Paired
copied S t = record { base = t; pairs = cond (eqb t.kind 0) (pairs_of S t.from t.unit) [] }

-- "each pair that has triples gets one entry transition back to the same state, with the added condition and action and the same pairs"
abbrev pub back : Sheet → ℕ → ℕ → List Pair → List Paired
back S q u [] = []
back S q u (p ∷ l) = record { base = record { from = q; kind = 0; unit = u; condition = length S.common.conditions; action = length S.common.actions; to = q }; pairs = p ∷ l } ∷ []

-- what belongs to the numbers below n, in their order
unfoldable pub joined : {A : Type 0} → ℕ → (ℕ → List A) → List A
joined zero f = []
joined (suc n) f = joined n f ++ f n

-- "Then, by state and then unit"
unfoldable pub added : Sheet → List Paired
added S = joined S.common.states (λ q. joined S.common.units (λ u. back S q u (pairs_of S q u)))

-- "conditions and actions are copied; condition `true` (one byte, 0) and an empty action are added last"
unfoldable pub extended : Common → Common
extended C =
    record {
      states = C.states;
      units = C.units;
      programs = C.programs;
      monitors = C.monitors;
      start = C.start;
      bad = C.bad;
      initial = C.initial;
      conditions = C.conditions ++ (0 ∷ []) ∷ [];
      actions = C.actions ++ [] ∷ [];
    }

-- "Triple i becomes template i."
abbrev pub template_of : Triple → Template
template_of t = record { unit = t.unit; postcondition = t.postcondition }

unfoldable pub translate : Sheet → Network
translate S = record { common = extended S.common; transitions = map (copied S) S.transitions ++ added S; templates = map template_of S.triples }
