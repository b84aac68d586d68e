-- Sound network states (document 01, "Network layout and translation"), without padding.
use Rattle.std.specs.Prelude.{Bool, true, ◌&&◌, List, [], ◌∷◌, map, ℕ, eqb, leb, ltb, length}
use Rattle.sheet.specs.Table.{every}
use Rattle.sheet.specs.Parts.{Network}
use Rattle.step.specs.Lists.{any, keep, distinct, place_of}
use Rattle.step.specs.Calls.{Call, most_calls, most_armed, entries_sound}
use Rattle.step.specs.Verdicts.{verdict_fits}
use Rattle.network.specs.declared.Checker.{Checker}
use Rattle.network.specs.Network.{State, template_in, bound_to, of_number}

-- "units below U"; a call keeps P values
unfoldable pub call_sound : Network → Call → Bool
call_sound N c = ltb c.unit N.common.units && eqb (length c.kept) N.common.programs

-- "each on an open call of its template's unit"
unfoldable pub on_call : Network → List Call → Checker → Bool
on_call N calls h = ltb h.template (length N.templates) && any (λ (c : Call). eqb c.number h.number && eqb c.unit (template_in N h.template).unit) calls

-- request 4: 9 also covers "a checker's that isn't its call's"
unfoldable pub entry_of_call : List Call → Checker → Bool
entry_of_call calls h = any (λ (c : Call). eqb c.number h.number && eqb c.entry h.entry) calls

-- "at most four a call"
unfoldable pub four_acall : List Call → List Checker → Bool
four_acall calls l = every (λ (c : Call). leb (length (keep (bound_to c.number) l)) most_armed) calls

-- "its checkers stand in their calls' order": the places of their calls never fall
unfoldable pub never_falls : ℕ → List ℕ → Bool
never_falls n [] = true
never_falls n (m ∷ l) = leb n m && never_falls m l

unfoldable pub in_order : List Call → List Checker → Bool
in_order calls l = never_falls 0 (map (λ (h : Checker). place_of (of_number h.number) calls) l)

abbrev pub checkers_sound : Network → List Call → List Checker → Bool
checkers_sound N calls l = every (on_call N calls) l && (every (entry_of_call calls) l && (four_acall calls l && in_order calls l))

-- "A sound network state meets the same rules, templates for triples, save those on armed triples"
unfoldable pub sound : Network → State → Bool
sound N σ =
    ltb σ.configuration.main N.common.states && (eqb (length σ.configuration.variables) N.common.monitors
    && (leb (length σ.calls) most_calls && (distinct (map (λ (c : Call). c.number) σ.calls) && (entries_sound σ.position (map (λ (c : Call). c.entry) σ.calls) && (every (call_sound N) σ.calls
    && (checkers_sound N σ.calls σ.checkers && verdict_fits N.common.bad (length N.templates) σ.configuration.main σ.position σ.verdict))))))
