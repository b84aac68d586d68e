-- Sound states (document 01, "One event"), without padding: "calls fill the first places" and "unused places and variables are zero" are those of Padded.
use Rattle.std.specs.Prelude.{Bool, ◌&&◌, List, map, ℕ, eqb, leb, ltb, length, get_or}
use Rattle.std.proofs.Math.Option.{Option}
use Rattle.sheet.specs.Table.{every}
use Rattle.sheet.specs.Parts.{Sheet}
use Rattle.step.specs.declared.Verdict.{Verdict}
use Rattle.step.specs.Lists.{distinct, rising}
use Rattle.step.specs.Calls.{most_calls, most_armed, entries_sound}
use Rattle.step.specs.Verdicts.{verdict_fits}
use Rattle.monitor.specs.Monitor.{Armed, State, triple_in}

-- "all of one state", that of the first
abbrev pub of_one_state : Sheet → List ℕ → Bool
of_one_state S l = every (λ i. eqb (triple_in S i).state (triple_in S (get_or l 0 0)).state) l

-- "units below U and at most four armed triples, in rising order, all of one state and the call's unit"; a call keeps P values
unfoldable pub call_sound : Sheet → Armed → Bool
call_sound S a =
    ltb a.call.unit S.common.units && (eqb (length a.call.kept) S.common.programs
    && (leb (length a.armed) most_armed && (rising a.armed && (every (λ i. ltb i (length S.triples) && eqb (triple_in S i).unit a.call.unit) a.armed && of_one_state S a.armed))))

abbrev pub verdict_sound : Sheet → ℕ → ℕ → Option Verdict → Bool
verdict_sound S main position v = verdict_fits S.common.bad (length S.triples) main position v

-- "A state is sound if its main state is below Q; .."; there are V variables; what request 4 asks of the positions of the calls' entries
unfoldable pub sound : Sheet → State → Bool
sound S σ =
    ltb σ.configuration.main S.common.states && (eqb (length σ.configuration.variables) S.common.monitors
    && (leb (length σ.calls) most_calls && (distinct (map (λ (a : Armed). a.call.number) σ.calls) && (entries_sound σ.position (map (λ (a : Armed). a.call.entry) σ.calls)
    && (every (call_sound S) σ.calls && verdict_sound S σ.configuration.main σ.position σ.verdict)))))
