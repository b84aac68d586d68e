-- A sheet and a network that realises it are machines that are alike, so one event and a run come to the same on both. Assumes nothing.
use mathlib.Core.Path.{◌≡◌, sym, ap, subst, ◌∙◌}
use mathlib.Core.Bool.{true}
use mathlib.Core.List.{List, map, map-map, map-id}
use Prim.Native.Nat.{ℕ, ◌<◌}
use Rattle.sheet.specs.declared.Pair.{Pair}
use Rattle.sheet.specs.Parts.{Sheet, Paired, Network}
use Rattle.sheet.specs.Log.{Event}
use Rattle.step.specs.Lists.{first, keep}
use Rattle.step.specs.Meets.{meets}
use Rattle.step.specs.Moves.{Configuration, seen, enabled}
use Rattle.step.specs.Calls.{is_entry}
use Rattle.step.specs.Runs.{Offered}
use Rattle.step.specs.Answers.{ran_answer}
use Rattle.engine.specs.Machine as Machine
use Rattle.engine.specs.Machine.{State}
use Rattle.engine.specs.Machines.{of_sheet, of_network}
use Rattle.engine.specs.Runs as Runs
use Rattle.engine.proofs.OnMachines.Candidates.{sheet_arming, network_arming}
use Rattle.engine.proofs.OnMachines.Alike.{Alike, fresh_alike, offer_alike, run_alike}
use Rattle.monitor.specs.Monitor as Monitor
use Rattle.monitor.specs.Monitor.{arms, armed_by}
use Rattle.monitor.proofs.Offers.Machined as Machined
use Rattle.network.specs.declared.Checker.{Checker}
use Rattle.network.specs.Network as Net
use Rattle.network.specs.Network.{pairs_in, created}
use Rattle.network.specs.Grouped.{checker, row_of, ungrouped}
use Rattle.network.proofs.ByMachine.Apart.{Apart}
use Rattle.network.proofs.ByMachine.ByCalls as ByCalls
use Rattle.network.proofs.ByMachine.Runs.{ends_in, run_grouped}
use Rattle.agreement.specs.Realises.{Realises}

module _ {S : Sheet} {N : Network} (r : Realises S N) where
  -- the templates of the checkers created are the triples armed
  arms_same : (k : Configuration) (e : Event) → is_entry e ≡ true → k.main < S.common.states → e.unit < S.common.units → Machine.arming (of_network N) k e ≡ Machine.arming (of_sheet S) k e
  unfolding created armed_by arms
  arms_same k e y main unit =
      let template : Checker → ℕ = λ h. h.template in
      let pairs = keep (λ (p : Pair). meets N.common p.condition (seen e k)) (pairs_in (first (λ (t : Paired). enabled N.common k e t.base) N.transitions)) in
      network_arming N k e ∙ sym (map-map template (λ (p : Pair). checker e.number 0 p.template) pairs) ∙ ap (map template) (r.creates k 0 e y main unit) ∙ map-map template (checker e.number 0) (armed_by S k e) ∙ map-id (armed_by S k e) ∙ sym (sheet_arming S k e)

  alike : Alike (of_network N) (of_sheet S)
  unfolding of_network of_sheet
  alike = record { units = r.units; programs = r.programs; bad = r.bad; start = r.start; initial = r.initial; moves = r.moves; arms = arms_same; judges = r.judges }

  -- The fresh states.
  pub fresh_same : Net.fresh N ≡ ungrouped (Monitor.fresh S)
  unfolding Net.fresh Monitor.fresh Machine.fresh ungrouped row_of of_network of_sheet
  fresh_same = ap ungrouped (fresh_alike alike)

  -- One event, in a state that the sheet declares: the same answer, and the same state, its checkers in a row of their own.
  module _ (σ : State) (e : Event) (main : σ.configuration.main < S.common.states) where
    offer_same : Machine.offer (of_network N) σ e ≡ Monitor.offer S σ e
    unfolding of_sheet
    offer_same = offer_alike alike σ e main ∙ sym (Machined.offer_same S σ e)

    pub answer_same : (Net.offer N (ungrouped σ) e).answer ≡ (Monitor.offer S σ e).answer
    answer_same = ByCalls.answer_same N σ e ∙ ap (λ (o : Offered State). o.answer) offer_same

    pub state_same : Apart σ → (Net.offer N (ungrouped σ) e).state ≡ ungrouped (Monitor.offer S σ e).state
    state_same d = ByCalls.state_same N σ e d ∙ ap (λ (o : Offered State). ungrouped o.state) offer_same

  -- A run, where what holds of the fresh state is kept at every event and says that the state is declared.
  module _ (I : State → Type 0) (declared : (σ : State) → I σ → σ.configuration.main < S.common.states) (kept : (σ : State) (e : Event) → I σ → I (Monitor.offer S σ e).state) where
    pub run_same : I (Monitor.fresh S) → (es : List Event) → ran_answer ends_in (Net.run N es) ≡ ran_answer Runs.ends_in (Monitor.run S es)
    unfolding of_sheet Machine.fresh Monitor.fresh
    run_same h es =
        let keeps : (σ : State) (e : Event) → I σ → I (Machine.offer (of_sheet S) σ e).state = λ σ e i. subst (λ (o : Offered State). I o.state) (Machined.offer_same S σ e) (kept σ e i) in
        run_grouped N es ∙ ap (ran_answer Runs.ends_in) (run_alike alike I declared keeps h es ∙ sym (Machined.run_same S es))
