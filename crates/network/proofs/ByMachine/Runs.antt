-- A run on a network is one on its machine. Assumes nothing.
use mathlib.Core.Path.{◌≡◌, refl, sym, ap, ap₂, ◌∙◌}
use mathlib.Core.Option.{Option, none, some}
use mathlib.Core.List.{List, [], ◌∷◌}
use Prim.Native.Nat.{ℕ, zero, suc, ◌+◌}
use lib.ListN.{length-map}
use Rattle.sheet.specs.Bytes.{byte}
use Rattle.sheet.specs.Decode.{network_of}
use Rattle.sheet.specs.Parts.{Network}
use Rattle.sheet.specs.Reading.{reading, network_layout}
use Rattle.sheet.specs.Log.{Event, log_reading, events_of}
use Rattle.step.specs.declared.Verdict.{Verdict}
use Rattle.step.specs.Lists.{distinct}
use Rattle.step.specs.Runs.{Ran, unless_judged, unless_refused_at, run_from, unless_ended, run_count_from}
use Rattle.step.specs.Answers.{Ending, clean, clean_in, unless_taken, unless_refused, ran_answer}
use Rattle.engine.specs.Machine as Engine
use Rattle.engine.specs.Machine.{Armed}
use Rattle.engine.specs.Machines.{of_network}
use Rattle.engine.specs.Runs as Runs
use Rattle.engine.specs.Runs.{network_run, network_count}
use Rattle.network.specs.Network as Network
use Rattle.network.specs.Grouped.{row_of, ungrouped}
use Rattle.network.specs.Answers.{run_of, run_count_of}
use Rattle.network.proofs.ByMachine.Apart.{Apart, offer_apart}
use Rattle.network.proofs.ByMachine.ByCalls.{answer_same, state_same, count_same}

-- what a run answers after an event, from what the rest of it does
turned : {S T : Type 0} (f : S → Ending) (g : T → Ending) (n i : ℕ) (o : Option Verdict) (r : Ran S) (q : Ran T) → ran_answer f r ≡ ran_answer g q
    → ran_answer f (unless_refused_at n i (unless_judged o r)) ≡ ran_answer g (unless_refused_at n i (unless_judged o q))
turned f g zero i none r q h = h
turned f g zero i (some v) r q h = refl
turned f g (suc n) i o r q h = refl

-- a clean end
abbrev pub ends_in : Network.State → Ending
ends_in σ = clean_in σ.position σ.configuration σ.calls

module _ (N : Network) where
  abbrev after : ℕ → Network.State → List Event → Ran Network.State
  after i σ es = run_from (Network.offer N) (λ σ. σ.verdict) i σ es

  from_same : (es : List Event) (i : ℕ) (τ : Engine.State) → Apart τ
      → ran_answer ends_in (run_from (Network.offer N) (λ σ. σ.verdict) i (ungrouped τ) es) ≡ ran_answer Runs.ends_in (run_from (Engine.offer (of_network N)) (λ τ. τ.verdict) i τ es)
  unfolding run_from ungrouped
  from_same [] i τ d = ap (clean τ.position τ.configuration.main) (length-map τ.calls (λ (a : Armed). a.call))
  from_same (e ∷ es) i τ d =
      let o = Engine.offer (of_network N) τ e in
      ap₂ (λ (n : ℕ) (σ : Network.State). ran_answer ends_in (unless_refused_at n i (unless_judged σ.verdict (after (suc i) σ es)))) (answer_same N τ e) (state_same N τ e d)
      ∙ turned ends_in Runs.ends_in o.answer i o.state.verdict _ _ (from_same es (suc i) o.state (offer_apart (of_network N) τ e d))

  -- From fresh, on any events.
  pub run_grouped : (es : List Event) → ran_answer ends_in (Network.run N es) ≡ ran_answer Runs.ends_in (Engine.run (of_network N) es)
  unfolding Network.run Engine.run Network.fresh Engine.fresh of_network ungrouped row_of distinct
  run_grouped es = from_same es 1 (Engine.fresh (of_network N)) refl

-- On a network's bytes and a log's.
pub run_same : (n log : List ℕ) → network_run n log ≡ run_of n log
unfolding network_run run_of
run_same n log = ap (λ (r : Ending). unless_refused (reading network_layout n) (unless_refused (log_reading (byte n 5) log) r)) (sym (run_grouped (network_of n) (events_of (byte n 5) log)))

-- What is counted.
module _ (N : Network) where
  counts_from : (es : List Event) (τ : Engine.State) → Apart τ
      → run_count_from (Network.offer N) (λ σ. σ.verdict) (Network.count N) (ungrouped τ) es ≡ run_count_from (Engine.offer (of_network N)) (λ τ. τ.verdict) (Engine.count (of_network N)) τ es
  unfolding run_count_from ungrouped
  counts_from [] τ d = refl
  counts_from (e ∷ es) τ d =
      let o = Engine.offer (of_network N) τ e in
      let after : Network.State → ℕ = λ σ. run_count_from (Network.offer N) (λ σ. σ.verdict) (Network.count N) σ es in
      (λ i. count_same N τ e d i + unless_ended (answer_same N τ e i) (state_same N τ e d i).verdict (after (state_same N τ e d i)))
      ∙ ap (λ (n : ℕ). Engine.count (of_network N) τ e + unless_ended o.answer o.state.verdict n) (counts_from es o.state (offer_apart (of_network N) τ e d))

  run_count_grouped : (es : List Event) → Network.run_count N es ≡ Engine.run_count (of_network N) es
  unfolding Network.run_count Engine.run_count Network.fresh Engine.fresh of_network ungrouped row_of distinct
  run_count_grouped es = counts_from es (Engine.fresh (of_network N)) refl

pub counts_same : (n log : List ℕ) → network_count n log ≡ run_count_of n log
unfolding network_count run_count_of
counts_same n log = ap (λ (c : ℕ). unless_taken (reading network_layout n) 0 (unless_taken (log_reading (byte n 5) log) 0 c)) (sym (run_count_grouped (network_of n) (events_of (byte n 5) log)))
