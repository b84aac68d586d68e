-- Demand 3, from what an accepted network that realises an accepted sheet does. Assumes nothing.
pub mod Machines
pub mod Row
pub mod Exact
pub mod Meaning
use mathlib.Core.Path.{◌≡◌, refl, sym, ap, ap₂, subst, ◌∙◌}
use mathlib.Core.Bool.{true}
use mathlib.Core.List.{List, [], ◌∷◌, map-map}
use Prim.Native.Nat.{ℕ, ◌≤◌, ◌<◌}
use borrow.Author.Tests.{ltb-true}
use lib.ListN.{length, take, length-map}
use Rattle.sheet.specs.Parts.{Sheet}
use Rattle.sheet.specs.Bytes.{byte}
use Rattle.sheet.specs.Decode.{common_of, sheet_of, network_of}
use Rattle.sheet.specs.Reading.{reading, sheet_layout, network_layout}
use Rattle.sheet.specs.Log.{Event, log_reading, events_of}
use Rattle.sheet.proofs.Accepted.{Accepted, accepted, reading_accepted}
use Rattle.sheet.proofs.Tests.{and_iff}
use Rattle.step.specs.Lists.{distinct}
use Rattle.step.specs.Calls.{Call}
use Rattle.step.specs.Runs.{Offered}
use Rattle.step.specs.Answers.{Response, answer_of, ran_answer, unless_refused}
use Rattle.translation.specs.Answer.{network_bytes, written, translated_of, buffer_of}
use Rattle.translation.proofs.Cut.{sheet_accepted, written_bytes, written_always}
use Rattle.translation.proofs.Networks.{translate_accepted, translate_decodes}
use Rattle.engine.specs.Runs as Runs
use Rattle.monitor.specs.Monitor as Monitor
use Rattle.monitor.specs.Monitor.{Armed}
use Rattle.monitor.specs.Answers as OnSheet
use Rattle.monitor.proofs.Demand2.Broken.{Plain}
use Rattle.monitor.proofs.Demand2.Acceptance.{accepted_plain}
use Rattle.network.specs.declared.NetworkState.{NetworkState}
use Rattle.network.specs.Network as Net
use Rattle.network.specs.Sound.{sound}
use Rattle.network.specs.Padded.{pad, view, fresh_of}
use Rattle.network.specs.Grouped.{row_of, ungrouped}
use Rattle.network.specs.Answers as OnNetwork
use Rattle.network.specs.Answers.{offer_of}
use Rattle.network.proofs.ByMachine.Apart.{Apart}
use Rattle.network.proofs.ByMachine.Runs.{ends_in}
use Rattle.network.proofs.States.Living.{checkers_few}
use Rattle.network.proofs.States.Views.{view_back}
use Rattle.network.proofs.States.Soundness.{fresh_sound, offer_sound}
use Rattle.network.proofs.States.Lasting.{offered_pad}
use Rattle.agreement.specs.Shown.{Followed, follow, defined, offered_to, shown_in, shown_by_sheet, armed_row, shown_by_network}
use Rattle.agreement.specs.Meant.{Meant}
use Rattle.agreement.specs.Demand.{AsDefined, Demand3}
use Rattle.agreement.specs.Realises.{Realises}
use Rattle.agreement.proofs.Translation.{translate_realises}
use Rattle.agreement.proofs.Agreement.Machines.{fresh_same, answer_same, state_same, run_same}
use Rattle.agreement.proofs.Agreement.Row.{row_own, shown_same}
use Rattle.agreement.proofs.Agreement.Meaning.{meant}

-- An accepted network that realises a sheet.
module _ (S : Sheet) {n : List ℕ} (a : Accepted network_layout n) (r : Realises S (network_of n)) where
  -- a state of the definition that is sound on the network, its checkers in a row of their own
  abbrev Good : Monitor.State → Type 0
  Good σ = sound (network_of n) (ungrouped σ) ≡ true

  -- Its calls have different numbers and at most 64 checkers, and its main state is one of the sheet's.
  module _ (σ : Monitor.State) (h : Good σ) where
    numbers_differ : Apart σ
    unfolding sound ungrouped
    numbers_differ = let (m, (v, (c, (x, rest)))) = simp and_iff at h in ap distinct (sym (map-map (λ (c : Call). c.number) (λ (a : Armed). a.call) σ.calls)) ∙ x

    row_few : length (row_of σ.calls) ≤ 64
    unfolding ungrouped
    row_few = checkers_few (network_of n) (ungrouped σ) h

    main_below : σ.configuration.main < S.common.states
    unfolding sound ungrouped
    main_below = let (m, rest) = simp and_iff at h in rw (← r.states) (ltb-true _ _ m)

  module _ (σ : Monitor.State) (e : Event) (h : Good σ) where
    next_state : (Net.offer (network_of n) (ungrouped σ) e).state ≡ ungrouped (Monitor.offer S σ e).state
    next_state = state_same r σ e (main_below σ h) (numbers_differ σ h)

    next_good : Good (Monitor.offer S σ e).state
    next_good = subst (λ (τ : Net.State). sound (network_of n) τ ≡ true) next_state (offer_sound a (ungrouped σ) e h)

    -- One event, as the operation sees it.
    offered_same : offer_of n (pad (ungrouped σ)) e ≡ record { answer = (Monitor.offer S σ e).answer; state = pad (ungrouped (Monitor.offer S σ e).state) }
    offered_same = offered_pad a (ungrouped σ) h e ∙ ap₂ (λ (x : ℕ) (τ : Net.State). record { answer = x; state = pad τ }) (answer_same r σ e (main_below σ h)) next_state

  abbrev on_sheet : Monitor.State → List Event → Followed Monitor.State
  on_sheet σ es = follow (Monitor.offer S) σ es

  abbrev on_network : NetworkState → List Event → Followed NetworkState
  on_network w es = follow (offer_of n) w es

  -- The list: the answers are the same, and the last state is the definition's.
  follow_same : (es : List Event) (σ : Monitor.State) → Good σ → on_network (pad (ungrouped σ)) es ≡ record { answers = (on_sheet σ es).answers; state = pad (ungrouped (on_sheet σ es).state) }
  unfolding follow
  follow_same [] σ h = refl
  follow_same (e ∷ es) σ h =
      let rest = follow_same es (Monitor.offer S σ e).state (next_good σ e h) in
      let both : Response → Followed NetworkState → Followed NetworkState = λ x r. record { answers = x ∷ r.answers; state = r.state } in
      ap (λ (x : Offered NetworkState). both (answer_of x.answer) (on_network x.state es)) (offered_same σ e h) ∙ ap (both (answer_of (Monitor.offer S σ e).answer)) rest

  follow_good : (es : List Event) (σ : Monitor.State) → Good σ → Good (on_sheet σ es).state
  unfolding follow
  follow_good [] σ h = h
  follow_good (e ∷ es) σ h = follow_good es (Monitor.offer S σ e).state (next_good σ e h)

  -- from the fresh states
  pub start_sound : sound (network_of n) (ungrouped (Monitor.fresh S)) ≡ true
  start_sound = subst (λ (τ : Net.State). sound (network_of n) τ ≡ true) (fresh_same r) (fresh_sound a)

  started : fresh_of n ≡ pad (ungrouped (Monitor.fresh S))
  unfolding fresh_of
  started = rw (reading_accepted network_layout n a) (ap pad (fresh_same r))

  -- a run of events
  runs_same : (es : List Event) → ran_answer ends_in (Net.run (network_of n) es) ≡ ran_answer Runs.ends_in (Monitor.run S es)
  runs_same = run_same r Good main_below next_good start_sound

  -- after a list
  pub offered_agrees : (es : List Event) → offered_to n es ≡ record { answers = (defined S es).answers; state = pad (ungrouped (defined S es).state) }
  unfolding offered_to defined
  offered_agrees es = ap (λ (w : NetworkState). on_network w es) started ∙ follow_same es (Monitor.fresh S) start_sound

  -- what is shown then
  pub shown_agrees : (es : List Event) → shown_by_network n (offered_to n es) ≡ shown_by_sheet (defined S es)
  unfolding shown_by_network defined
  shown_agrees es =
      let r = on_sheet (Monitor.fresh S) es in
      let good = follow_good es (Monitor.fresh S) start_sound in
      ap (shown_by_network n) (offered_agrees es) ∙ ap (shown_in r.answers) (view_back a (ungrouped r.state) good) ∙ shown_same r.answers r.state (numbers_differ r.state good)

  -- and in published terms
  pub meant_agrees : Plain S → (es : List Event) → Meant S es (shown_by_network n (offered_to n es))
  unfolding defined
  meant_agrees plain es =
      let σ = (on_sheet (Monitor.fresh S) es).state in
      let good = follow_good es (Monitor.fresh S) start_sound in
      let d = numbers_differ σ good in
      let few : length (armed_row σ.calls) ≤ 64 = rw (← row_own σ.calls d, length-map) (row_few σ good) in
      subst (Meant S es) (sym (shown_agrees es)) (meant S plain es d few)

-- An accepted network that realises an accepted sheet does what the definition says of the sheet.
module _ (s n : List ℕ) (g : reading sheet_layout s ≡ 0) (h : reading network_layout n ≡ 0) (r : Realises (sheet_of s) (network_of n)) where
  abbrev a : Accepted network_layout n
  a = accepted network_layout n h

  programs_same : byte n 5 ≡ byte s 5
  unfolding network_of sheet_of common_of
  programs_same = r.programs

  logs_same : (log : List ℕ) → OnNetwork.run_of n log ≡ OnSheet.run_of s log
  unfolding OnNetwork.run_of OnSheet.run_of
  logs_same log = rw (h, g, programs_same) (ap (unless_refused (log_reading (byte s 5) log)) (runs_same (sheet_of s) a r (events_of (byte s 5) log)))

  pub as_defined : AsDefined s n
  as_defined =
      record {
        accepted = h;
        agrees = λ es. record { shown = shown_agrees (sheet_of s) a r es; meant = meant_agrees (sheet_of s) a r (accepted_plain s g) es };
        same_run = logs_same;
      }

-- The network of an accepted sheet is one.
module _ (s : List ℕ) (g : reading sheet_layout s ≡ 0) where
  read : reading network_layout (network_bytes s) ≡ 0
  unfolding network_bytes
  read = reading_accepted network_layout _ (translate_accepted (accepted sheet_layout s g))

  realised : Realises (sheet_of s) (network_of (network_bytes s))
  unfolding network_bytes
  realised = subst (Realises (sheet_of s)) (sym (translate_decodes (accepted sheet_layout s g))) (translate_realises (sheet_of s))

  pub network_defined : AsDefined s (network_bytes s)
  network_defined = as_defined s (network_bytes s) g read realised

  network_offered : (es : List Event) → offered_to (network_bytes s) es ≡ record { answers = (defined (sheet_of s) es).answers; state = pad (ungrouped (defined (sheet_of s) es).state) }
  network_offered es = offered_agrees (sheet_of s) (accepted network_layout (network_bytes s) read) realised es

-- Translating writes it.
module _ (s buffer : List ℕ) (size : ℕ) (h : translated_of s buffer ≡ written size) where
  pub translation_offered : (es : List Event) → offered_to (take size (buffer_of s buffer)) es ≡ record { answers = (defined (sheet_of s) es).answers; state = pad (ungrouped (defined (sheet_of s) es).state) }
  translation_offered es = ap (λ (n : List ℕ). offered_to n es) (written_bytes s buffer size h) ∙ network_offered s (sheet_accepted s buffer size h) es

  translation_defined : AsDefined s (take size (buffer_of s buffer))
  translation_defined = subst (AsDefined s) (sym (written_bytes s buffer size h)) (network_defined s (sheet_accepted s buffer size h))

pub demand3 : Demand3
demand3 s buffer g = record { long = λ k. written_always s buffer g k; defined = λ size h. translation_defined s buffer size h }
