-- A run in words from the start answers and counts what the machine's run from its fresh state does. Assumes nothing.
use mathlib.Core.Path.{◌≡◌, refl, sym, ap, subst, ◌∙◌}
use mathlib.Core.List.{List, []}
use mathlib.Core.Option.{none}
use Prim.Native.Nat.{ℕ, ◌≤◌, ◌<◌}
use native.Mathlib.Omega.{arith}
use lib.ListN.{length, take, drop, length-replicate}
use lib.Seq.{take-take}
use Rattle.sheet.specs.Bytes.{byte, half}
use Rattle.sheet.specs.Table.{table, fit}
use Rattle.sheet.specs.Parts.{Common}
use Rattle.sheet.specs.Decode.{word_form, common_of, sheet_of, network_of}
use Rattle.sheet.specs.Reading.{Layout, reading, last_of, sheet_layout, network_layout}
use Rattle.sheet.specs.Log.{Event, log_reading, events_of}
use Rattle.std.specs.Prelude.{Result, Err}
use Rattle.refusal.specs.declared.Refusal.{Refusal}
use Rattle.refusal.specs.Numbers.{number_of}
use Rattle.sheet.specs.Answer.{reading_paper, answer}
use Rattle.sheet.proofs.Accepted.{Accepted, accepted, bounds, length_said}
use Rattle.sheet.proofs.Tables.{length_records}
use Rattle.sheet.proofs.Limits.{sheet_longest}
use Rattle.step.specs.Runs.{run_from, run_count_from}
use Rattle.step.specs.Answers.{Ending, refused, unless_taken, unless_refused, ran_answer}
use Rattle.step.proofs.OnLists.Rooms.{take_fitted}
use Rattle.step.proofs.OnEvents.Runs.{unread_run}
use Rattle.step.proofs.OnEvents.Counts.{unread_count}
use Rattle.engine.specs.Machine as Machine
use Rattle.engine.specs.Machine.{State, fresh, offer}
use Rattle.engine.specs.Machines.{of_sheet, of_network}
use Rattle.engine.specs.Prepared.{sheet_plan, network_plan}
use Rattle.engine.specs.Walk.{entries}
use Rattle.engine.specs.Showing.{shown_by, Steady, Carries}
use Rattle.engine.specs.Runs.{start_in, follow_in, follow_count, ends_by, ends_in, sheet_run, sheet_count, network_run, network_count}
use Rattle.engine.proofs.OnMachines.Keeps.{fresh_steady}
use Rattle.engine.proofs.MachineCarried.OnSheets.{sheet_carried}
use Rattle.engine.proofs.MachineCarried.OnNetworks.{network_carried}
use Rattle.engine.proofs.OverLogs.Simulated.{run_shown, run_count_shown}

module _ {T R : Type 0} {F : Layout T R} {s : List ℕ} (a : Accepted F s) (M : Machine.Machine) (same : M.common ≡ common_of s) where
  start_shown : shown_by M.common (start_in s) ≡ fresh M
  unfolding shown_by start_in fresh entries common_of
  start_shown =
      let n = byte s 6 in
      let words = table word_form n s 14 in
      let few : n ≤ 4 = (bounds a).monitors in
      let initial : take n (take 4 (fit 8 0 words)) ≡ words = take-take n 4 (fit 8 0 words) few ∙ take_fitted 0 8 n words (length_records word_form n (drop 14 s)) (omega arith) in
      let at : Common → List ℕ → State = λ C l. record { configuration = record { main = C.start; variables = l }; calls = []; position = 0; verdict = none } in
      let shown : shown_by M.common (start_in s) ≡ at (common_of s) (take n (take 4 (fit 8 0 words))) = ap (λ (C : Common). shown_by C (start_in s)) same in
      shown ∙ ap (at (common_of s)) initial ∙ ap (λ (C : Common). at C C.initial) (sym same)

  start_steady : (last : ℕ) → Steady M.common last (shown_by M.common (start_in s))
  start_steady last =
      let start : M.common.start < M.common.states = rw same (bounds a).start in
      let initial : length M.common.initial ≡ M.common.monitors = rw same (bounds a).initial in
      subst (Steady M.common last) (sym start_shown) (fresh_steady M last start initial)

  module _ (last : ℕ) (p : List ℕ) (c : Carries M last s p) (es : List Event) where
    pub ran : ran_answer ends_by (follow_in s p es) ≡ ran_answer ends_in (Machine.run M es)
    unfolding follow_in Machine.run start_in
    ran = run_shown M last s p c es 1 (start_in s) (start_steady last) (length-replicate {A = ℕ} 256 0) ∙ ap (λ (σ : State). ran_answer ends_in (run_from (offer M) (λ (τ : State). τ.verdict) 1 σ es)) start_shown

    pub counted : follow_count s p es ≡ Machine.run_count M es
    unfolding follow_count Machine.run_count start_in
    counted = run_count_shown M last s p c es (start_in s) (start_steady last) (length-replicate {A = ℕ} 256 0) ∙ ap (λ (σ : State). run_count_from (offer M) (λ (τ : State). τ.verdict) (Machine.count M) σ es) start_shown

-- and so is what a run answers: where the bytes are refused, and where they are accepted
pub few_programs_lem : {T R : Type 0} (F : Layout T R) (s : List ℕ) → reading F s ≡ 0 → byte s 5 ≤ 8
unfolding common_of
few_programs_lem F s h = (bounds (accepted F s h)).programs

module _ (s log : List ℕ) where
  module _ (r : Result (Unit {0}) Refusal) (n : Refusal) (h : r ≡ Err n) where
    pub sheet_unread : reading_paper r ≡ answer (reading sheet_layout s) → (refused (number_of n) ≡ sheet_run s log) × (0 ≡ sheet_count s log)
    unfolding sheet_run sheet_count
    sheet_unread er = (unread_run (reading sheet_layout s) r er n h _, unread_count (reading sheet_layout s) r er n h _)

    pub network_unread : reading_paper r ≡ answer (reading network_layout s) → (refused (number_of n) ≡ network_run s log) × (0 ≡ network_count s log)
    unfolding network_run network_count
    network_unread er = (unread_run (reading network_layout s) r er n h _, unread_count (reading network_layout s) r er n h _)

  -- what is answered and counted by a plan, where the log is read
  module _ (p : List ℕ) (r : Ending) (n : ℕ) (e : r ≡ unless_refused (log_reading (byte s 5) log) (ran_answer ends_by (follow_in s p (events_of (byte s 5) log)))) (m : n ≡ unless_taken (log_reading (byte s 5) log) 0 (follow_count s p (events_of (byte s 5) log))) where
    run_same : {T R : Type 0} {F : Layout T R} → Accepted F s → (M : Machine.Machine) → M.common ≡ common_of s → (last : ℕ) → Carries M last s p
        → (r ≡ unless_refused (log_reading (byte s 5) log) (ran_answer ends_in (Machine.run M (events_of (byte s 5) log)))) × (n ≡ unless_taken (log_reading (byte s 5) log) 0 (Machine.run_count M (events_of (byte s 5) log)))
    run_same a M same last c =
        let es = events_of (byte s 5) log in
        (e ∙ ap (unless_refused (log_reading (byte s 5) log)) (ran a M same last p c es), m ∙ ap (unless_taken (log_reading (byte s 5) log) 0) (counted a M same last p c es))

    pub sheet_ran : reading sheet_layout s ≡ 0 → p ≡ sheet_plan s → (r ≡ sheet_run s log) × (n ≡ sheet_count s log)
    unfolding sheet_run sheet_count of_sheet sheet_of
    sheet_ran h ep =
        let a = accepted sheet_layout s h in
        let c = subst (Carries (of_sheet (sheet_of s)) (length (last_of sheet_layout s)) s) (sym ep) (sheet_carried a (omega (arith, sheet_longest s h))) in
        rw h (run_same a (of_sheet (sheet_of s)) refl (length (last_of sheet_layout s)) c)

    pub network_ran : reading network_layout s ≡ 0 → (size : ℕ) → size ≡ half s 0 → size < 65536 → p ≡ network_plan s → (r ≡ network_run s log) × (n ≡ network_count s log)
    unfolding network_run network_count of_network network_of
    network_ran h size said short ep =
        let a = accepted network_layout s h in
        let c = subst (Carries (of_network (network_of s)) (length (last_of network_layout s)) s) (sym ep) (network_carried a (omega (arith, length_said a, said))) in
        rw h (run_same a (of_network (network_of s)) refl (length (last_of network_layout s)) c)
