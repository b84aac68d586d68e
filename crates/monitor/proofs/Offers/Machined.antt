-- The monitor on a sheet is the sheet's machine. Assumes nothing.
use mathlib.Core.Path.{◌≡◌, refl, sym}
use mathlib.Core.Bool.{not, cond}
use mathlib.Core.Option.{Option, none, some}
use mathlib.Core.List.{List, [], ◌∷◌, ◌++◌, map}
use Prim.Native.Nat.{ℕ, ◌+◌}
use Rattle.sheet.specs.Bytes.{byte}
use Rattle.sheet.specs.Parts.{Sheet}
use Rattle.sheet.specs.Decode.{sheet_of}
use Rattle.sheet.specs.Reading.{reading, sheet_layout}
use Rattle.sheet.specs.Log.{Event}
use Rattle.step.specs.Lists.{first, keep}
use Rattle.step.specs.Moves.{Configuration, moved, moved_count}
use Rattle.step.specs.Calls.{is_entry, entry_for}
use Rattle.step.specs.Verdicts.{verdict}
use Rattle.step.specs.Runs.{offered, run_from, run_count_from}
use Rattle.step.specs.Answers.{unless_taken, ran_on, ran_count}
use Rattle.engine.specs.Machine as Machine
use Rattle.engine.specs.Machines.{of_sheet}
use Rattle.engine.proofs.OnMachines.Candidates.{sheet_arming, sheet_asked}
use Rattle.engine.specs.Runs.{ends_in, sheet_run, sheet_count}
use Rattle.monitor.specs.Monitor as Monitor
use Rattle.monitor.specs.Answers.{run_of, run_count_of}

refusal_same : (S : Sheet) (σ : Machine.State) (e : Event) → Monitor.refusal S σ e ≡ Machine.refusal (of_sheet S) σ e
unfolding Monitor.refusal Machine.refusal of_sheet
refusal_same S σ e = refl

armed_same : (S : Sheet) (k : Configuration) (e : Event) → Monitor.armed_by S k e ≡ Machine.arming (of_sheet S) k e
unfolding Monitor.armed_by Monitor.arms
armed_same S k e = sym (sheet_arming S k e)

entered_same : (S : Sheet) (σ : Machine.State) (e : Event) → Monitor.entered S σ e ≡ Machine.entered (of_sheet S) σ e
unfolding Monitor.entered Machine.entered of_sheet
entered_same S σ e =
    let to = moved S.common S.transitions σ.configuration e in
    λ i. record {
      configuration = to;
      calls = σ.calls ++ record { call = record { number = e.number; unit = e.unit; entry = σ.position + 1; kept = e.values }; armed = armed_same S σ.configuration e i } ∷ [];
      position = σ.position + 1;
      verdict = verdict S.common.bad (σ.position + 1) to.main none 0;
    }

failing_same : (S : Sheet) (k : Configuration) (e : Event) (o : Option Machine.Armed) → Monitor.failing S k e o ≡ Machine.failing (of_sheet S) k e o
unfolding of_sheet Monitor.fails Machine.fails
failing_same S k e none = refl
failing_same S k e (some a) = refl

exited_same : (S : Sheet) (σ : Machine.State) (e : Event) → Monitor.exited S σ e ≡ Machine.exited (of_sheet S) σ e
unfolding Monitor.exited Machine.exited of_sheet
exited_same S σ e =
    let to = moved S.common S.transitions σ.configuration e in
    let low = failing_same S σ.configuration e (first (Machine.of_number e.number) σ.calls) in
    λ i. record { configuration = to; calls = keep (λ a. not (Machine.of_number e.number a)) σ.calls; position = σ.position + 1; verdict = verdict S.common.bad (σ.position + 1) to.main (low i) (entry_for e.number (map (λ a. a.call) σ.calls)) }

pub offer_same : (S : Sheet) (σ : Machine.State) (e : Event) → Monitor.offer S σ e ≡ Machine.offer (of_sheet S) σ e
unfolding Monitor.offer Machine.offer
offer_same S σ e = λ i. offered (refusal_same S σ e i) σ (cond (is_entry e) (entered_same S σ e i) (exited_same S σ e i))

pub run_same : (S : Sheet) (es : List Event) → Monitor.run S es ≡ Machine.run (of_sheet S) es
unfolding Monitor.run Machine.run Monitor.fresh Machine.fresh of_sheet
run_same S es = λ i. run_from (λ σ e. offer_same S σ e i) (λ σ. σ.verdict) 1 (Monitor.fresh S) es

-- and so is what running a log answers
pub answer_same : (s log : List ℕ) → sheet_run s log ≡ run_of s log
unfolding sheet_run run_of
answer_same s log = λ i. ran_on (reading sheet_layout s) (byte s 5) log ends_in (λ es. sym (run_same (sheet_of s) es) i)

-- What is counted: the conditions of the candidates are the preconditions.
preconditions_same : (S : Sheet) (k : Configuration) (e : Event) → Monitor.precondition_count S k e ≡ Machine.asked_count (of_sheet S) k e
unfolding Monitor.precondition_count
preconditions_same S k e = sym (sheet_asked S k e)

postconditions_same : (S : Sheet) (k : Configuration) (e : Event) (o : Option Machine.Armed) → Monitor.postcondition_count S k e o ≡ Machine.judged_count (of_sheet S) k e o
unfolding of_sheet
postconditions_same S k e none = refl
postconditions_same S k e (some a) = refl

pub count_same : (S : Sheet) (σ : Machine.State) (e : Event) → Monitor.count S σ e ≡ Machine.count (of_sheet S) σ e
unfolding Monitor.count Machine.count Machine.taken_count of_sheet
count_same S σ e =
    let k = σ.configuration in
    let o = first (Machine.of_number e.number) σ.calls in
    λ i. unless_taken (refusal_same S σ e i) 0 (moved_count S.common S.transitions k e + cond (is_entry e) (preconditions_same S k e i) (postconditions_same S k e o i))

run_count_same : (S : Sheet) (es : List Event) → Monitor.run_count S es ≡ Machine.run_count (of_sheet S) es
unfolding Monitor.run_count Machine.run_count Monitor.fresh Machine.fresh of_sheet
run_count_same S es = λ i. run_count_from (λ σ e. offer_same S σ e i) (λ σ. σ.verdict) (λ σ e. count_same S σ e i) (Monitor.fresh S) es

pub counts_same : (s log : List ℕ) → sheet_count s log ≡ run_count_of s log
unfolding sheet_count run_count_of
counts_same s log = λ i. ran_count (reading sheet_layout s) (byte s 5) log (λ es. sym (run_count_same (sheet_of s) es) i)
