-- What a network's state shows where it is the definition's, its checkers in a row of their own. Assumes nothing.
use mathlib.Core.Path.{◌≡◌, refl, sym, ap, ap₂, ◌∙◌}
use mathlib.Core.Logic.{inl, inr}
use mathlib.Core.Bool.{true}
use mathlib.Core.Option.{Option, some}
use mathlib.Core.List.{List, [], ◌∷◌, ◌++◌, map, map-map, map-append}
use borrow.Author.Tests.{eq-eqb}
use lib.Dec.{eqb}
use Rattle.sheet.proofs.Tests.{and_iff, not_iff}
use Rattle.step.specs.Lists.{Among, first, distinct}
use Rattle.step.specs.Calls.{Call}
use Rattle.step.specs.Answers.{Response}
use Rattle.step.proofs.OnLists.Lists.{any_map}
use Rattle.monitor.specs.Monitor as Monitor
use Rattle.monitor.specs.Monitor.{Armed}
use Rattle.network.specs.Network.{of_number}
use Rattle.network.specs.Grouped.{checker, row_of, ungrouped}
use Rattle.network.proofs.States.Created.{none_among}
use Rattle.agreement.specs.Shown.{Living, told, open_call, armed_row, kept_by, living, shown_in, shown_by_sheet}

-- Each call is the first of its number.
first_own : (l : List Armed) → distinct (map (λ (a : Armed). a.call.number) l) ≡ true → (a : Armed) → Among a l → first (of_number a.call.number) (map (λ (a : Armed). a.call) l) ≡ some a.call
unfolding first distinct
first_own [] d a m = absurd m
first_own (x ∷ l) d a (inl e) = rw (e, eq-eqb x.call.number x.call.number refl)
first_own (x ∷ l) d a (inr m) =
    let (i, j) = simp (and_iff, not_iff) at d in
    let apart = none_among (λ (b : Armed). eqb x.call.number b.call.number) l (sym (any_map (eqb x.call.number) (λ (b : Armed). b.call.number) l) ∙ i) a m in
    rw apart (first_own l j a m)

-- The row, with the values that each checker's call keeps.
row_shown : (calls : List Call) (l : List Armed) → ((a : Armed) → Among a l → first (of_number a.call.number) calls ≡ some a.call) → map (living calls) (row_of l) ≡ armed_row l
unfolding row_of armed_row
row_shown calls [] h = refl
row_shown calls (a ∷ l) h =
    let row : Option Call → List Living = λ o. map (λ i. record { number = a.call.number; triple = i; entry = a.call.entry; values = kept_by o }) a.armed in
    map-append (living calls) (map (checker a.call.number a.call.entry) a.armed) (row_of l)
    ∙ ap₂ (λ (x y : List Living). x ++ y) (map-map (living calls) (checker a.call.number a.call.entry) a.armed ∙ ap row (h a (inl refl))) (row_shown calls l (λ b m. h b (inr m)))

pub row_own : (l : List Armed) → distinct (map (λ (a : Armed). a.call.number) l) ≡ true → map (living (map (λ (a : Armed). a.call) l)) (row_of l) ≡ armed_row l
row_own l d = row_shown (map (λ (a : Armed). a.call) l) l (first_own l d)

pub shown_same : (answers : List Response) (σ : Monitor.State) → distinct (map (λ (a : Armed). a.call.number) σ.calls) ≡ true → shown_in answers (ungrouped σ) ≡ shown_by_sheet (record { answers = answers; state = σ })
unfolding ungrouped shown_by_sheet
shown_same answers σ d =
    let calls = map-map open_call (λ (a : Armed). a.call) σ.calls in
    let row = row_own σ.calls d in
    λ i. record { answers = answers; verdict = told σ.verdict; position = σ.position; main = σ.configuration.main; variables = σ.configuration.variables; calls = calls i; checkers = row i }
