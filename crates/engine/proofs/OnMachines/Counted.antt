-- How much an event evaluates in words is what the definition counts on the machine that the plan carries and from the state that is shown. Assumes nothing.
use mathlib.Core.Path.{◌≡◌, refl, sym, ap, ◌∙◌}
use mathlib.Core.Bool.{Bool, true, false, cond}
use mathlib.Core.List.{List}
use Prim.Native.Nat.{ℕ, zero, suc, ◌+◌, ◌*◌}
use native.Mathlib.Omega.{arith}
use borrow.Author.Tests.{eqb-true, eqb-false}
use lib.Dec.{eqb}
use lib.ListN.{length, take}
use Rattle.condition.specs.Meaning.{environment}
use Rattle.sheet.specs.Parts.{Common}
use Rattle.sheet.specs.Log.{Event}
use Rattle.step.specs.Lists.{first, total}
use Rattle.step.specs.Meets.{meets_count}
use Rattle.step.specs.Moves.{Configuration, moved_count}
use Rattle.step.specs.Answers.{unless_taken}
use Rattle.step.proofs.OnLists.Lists.{first_passes}
use Rattle.step.proofs.OnLists.Sums.{total_same}
use Rattle.step.proofs.OnEvents.Runs.{offered_answer}
use Rattle.engine.specs.Machine as Machine
use Rattle.engine.specs.Machine.{Machine, of_number, refusal, offer, asked_count, judged_count, taken_count}
use Rattle.engine.specs.Plan.{programs_in, monitors_in, cell_of, first_of, candidate_of, post_of}
use Rattle.engine.specs.Walk.{count_by, found_in, found_count, armed_count, place_in, seen_in, low_count, action_count_after, Words, entered_count, exited_count, taken_count_in, event_count_in, given_of, eight_of}
use Rattle.engine.specs.Showing.{held_by, shown_by, Steady, Carries}
use Rattle.engine.proofs.OnMachines.Shown.{fits, values_lent, variables_lent, lent_seen, call_good, call_there, offer_answer}

module _ (M : Machine) (last : ℕ) (s p : List ℕ) (σ : Words) (e : Event) (c : Carries M last s p) (h : Steady M.common last (shown_by M.common σ)) (long : length σ.row ≡ 256) where
  abbrev C : Common
  C = M.common

  abbrev k : Configuration
  k = held_by C σ

  abbrev at : ℕ
  at = place_in e.number σ.run.opened σ.row

  module _ (z : refusal M (shown_by M.common σ) e ≡ 0) where
    -- until a transition is found, and with its action, for a key that is the event's
    moved_count_lem : (key : ℕ) → 2 * cell_of σ.run.main e.unit + e.kind ≡ key
        → found_count s p (first_of p key) (seen_in p (eight_of e) σ.variables) + action_count_after s p (found_in s p (first_of p key) (seen_in p (eight_of e) σ.variables)) (eight_of e) σ.variables
        ≡ moved_count M.common M.transitions (held_by M.common σ) e
    moved_count_lem key same =
        let E = lent_seen M last s p σ e c h long z in
        (λ i. found_count s p (first_of p (sym same i)) (E i) + action_count_after s p (found_in s p (first_of p (sym same i)) (E i)) (eight_of e) σ.variables) ∙ c.move_counts k e (fits M last s p σ e c h long z) σ.variables refl

    entered_count_lem : e.kind ≡ 0 → entered_count s p σ (given_of e) (eight_of e) ≡ moved_count M.common M.transitions (held_by M.common σ) e + asked_count M (held_by M.common σ) e
    unfolding entered_count
    entered_count_lem z0 =
        let cell = cell_of σ.run.main e.unit in
        let same : 2 * cell + e.kind ≡ 2 * cell = omega (arith, z0) in
        let E = lent_seen M last s p σ e c h long z in
        let asked : armed_count s p (candidate_of p cell (found_in s p (first_of p (2 * cell)) (seen_in p (eight_of e) σ.variables))) (seen_in p (eight_of e) σ.variables) ≡ asked_count M k e =
        (λ i. armed_count s p (candidate_of p cell (found_in s p (first_of p (sym same i)) (E i))) (E i)) ∙ c.ask_counts k e (fits M last s p σ e c h long z) z0 in
        omega (arith, moved_count_lem (2 * cell) same, asked)

    -- of what is armed for the call that an exit closes
    judged_count_lem : e.kind ≡ 1 → low_count s p σ.row (place_in e.number σ.run.opened σ.row) (take (programs_in p) (eight_of e)) (take (monitors_in p) σ.variables)
        ≡ judged_count M (held_by M.common σ) e (first (of_number e.number) (shown_by M.common σ).calls)
    unfolding low_count
    judged_count_lem z1 =
        let (a, here, kept, armed) = call_there M last s p σ e c h long z z1 in
        let (full, below) = call_good M last s p σ e c h long z a (first_passes (of_number e.number) (shown_by C σ).calls a here).0 in
        let fit = fits M last s p σ e c h long z in
        let sum : List ℕ → List ℕ → List ℕ → List ℕ → ℕ = λ values variables kept armed. total (λ n. count_by s (post_of p n) (environment values variables kept)) armed in
        (λ i. sum (values_lent M last s p σ e c h long z i) (variables_lent M last s p σ e c h long z i) (kept i) (armed i))
        ∙ total_same (λ n. count_by s (post_of p n) (environment e.values k.variables a.call.kept)) (λ n. meets_count C (M.postcondition n) (environment e.values k.variables a.call.kept)) a.armed
        (λ n m. c.judge_counts n (below n m) e.values k.variables a.call.kept fit.values fit.variables full)
        ∙ ap (judged_count M k e) (sym here)

    exited_count_lem : e.kind ≡ 1 → exited_count s p σ e.unit (place_in e.number σ.run.opened σ.row) (eight_of e)
        ≡ moved_count M.common M.transitions (held_by M.common σ) e + judged_count M (held_by M.common σ) e (first (of_number e.number) (shown_by M.common σ).calls)
    unfolding exited_count
    exited_count_lem z1 =
        let key = 2 * cell_of σ.run.main e.unit + 1 in
        omega (arith, moved_count_lem key (omega (arith, z1)), judged_count_lem z1)

  pub count_shown : event_count_in s p σ (given_of e) (eight_of e) ≡ Machine.count M (shown_by M.common σ) e
  unfolding event_count_in Machine.count taken_count offer shown_by
  count_shown =
      ap (λ (n : ℕ). unless_taken n 0 (taken_count_in s p σ (given_of e) at (eight_of e))) (offer_answer M last s p σ e c h long ∙ offered_answer (refusal M (shown_by C σ) e) _ _) ∙ go (refusal M (shown_by C σ) e) refl (eqb e.kind 0) refl
    where
      go : (n : ℕ) → refusal M (shown_by M.common σ) e ≡ n → (b : Bool) → eqb e.kind 0 ≡ b
          → unless_taken n 0 (cond b (entered_count s p σ (given_of e) (eight_of e)) (exited_count s p σ e.unit at (eight_of e)))
          ≡ unless_taken n 0 (moved_count C M.transitions k e + cond b (asked_count M k e) (judged_count M k e (first (of_number e.number) (shown_by C σ).calls)))
      go zero z true y = entered_count_lem z (eqb-true e.kind 0 y)
      go zero z false y = exited_count_lem z (omega (arith, (fits M last s p σ e c h long z).kind, eqb-false e.kind 0 y))
      go (suc n) z b y = refl
