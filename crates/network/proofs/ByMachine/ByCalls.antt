-- One event on a network is one on its machine. Assumes nothing.
use mathlib.Core.Path.{◌≡◌, refl, sym, ap, subst, ◌∙◌}
use mathlib.Core.Bool.{Bool, true, false, not, cond}
use mathlib.Core.Option.{Option, none, some}
use mathlib.Core.List.{List, [], ◌∷◌, ◌++◌, map, map-map, map-append, append-nil, append_assoc}
use Prim.Native.Nat.{ℕ, zero, suc, ◌+◌}
use borrow.Author.Tests.{eqb-true}
use Rattle.condition.specs.Meaning.{environment}
use Rattle.sheet.specs.declared.Pair.{Pair}
use Rattle.sheet.specs.Parts.{Paired, Network, bases}
use Rattle.sheet.specs.Log.{Event}
use Rattle.step.specs.Lists.{first, keep, least, total}
use Rattle.step.specs.Meets.{meets, meets_count}
use Rattle.step.specs.Moves.{Configuration, seen, enabled, moved, moved_count}
use Rattle.step.specs.Calls.{Call, is_entry, entry_for}
use Rattle.step.specs.Verdicts.{verdict}
use Rattle.step.specs.Runs.{offered}
use Rattle.step.specs.Answers.{unless_taken}
use Rattle.step.proofs.OnLists.Keeping.{keep_map}
use Rattle.step.proofs.OnLists.Sums.{total_map}
use Rattle.step.proofs.OnLists.Lists.{first_passes}
use Rattle.step.proofs.OnEvents.Runs.{offered_answer}
use Rattle.engine.specs.Machine as Engine
use Rattle.engine.specs.Machine.{Machine, Armed}
use Rattle.engine.specs.Machines.{of_network, pairs_of}
use Rattle.engine.proofs.OnMachines.Candidates.{network_arming, network_asked}
use Rattle.engine.proofs.MachineCarried.Carried.{image, first_image}
use Rattle.network.specs.declared.Checker.{Checker}
use Rattle.network.specs.Network as Network
use Rattle.network.specs.Network.{created}
use Rattle.network.specs.Grouped.{checker, row_of, ungrouped}
use Rattle.network.proofs.ByMachine.Apart.{Apart}
use Rattle.network.proofs.ByMachine.Bound.{row_left, bound_first}

-- the row with one call more, and the templates of a call's checkers
row_more : (l : List Armed) (a : Armed) → row_of (l ++ a ∷ []) ≡ row_of l ++ map (checker a.call.number a.call.entry) a.armed
unfolding row_of
row_more [] a = append-nil (map (checker a.call.number a.call.entry) a.armed)
row_more (x ∷ l) a = ap (λ (m : List Checker). map (checker x.call.number x.call.entry) x.armed ++ m) (row_more l a) ∙ sym (append_assoc (map (checker x.call.number x.call.entry) x.armed) (row_of l) (map (checker a.call.number a.call.entry) a.armed))

pub templates_back : (m q : ℕ) (l : List ℕ) → map (λ (h : Checker). h.template) (map (checker m q) l) ≡ l
templates_back m q [] = refl
templates_back m q (i ∷ l) = ap (λ (r : List ℕ). i ∷ r) (templates_back m q l)

-- On a state of the machine; where an exit is judged, no two of its calls have one number.
module _ (N : Network) (τ : Engine.State) (e : Event) where
  abbrev M : Machine
  M = of_network N

  abbrev k : Configuration
  k = τ.configuration

  -- what an entry creates is what it arms
  created_armed : map (checker e.number (τ.position + 1)) (Engine.arming (of_network N) τ.configuration e) ≡ created N τ.configuration (τ.position + 1) e
  unfolding created
  created_armed = ap (map (checker e.number (τ.position + 1))) (network_arming N k e) ∙ map-map (checker e.number (τ.position + 1)) (λ (p : Pair). p.template) (keep (λ (p : Pair). meets N.common p.condition (seen e k)) (pairs_of (first (λ (t : Paired). enabled N.common k e t.base) N.transitions)))

  refusal_same : Network.refusal N (ungrouped τ) e ≡ Engine.refusal (of_network N) τ e
  unfolding Network.refusal Engine.refusal ungrouped of_network
  refusal_same = refl

  entered_same : Network.entered N (ungrouped τ) e ≡ ungrouped (Engine.entered (of_network N) τ e)
  unfolding Network.entered Engine.entered ungrouped of_network
  entered_same =
      let new : Armed = record { call = record { number = e.number; unit = e.unit; entry = τ.position + 1; kept = e.values }; armed = Engine.arming M k e } in
      let row = ap (λ (l : List Checker). row_of τ.calls ++ l) (sym created_armed) ∙ sym (row_more τ.calls new) in
      let calls = sym (map-append (λ (a : Armed). a.call) τ.calls (new ∷ [])) in
      let to = moved N.common (bases N) k e in
      λ i. record { configuration = to; calls = calls i; checkers = row i; position = τ.position + 1; verdict = verdict N.common.bad (τ.position + 1) to.main none 0 }

  pub answer_same : (Network.offer N (ungrouped τ) e).answer ≡ (Engine.offer (of_network N) τ e).answer
  unfolding Network.offer Engine.offer
  answer_same = offered_answer _ _ _ ∙ refusal_same ∙ sym (offered_answer _ _ _)

  module _ (d : Apart τ) where
    fails_same : (c : Call) (l : List ℕ) → keep (Network.fails N k e c) (map (checker c.number c.entry) l) ≡ map (checker c.number c.entry) (keep (Engine.fails M k e c) l)
    unfolding Network.fails Engine.fails of_network
    fails_same c l = keep_map (Network.fails N k e c) (checker c.number c.entry) l

    bound_here : (a : Armed) → first (Engine.of_number e.number) τ.calls ≡ some a → keep (Network.bound_to a.call.number) (row_of τ.calls) ≡ map (checker a.call.number a.call.entry) a.armed
    bound_here a h =
        let c = a.call in
        let same : c.number ≡ e.number = eqb-true c.number e.number (first_passes (Engine.of_number e.number) τ.calls a h).1 in
        bound_first c.number τ.calls d a (subst (λ (m : ℕ). first (Engine.of_number m) τ.calls ≡ some a) (sym same) h)

    failing_call : (a : Armed) → first (Engine.of_number e.number) τ.calls ≡ some a → Network.failing N k e (row_of τ.calls) (some a.call) ≡ Engine.failing M k e (some a)
    failing_call a h =
        let c = a.call in
        let own = bound_here a h in
        ap (λ (l : List Checker). least (map (λ (h : Checker). h.template) (keep (Network.fails N k e c) l))) own
        ∙ ap (λ (l : List Checker). least (map (λ (h : Checker). h.template) l)) (fails_same c a.armed)
        ∙ ap least (templates_back c.number c.entry (keep (Engine.fails M k e c) a.armed))

    failing_same : Network.failing N k e (row_of τ.calls) (first (Network.of_number e.number) (map (λ (a : Armed). a.call) τ.calls)) ≡ Engine.failing M k e (first (Engine.of_number e.number) τ.calls)
    failing_same = ap (Network.failing N k e (row_of τ.calls)) (first_image (Network.of_number e.number) (λ (a : Armed). a.call) τ.calls) ∙ go (first (Engine.of_number e.number) τ.calls) refl
      where
        go : (o : Option Armed) → first (Engine.of_number e.number) τ.calls ≡ o → Network.failing N k e (row_of τ.calls) (image (λ (a : Armed). a.call) o) ≡ Engine.failing M k e o
        go none h = refl
        go (some a) h = failing_call a h

    exited_same : Network.exited N (ungrouped τ) e ≡ ungrouped (Engine.exited (of_network N) τ e)
    unfolding Network.exited Engine.exited ungrouped of_network
    exited_same =
        let to = moved N.common (bases N) k e in
        let calls = keep_map (λ (c : Call). not (Network.of_number e.number c)) (λ (a : Armed). a.call) τ.calls in
        let judged = ap (λ (o : Option ℕ). verdict N.common.bad (τ.position + 1) to.main o (entry_for e.number (map (λ (a : Armed). a.call) τ.calls))) failing_same in
        λ i. record { configuration = to; calls = calls i; checkers = row_left e.number τ.calls i; position = τ.position + 1; verdict = judged i }

    pub state_same : (Network.offer N (ungrouped τ) e).state ≡ ungrouped (Engine.offer (of_network N) τ e).state
    unfolding Network.offer Engine.offer
    state_same = ap (λ n. (offered n (ungrouped τ) (cond (is_entry e) (Network.entered N (ungrouped τ) e) (Network.exited N (ungrouped τ) e))).state) refusal_same ∙ go (Engine.refusal (of_network N) τ e) (is_entry e)
      where
        go : (n : ℕ) (b : Bool) → (offered n (ungrouped τ) (cond b (Network.entered N (ungrouped τ) e) (Network.exited N (ungrouped τ) e))).state ≡ ungrouped (offered n τ (cond b (Engine.entered (of_network N) τ e) (Engine.exited (of_network N) τ e))).state
        go zero true = entered_same
        go zero false = exited_same
        go (suc n) b = refl

  -- what is counted: the conditions of the candidates are those of the pairs
  pairs_same : Network.pair_count N k e ≡ Engine.asked_count M k e
  unfolding Network.pair_count
  pairs_same = sym (network_asked N k e)

  module _ (d : Apart τ) where
    judged_call : (a : Armed) → first (Engine.of_number e.number) τ.calls ≡ some a → Network.postcondition_count N k e (row_of τ.calls) (some a.call) ≡ Engine.judged_count M k e (some a)
    unfolding of_network
    judged_call a h =
        let c = a.call in
        let own = bound_here d a h in
        ap (total (λ (h : Checker). meets_count N.common (Network.template_in N h.template).postcondition (environment e.values k.variables c.kept))) own
        ∙ total_map (checker c.number c.entry) _ a.armed

    judged_same : Network.postcondition_count N k e (row_of τ.calls) (first (Network.of_number e.number) (map (λ (a : Armed). a.call) τ.calls)) ≡ Engine.judged_count M k e (first (Engine.of_number e.number) τ.calls)
    judged_same = ap (Network.postcondition_count N k e (row_of τ.calls)) (first_image (Network.of_number e.number) (λ (a : Armed). a.call) τ.calls) ∙ go (first (Engine.of_number e.number) τ.calls) refl
      where
        go : (o : Option Armed) → first (Engine.of_number e.number) τ.calls ≡ o → Network.postcondition_count N k e (row_of τ.calls) (image (λ (a : Armed). a.call) o) ≡ Engine.judged_count M k e o
        go none h = refl
        go (some a) h = judged_call a h

    pub count_same : Network.count N (ungrouped τ) e ≡ Engine.count (of_network N) τ e
    unfolding Network.count Engine.count Engine.taken_count ungrouped of_network
    count_same = λ i. unless_taken (refusal_same i) 0 (moved_count N.common (bases N) k e + cond (is_entry e) (pairs_same i) (judged_same i))
