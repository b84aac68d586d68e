-- A steady state stays steady at every event of a machine that a plan carries, and the fresh one is. Assumes nothing.
use mathlib.Core.Path.{◌≡◌, refl, sym, ap, ◌∙◌}
use mathlib.Core.Bool.{Bool, true, false, not, cond}
use mathlib.Core.List.{List, [], ◌∷◌, map, map-append}
use Prim.Native.Nat.{ℕ, ◌+◌, zero, suc, ◌<◌}
use native.Mathlib.Omega.{arith}
use borrow.Author.Tests.{eq-eqb, eqb-true}
use lib.Dec.{eqb, ltb}
use lib.ListN.{length, length-append, length-map}
use Rattle.sheet.specs.Table.{every}
use Rattle.sheet.specs.Log.{Event}
use Rattle.sheet.proofs.Tables.{and_both, every_append}
use Rattle.step.specs.Lists.{any, distinct}
use Rattle.step.specs.Calls.{Call, is_entry}
use Rattle.step.specs.Verdicts.{is_judged}
use Rattle.step.specs.Runs.{offered}
use Rattle.step.proofs.OnLists.Lists.{any_map}
use Rattle.step.proofs.OnLists.Keeping.{every_keep, length_keep, distinct_keep, distinct_more}
use Rattle.step.proofs.OnEvents.Moving.{moved_variables}
use Rattle.step.proofs.OnEvents.Refusing as Refusing
use Rattle.step.proofs.OnEvents.Refusing.{entry_room}
use Rattle.engine.specs.Machine.{Machine, Armed, State, arming, of_number, fresh, entered, exited, refusal, offer}
use Rattle.engine.specs.Showing.{Steady, Carries}

pub fresh_steady : (M : Machine) (last : ℕ) → M.common.start < M.common.states → length M.common.initial ≡ M.common.monitors → Steady M.common last (fresh M)
unfolding fresh distinct every
fresh_steady M last q h = record { main = q; variables = h; few = omega arith; apart = refl; kept = refl; there = refl }

module _ (M : Machine) (last : ℕ) (s p : List ℕ) (c : Carries M last s p) (σ : State) (e : Event) (h : Steady M.common last σ) where
  exited_steady : Steady M.common last (exited M σ e)
  unfolding exited
  exited_steady =
      let q : Armed → Bool = λ a. not (of_number e.number a) in
      record {
        main = c.stays σ.configuration e h.main;
        variables = moved_variables M.common M.transitions σ.configuration e ∙ h.variables;
        few = omega (arith, h.few, length_keep q σ.calls);
        apart = distinct_keep (λ (a : Armed). a.call.number) q σ.calls h.apart;
        kept = every_keep q (λ (a : Armed). eqb (length a.call.kept) M.common.programs) σ.calls h.kept;
        there = every_keep q (λ (a : Armed). every (λ i. ltb i last) a.armed) σ.calls h.there;
      }

  module _ (z : refusal M σ e ≡ 0) (y : is_entry e ≡ true) where
    free : Refusing.Free M.common (is_judged σ.verdict) σ.position (map (λ (a : Armed). a.call) σ.calls) e
    unfolding refusal
    free = Refusing.free M.common _ _ _ e z

    entered_steady : Steady M.common last (entered M σ e)
    unfolding entered every
    entered_steady =
        let new : Armed = record { call = record { number = e.number; unit = e.unit; entry = σ.position + 1; kept = e.values }; armed = arming M σ.configuration e } in
        let shut : any (λ (d : Call). eqb d.number e.number) (map (λ (a : Armed). a.call) σ.calls) ≡ false = rw y at free.not_open in
        let room = entry_room free (eqb-true e.kind 0 y) in
        let longer = length-append σ.calls (new ∷ []) in
        let apart_more = distinct_more (map (λ (a : Armed). a.call.number) σ.calls) e.number h.apart (any_map (λ n. eqb n e.number) (λ (a : Armed). a.call.number) σ.calls ∙ sym (any_map (λ (d : Call). eqb d.number e.number) (λ (a : Armed). a.call) σ.calls) ∙ shut) in
        record {
          main = c.stays σ.configuration e h.main;
          variables = moved_variables M.common M.transitions σ.configuration e ∙ h.variables;
          few = omega (arith, longer, rw length-map at room);
          apart = ap distinct (map-append (λ (a : Armed). a.call.number) σ.calls (new ∷ [])) ∙ apart_more;
          kept = every_append (λ (a : Armed). eqb (length a.call.kept) M.common.programs) σ.calls (new ∷ []) ∙ and_both h.kept (and_both (eq-eqb _ _ free.values) refl);
          there = every_append (λ (a : Armed). every (λ i. ltb i last) a.armed) σ.calls (new ∷ []) ∙ and_both h.there (and_both (c.arms_there σ.configuration e) refl);
        }

  pub offer_steady : Steady M.common last (offer M σ e).state
  unfolding offer
  offer_steady = go (refusal M σ e) refl (is_entry e) refl
    where
      go : (n : ℕ) → refusal M σ e ≡ n → (b : Bool) → is_entry e ≡ b → Steady M.common last (offered n σ (cond b (entered M σ e) (exited M σ e))).state
      go zero z true y = entered_steady z y
      go zero z false y = exited_steady
      go (suc n) z b y = h
