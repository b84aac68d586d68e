-- The numbers of a machine's open calls stay different at every event. Assumes nothing.
use mathlib.Core.Path.{◌≡◌, refl, sym, ap, ◌∙◌}
use mathlib.Core.Bool.{Bool, true, false, not, cond}
use mathlib.Core.List.{[], ◌∷◌, map, map-append}
use Prim.Native.Nat.{ℕ, zero, suc}
use lib.Dec.{eqb}
use Rattle.sheet.specs.Log.{Event}
use Rattle.step.specs.Lists.{any, distinct}
use Rattle.step.specs.Calls.{Call, is_entry}
use Rattle.step.specs.Runs.{offered}
use Rattle.step.proofs.OnLists.Lists.{any_map}
use Rattle.step.proofs.OnLists.Keeping.{distinct_keep, distinct_more}
use Rattle.step.proofs.OnEvents.Refusing as Refusing
use Rattle.engine.specs.Machine.{Machine, Armed, State, of_number, entered, exited, refusal, offer}

-- no two open calls have one number
abbrev pub Apart : State → Type 0
Apart σ = distinct (map (λ (a : Armed). a.call.number) σ.calls) ≡ true

module _ (M : Machine) (σ : State) (e : Event) (d : Apart σ) where
  exited_apart : Apart (exited M σ e)
  unfolding exited
  exited_apart = distinct_keep (λ (a : Armed). a.call.number) (λ a. not (of_number e.number a)) σ.calls d

  -- an entry of a number that is open is refused
  not_open_lem : refusal M σ e ≡ 0 → is_entry e ≡ true → any (λ (c : Call). eqb c.number e.number) (map (λ (a : Armed). a.call) σ.calls) ≡ false
  unfolding refusal
  not_open_lem z y = rw y at (Refusing.free M.common _ _ _ e z).not_open

  entered_apart : refusal M σ e ≡ 0 → is_entry e ≡ true → Apart (entered M σ e)
  unfolding entered
  entered_apart z y =
      let same : any (λ n. eqb n e.number) (map (λ (a : Armed). a.call.number) σ.calls) ≡ any (λ (c : Call). eqb c.number e.number) (map (λ (a : Armed). a.call) σ.calls) =
      any_map (λ n. eqb n e.number) (λ (a : Armed). a.call.number) σ.calls ∙ sym (any_map (λ (c : Call). eqb c.number e.number) (λ (a : Armed). a.call) σ.calls) in
      ap distinct (map-append (λ (a : Armed). a.call.number) σ.calls (_ ∷ [])) ∙ distinct_more _ e.number d (same ∙ not_open_lem z y)

  pub offer_apart : Apart (offer M σ e).state
  unfolding offer
  offer_apart = go (refusal M σ e) refl (is_entry e) refl
    where
      go : (n : ℕ) → refusal M σ e ≡ n → (b : Bool) → is_entry e ≡ b → Apart (offered n σ (cond b (entered M σ e) (exited M σ e))).state
      go zero z true y = entered_apart z y
      go zero z false y = exited_apart
      go (suc n) z b y = d
