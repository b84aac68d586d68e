-- What a transition leaves: a state below Q, as many variables as before, and a sound verdict; and how the operations take one. Assumes nothing.
use mathlib.Core.Path.{◌≡◌, refl, sym, subst, ◌∙◌}
use mathlib.Core.Bool.{Bool, true, false, cond, ◌&&◌}
use mathlib.Core.Option.{Option, none, some}
use mathlib.Core.List.{List, [], ◌∷◌, map}
use Prim.Native.Nat.{ℕ, ◌<◌}
use borrow.Author.Tests.{eq-eqb}
use lib.Dec.{leb, ltb}
use lib.ListN.{length, get_or, length-set, length-map, get_or-map}
use Rattle.condition.specs.Tree.{Assignment}
use Rattle.condition.specs.Parse.{parse_action}
use Rattle.condition.specs.Meaning.{Environment, performed, assigned}
use Rattle.sheet.specs.declared.Transition.{Transition}
use Rattle.sheet.specs.Parts.{Common, Paired}
use Rattle.sheet.specs.Decode.{common_of}
use Rattle.sheet.specs.Reading.{is_bad, lent_in, transitions_of, sheet_layout, network_layout}
use Rattle.sheet.specs.Log.{Event}
use Rattle.sheet.proofs.Accepted.{Accepted, GoodTransition, sheet_transition, network_transition}
use Rattle.step.specs.Lists.{Among, first}
use Rattle.step.specs.Meets.{acted, performed_by}
use Rattle.step.specs.Moves.{Configuration, seen, enabled, after, moved}
use Rattle.step.specs.Verdicts.{cause_of, placed, carried, verdict, if_there, verdict_fits}
use Rattle.step.proofs.OnLists.Lists.{first_passes}
use Rattle.step.proofs.OnLists.Keeping.{among_at}
use Rattle.step.proofs.OnEvents.Bridge.{no_transition, no_paired}

-- Every transition of accepted bytes is good: of a sheet, and of a network.
pub sheet_good : {s : List ℕ} → Accepted sheet_layout s → (t : Transition) → Among t (transitions_of sheet_layout s) → GoodTransition (common_of s) t
sheet_good {s} a t m =
    let (i, j, x) = among_at no_transition (transitions_of sheet_layout s) t m in
    subst (GoodTransition (common_of s)) x (sheet_transition a i no_transition j)

pub network_good : {s : List ℕ} → Accepted network_layout s → (t : Transition) → Among t (map (λ (u : Paired). u.base) (transitions_of network_layout s)) → GoodTransition (common_of s) t
network_good {s} a t m =
    let ts = transitions_of network_layout s in
    let (i, j, x) = among_at no_paired.base (map (λ (u : Paired). u.base) ts) t m in
    let same = sym (get_or-map (λ (u : Paired). u.base) ts i no_paired) ∙ x in
    subst (GoodTransition (common_of s)) same (network_transition a i no_paired (rw length-map at j))

-- A transition leads to a state below Q, and there are as many variables as before.
pub length_performed : (r : List Assignment) (E : Environment) → length (performed r E) ≡ length E.monitors
unfolding performed assigned
length_performed [] E = refl
length_performed (a ∷ r) E = length_performed r (assigned a E) ∙ length-set E.monitors a.target _

pub length_acted : (o : Option (List Assignment)) (E : Environment) → length (performed_by o E) ≡ length E.monitors
length_acted none E = refl
length_acted (some r) E = length_performed r E

module _ (C : Common) (ts : List Transition) where
  pub moved_main : ((t : Transition) → Among t ts → t.to < C.states) → (k : Configuration) (e : Event) → k.main < C.states → (moved C ts k e).main < C.states
  unfolding moved
  moved_main good k e h = go (first (enabled C k e) ts) refl
    where
      go : (o : Option Transition) → first (enabled C k e) ts ≡ o → (after C k e o).main < C.states
      go none f = h
      go (some t) f = good t (first_passes (enabled C k e) ts t f).0

  pub moved_variables : (k : Configuration) (e : Event) → length (moved C ts k e).variables ≡ length k.variables
  unfolding moved acted
  moved_variables k e = go (first (enabled C k e) ts)
    where
      go : (o : Option Transition) → length (after C k e o).variables ≡ length k.variables
      go none = refl
      go (some t) = length_acted (parse_action (lent_in C) (get_or C.actions t.action [])) (seen e k)

-- The verdict that an event brings, from a triple that exists and a call that was entered before it.
pub verdict_fits_lem : (bad n main position entry : ℕ) (t : Option ℕ) → if_there t (λ i. ltb i n && (leb 1 entry && ltb entry position)) ≡ true → verdict_fits bad n main position (verdict bad position main t entry) ≡ true
verdict_fits_lem bad n main position entry t h = go (is_bad bad main) refl t h
  where
    go : (b : Bool) → is_bad bad main ≡ b → (o : Option ℕ) → if_there o (λ i. ltb i n && (leb 1 entry && ltb entry position)) ≡ true
        → verdict_fits bad n main position (placed position (carried o entry) (cause_of (cond b (some main) none) o)) ≡ true
    go true e none k = rw (e, eq-eqb position position refl, eq-eqb main main refl)
    go true e (some i) k = rw (e, k, eq-eqb position position refl, eq-eqb main main refl)
    go false e none k = rw e
    go false e (some i) k = rw (k, eq-eqb position position refl)
