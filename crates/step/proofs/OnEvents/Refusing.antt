-- The refusals of an event, from the places of its call. Assumes nothing.
use mathlib.Core.Path.{◌≡◌, refl, sym}
use mathlib.Core.Logic.{◌↔◌}
use mathlib.Core.Bool.{Bool, true, false, not, cond, ◌&&◌, false≢true}
use mathlib.Core.List.{List, [], ◌∷◌}
use Prim.Native.Nat.{ℕ, ◌≤◌, ◌<◌}
use native.Mathlib.Omega.{arith}
use borrow.Author.Tests.{leb-false, eqb-false, eq-eqb, not-false, not-true}
use lib.Dec.{leb, ltb, eqb}
use lib.ListN.{length}
use Rattle.sheet.specs.Parts.{Common}
use Rattle.sheet.specs.Table.{every}
use Rattle.sheet.specs.Log.{Event}
use Rattle.sheet.proofs.Tables.{and_parts}
use Rattle.sheet.proofs.Tests.{and_iff, leb_iff, eqb_iff}
use Rattle.step.specs.Calls as Calls
use Rattle.step.specs.Calls.{is_entry, is_exit, open_number, open_for, most_calls, last_position, Refusal, refusals, lowest}
use Rattle.step.proofs.OnLists.Keeping.{any_weaker}

-- the lowest of refusals 10 to 15 (Calls.refusals), by whether the event's number is open, sixteen calls are, and the number is open for its unit
abbrev pub refusal_by : ℕ → ℕ → Bool → ℕ → Bool → Bool → Bool → Event → ℕ
refusal_by units programs judged position again full known e =
    cond judged 10 (cond (not (leb e.kind 1 && (ltb e.unit units && eqb (length e.values) programs))) 11
    (cond (eqb position last_position) 12 (cond (is_entry e && again) 13 (cond (is_entry e && full) 14 (cond (is_exit e && not known) 15 0)))))

-- What is asked of the open calls gives the refusals.
pub refusal_asked :
    (C : Common) (judged : Bool) (position : ℕ) (calls : List Calls.Call) (e : Event) (again full known : Bool) →
    again ≡ open_number e.number calls → full ≡ leb most_calls (length calls) → known ≡ open_for e calls → refusal_by C.units C.programs judged position again full known e ≡ lowest (refusals C judged position calls e)
unfolding lowest refusals
refusal_asked C judged position calls e again full known ea ef ek = rw (ea, ef, ek)

-- None of them is 9.
never : (l : List Refusal) → every (λ r. not (eqb r.number 9)) l ≡ true → lowest l ≡ 9 → ⊥
unfolding lowest every
never [] h e = omega arith
never (r ∷ l) h e = let (a, b) = and_parts (not (eqb r.number 9)) (every (λ r. not (eqb r.number 9)) l) h in go r.applies (eqb-false r.number 9 (not-true _ a)) (never l b) e
  where
    go : (b : Bool) → (r.number ≡ 9 → ⊥) → (lowest l ≡ 9 → ⊥) → cond b r.number (lowest l) ≡ 9 → ⊥
    go true x y e = x e
    go false x y e = y e

pub lowest_never : (C : Common) (judged : Bool) (position : ℕ) (calls : List Calls.Call) (e : Event) → lowest (refusals C judged position calls e) ≡ 9 → ⊥
unfolding refusals every
lowest_never C judged position calls e = never (refusals C judged position calls e) refl

-- An event that is refused for no reason, with or without a verdict, at a position, with some calls open.
pub record Free (C : Common) (judged : Bool) (position : ℕ) (calls : List Calls.Call) (e : Event) : Type 0 where
  pub unjudged : judged ≡ false
  pub kind : e.kind ≤ 1
  pub unit : e.unit < C.units
  pub values : length e.values ≡ C.programs
  pub not_last : eqb position last_position ≡ false
  pub not_open : (is_entry e && open_number e.number calls) ≡ false
  pub room : (is_entry e && leb most_calls (length calls)) ≡ false
  pub is_open : (is_exit e && not (open_for e calls)) ≡ false

cond_iff : (b : Bool) (n rest : ℕ) → eqb n 0 ≡ false → cond b n rest ≡ 0 ↔ (b ≡ false) × (rest ≡ 0)
cond_iff true n rest h = (λ e. absurd (eqb-false n 0 h e), λ p. absurd (false≢true (sym p.0)))
cond_iff false n rest h = (λ e. (refl, e), λ p. p.1)

not_false_iff : (b : Bool) → not b ≡ false ↔ b ≡ true
not_false_iff true = (λ _. refl, λ _. refl)
not_false_iff false = (λ e. absurd (false≢true (sym e)), λ e. absurd (false≢true e))

pub free : (C : Common) (judged : Bool) (position : ℕ) (calls : List Calls.Call) (e : Event) → lowest (refusals C judged position calls e) ≡ 0 → Free C judged position calls e
unfolding refusals lowest
free C judged position calls e h =
    let (a, (b, (c, (d, (f, (g, z)))))) = simp cond_iff at h in
    let (k, (u, v)) = simp (not_false_iff, and_iff, leb_iff, eqb_iff) at b in
    record { unjudged = a; kind = k; unit = u; values = v; not_last = c; not_open = d; room = f; is_open = g }

-- So there is one to come after an event that is not refused; at an entry there is room for its call, and at an exit its call is open.
module _ {C : Common} {judged : Bool} {position : ℕ} {calls : List Calls.Call} {e : Event} (f : Free C judged position calls e) where
  pub entry_room : e.kind ≡ 0 → length calls < 16
  entry_room h = leb-false 16 (length calls) (rw (eq-eqb e.kind 0 h) at f.room)

  pub exit_open : e.kind ≡ 1 → open_number e.number calls ≡ true
  exit_open h =
      let open-for : open_for e calls ≡ true = not-false _ (rw (eq-eqb e.kind 1 h) at f.is_open) in
      any_weaker (λ (c : Calls.Call). eqb c.number e.number) (λ (c : Calls.Call). eqb c.number e.number && eqb c.unit e.unit)
      (λ c t. (and_parts (eqb c.number e.number) (eqb c.unit e.unit) t).0) calls open-for
