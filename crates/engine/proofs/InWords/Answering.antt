-- From what the parts answer to what an event comes to, for all bytes, plans and rows. Assumes nothing.
use mathlib.Core.Path.{◌≡◌, refl, sym, ap, ◌∙◌}
use mathlib.Core.Bool.{Bool, true, false, cond}
use mathlib.Core.List.{List, [], ◌∷◌}
use Prim.Native.Nat.{ℕ, zero, suc, ◌+◌, ◌-◌, ◌*◌, ◌≤◌, ◌<◌}
use native.Mathlib.Omega.{arith}
use borrow.Author.Tests.{le-leb, lt-leb, eq-eqb, ne_eqb}
use lib.Dec.{eqb}
use lib.ListN.{length, get_or, set, take}
use lib.Seq.{sets}
use Rattle.condition.specs.Meaning.{environment}
use Rattle.step.specs.Runs.{Offered, offered}
use Rattle.step.specs.Answers.{unless_taken}
use Rattle.engine.specs.declared.Running.{Running}
use Rattle.engine.specs.declared.Given.{Given}
use Rattle.engine.specs.Plan.{programs_in, monitors_in, cell_of, first_of, candidate_of}
use Rattle.engine.specs.Walk.{Answered, found_in, found_count, armed_in, armed_count, place_in, seen_in, low_in, low_count, main_after, variables_after, action_count_after, run_after, Words, words, row_with, row_without, refusal_in, entered_in, exited_in, taken_in, offer_in, entered_count, exited_count, taken_count_in, event_count_in}
use Rattle.engine.proofs.InWords.Chains.{found_few, asked_few}
use Rattle.engine.proofs.InWords.Taking.{action_few}
use Rattle.engine.proofs.InWords.Failing.{low_few}

-- What is lent, the transition that is found, what it leaves, and what all of it counts.
module _ (s p : List ℕ) (r : Running) (row variables values : List ℕ) (n : ℕ) (en : n ≡ programs_in p) (program : List ℕ) (ep : program ≡ take n values) (m : ℕ) (em : m ≡ monitors_in p) (monitor : List ℕ) (ev : monitor ≡ take m variables) where
  module _ (unit cell : ℕ) (ec : cell ≡ cell_of r.main unit) (main : ℕ) (variables₁ : List ℕ) where
    pub entered_there : (first : ℕ) → first ≡ get_or p (8 + 2 * cell) 0 → (t c : ℕ) → (t ≡ found_in s p first (environment program monitor [])) × (t ≤ 96) × (c ≡ found_count s p first (environment program monitor []))
        → (c₁ : ℕ) → (main ≡ main_after p t r.main) × (variables₁ ≡ variables_after s p t values variables) × (c₁ ≡ action_count_after s p t values variables)
        → (g : Given) → unit ≡ g.unit → (opened : ℕ) → opened ≡ r.opened → (i : ℕ) → i ≡ candidate_of p cell t
        → (row₁ : List ℕ) → row₁ ≡ sets (sets row (16 * opened) (g.number ∷ g.unit ∷ [])) (16 * opened + 7) ((r.position + 1) ∷ values)
        → (row₂ : List ℕ) (c₂ : ℕ) → (c₂ ≡ armed_count s p i (environment program monitor [])) × (row₂ ≡ set (sets row₁ (16 * opened + 3) (take 4 (armed_in s p i (environment program monitor [])))) (16 * opened + 2) (length (armed_in s p i (environment program monitor []))))
        → (r₁ : Running) → r₁ ≡ run_after p r.position main (r.opened + 1) 256 0
        → (words r₁ row₂ variables₁ ≡ entered_in s p (words r row variables) g values) × (c + c₂ + c₁ ≡ entered_count s p (words r row variables) g values)
    unfolding entered_in entered_count row_with
    entered_there first ef t c found c₁ moved g eu opened eo i ei row₁ e₁ row₂ c₂ arms r₁ er =
        (rw (er, arms.1, e₁, moved.0, moved.1, ei, found.0, ef, ec, eu, eo, ev, em, ep, en), rw (found.2, arms.0, moved.2, ei, found.0, ef, ec, eu, ev, em, ep, en))

    pub exited_there : (first : ℕ) → first ≡ get_or p (9 + 2 * cell) 0 → (t c : ℕ) → (t ≡ found_in s p first (environment program monitor [])) × (t ≤ 96) × (c ≡ found_count s p first (environment program monitor []))
        → (c₁ : ℕ) → (main ≡ main_after p t r.main) × (variables₁ ≡ variables_after s p t values variables) × (c₁ ≡ action_count_after s p t values variables)
        → (at low c₂ : ℕ) → (low ≡ low_in s p row at program monitor) × (c₂ ≡ low_count s p row at program monitor) → (opened : ℕ) → opened ≡ r.opened
        → (row₁ : List ℕ) → row₁ ≡ row_without row at opened
        → (r₁ : Running) → r₁ ≡ run_after p r.position main (r.opened - 1) low (get_or row (at + 7) 0)
        → (words r₁ row₁ variables₁ ≡ exited_in s p (words r row variables) unit at values) × (c₂ + c + c₁ ≡ exited_count s p (words r row variables) unit at values)
    unfolding exited_in exited_count
    exited_there first ef t c found c₁ moved at low c₂ el opened eo row₁ e₁ r₁ er =
        let key : 9 + 2 * cell ≡ 8 + (2 * cell + 1) = omega arith in
        let there : first ≡ get_or p (8 + (2 * cell + 1)) 0 = ef ∙ ap (λ (k : ℕ). get_or p k 0) key in
        (rw (er, e₁, moved.0, moved.1, el.0, found.0, there, ec, eo, ev, em, ep, en), rw (el.1, found.2, moved.2, found.0, there, ec, ev, em, ep, en))

-- What an event is answered, as it is handed back.
pub told : (a c : ℕ) (τ : Words) (o : Offered Words) (k : ℕ) → (o ≡ record { answer = a; state = τ }) × (c ≡ k)
    → (x : Answered) → x ≡ record { answer = a; count = c; run = τ.run }
    → (x ≡ record { answer = o.answer; count = k; run = o.state.run }) × ((τ.row ≡ o.state.row) × (τ.variables ≡ o.state.variables))
told a c τ o k (e, f) x h = let g = sym e in (h ∙ (λ i. record { answer = (g i).answer; count = f i; run = (g i).state.run }), (λ i. (g i).state.row, λ i. (g i).state.variables))

stays_refused : (n : ℕ) (σ τ : Words) → (n ≡ 0 → ⊥) → offered n σ τ ≡ record { answer = n; state = σ }
stays_refused zero σ τ h = absurd (h refl)
stays_refused (suc n) σ τ h = refl

counts_none : (n c : ℕ) → (n ≡ 0 → ⊥) → 0 ≡ unless_taken n 0 c
counts_none zero c h = absurd (h refl)
counts_none (suc n) c h = refl

module _ (s p : List ℕ) (r : Running) (row variables : List ℕ) (g : Given) (values : List ℕ) where
  abbrev σ : Words
  σ = words r row variables

  uncounted : (n : ℕ) → (n ≡ 0 → ⊥) → offer_in s p σ g values ≡ record { answer = n; state = σ } → 0 ≡ event_count_in s p σ g values
  unfolding event_count_in
  uncounted n h e = rw e (counts_none n _ h)

  pub offer_crowded : 16 < r.opened → (offer_in s p σ g values ≡ record { answer = 9; state = σ }) × (0 ≡ event_count_in s p σ g values)
  unfolding offer_in
  offer_crowded h =
      let e : offer_in s p σ g values ≡ record { answer = 9; state = σ } = rw (lt-leb r.opened 16 h) in
      (e, uncounted 9 (λ k. omega (arith, k)) e)

  module _ (few : r.opened ≤ 16) (opened : ℕ) (eo : opened ≡ r.opened) (number : ℕ) (en : number ≡ g.number) (at : ℕ) (ea : at ≡ place_in number opened row) (n : ℕ) (er : n ≡ refusal_in p r row g at) where
    by_refusal : offer_in s p σ g values ≡ offered n σ (taken_in s p σ g at values)
    unfolding offer_in
    by_refusal = rw (le-leb r.opened 16 few, er, ea, en, eo)

    pub offer_refused : (n ≡ 0 → ⊥) → (offer_in s p σ g values ≡ record { answer = n; state = σ }) × (0 ≡ event_count_in s p σ g values)
    offer_refused h =
        let e = by_refusal ∙ stays_refused n σ (taken_in s p σ g at values) h in
        (e, uncounted n h e)

    module _ (free : n ≡ 0) (τ : Words) (c : ℕ) where
      by_count : event_count_in s p σ g values ≡ taken_count_in s p σ g at values
      unfolding event_count_in
      by_count = rw (by_refusal, free, ea, en, eo)

      pub offer_entry : g.kind ≡ 0 → (τ ≡ entered_in s p σ g values) × (c ≡ entered_count s p σ g values)
          → (offer_in s p σ g values ≡ record { answer = 0; state = τ }) × (c ≡ event_count_in s p σ g values)
      offer_entry k e = (by_refusal ∙ rw (free, eq-eqb g.kind 0 k, e.0), sym (by_count ∙ rw (eq-eqb g.kind 0 k, e.1)))

      pub offer_exit : (g.kind ≡ 0 → ⊥) → (τ ≡ exited_in s p σ g.unit at values) × (c ≡ exited_count s p σ g.unit at values)
          → (offer_in s p σ g values ≡ record { answer = 0; state = τ }) × (c ≡ event_count_in s p σ g values)
      offer_exit k e = (by_refusal ∙ rw (free, ne_eqb g.kind 0 k, e.0), sym (by_count ∙ rw (ne_eqb g.kind 0 k, e.1)))

-- no event counts above 2^25
module _ (s p : List ℕ) (σ : Words) (g : Given) (values : List ℕ) where
  entered_few : entered_count s p σ g values ≤ 33554432
  unfolding entered_count
  entered_few =
      let E = seen_in p values σ.variables in
      let cell = cell_of σ.run.main g.unit in
      let t = found_in s p (first_of p (2 * cell)) E in
      omega (arith, found_few s p E (first_of p (2 * cell)) _ refl, asked_few s p E (candidate_of p cell t) _ refl, action_few s p t values σ.variables _ refl)

  exited_few : (unit at : ℕ) → exited_count s p σ unit at values ≤ 33554432
  unfolding exited_count
  exited_few unit at =
      let E = seen_in p values σ.variables in
      let first = first_of p (2 * cell_of σ.run.main unit + 1) in
      omega (arith, low_few s p σ.row at E.programs E.monitors _ refl, found_few s p E first _ refl, action_few s p (found_in s p first E) values σ.variables _ refl)

  pub event_few : event_count_in s p σ g values ≤ 33554432
  unfolding event_count_in
  event_few = go (offer_in s p σ g values).answer (eqb g.kind 0)
    where
      go : (n : ℕ) (b : Bool) → unless_taken n 0 (cond b (entered_count s p σ g values) (exited_count s p σ g.unit (place_in g.number σ.run.opened σ.row) values)) ≤ 33554432
      go zero true = entered_few
      go zero false = exited_few g.unit (place_in g.number σ.run.opened σ.row)
      go (suc n) b = omega arith
