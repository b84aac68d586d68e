-- The refusal that is met first, for any plan and any row, and what holds where there is none. Assumes nothing.
use mathlib.Core.Path.{◌≡◌, refl}
use mathlib.Core.Bool.{Bool, true, false, not, cond, ◌&&◌}
use mathlib.Core.List.{List}
use Prim.Native.Nat.{ℕ, suc, ◌+◌, ◌*◌, ◌≤◌, ◌<◌}
use native.Mathlib.Omega.{arith}
use borrow.Author.Tests.{lt-ltb, le-ltb, ltb-true, eqb-false, eq-eqb, ne_eqb}
use lib.Dec.{eqb, ltb, leb}
use lib.ListN.{get_or}
use Rattle.step.specs.Calls.{last_position}
use Rattle.step.specs.Verdicts.{is_judged, verdict_in}
use Rattle.engine.specs.declared.Running.{Running}
use Rattle.engine.specs.declared.Given.{Given}
use Rattle.engine.specs.Plan.{units_in, programs_in}
use Rattle.engine.specs.Walk.{entry_refusal, exit_refusal, refusal_in}

module _ (opened at : ℕ) where
  pub entry_again : at < 16 * opened → 13 ≡ entry_refusal opened at
  unfolding entry_refusal
  entry_again h = rw (lt-ltb at (16 * opened) h)

  module _ (h : 16 * opened ≤ at) where
    pub entry_free : opened < 16 → 0 ≡ entry_refusal opened at
    unfolding entry_refusal
    entry_free k = rw (le-ltb at (16 * opened) h, lt-ltb opened 16 k)

    pub entry_full : 16 ≤ opened → 14 ≡ entry_refusal opened at
    unfolding entry_refusal
    entry_full k = rw (le-ltb at (16 * opened) h, le-ltb opened 16 k)

module _ (row : List ℕ) (opened at unit : ℕ) where
  module _ (h : at < 16 * opened) where
    pub exit_free : get_or row (at + 1) 0 ≡ unit → 0 ≡ exit_refusal row opened at unit
    unfolding exit_refusal
    exit_free e = rw (lt-ltb at (16 * opened) h, eq-eqb (get_or row (at + 1) 0) unit e)

    pub exit_other : (get_or row (at + 1) 0 ≡ unit → ⊥) → 15 ≡ exit_refusal row opened at unit
    unfolding exit_refusal
    exit_other e = rw (lt-ltb at (16 * opened) h, ne_eqb (get_or row (at + 1) 0) unit e)

  pub exit_unknown : 16 * opened ≤ at → 15 ≡ exit_refusal row opened at unit
  unfolding exit_refusal
  exit_unknown h = rw (le-ltb at (16 * opened) h)

-- The refusals in their order.
module _ (p : List ℕ) (r : Running) (row : List ℕ) (g : Given) (at : ℕ) where
  pub refused_judged : (b : Bool) → b ≡ is_judged (verdict_in r.outcome) → b ≡ true → 10 ≡ refusal_in p r row g at
  unfolding refusal_in
  refused_judged b e h = rw (← e, h)

  module _ (judged : Bool) (ej : judged ≡ is_judged (verdict_in r.outcome)) (open-still : judged ≡ false) (unit : ℕ) (eu : unit ≡ g.unit) (units : ℕ) (es : units ≡ units_in p) (programs : ℕ) (ep : programs ≡ programs_in p) where
    pub refused_form : (leb g.kind 1 && (ltb unit units && eqb g.count programs)) ≡ false → 11 ≡ refusal_in p r row g at
    unfolding refusal_in
    refused_form h = rw (← ej, open-still, ← eu, ← es, ← ep, h)

    module _ (fits : (leb g.kind 1 && (ltb unit units && eqb g.count programs)) ≡ true) where
      pub refused_last : r.position ≡ last_position → 12 ≡ refusal_in p r row g at
      unfolding refusal_in
      refused_last h = rw (← ej, open-still, ← eu, ← es, ← ep, fits, eq-eqb r.position last_position h)

      module _ (early : r.position ≡ last_position → ⊥) (opened : ℕ) (eo : opened ≡ r.opened) (x : ℕ) where
        pub refused_entry : g.kind ≡ 0 → x ≡ entry_refusal opened at → x ≡ refusal_in p r row g at
        unfolding refusal_in
        refused_entry k h = rw (← ej, open-still, ← eu, ← es, ← ep, fits, ne_eqb r.position last_position early, eq-eqb g.kind 0 k, ← eo) h

        pub refused_exit : (g.kind ≡ 0 → ⊥) → (v : ℕ) → v ≡ g.unit → x ≡ exit_refusal row opened at v → x ≡ refusal_in p r row g at
        unfolding refusal_in
        refused_exit k v ev h = rw (← ej, open-still, ← eu, ← es, ← ep, fits, ne_eqb r.position last_position early, ne_eqb g.kind 0 k, ← eo, eu, ← ev) h

-- Where there is no refusal.
first_passed : (b : Bool) (n rest : ℕ) → cond b (suc n) rest ≡ 0 → rest ≡ 0
first_passed true n rest h = absurd (omega arith)
first_passed false n rest h = h

not_the_last : (b : Bool) (x n : ℕ) → cond b x (suc n) ≡ 0 → b ≡ true
not_the_last true x n h = refl
not_the_last false x n h = absurd (omega arith)

pub entry_room : (opened at : ℕ) → entry_refusal opened at ≡ 0 → opened < 16
unfolding entry_refusal
entry_room opened at h = ltb-true opened 16 (not_the_last (ltb opened 16) 0 13 (first_passed (ltb at (16 * opened)) 12 _ h))

pub exit_there : (row : List ℕ) (opened at unit : ℕ) → exit_refusal row opened at unit ≡ 0 → at < 16 * opened
unfolding exit_refusal
exit_there row opened at unit h = ltb-true at (16 * opened) (not_the_last (ltb at (16 * opened)) _ 14 h)

module _ (p : List ℕ) (r : Running) (row : List ℕ) (g : Given) (at : ℕ) (h : refusal_in p r row g at ≡ 0) where
  by_kind : (eqb r.position last_position ≡ false) × (cond (eqb g.kind 0) (entry_refusal r.opened at) (exit_refusal row r.opened at g.unit) ≡ 0)
  unfolding refusal_in
  by_kind = last (eqb r.position last_position) (first_passed (not (leb g.kind 1 && (ltb g.unit (units_in p) && eqb g.count (programs_in p)))) 10 _ (first_passed (is_judged (verdict_in r.outcome)) 9 _ h))
    where
      last : (b : Bool) {rest : ℕ} → cond b 12 rest ≡ 0 → (b ≡ false) × (rest ≡ 0)
      last true e = absurd (omega arith)
      last false e = (refl, e)

  pub allowed_early : r.position < 4294967296 → r.position < 4294967295
  allowed_early few = let early = eqb-false r.position last_position by_kind.0 in omega (arith, early)

  pub allowed_entry : g.kind ≡ 0 → r.opened < 16
  allowed_entry k = entry_room r.opened at (rw (eq-eqb g.kind 0 k) at by_kind.1)

  pub allowed_exit : (g.kind ≡ 0 → ⊥) → at < 16 * r.opened
  allowed_exit k = exit_there row r.opened at g.unit (rw (ne_eqb g.kind 0 k) at by_kind.1)
