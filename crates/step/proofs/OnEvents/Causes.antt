-- Verdicts by their state and their triple, and outcomes by their case. Assumes nothing.
use mathlib.Core.Path.{◌≡◌, refl, sym, ◌∙◌}
use mathlib.Core.Logic.{◌⊎◌, inl, inr}
use mathlib.Core.Bool.{Bool, true, false, cond}
use mathlib.Core.Option.{Option, none, some}
use Prim.Native.Nat.{ℕ}
use Rattle.sheet.specs.Parts.{Common}
use Rattle.sheet.specs.Reading.{is_bad}
use Rattle.step.specs.declared.Cause.{Cause}
use Rattle.step.specs.declared.Cause.TheVariants as cause
use Rattle.step.specs.declared.Verdict.{Verdict}
use Rattle.step.specs.Verdicts.{cause_of, placed, bad_state, carried, verdict, cause_state, cause_triple}
use Rattle.step.proofs.OnLists.Lists.{none_some}

-- a cause is the one of its state and its triple
pub cause_is : (c : Cause) → cause_of (cause_state c) (cause_triple c) ≡ some c
cause_is (cause.BadState q) = refl
cause_is (cause.Triple t) = refl
cause_is (cause.Both q t) = refl

-- so position, state, triple and entry settle a verdict
pub verdict_same : (u v : Verdict) → u.position ≡ v.position → cause_state u.cause ≡ cause_state v.cause → cause_triple u.cause ≡ cause_triple v.cause → u.entry ≡ v.entry → u ≡ v
verdict_same u v p q r n =
    let s : some u.cause ≡ some v.cause = sym (cause_is u.cause) ∙ rw (q, r) (cause_is v.cause) in
    let c : u.cause ≡ v.cause = cc in
    λ i. record { position = p i; cause = c i; entry = n i }

module _ (C : Common) (position main entry : ℕ) where
  none_step : (b : Bool) (t : Option ℕ) → placed position (carried t entry) (cause_of (cond b (some main) none) t) ≡ none → (b ≡ false) × (t ≡ none)
  none_step true none e = absurd (none_some (sym e))
  none_step true (some i) e = absurd (none_some (sym e))
  none_step false none e = (refl, refl)
  none_step false (some i) e = absurd (none_some (sym e))

  pub verdict_none : (t : Option ℕ) → verdict C.bad position main t entry ≡ none → (is_bad C.bad main ≡ false) × (t ≡ none)
  verdict_none t e = none_step (is_bad C.bad main) t e

  placed_some : (n : ℕ) (c : Cause) (v : Verdict) → placed position n (some c) ≡ some v → (v.position ≡ position) × (v.cause ≡ c) × (v.entry ≡ n)
  placed_some n c v e = (cc, cc, cc)

  some_step : (b : Bool) (t : Option ℕ) (v : Verdict) → placed position (carried t entry) (cause_of (cond b (some main) none) t) ≡ some v
      → (v.position ≡ position) × (cause_state v.cause ≡ cond b (some main) none) × (cause_triple v.cause ≡ t) × (v.entry ≡ carried t entry) × ((b ≡ true) ⊎ ((i : ℕ) × (t ≡ some i)))
  some_step true none v e = let (p, q, r) = placed_some 0 (cause.BadState main) v e in (p, rw q, rw q, r, inl refl)
  some_step true (some i) v e = let (p, q, r) = placed_some entry (cause.Both main i) v e in (p, rw q, rw q, r, inl refl)
  some_step false none v e = absurd (none_some e)
  some_step false (some i) v e = let (p, q, r) = placed_some entry (cause.Triple i) v e in (p, rw q, rw q, r, inr (i, refl))

  pub verdict_some : (t : Option ℕ) (v : Verdict) → verdict C.bad position main t entry ≡ some v
      → (v.position ≡ position) × (cause_state v.cause ≡ bad_state C.bad main) × (cause_triple v.cause ≡ t) × (v.entry ≡ carried t entry) × ((is_bad C.bad main ≡ true) ⊎ ((i : ℕ) × (t ≡ some i)))
  verdict_some t v e = some_step (is_bad C.bad main) t v e
