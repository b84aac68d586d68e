-- The main state and the variables after a transition, and how much its action counts. Assumes nothing.
use mathlib.Core.Path.{◌≡◌}
use mathlib.Core.Bool.{Bool, true, false, cond}
use mathlib.Core.List.{List, []}
use Prim.Native.Nat.{ℕ, ◌%◌, ◌≤◌, ◌<◌}
use native.Mathlib.Omega.{arith}
use borrow.Author.Tests.{lt-ltb, le-ltb, eq-eqb, ne_eqb}
use lib.Dec.{eqb, ltb}
use lib.ListN.{take}
use Rattle.condition.specs.Meaning.{environment}
use Rattle.condition.specs.Answer.{performed_on, action_outcome, action_counted, text_from}
use Rattle.condition.proofs.Counting.{action_counted_most}
use Rattle.engine.specs.Plan.{programs_in, monitors_in, action_of, target_of}
use Rattle.engine.specs.Walk.{main_after, variables_after, action_count_after}

module _ (s p : List ℕ) (t main : ℕ) (values variables : List ℕ) where
  pub stays : 96 ≤ t → (main ≡ main_after p t main) × (variables ≡ variables_after s p t values variables) × (0 ≡ action_count_after s p t values variables)
  stays h = (rw (le-ltb t 96 h), rw (le-ltb t 96 h), rw (le-ltb t 96 h))

  module _ (h : t < 96) where
    pub leads : target_of p t % 256 ≡ main_after p t main
    leads = rw (lt-ltb t 96 h)

    module _ (at : ℕ) (e : at ≡ action_of p t) where
      pub no_action : at ≡ 0 → (variables ≡ variables_after s p t values variables) × (0 ≡ action_count_after s p t values variables)
      no_action z = (rw (lt-ltb t 96 h, ← e, eq-eqb at 0 z), rw (lt-ltb t 96 h, ← e, eq-eqb at 0 z))

      pub action_taken : (at ≡ 0 → ⊥) → (n : ℕ) → n ≡ programs_in p → (program : List ℕ) → program ≡ take n values → (count : ℕ) → count ≡ monitors_in p
          → (v : List ℕ) (m : ℕ) → (v ≡ performed_on count variables (action_outcome (text_from s at) (environment program (take count variables) []))) × (m ≡ action_counted (text_from s at) (environment program (take count variables) []))
          → (v ≡ variables_after s p t values variables) × (m ≡ action_count_after s p t values variables)
      action_taken z n en program ep count ec v m ev = rw (lt-ltb t 96 h, ← e, ne_eqb at 0 z, ← en, ← ep, ← ec) ev

-- no more than the bytes of the longest action
pub action_few : (s p : List ℕ) (t : ℕ) (values variables : List ℕ) (n : ℕ) → n ≡ action_count_after s p t values variables → n ≤ 64
action_few s p t values variables n e = omega (arith, e, go (ltb t 96) (eqb (action_of p t) 0))
  where
    go : (b c : Bool) → cond b (cond c 0 (action_counted (text_from s (action_of p t)) (environment (take (programs_in p) values) (take (monitors_in p) variables) []))) 0 ≤ 64
    go true true = omega arith
    go true false = action_counted_most _ _
    go false c = omega arith
