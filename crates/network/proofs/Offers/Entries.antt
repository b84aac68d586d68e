-- The values at entry of a checker, by its call among the open ones. Assumes nothing.
use Rattle.std.proofs.Common.{◌≡◌, ℕ, ◌≤◌, ◌<◌, min, Bool, true, false, cond, ◌&&◌, List, [], ◌∷◌, Option, Some, None, Bor, eqb, ltb, get_or, take, refl, arith}
use mathlib.Core.Option.{some}
use borrow.Author.Tests.{lt-ltb, ltb-true}
use lib.ListN.{replicate}
use Rattle.std.specs.List.{find}
use Rattle.std.specs.Option.{option_map}
use Rattle.sheet.proofs.Tables.{and_parts}
use Rattle.step.specs.declared.Call.{Call}
use Rattle.step.specs.Lists.{first}
use Rattle.network.specs.declared.NetworkState.{NetworkState}
use Rattle.network.specs.Padded.{zero_checker}
use Rattle.network.specs.Answers.{kept_by, entry_values}

-- two bounds, both met
pub both_below : (k m n : ℕ) → (ltb k m && ltb k n) ≡ true → (k < m) × (k < n)
both_below k m n h =
    let (a, b) = and_parts (ltb k m) (ltb k n) h in
    (ltb-true k m a, ltb-true k n b)

-- what the library finds is the first call that passes a test
abbrev pub kept_of : Option Call → List ℕ
kept_of None = replicate 8 0
kept_of (Some c) = c.kept

kept_found : (p : Call → Bool) (l : List Call) → kept_of (find p l) ≡ kept_by (first p l)
unfolding first
kept_found p [] = refl
kept_found p (x ∷ l) = go (p x) (kept_found p l)
  where
    go : (b : Bool) → kept_of (find p l) ≡ kept_by (first p l) → kept_of (cond b (Some x) (find p l)) ≡ kept_by (cond b (some x) (first p l))
    go true h = refl
    go false h = h

-- the checker at a place of the row, and its call
module _ (w : NetworkState) (i : ℕ) where
  pub entry_past : min w.living 64 ≤ i → replicate 8 0 ≡ entry_values w i
  unfolding entry_values
  entry_past h = go (ltb i w.living) (ltb i 64) refl refl
    where
      go : (a b : Bool) → ltb i w.living ≡ a → ltb i 64 ≡ b → replicate 8 0 ≡ cond (a && b) (kept_by (first (λ (c : Call). eqb c.number (get_or w.checkers i zero_checker).number) (take w.opened w.calls))) (replicate 8 0)
      go true true e f = absurd (omega (arith, ltb-true i w.living e, ltb-true i 64 f))
      go true false e f = refl
      go false b e f = refl

  module _ (h : i < w.living) (k : i < 64) where
    pub entry_found : {r found : Option (Bor Call)} → r ≡ found → option_map (λ (y : Bor Call). y.now) r ≡ find (λ (c : Call). eqb c.number (get_or w.checkers i zero_checker).number) (take w.opened w.calls) → kept_of (option_map (λ (y : Bor Call). y.now) found) ≡ entry_values w i
    unfolding entry_values
    entry_found e f = rw (lt-ltb i w.living h, lt-ltb i 64 k, ← e, f) (kept_found _ (take w.opened w.calls))
