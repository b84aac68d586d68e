-- A text that is exactly a condition is what the bytes from its place on begin with: what stands behind it plays no part. Assumes
-- nothing.
use Rattle.std.proofs.Common.{◌≡◌, ℕ, ◌≤◌, List, ◌++◌, length, take, drop, sym, ap, ◌∙◌, arith, length-drop, take-append-drop, length-take, le-leb}
use mathlib.Core.Option.{some}
use Rattle.condition.specs.declared.Lent.{Lent}
use Rattle.condition.specs.Tree.{Condition, condition_bytes}
use Rattle.condition.specs.Parse.{parsed, condition_from, parse_condition}
use Rattle.condition.specs.Meaning.{Environment, lent, holds}
use Rattle.condition.specs.Count.{condition_count}
use Rattle.condition.specs.Answer.{holds_from, count_from}
use Rattle.condition.proofs.Parsing.{condition_whole, parse_lent, condition_parses}

module _ (L : Lent) (s : List ℕ) (at n : ℕ) {c : Condition} (h : parse_condition L (take n (drop at s)) ≡ some c) where
  bytes_there : drop at s ≡ condition_bytes c ++ drop n (drop at s)
  bytes_there = sym (take-append-drop n (drop at s)) ∙ ap (λ (t : List ℕ). t ++ drop n (drop at s)) (condition_whole L (take n (drop at s)) h)

  few_there : length (condition_bytes c) ≤ length (drop at s)
  few_there = omega (arith, ap length (condition_whole L (take n (drop at s)) h), length-take n (drop at s))

  condition_there : condition_from (length (drop at s)) L (drop at s) ≡ parsed c (drop n (drop at s))
  condition_there = ap (condition_from (length (drop at s)) L) bytes_there ∙ condition_parses L (length (drop at s)) c (drop n (drop at s)) (parse_lent L (take n (drop at s)) h) (omega (arith, few_there))

-- behind the first byte of the most bytes that a sheet or network has, few enough are left
pub behind_first : (s : List ℕ) (at : ℕ) → (at ≡ 0 → ⊥) → length s ≤ 65535 → length (drop at s) ≤ 65534
behind_first s at n z = omega (arith, length-drop at s)

module _ (s : List ℕ) (at n : ℕ) (E : Environment) (c : Condition) (z : length (drop at s) ≤ 65534) (h : parse_condition (lent E) (take n (drop at s)) ≡ some c) where
  pub holds_text : holds_from s at E ≡ holds c E
  unfolding holds_from
  holds_text = rw (le-leb (length (drop at s)) 65534 z, condition_there (lent E) s at n h)

  pub count_text : count_from s at E ≡ condition_count c E
  unfolding count_from
  count_text = rw (le-leb (length (drop at s)) 65534 z, condition_there (lent E) s at n h)
