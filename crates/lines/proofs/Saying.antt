-- What is stored for an answer, part by part, is its line. Assumes nothing.
use mathlib.Core.Path.{◌≡◌}
use mathlib.Core.List.{List, [], ◌∷◌, ◌++◌}
use Prim.Native.Nat.{ℕ, ◌/◌, ◌%◌, ◌≤◌, ◌<◌}
use native.Mathlib.Omega.{arith}
use lib.ListN.{length}
use Rattle.step.specs.declared.Cause.TheVariants.{BadState, Triple, Both}
use Rattle.step.specs.declared.Verdict.{Verdict}
use Rattle.step.specs.declared.RunAnswer.{RunAnswer}
use Rattle.step.specs.declared.RunAnswer.TheVariants.{Violated, Clean, Refused, RefusedAt}
use Rattle.refusal.specs.declared.Refusal as reason
use Rattle.refusal.specs.Numbers.{number_of}
use Rattle.lines.specs.Text.{digit, decimal, violated_text, clean_text, refused_text, state_text, triple_text, entry_text, open_text, at_text, newline, line}
use Rattle.lines.specs.Walk.{Puts, line_of}
use Rattle.lines.proofs.Texts.{puts_then, puts_most, puts_near}
use Rattle.lines.proofs.Decimals.{decimal_one, decimal_more, decimal_few}

-- a name, and a number
pub says_named : {o p q : List ℕ} {at m r : ℕ} (name : List ℕ) (n : ℕ) → length name ≤ 10 → Puts o p at name m 20 → Puts p q m (decimal n) r 10 → Puts o q at (name ++ decimal n) r 30
says_named name n h v w = puts_most (puts_then name (decimal n) (puts_near v h) w) (omega arith)

-- a number: one digit, or the last behind the rest
pub says_digit : {o p : List ℕ} {at r d : ℕ} (n : ℕ) → n < 10 → d ≡ digit n → Puts o p at (d ∷ []) r 20 → Puts o p at (decimal n) r 10
says_digit n h e w = rw (← decimal_one n h, ← e) (puts_near w (omega arith))

pub says_digits : {o p q : List ℕ} {at m r d : ℕ} (n : ℕ) → 10 ≤ n → n < 4294967296 → d ≡ digit (n % 10) → Puts o p at (decimal (n / 10)) m 10 → Puts p q m (d ∷ []) r 20 → Puts o q at (decimal n) r 10
says_digits n h k e v w = puts_near (rw (decimal_more n h) at (rw e at (puts_then _ _ v w))) (decimal_few n k)

module _ {o p₁ p₂ : List ℕ} {at m₁ r : ℕ} where
  pub says_refused : (n : reason.Refusal) {v : ℕ} → v ≡ number_of n → Puts o p₁ at (refused_text ++ decimal v) m₁ 30 → Puts p₁ p₂ m₁ newline r 20 → Puts o p₂ at (line_of (Refused n)) r 150
  unfolding line line_of
  says_refused n e a b = rw (← e) (puts_most (puts_then _ _ a b) (omega arith))

  module _ {p₃ : List ℕ} {m₂ : ℕ} where
    pub says_refused_at : (n : reason.Refusal) (k : ℕ) {v : ℕ} → v ≡ number_of n → Puts o p₁ at (refused_text ++ decimal v) m₁ 30 → Puts p₁ p₂ m₁ (at_text ++ decimal k) m₂ 30 → Puts p₂ p₃ m₂ newline r 20 → Puts o p₃ at (line_of (RefusedAt n k)) r 150
    unfolding line line_of
    says_refused_at n k e a b c = rw (← e) (puts_most (puts_then _ _ a (puts_then _ _ b c)) (omega arith))

    -- a verdict, by the cases of its cause
    module _ (v : Verdict) (a : Puts o p₁ at (violated_text ++ decimal v.position) m₁ 30) where
      pub says_state : {q w : ℕ} → v.cause ≡ BadState q → w ≡ q → Puts p₁ p₂ m₁ (state_text ++ decimal w) m₂ 30 → Puts p₂ p₃ m₂ (triple_text ++ 45 ∷ entry_text ++ 45 ∷ newline) r 20 → Puts o p₃ at (line_of (Violated v)) r 150
      unfolding line line_of
      says_state e f b c = rw (e, ← f) (puts_most (puts_then _ _ a (puts_then _ _ b c)) (omega arith))

      module _ {p₄ p₅ : List ℕ} {m₃ m₄ : ℕ} (last : Puts p₃ p₄ m₃ (entry_text ++ decimal v.entry) m₄ 30) (end : Puts p₄ p₅ m₄ newline r 20) where
        pub says_triple : {t w : ℕ} → v.cause ≡ Triple t → w ≡ t → Puts p₁ p₂ m₁ (state_text ++ 45 ∷ []) m₂ 20 → Puts p₂ p₃ m₂ (triple_text ++ decimal w) m₃ 30 → Puts o p₅ at (line_of (Violated v)) r 150
        unfolding line line_of
        says_triple e f b c = rw (e, ← f) (puts_most (puts_then _ _ a (puts_then _ _ b (puts_then _ _ c (puts_then _ _ last end)))) (omega arith))

        pub says_both : {q t w u : ℕ} → v.cause ≡ Both q t → w ≡ q → u ≡ t → Puts p₁ p₂ m₁ (state_text ++ decimal w) m₂ 30 → Puts p₂ p₃ m₂ (triple_text ++ decimal u) m₃ 30 → Puts o p₅ at (line_of (Violated v)) r 150
        unfolding line line_of
        says_both e f g b c = rw (e, ← f, ← g) (puts_most (puts_then _ _ a (puts_then _ _ b (puts_then _ _ c (puts_then _ _ last end)))) (omega arith))

    module _ {p₄ : List ℕ} {m₃ : ℕ} where
      pub says_clean : (n q k : ℕ) {v w : ℕ} → v ≡ q → w ≡ k → Puts o p₁ at (clean_text ++ decimal n) m₁ 30 → Puts p₁ p₂ m₁ (state_text ++ decimal v) m₂ 30 → Puts p₂ p₃ m₂ (open_text ++ decimal w) m₃ 30 → Puts p₃ p₄ m₃ newline r 20 → Puts o p₄ at (line_of (Clean n q k)) r 150
      unfolding line line_of
      says_clean n q k e f a b c d = rw (← e, ← f) (puts_most (puts_then _ _ a (puts_then _ _ b (puts_then _ _ c d))) (omega arith))

-- an answer that is known
pub says_answer : {o p : List ℕ} {at r : ℕ} {a b : RunAnswer} → a ≡ b → Puts o p at (line_of b) r 150 → Puts o p at (line_of a) r 150
says_answer e w = rw e w
