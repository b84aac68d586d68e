-- From the words for what reading answers back to its number, and to the answer. Assumes nothing.
use mathlib.Core.Path.{◌≡◌, refl, sym, ap, ◌∙◌}
use Prim.Native.Nat.{ℕ, zero, suc}
use native.Mathlib.Omega.{arith}
use Rattle.std.specs.Prelude.{Result, Ok, Err}
use Rattle.refusal.specs.declared.Refusal.{Refusal}
use Rattle.refusal.specs.Numbers.{number_of}
use Rattle.refusal.proofs.Numbers.{number_one}
use Rattle.condition.specs.Claims.{Injective}
use Rattle.sheet.specs.Answer.{Read, accepted, refused, reading_paper, log_paper, read_of, answer}

-- the number that a word refuses with, one more where it has one
abbrev numbered : {A : Type 0} → Read A → ℕ
numbered (accepted a) = 0
numbered (refused n) = suc n

module _ {A : Type 0} (a b : A) where
  accepted_zero : (n : ℕ) → read_of n a ≡ accepted b → n ≡ 0
  accepted_zero zero e = refl
  accepted_zero (suc n) e = absurd (omega (arith, ap numbered e))

  -- the number that was refused, one more than another
  refused_suc : (n m : ℕ) → read_of n a ≡ refused m → (k : ℕ) × (n ≡ suc k) × (m ≡ suc k)
  refused_suc zero m e = absurd (omega (arith, ap numbered e))
  refused_suc (suc n) m e = (n, refl, omega (arith, ap numbered e))

module _ (n : ℕ) (r : Result (Unit {0}) Refusal) (e : reading_paper r ≡ answer n) where
  pub answer_accepted : r ≡ Ok tt → n ≡ 0
  answer_accepted h = accepted_zero tt tt n (sym e ∙ ap reading_paper h)

  pub answer_refused : (m : Refusal) → r ≡ Err m → (k : ℕ) × (n ≡ suc k) × (number_of m ≡ suc k)
  answer_refused m h = refused_suc tt tt n (number_of m) (sym e ∙ ap reading_paper h)

module _ (n k : ℕ) (r : Result ℕ Refusal) (e : log_paper r ≡ read_of n k) where
  pub log_read : (m : ℕ) → r ≡ Ok m → n ≡ 0
  log_read m h = accepted_zero k m n (sym e ∙ ap log_paper h)

  pub log_refused : (m : Refusal) → r ≡ Err m → (j : ℕ) × (n ≡ suc j) × (number_of m ≡ suc j)
  log_refused m h = refused_suc k k n (number_of m) (sym e ∙ ap log_paper h)

-- Different answers have different words.
pub reading_injective : Injective reading_paper
reading_injective (Ok a) (Ok b) e = refl
reading_injective (Ok a) (Err m) e = absurd (omega (arith, ap numbered e))
reading_injective (Err n) (Ok b) e = absurd (omega (arith, ap numbered e))
reading_injective (Err n) (Err m) e = ap Err (number_one n m (omega (arith, ap numbered e)))

pub log_injective : Injective log_paper
log_injective (Ok n) (Ok m) e = ap Ok (cc)
log_injective (Ok n) (Err m) e = absurd (omega (arith, ap numbered e))
log_injective (Err n) (Ok m) e = absurd (omega (arith, ap numbered e))
log_injective (Err n) (Err m) e = ap Err (number_one n m (omega (arith, ap numbered e)))
