-- Answers are told by their paper's words. Assumes nothing.
use mathlib.Core.Path.{◌≡◌, refl, ap, ap₂}
use Prim.Native.Nat.{ℕ}
use native.Mathlib.Omega.{arith}
use Rattle.condition.specs.Claims.{Injective}
use Rattle.std.specs.Prelude.{Ok, Err}
use Rattle.refusal.specs.Numbers.{number_of}
use Rattle.refusal.proofs.Numbers.{number_one}
use Rattle.step.specs.declared.RunAnswer.TheVariants as run
use Rattle.step.specs.Verdicts.{cause_state, cause_triple}
use Rattle.step.specs.Answers.{answer_paper, run_paper}
use Rattle.step.specs.Claims.{Told}
use Rattle.step.proofs.OnEvents.Causes.{verdict_same}

told_answer : Injective answer_paper
told_answer (Ok a) (Ok b) e = refl
told_answer (Ok a) (Err m) e = let z : ◌≡◌ {A = ℕ} 0 1 = cc in absurd (omega arith)
told_answer (Err n) (Ok b) e = let z : ◌≡◌ {A = ℕ} 0 1 = cc in absurd (omega arith)
told_answer (Err n) (Err m) e = let x : number_of n ≡ number_of m = cc in ap Err (number_one n m x)

told_run : Injective run_paper
told_run (run.Violated u) (run.Violated v) e =
    let p : u.position ≡ v.position = cc in
    let q : cause_state u.cause ≡ cause_state v.cause = cc in
    let r : cause_triple u.cause ≡ cause_triple v.cause = cc in
    let n : u.entry ≡ v.entry = cc in
    ap run.Violated (verdict_same u v p q r n)
told_run (run.Clean n q k) (run.Clean m p j) e =
    let x : n ≡ m = cc in
    let y : q ≡ p = cc in
    let z : k ≡ j = cc in
    λ i. run.Clean (x i) (y i) (z i)
told_run (run.Refused n) (run.Refused m) e = let x : number_of n ≡ number_of m = cc in ap run.Refused (number_one n m x)
told_run (run.RefusedAt n i) (run.RefusedAt m j) e =
    let x : number_of n ≡ number_of m = cc in
    let y : i ≡ j = cc in
    ap₂ run.RefusedAt (number_one n m x) y
told_run (run.Violated u) (run.Clean m p j) e = let z : ◌≡◌ {A = ℕ} 0 1 = cc in absurd (omega arith)
told_run (run.Violated u) (run.Refused m) e = let z : ◌≡◌ {A = ℕ} 0 1 = cc in absurd (omega arith)
told_run (run.Violated u) (run.RefusedAt m j) e = let z : ◌≡◌ {A = ℕ} 0 1 = cc in absurd (omega arith)
told_run (run.Clean n q k) (run.Violated v) e = let z : ◌≡◌ {A = ℕ} 0 1 = cc in absurd (omega arith)
told_run (run.Clean n q k) (run.Refused m) e = let z : ◌≡◌ {A = ℕ} 0 1 = cc in absurd (omega arith)
told_run (run.Clean n q k) (run.RefusedAt m j) e = let z : ◌≡◌ {A = ℕ} 0 1 = cc in absurd (omega arith)
told_run (run.Refused n) (run.Violated v) e = let z : ◌≡◌ {A = ℕ} 0 1 = cc in absurd (omega arith)
told_run (run.Refused n) (run.Clean m p j) e = let z : ◌≡◌ {A = ℕ} 0 1 = cc in absurd (omega arith)
told_run (run.Refused n) (run.RefusedAt m j) e = let z : ◌≡◌ {A = ℕ} 0 1 = cc in absurd (omega arith)
told_run (run.RefusedAt n i) (run.Violated v) e = let z : ◌≡◌ {A = ℕ} 0 1 = cc in absurd (omega arith)
told_run (run.RefusedAt n i) (run.Clean m p j) e = let z : ◌≡◌ {A = ℕ} 0 1 = cc in absurd (omega arith)
told_run (run.RefusedAt n i) (run.Refused m) e = let z : ◌≡◌ {A = ℕ} 0 1 = cc in absurd (omega arith)

pub told : Told
told = record { answers = told_answer; runs = told_run }
