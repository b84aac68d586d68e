-- Answers are told by their paper's words. Assumes nothing.
use mathlib.Core.Path.{◌≡◌, ap}
use Prim.Native.Nat.{ℕ}
use native.Mathlib.Omega.{arith}
use Rattle.std.specs.Prelude.{Ok, Err}
use Rattle.refusal.specs.Numbers.{number_of}
use Rattle.refusal.proofs.Numbers.{number_one}
use Rattle.translation.specs.Claims.{Told}

pub told : Told
told (Ok n) (Ok m) e = let x : n ≡ m = cc in ap Ok x
told (Ok n) (Err m) e = let z : ◌≡◌ {A = ℕ} 0 1 = cc in absurd (omega arith)
told (Err n) (Ok m) e = let z : ◌≡◌ {A = ℕ} 0 1 = cc in absurd (omega arith)
told (Err n) (Err m) e = let x : number_of n ≡ number_of m = cc in ap Err (number_one n m x)
