-- Bytes from a place on, and loops that go through a table from a place on. Assumes nothing.
use mathlib.Core.Path.{◌≡◌, sym, ap, ◌∙◌}
use mathlib.Core.Bool.{Bool, true, false}
use mathlib.Core.List.{List}
use Prim.Native.Nat.{ℕ, suc, ◌+◌, ◌-◌, ◌≤◌, ◌<◌}
use native.Mathlib.Nat.{add-zero}
use native.Mathlib.Omega.{arith}
use lib.ListN.{get_or, drop}
use lib.Seq.{get_or-drop}
use Rattle.sheet.specs.Bytes.{byte}
use Rattle.sheet.specs.Table.{Form, records, table, after, every}
use Rattle.sheet.proofs.Tables.{table_step, after_step, after_none}

-- bytes from a place on
pub byte_here : (s : List ℕ) (a : ℕ) → byte s a ≡ byte (drop a s) 0
byte_here s a = sym (get_or-drop a s 0 0 ∙ ap (λ (n : ℕ). get_or s n 0) (add-zero a))

pub byte_past : (s : List ℕ) (a i : ℕ) → byte s (a + i) ≡ byte (drop a s) i
byte_past s a i = sym (get_or-drop a s i 0)

-- A loop that stops at the first record that fails p, with the records from number i on still to test, of which the first begins at `place`.
module _ {A : Type 0} (p : A → Bool) (F : Form A) (n i : ℕ) (s : List ℕ) (at place : ℕ) (e : every p (table F (n - i) s place) ≡ every p (table F n s at)) where
  pub every_fails : i < n → false ≡ p (F.value (drop place s)) → false ≡ every p (table F n s at)
  unfolding every
  every_fails h f =
      let m : n - i ≡ suc (n - (i + 1)) = omega arith in
      rw (m, table_step, ← f) at e

  pub every_goes : i < n → true ≡ p (F.value (drop place s)) → (k : ℕ) → k ≡ F.size (drop place s) → every p (table F (n - (i + 1)) s (place + k)) ≡ every p (table F n s at)
  unfolding every
  every_goes h f k z =
      let m : n - i ≡ suc (n - (i + 1)) = omega arith in
      rw z (rw (m, table_step, ← f) at e)

  pub every_ends : n ≤ i → true ≡ every p (table F n s at)
  unfolding every records
  every_ends h =
      let m : n - i ≡ 0 = omega arith in
      rw m at e

-- A loop to the place behind a table, the same way.
module _ {A : Type 0} (F : Form A) (n i : ℕ) (s : List ℕ) (at place : ℕ) (e : after F (n - i) s place ≡ after F n s at) where
  pub after_goes : i < n → (k : ℕ) → k ≡ F.size (drop place s) → after F (n - (i + 1)) s (place + k) ≡ after F n s at
  after_goes h k z =
      let m : n - i ≡ suc (n - (i + 1)) = omega arith in
      rw z (sym (after_step F (n - (i + 1)) s place) ∙ rw m at e)

  pub after_ends : n ≤ i → place ≡ after F n s at
  after_ends h =
      let m : n - i ≡ 0 = omega arith in
      sym (after_none F s place) ∙ rw m at e
