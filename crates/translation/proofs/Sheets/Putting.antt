-- Writing the bytes of a table's records, one behind the other. Assumes nothing.
use mathlib.Core.Path.{◌≡◌, refl, ap}
use mathlib.Core.List.{List, [], ◌∷◌, ◌++◌, map}
use Prim.Native.Nat.{ℕ, suc, ◌+◌, ◌-◌, ◌*◌, ◌≤◌, ◌<◌}
use native.Mathlib.Nat.{sub-zero}
use native.Mathlib.Omega.{arith}
use lib.ListN.{drop}
use Rattle.sheet.specs.Table.{Form, records, table}
use Rattle.sheet.specs.Encode.{written}
use Rattle.sheet.proofs.Tables.{table_step}
use Rattle.translation.specs.Walk.{Room, Writes}
use Rattle.translation.proofs.Writing.{Writing, writing_start, writing_room, writing_next, writing_end}

-- the bytes of images
pub written_map : {A B : Type 0} (w : B → List ℕ) (f : A → B) (l : List A) → written w (map f l) ≡ written (λ x. w (f x)) l
unfolding written
written_map w f [] = refl
written_map w f (x ∷ l) = ap (λ (k : List ℕ). w (f x) ++ k) (written_map w f l)

-- all but i of n records are to be written, from `place` on
pub record Putting {A : Type 0} (w : A → List ℕ) (F : Form A) (s o : List ℕ) (at : ℕ) (whole : List ℕ) (n : ℕ) (out : List ℕ) (i place here : ℕ) : Type 0 where
  pub writing : Writing o at whole out here (written w (table F (n - i) s place))
  pub low : place + 6 * (n - i) ≤ 101530

module _ {A : Type 0} (w : A → List ℕ) (F : Form A) (s o : List ℕ) (at : ℕ) (whole : List ℕ) (n : ℕ) where
  pub putting_start : (from : ℕ) → whole ≡ written w (table F n s from) → from ≤ 100000 → n ≤ 255 → Putting w F s o at whole n o 0 from at
  putting_start from e h k = record { writing = rw (sub-zero n, ← e) (writing_start o at whole); low = omega arith }

  module _ (out : List ℕ) (i place here : ℕ) (g : Putting w F s o at whole n out i place here) where
    pub putting_end : n ≤ i → Writes o out at whole here
    unfolding written records
    putting_end h =
        let none : n - i ≡ 0 = omega arith in
        writing_end o at whole out here (rw none at g.writing)

    -- one more, of k bytes in the table
    module _ (k : ℕ) (sized : (l : List ℕ) → F.size l ≡ k) (h : i < n) (t : A) (e : t ≡ F.value (drop place s)) where
      abbrev rest : List ℕ
      rest = written w (table F (n - (i + 1)) s (place + k))

      parts : Writing o at whole out here (w t ++ rest)
      unfolding written
      parts =
          let some : n - i ≡ suc (n - (i + 1)) = omega arith in
          rw (e, ← sized (drop place s), ← ap (written w) (table_step F (n - (i + 1)) s place), ← some) g.writing

      pub putting_room : Room at whole → Room here (w t)
      putting_room = writing_room o at whole out here (w t) rest parts

      pub putting_next : k ≤ 6 → (p : List ℕ) (r : ℕ) → Writes out p here (w t) r → Putting w F s o at whole n p (i + 1) (place + k) r
      putting_next m p r v = record { writing = writing_next o at whole out here (w t) rest parts p r v; low = omega (arith, g.low) }
