-- Transitions with the numbers of new conditions: one, and the loop's start, room, turn and end. Assumes nothing.
use mathlib.Core.Path.{◌≡◌, refl, sym, ap, ap₂, subst, ◌∙◌}
use mathlib.Core.List.{List, [], ◌∷◌, ◌++◌}
use Prim.Native.Nat.{ℕ, suc, ◌+◌, ◌-◌, ◌≤◌, ◌<◌}
use native.Mathlib.Omega.{arith}
use lib.ListN.{length, take, drop, length-drop}
use lib.Seq.{drop-drop}
use Rattle.sheet.specs.declared.Transition.{Transition}
use Rattle.sheet.specs.Parts.{Paired}
use Rattle.sheet.specs.Table.{records, table, after}
use Rattle.sheet.specs.Decode.{transition_of, paired_form}
use Rattle.sheet.specs.Encode.{paired_bytes, written}
use Rattle.sheet.proofs.Tables.{table_step, after_step}
use Rattle.translation.specs.Card.{guarded_by, guarded_from}
use Rattle.translation.specs.Walk.{Room, Writes, counted_pairs, base_bytes}
use Rattle.translation.proofs.Writing.{Writing, writes_then, room_then, writing_start, writing_room, writing_next, writing_end}
use Rattle.translation.proofs.Cards.Records.{counted_written}

-- as many transitions as before
pub length_guarded : (i : ℕ) (l : List Paired) → length (guarded_from i l) ≡ length l
unfolding guarded_from
length_guarded i [] = refl
length_guarded i (t ∷ l) = ap suc (length_guarded (suc i) l)

-- a transition with another condition
abbrev numbered : ℕ → Transition → Transition
numbered i t = record { from = t.from; kind = t.kind; unit = t.unit; condition = i; action = t.action; to = t.to }

-- the transition at a place, with a number for its condition
abbrev guarded_at : List ℕ → ℕ → ℕ → List ℕ
guarded_at n place i = paired_bytes (guarded_by i (paired_form.value (drop place n)))

-- One transition: six bytes of t, then those behind the sixth of the z that it has.
module _ (n : List ℕ) (place i : ℕ) (within : place + paired_form.size (drop place n) ≤ length n) (t : Transition) (e : t ≡ transition_of (drop place n)) (z : ℕ) (ez : z ≡ paired_form.size (drop place n)) where
  abbrev behind : List ℕ
  behind = take (place + z - (place + 6)) (drop (place + 6) n)

  behind_is : counted_pairs (paired_form.value (drop place n)).pairs ≡ behind
  behind_is =
      let inside : paired_form.size (drop place n) ≤ length (drop place n) = omega (arith, length-drop place n) in
      let count : paired_form.size (drop place n) - 6 ≡ place + z - (place + 6) = omega (arith, ez) in
      sym (counted_written (drop place n) inside) ∙ ap₂ (λ (j : ℕ) (l : List ℕ). take j l) count (drop-drop 6 place n)

  guarded_bytes : guarded_at n place i ≡ base_bytes (numbered i t) ++ behind
  guarded_bytes = ap₂ (λ (u : Transition) (l : List ℕ). base_bytes (numbered i u) ++ l) (sym e) behind_is

  module _ {o p : List ℕ} {at m : ℕ} (v : Writes o p at (base_bytes (numbered i t)) m) where
    pub guarded_room : Room at (guarded_at n place i) → Room m behind
    guarded_room h = room_then (base_bytes (numbered i t)) behind v (subst (Room at) guarded_bytes h)

    pub guarded_then : {q : List ℕ} {r : ℕ} → Writes p q m behind r → Writes o q at (guarded_at n place i) r
    guarded_then w = rw guarded_bytes (writes_then (base_bytes (numbered i t)) behind v w)

-- the bytes of m of them, numbered from i on; the first, and the rest
abbrev pub guards_at : List ℕ → ℕ → ℕ → ℕ → List ℕ
guards_at n place m i = written paired_bytes (guarded_from i (table paired_form m n place))

guards_step : (n : List ℕ) (a m i : ℕ) → guards_at n a (suc m) i ≡ guarded_at n a i ++ guards_at n (a + paired_form.size (drop a n)) m (suc i)
unfolding written guarded_from
guards_step n a m i = ap (λ (l : List Paired). written paired_bytes (guarded_from i l)) (table_step paired_form m n a)

-- All but k are to be written, from `place` on.
pub record Guarding (n : List ℕ) (from count number : ℕ) (o : List ℕ) (at : ℕ) (out : List ℕ) (k place here : ℕ) : Type 0 where
  pub writing : Writing o at (guards_at n from count number) out here (guards_at n place (count - k) (number + k))
  pub there : after paired_form (count - k) n place ≡ after paired_form count n from

module _ (n : List ℕ) (from count number : ℕ) (o : List ℕ) (at : ℕ) where
  abbrev whole : List ℕ
  whole = guards_at n from count number

  pub guards_start : Guarding n from count number o at o 0 from at
  guards_start =
      let e : count - 0 ≡ count = omega arith in
      let f : number + 0 ≡ number = omega arith in
      record { writing = rw (e, f) (writing_start o at whole); there = rw e }

  module _ (out : List ℕ) (k place here : ℕ) (g : Guarding n from count number o at out k place here) where
    pub guards_end : count ≤ k → Writes o out at whole here
    unfolding written guarded_from records
    guards_end h =
        let e : count - k ≡ 0 = omega arith in
        writing_end o at whole out here (rw e at g.writing)

    -- one more
    module _ (h : k < count) where
      more : count - k ≡ suc (count - (k + 1))
      more = omega arith

      guards_there : after paired_form (count - (k + 1)) n (place + paired_form.size (drop place n)) ≡ after paired_form count n from
      guards_there = sym (after_step paired_form (count - (k + 1)) n place) ∙ rw more at g.there

      pub guards_within : after paired_form count n from ≤ length n → place + paired_form.size (drop place n) ≤ length n
      guards_within m = omega (arith, guards_there)

      abbrev guards_rest : List ℕ
      guards_rest = guards_at n (place + paired_form.size (drop place n)) (count - (k + 1)) (number + (k + 1))

      guards_parts : Writing o at whole out here (guarded_at n place (number + k) ++ guards_rest)
      guards_parts =
          let next : number + (k + 1) ≡ suc (number + k) = omega arith in
          rw (next, ← guards_step n place (count - (k + 1)) (number + k), ← more) g.writing

      pub guards_room : Room at whole → Room here (guarded_at n place (number + k))
      guards_room = writing_room o at whole out here (guarded_at n place (number + k)) guards_rest guards_parts

      pub guards_next : (z : ℕ) → z ≡ paired_form.size (drop place n) → (p : List ℕ) (r : ℕ) → Writes out p here (guarded_at n place (number + k)) r → Guarding n from count number o at p (k + 1) (place + z) r
      guards_next z e p r v = rw e (record { writing = writing_next o at whole out here (guarded_at n place (number + k)) guards_rest guards_parts p r v; there = guards_there })
