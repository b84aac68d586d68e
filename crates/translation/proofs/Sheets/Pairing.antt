-- The pairs of a state and unit, counted and written triple by triple. Assumes nothing.
use mathlib.Core.Path.{◌≡◌, sym, ap, ◌∙◌}
use mathlib.Core.Bool.{true, false, ◌&&◌}
use mathlib.Core.List.{List, [], ◌∷◌, ◌++◌}
use Prim.Native.Nat.{ℕ, suc, ◌+◌, ◌-◌, ◌*◌, ◌≤◌, ◌<◌}
use native.Mathlib.Nat.{sub-zero}
use native.Mathlib.Numerals.{add-one}
use native.Mathlib.Omega.{arith}
use lib.Dec.{eqb}
use lib.ListN.{length, drop}
use Rattle.sheet.specs.declared.Triple.{Triple}
use Rattle.sheet.specs.declared.Pair.{Pair}
use Rattle.sheet.specs.Table.{records, table}
use Rattle.sheet.specs.Decode.{triple_form}
use Rattle.sheet.specs.Encode.{pair_bytes, written}
use Rattle.sheet.proofs.Tables.{table_step}
use Rattle.translation.specs.Translate.{pairs_from}
use Rattle.translation.specs.Walk.{Room, Writes}
use Rattle.translation.proofs.Writing.{Writing, writing_start, writing_room, writing_next, writing_end}

-- the pairs of the triples from number i on
abbrev pub pairs_left : ℕ → ℕ → ℕ → List ℕ → ℕ → ℕ → List Pair
pairs_left q u n s i place = pairs_from i q u (table triple_form (n - i) s place)

-- i triples seen
pub record Seen (n at i place : ℕ) : Type 0 where
  pub few : i ≤ n
  pub there : place ≡ at + 4 * i

-- `found` of them are of that state and unit
pub record Tally (q u n : ℕ) (s : List ℕ) (at found i place : ℕ) : Type 0 where
  pub many : found + length (pairs_left q u n s i place) ≡ length (pairs_from 0 q u (table triple_form n s at))
  pub low : found ≤ i
  pub seen : Seen n at i place

-- the pairs of those are written
pub record Listing (q u n : ℕ) (s : List ℕ) (from : ℕ) (o : List ℕ) (at : ℕ) (out : List ℕ) (i place here : ℕ) : Type 0 where
  pub writing : Writing o at (written pair_bytes (pairs_from 0 q u (table triple_form n s from))) out here (written pair_bytes (pairs_left q u n s i place))
  pub seen : Seen n from i place

seen_start : (n at : ℕ) → Seen n at 0 at
seen_start n at = record { few = omega arith; there = omega arith }

seen_next : {n at i place : ℕ} → Seen n at i place → i < n → Seen n at (i + 1) (place + 4)
seen_next g h = record { few = omega arith; there = omega (arith, g.there) }

module _ (q u n : ℕ) (s : List ℕ) where
  none_left : (i place : ℕ) → n ≤ i → pairs_left q u n s i place ≡ []
  unfolding pairs_from records
  none_left i place h =
      let none : n - i ≡ 0 = omega arith in
      rw none

  pub tally_start : (at : ℕ) → Tally q u n s at 0 0 at
  tally_start at = record { many = rw (sub-zero n) (omega arith); low = omega arith; seen = seen_start n at }

  pub tally_end : (at found i place : ℕ) → Tally q u n s at found i place → n ≤ i → found ≡ length (pairs_from 0 q u (table triple_form n s at))
  tally_end at found i place g h = omega (arith, rw (none_left i place h) at g.many)

  module _ (from : ℕ) (o : List ℕ) (at : ℕ) where
    pub listing_start : Listing q u n s from o at o 0 from at
    listing_start = record { writing = rw (sub-zero n) (writing_start o at (written pair_bytes (pairs_from 0 q u (table triple_form n s from)))); seen = seen_start n from }

    pub listing_end : (out : List ℕ) (i place here : ℕ) → Listing q u n s from o at out i place here → n ≤ i → Writes o out at (written pair_bytes (pairs_from 0 q u (table triple_form n s from))) here
    unfolding written
    listing_end out i place here g h = writing_end o at _ out here (rw (none_left i place h) at g.writing)

  -- one more triple
  module _ (i place : ℕ) (h : i < n) (t : Triple) (e : t ≡ triple_form.value (drop place s)) where
    split : pairs_left q u n s i place ≡ pairs_from i q u (t ∷ table triple_form (n - (i + 1)) s (place + 4))
    split =
        let left : n - i ≡ suc (n - (i + 1)) = omega arith in
        rw (left, table_step triple_form (n - (i + 1)) s place) (ap (λ (v : Triple). pairs_from i q u (v ∷ table triple_form (n - (i + 1)) s (place + 4))) (sym e))

    module _ (own : (eqb t.state q && eqb t.unit u) ≡ true) where
      there : pairs_left q u n s i place ≡ record { condition = t.precondition; template = i } ∷ pairs_left q u n s (i + 1) (place + 4)
      unfolding pairs_from
      there = split ∙ rw (own, add-one i)

      pub tally_more : (at found : ℕ) → Tally q u n s at found i place → Tally q u n s at (found + 1) (i + 1) (place + 4)
      tally_more at found g = record { many = omega (arith, rw there at g.many); low = omega (arith, g.low); seen = seen_next g.seen h }

      module _ (from : ℕ) (o : List ℕ) (at : ℕ) (out : List ℕ) (here : ℕ) (g : Listing q u n s from o at out i place here) where
        rest : Writing o at (written pair_bytes (pairs_from 0 q u (table triple_form n s from))) out here ((t.precondition ∷ i ∷ []) ++ written pair_bytes (pairs_left q u n s (i + 1) (place + 4)))
        unfolding written
        rest = rw there at g.writing

        pub listing_room : Room at (written pair_bytes (pairs_from 0 q u (table triple_form n s from))) → Room here (t.precondition ∷ i ∷ [])
        listing_room = writing_room o at _ out here (t.precondition ∷ i ∷ []) _ rest

        pub listing_more : (p : List ℕ) (r : ℕ) → Writes out p here (t.precondition ∷ i ∷ []) r → Listing q u n s from o at p (i + 1) (place + 4) r
        listing_more p r w = record { writing = writing_next o at _ out here (t.precondition ∷ i ∷ []) _ rest p r w; seen = seen_next g.seen h }

    module _ (other : (eqb t.state q && eqb t.unit u) ≡ false) where
      not_there : pairs_left q u n s i place ≡ pairs_left q u n s (i + 1) (place + 4)
      unfolding pairs_from
      not_there = split ∙ rw (other, add-one i)

      pub tally_same : (at found : ℕ) → Tally q u n s at found i place → Tally q u n s at found (i + 1) (place + 4)
      tally_same at found g = record { many = rw not_there at g.many; low = omega (arith, g.low); seen = seen_next g.seen h }

      pub listing_same : (from : ℕ) (o : List ℕ) (at : ℕ) (out : List ℕ) (here : ℕ) → Listing q u n s from o at out i place here → Listing q u n s from o at out (i + 1) (place + 4) here
      listing_same from o at out here g = record { writing = rw not_there at g.writing; seen = seen_next g.seen h }
