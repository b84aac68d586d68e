-- Texts, with lengths in one byte or in two: the loop's start, room, turn and end. Assumes nothing.
use mathlib.Core.Bool.{Bool, false}
use mathlib.Core.Path.{◌≡◌, refl, sym, ap, ap₂, ◌∙◌}
use mathlib.Core.List.{List, ◌++◌, append_assoc}
use Prim.Native.Nat.{ℕ, suc, ◌+◌, ◌-◌, ◌≤◌, ◌<◌}
use native.Mathlib.Nat.{sub-zero}
use native.Mathlib.Omega.{arith}
use lib.ListN.{length, take, drop, length-drop}
use lib.Seq.{drop-drop, length-take-le}
use Rattle.sheet.specs.Bytes.{byte}
use Rattle.sheet.specs.Table.{records, after}
use Rattle.sheet.specs.Decode.{text_form}
use Rattle.sheet.specs.Encode.{length_bytes, text_bytes, written}
use Rattle.sheet.proofs.Tables.{table_step, after_step, after_none}
use Rattle.sheet.proofs.Readers.Loops.{byte_here}
use Rattle.translation.specs.Walk.{Room, Writes, texts_at, WritesTexts}
use Rattle.translation.proofs.Writing.{Writing, writing_start, writing_room, writing_next, writing_end}

-- the first text, of k bytes, and the rest
texts_step : (w : Bool) (s : List ℕ) (a n k : ℕ) → k ≡ byte (drop a s) 0 → a + (1 + k) ≤ length s
    → texts_at w s a (suc n) ≡ length_bytes w k ++ ((text_form false).value (drop a s) ++ texts_at w s (a + (1 + k)) n)
unfolding written
texts_step w s a n k e h =
    let text = (text_form false).value (drop a s) in
    let own : text ≡ take k (drop (a + 1) s) = ap₂ (λ (j : ℕ) (l : List ℕ). take j l) (sym e) (drop-drop 1 a s) in
    let long : length text ≡ k = ap length own ∙ length-take-le k (drop (a + 1) s) (omega (arith, length-drop (a + 1) s)) in
    ap (written (text_bytes w)) (table_step (text_form false) n s a)
    ∙ append_assoc (length_bytes w (length text)) text _
    ∙ ap₂ (λ (x y : ℕ). length_bytes w x ++ (text ++ texts_at w s (a + (1 + y)) n)) long (sym e)

-- All but i texts are to be written, from `place` on.
pub record WritingTexts (w : Bool) (s : List ℕ) (from n : ℕ) (o : List ℕ) (at : ℕ) (out : List ℕ) (i place here : ℕ) : Type 0 where
  pub writing : Writing o at (texts_at w s from n) out here (texts_at w s place (n - i))
  pub there : after (text_form false) (n - i) s place ≡ after (text_form false) n s from

module _ (w : Bool) (s : List ℕ) (from n : ℕ) (o : List ℕ) (at : ℕ) where
  abbrev whole : List ℕ
  whole = texts_at w s from n

  pub texts_start : WritingTexts w s from n o at o 0 from at
  texts_start = record { writing = rw (sub-zero n) (writing_start o at whole); there = rw (sub-zero n) refl }

  module _ (out : List ℕ) (i place here : ℕ) (g : WritingTexts w s from n o at out i place here) where
    pub texts_end : n ≤ i → WritesTexts w s o out from n at (record { from = place; at = here })
    unfolding records written
    texts_end h =
        let e : n - i ≡ 0 = omega arith in
        record {
          writes = writing_end o at whole out here (rw e at g.writing);
          read = sym (after_none (text_form false) s place) ∙ rw e at g.there;
        }

    -- the next text: its length byte is k
    module _ (h : i < n) (k : ℕ) (e : k ≡ byte s place) (inside : after (text_form false) n s from ≤ length s) where
      more : n - i ≡ suc (n - (i + 1))
      more = omega arith

      said : k ≡ byte (drop place s) 0
      said = e ∙ byte_here s place

      texts_there : after (text_form false) (n - (i + 1)) s (place + (1 + k)) ≡ after (text_form false) n s from
      texts_there = rw said (sym (after_step (text_form false) (n - (i + 1)) s place) ∙ rw more at g.there)

      pub texts_within : place + (1 + k) ≤ length s
      texts_within = omega (arith, texts_there)

      abbrev text : List ℕ
      text = (text_form false).value (drop place s)

      abbrev rest : List ℕ
      rest = texts_at w s (place + (1 + k)) (n - (i + 1))

      texts_parts : Writing o at (texts_at w s from n) out here (length_bytes w k ++ ((text_form false).value (drop place s) ++ texts_at w s (place + (1 + k)) (n - (i + 1))))
      texts_parts = rw (← texts_step w s place (n - (i + 1)) k said texts_within, ← more) g.writing

      pub length_room : Room at (texts_at w s from n) → Room here (length_bytes w k)
      length_room = writing_room o at whole out here (length_bytes w k) (text ++ rest) texts_parts

      -- its length is written
      module _ (p : List ℕ) (m : ℕ) (v : Writes out p here (length_bytes w k) m) where
        text_parts : Writing o at (texts_at w s from n) p m (text ++ rest)
        text_parts = writing_next o at whole out here (length_bytes w k) (text ++ rest) texts_parts p m v

        module _ (t : List ℕ) (f : t ≡ (text_form false).value (drop place s)) where
          pub text_room : Room at (texts_at w s from n) → Room m t
          text_room = rw f (writing_room o at whole p m text rest text_parts)

          pub texts_next : (q : List ℕ) (r : ℕ) → Writes p q m t r → WritingTexts w s from n o at q (i + 1) (place + (1 + k)) r
          texts_next q r u = record { writing = writing_next o at whole p m text rest text_parts q r (rw f at u); there = texts_there }
