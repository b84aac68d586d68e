-- The tables of the network, part by part. Assumes nothing.
use mathlib.Core.Bool.{false}
use mathlib.Core.Path.{◌≡◌, refl, ap, subst}
use mathlib.Core.List.{List, [], ◌∷◌, ◌++◌}
use Prim.Native.Nat.{ℕ, ◌+◌, ◌*◌, ◌≤◌}
use native.Mathlib.Omega.{arith}
use lib.ListN.{length, drop}
use Rattle.sheet.specs.declared.Header.{Header}
use Rattle.sheet.specs.Table.{extent, table, after}
use Rattle.sheet.specs.Decode.{word_form, text_form, transition_form, actions_in, conditions_at, last_at, sheet_of}
use Rattle.sheet.specs.Encode.{word_bytes, paired_bytes, written}
use Rattle.sheet.specs.Reading.{sheet_layout}
use Rattle.sheet.proofs.Accepted.{Accepted, accepted, bounds, tables_end}
use Rattle.sheet.proofs.Limits.{sheet_longest}
use Rattle.sheet.proofs.Tables.{fixed_after}
use Rattle.translation.specs.declared.write.Frame.{Frame}
use Rattle.translation.specs.declared.write.Spot.{Spot}
use Rattle.translation.specs.declared.write.Both.{Both}
use Rattle.translation.specs.Translate.{added}
use Rattle.translation.specs.Walk.{Room, Prepared, Writes, WritesAdded, WritesTexts, WritesTables, texts_at, added_at, copied_bytes, templates_at, tables_at}
use Rattle.translation.proofs.Sheets.Counting.{added_length}
use Rattle.translation.proofs.Images.{at_narrow, conditions_within, actions_within, added_same}
use Rattle.translation.proofs.Sheets.Filling.{tables_length, network_small}
use Rattle.translation.proofs.Writing.{Writing, writing_start, writing_room, writing_next, writing_last}

-- behind the values
pub words_after : (s : List ℕ) (v n : ℕ) → n ≡ v → 14 + 4 * n ≡ after word_form v s 14
words_after s v n e = omega (arith, fixed_after word_form 4 (λ t. refl) v s 14)

module _ {s : List ℕ} {h : Header} {f : Frame} {from : ℕ} (p : Prepared s h f from) (o : List ℕ) (at : ℕ) (e : at ≡ 14) where
  there : Accepted sheet_layout s
  there = accepted sheet_layout s p.accepted

  abbrev whole : List ℕ
  whole = tables_at s h f from

  abbrev conditions : ℕ
  conditions = after word_form h.monitors s 14

  abbrev actions : ℕ
  actions = after (text_form false) h.conditions s conditions

  abbrev first : List ℕ
  first = written word_bytes (table word_form h.monitors s 14)

  abbrev second : List ℕ
  second = texts_at false s conditions h.conditions

  abbrev third : List ℕ
  third = texts_at false s actions h.actions

  abbrev fourth : List ℕ
  fourth = copied_bytes s f from h.transitions

  abbrev fifth : List ℕ
  fifth = written paired_bytes (added_at s f h.states h.units)

  abbrev sixth : List ℕ
  sixth = templates_at s f

  -- what is left to be written from each part on
  abbrev from_fifth : List ℕ
  from_fifth = fifth ++ sixth

  abbrev from_fourth : List ℕ
  from_fourth = fourth ++ from_fifth

  abbrev from_third : List ℕ
  from_third = third ++ 0 ∷ from_fourth

  abbrev from_second : List ℕ
  from_second = second ++ 1 ∷ 0 ∷ from_third

  total : at + length whole ≤ 1000000
  total = omega (arith, tables_length p, network_small p)

  pub places_small : (f.triples ≤ 100000) × (from ≤ 100000) × (length s ≤ 65535)
  unfolding last_at
  places_small =
      let most = sheet_longest s p.accepted in
      let ends = tables_end there in
      let triples : f.triples ≡ last_at transition_form s = ap (λ (x : Frame). x.triples) p.frame in
      (omega arith, omega (arith, p.from), omega arith)

  -- the texts end within the sheet
  pub conditions_end : (n : ℕ) → n ≡ after word_form h.monitors s 14 → after (text_form false) h.conditions s n ≤ length s
  unfolding conditions_at
  conditions_end n en = rw (en, p.header) (conditions_within there)

  pub actions_end : (n : ℕ) → n ≡ after (text_form false) h.conditions s (after word_form h.monitors s 14) → after (text_form false) h.actions s n ≤ length s
  unfolding conditions_at
  actions_end n en = rw (en, p.header) (subst (λ (m : ℕ). m + extent (text_form false) (actions_in s) (drop m s) ≤ length s) (at_narrow there) (actions_within there))

  pub added_few : length (added_at s f h.states h.units) ≤ 1000
  unfolding sheet_of
  added_few =
      let same : added_at s f h.states h.units ≡ added (sheet_of s) = rw (p.frame, p.header) (added_same s) in
      rw same (omega (arith, added_length (sheet_of s), (bounds there).last))

  -- each part has room, and is followed by the next
  pub room_first : Room at (written word_bytes (table word_form h.monitors s 14))
  unfolding tables_at
  room_first = writing_room o at whole o at first from_second (writing_start o at whole) total

  pub next_first : (q : List ℕ) (r : ℕ) → Writes o q at (written word_bytes (table word_form h.monitors s 14)) r → Writing o at whole q r from_second
  unfolding tables_at
  next_first q r w = writing_next o at whole o at first from_second (writing_start o at whole) q r w

  module _ (out : List ℕ) (here : ℕ) where
    module _ (g : Writing o at whole out here from_second) (n : ℕ) (en : n ≡ after word_form h.monitors s 14) where
      pub room_second : Room here (texts_at false s n h.conditions)
      room_second = rw en (writing_room o at whole out here second (1 ∷ 0 ∷ from_third) g total)

      pub next_second : (q : List ℕ) (r : Both) → WritesTexts false s out q n h.conditions here r → Writing o at whole q r.at (1 ∷ 0 ∷ from_third)
      next_second q r w = writing_next o at whole out here second (1 ∷ 0 ∷ from_third) g q r.at (rw en at w.writes)

      pub read_second : (q : List ℕ) (r : Both) → WritesTexts false s out q n h.conditions here r → r.from ≡ after (text_form false) h.conditions s (after word_form h.monitors s 14)
      read_second q r w = rw en at w.read

    module _ (g : Writing o at whole out here (1 ∷ 0 ∷ from_third)) where
      pub room_true : Room here (1 ∷ 0 ∷ [])
      room_true = writing_room o at whole out here (1 ∷ 0 ∷ []) from_third g total

      pub next_true : (q : List ℕ) (r : ℕ) → Writes out q here (1 ∷ 0 ∷ []) r → Writing o at whole q r from_third
      next_true q r w = writing_next o at whole out here (1 ∷ 0 ∷ []) from_third g q r w

    module _ (g : Writing o at whole out here from_third) (n : ℕ) (en : n ≡ after (text_form false) h.conditions s (after word_form h.monitors s 14)) where
      pub room_third : Room here (texts_at false s n h.actions)
      room_third = rw en (writing_room o at whole out here third (0 ∷ from_fourth) g total)

      pub next_third : (q : List ℕ) (r : Both) → WritesTexts false s out q n h.actions here r → Writing o at whole q r.at (0 ∷ from_fourth)
      next_third q r w = writing_next o at whole out here third (0 ∷ from_fourth) g q r.at (rw en at w.writes)

    module _ (g : Writing o at whole out here (0 ∷ from_fourth)) where
      pub room_empty : Room here (0 ∷ [])
      room_empty = writing_room o at whole out here (0 ∷ []) from_fourth g total

      pub next_empty : (q : List ℕ) (r : ℕ) → Writes out q here (0 ∷ []) r → Writing o at whole q r from_fourth
      next_empty q r w = writing_next o at whole out here (0 ∷ []) from_fourth g q r w

    module _ (g : Writing o at whole out here from_fourth) where
      pub room_fourth : Room here (copied_bytes s f from h.transitions)
      room_fourth = writing_room o at whole out here fourth from_fifth g total

      pub next_fourth : (q : List ℕ) (r : ℕ) → Writes out q here (copied_bytes s f from h.transitions) r → Writing o at whole q r from_fifth
      next_fourth q r w = writing_next o at whole out here fourth from_fifth g q r w

    module _ (g : Writing o at whole out here from_fifth) where
      pub room_fifth : Room here (written paired_bytes (added_at s f h.states h.units))
      room_fifth = writing_room o at whole out here fifth sixth g total

      pub next_fifth : (q : List ℕ) (r : Spot) → WritesAdded out q (record { at = here; added = 0 }) (added_at s f h.states h.units) r → Writing o at whole q r.at (templates_at s f)
      next_fifth q r w = writing_next o at whole out here fifth sixth g q r.at w.writes

    module _ (g : Writing o at whole out here (templates_at s f)) where
      pub room_sixth : Room here (templates_at s f)
      room_sixth = omega (arith, g.place, total)

      pub tables_done : (q : List ℕ) (r n : ℕ) → Writes out q here (templates_at s f) r → n ≡ 0 + length (added_at s f h.states h.units) → WritesTables s h f from o q at (record { at = r; added = n })
      tables_done q r n w en = record { writes = writing_last o at whole out here sixth g q r w; added = omega (arith, en) }
