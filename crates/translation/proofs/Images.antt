-- The bytes that are written are those of the translated network. Assumes nothing.
use mathlib.Core.Bool.{Bool, false}
use mathlib.Core.Path.{◌≡◌, refl, sym, ap, ap₂, subst, ◌∙◌}
use mathlib.Core.List.{List, [], ◌∷◌, ◌++◌, map, append_assoc}
use Prim.Native.Nat.{ℕ, zero, suc, ◌+◌, ◌≤◌}
use native.Mathlib.Omega.{arith}
use lib.ListN.{length, drop, length-append, length-map}
use Rattle.sheet.specs.declared.Header.{Header}
use Rattle.sheet.specs.declared.Pair.{Pair}
use Rattle.sheet.specs.Bytes.{byte, half}
use Rattle.sheet.specs.Parts.{Paired}
use Rattle.sheet.specs.Table.{extent, table, after}
use Rattle.sheet.specs.Decode.{wide, word_form, text_form, transition_form, triple_form, conditions_in, actions_in, transitions_in, last_in, conditions_at, actions_at, transitions_at, last_at, common_of, sheet_of}
use Rattle.sheet.specs.Encode.{half_bytes, word_bytes, text_bytes, paired_bytes, written, table_bytes, header_bytes}
use Rattle.sheet.specs.Reading.{sheet_layout}
use Rattle.sheet.specs.Answer.{header_of}
use Rattle.sheet.proofs.Accepted.{Accepted, tables_end}
use Rattle.sheet.proofs.Limits.{sheet_narrow}
use Rattle.sheet.proofs.Tables.{length_records}
use Rattle.translation.specs.Translate.{pairs_of, copied, back, joined, added, extended, template_of, translate}
use Rattle.translation.proofs.Writing.{written_append}
use Rattle.translation.specs.Walk.{texts_at, back_with, added_at, copied_bytes, templates_at, frame_of, tables_at, header_at}

-- The transitions that are added, by the numbers of the added condition and action.
joined_same : {A : Type 0} (f g : ℕ → List A) → ((i : ℕ) → f i ≡ g i) → (n : ℕ) → joined n f ≡ joined n g
unfolding joined
joined_same f g h zero = refl
joined_same {A} f g h (suc n) = ap₂ (λ (a b : List A). a ++ b) (joined_same f g h n) (h n)

module _ (s : List ℕ) where
  back_same : (q u : ℕ) (l : List Pair) → back_with (frame_of s) q u l ≡ back (sheet_of s) q u l
  unfolding sheet_of common_of
  back_same q u [] = refl
  back_same q u (p ∷ l) = rw (length_records (text_form (wide s)) (conditions_in s) (drop (conditions_at s) s), length_records (text_form false) (actions_in s) (drop (actions_at s) s))

  pub added_same : added_at s (frame_of s) (byte s 3) (byte s 4) ≡ added (sheet_of s)
  unfolding added sheet_of common_of
  added_same =
      joined_same _ _ (λ q. joined_same _ _ (λ u. back_same q u (pairs_of (sheet_of s) q u)) (byte s 4)) (byte s 3)

-- The tables one behind the other.
in_a_row : (a b c d e f : List ℕ) → a ++ ((b ++ 1 ∷ 0 ∷ []) ++ ((c ++ 0 ∷ []) ++ ((d ++ e) ++ f))) ≡ a ++ (b ++ 1 ∷ 0 ∷ (c ++ 0 ∷ (d ++ (e ++ f))))
in_a_row a b c d e f = rw (append_assoc b (1 ∷ 0 ∷ []) ((c ++ 0 ∷ []) ++ ((d ++ e) ++ f)), append_assoc c (0 ∷ []) ((d ++ e) ++ f), append_assoc d e f)

-- the header of a sheet's network, which has so many transitions
abbrev pub network_header : Header → ℕ → Header
network_header h n =
    record {
      states = h.states;
      units = h.units;
      programs = h.programs;
      monitors = h.monitors;
      start = h.start;
      bad = h.bad;
      conditions = h.conditions + 1;
      actions = h.actions + 1;
      transitions = n;
      last = h.last;
    }

module _ {s : List ℕ} (a : Accepted sheet_layout s) where
  pub narrow : wide s ≡ false
  narrow = sheet_narrow s a.version

  pub at_narrow : actions_at s ≡ after (text_form false) (conditions_in s) s (conditions_at s)
  unfolding actions_at
  at_narrow = ap (λ (v : Bool). after (text_form v) (conditions_in s) s (conditions_at s)) narrow

  pub conditions_within : conditions_at s + extent (text_form false) (conditions_in s) (drop (conditions_at s) s) ≤ length s
  unfolding last_at transitions_at actions_at
  conditions_within = subst (λ (v : Bool). conditions_at s + extent (text_form v) (conditions_in s) (drop (conditions_at s) s) ≤ length s) narrow (omega (arith, tables_end a))

  pub actions_within : actions_at s + extent (text_form false) (actions_in s) (drop (actions_at s) s) ≤ length s
  unfolding last_at transitions_at
  actions_within = omega (arith, tables_end a)

  pub tables_same : tables_at s (header_of s) (frame_of s) (transitions_at s) ≡ table_bytes false (translate (sheet_of s))
  unfolding tables_at table_bytes translate extended sheet_of common_of written conditions_at
  tables_same =
      let S = sheet_of s in
      let w = written word_bytes (table word_form (byte s 6) s 14) in
      let ts = map (copied S) (table transition_form (transitions_in s) s (transitions_at s)) in
      let b = texts_at false s (conditions_at s) (conditions_in s) in
      let c = texts_at false s (actions_at s) (actions_in s) in
      let d = copied_bytes s (frame_of s) (transitions_at s) (transitions_in s) in
      let e = written paired_bytes (added_at s (frame_of s) (byte s 3) (byte s 4)) in
      let f = templates_at s (frame_of s) in
      let conditions : written (text_bytes false) (table (text_form (wide s)) (conditions_in s) s (conditions_at s) ++ (0 ∷ []) ∷ []) ≡ b ++ 1 ∷ 0 ∷ [] =
      ap (λ (v : Bool). written (text_bytes false) (table (text_form v) (conditions_in s) s (conditions_at s) ++ (0 ∷ []) ∷ [])) narrow ∙ written_append (text_bytes false) (table (text_form false) (conditions_in s) s (conditions_at s)) ((0 ∷ []) ∷ []) in
      let actions : written (text_bytes false) (table (text_form false) (actions_in s) s (actions_at s) ++ [] ∷ []) ≡ c ++ 0 ∷ [] =
      written_append (text_bytes false) (table (text_form false) (actions_in s) s (actions_at s)) ([] ∷ []) in
      let transitions : written paired_bytes (ts ++ added S) ≡ d ++ e = written_append paired_bytes ts (added S) ∙ ap (λ (l : List Paired). written paired_bytes ts ++ written paired_bytes l) (sym (added_same s)) in
      let row : table_bytes false (translate S) ≡ w ++ ((b ++ 1 ∷ 0 ∷ []) ++ ((c ++ 0 ∷ []) ++ ((d ++ e) ++ f))) = λ i. w ++ (conditions i ++ (actions i ++ (transitions i ++ f))) in
      ap (λ (x : ℕ). w ++ (b ++ 1 ∷ 0 ∷ (texts_at false s x (actions_in s) ++ 0 ∷ (d ++ (e ++ f))))) (sym at_narrow) ∙ sym (row ∙ in_a_row w b c d e f)

  pub header_same : (size : ℕ) → header_at (network_header (header_of s) (transitions_in s + length (added (sheet_of s)))) size 2 ≡ header_bytes false (translate (sheet_of s)) size
  unfolding translate extended sheet_of common_of
  header_same size =
      let S = sheet_of s in
      let C = common_of s in
      let ts = table transition_form (transitions_in s) s (transitions_at s) in
      let conditions : byte s 10 + 1 ≡ length (C.conditions ++ (0 ∷ []) ∷ []) = sym (length-append C.conditions ((0 ∷ []) ∷ []) ∙ ap (λ (n : ℕ). n + 1) (length_records (text_form (wide s)) (conditions_in s) (drop (conditions_at s) s))) in
      let actions : byte s 11 + 1 ≡ length (C.actions ++ [] ∷ []) = sym (length-append C.actions ([] ∷ []) ∙ ap (λ (n : ℕ). n + 1) (length_records (text_form false) (actions_in s) (drop (actions_at s) s))) in
      let transitions : byte s 12 + length (added S) ≡ length (map (copied S) ts ++ added S) =
      sym (length-append (map (copied S) ts) (added S) ∙ ap (λ (n : ℕ). n + length (added S)) (length-map ts (copied S) ∙ length_records transition_form (transitions_in s) (drop (transitions_at s) s))) in
      let templates : byte s 13 ≡ length (map template_of S.triples) = sym (length-map S.triples template_of ∙ length_records triple_form (last_in s) (drop (last_at transition_form s) s)) in
      λ i. half_bytes size ++ 2 ∷ byte s 3 ∷ byte s 4 ∷ byte s 5 ∷ byte s 6 ∷ byte s 7 ∷ (half_bytes (half s 8) ++ conditions i ∷ actions i ∷ transitions i ∷ templates i ∷ [])
