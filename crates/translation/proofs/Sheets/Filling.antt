-- From the tables and the header to the network in its buffer. Assumes nothing.
use mathlib.Core.Bool.{false}
use mathlib.Core.Path.{◌≡◌, refl, sym, ap, ap₂, ◌∙◌}
use mathlib.Core.List.{List, ◌++◌}
use Prim.Native.Nat.{ℕ, ◌+◌, ◌≤◌, ◌<◌}
use native.Mathlib.Omega.{arith}
use borrow.Author.Tests.{le-leb, lt-leb}
use lib.ListN.{length, drop, length-append}
use lib.Seq.{sets, sets-eq}
use Rattle.sheet.specs.declared.Header.{Header}
use Rattle.sheet.specs.declared.Places.{Places}
use Rattle.std.specs.Prelude.{Result, Err}
use Rattle.refusal.specs.declared.Refusal.{Refusal}
use Rattle.refusal.specs.Numbers.{number_of}
use Rattle.sheet.specs.Decode.{wide, text_form, transition_form, conditions_in, actions_in, transitions_in, conditions_at, actions_at, transitions_at, common_of, sheet_of}
use Rattle.sheet.specs.Encode.{table_bytes, header_bytes, encode}
use Rattle.sheet.specs.Reading.{or_else, reading, sheet_layout}
use Rattle.sheet.specs.Answer.{reading_paper, answer, header_of, places_of}
use Rattle.sheet.proofs.Accepted.{Accepted, accepted, bounds}
use Rattle.sheet.proofs.Answers.{answer_refused}
use Rattle.sheet.proofs.Tables.{length_records}
use Rattle.translation.specs.declared.write.Frame.{Frame}
use Rattle.translation.specs.declared.write.Spot.{Spot}
use Rattle.translation.specs.Translate.{translate}
use Rattle.translation.specs.Answer.{network_bytes, translate_refusal, written, refused, translated_with, buffer_with, translated_of, buffer_of}
use Rattle.translation.specs.Walk.{Prepared, Measures, Writes, WritesTables, tables_at, header_at}
use Rattle.translation.proofs.Sheets.Counting.{added_length}
use Rattle.translation.proofs.Networks.{translate_longest}
use Rattle.translation.proofs.Images.{added_same, network_header, tables_same, header_same}
use Rattle.translation.proofs.Writing.{writes_then}

abbrev frame_with : Header → ℕ → Frame
frame_with h last = record { triples = last; count = h.last; condition = h.conditions; action = h.actions }

-- what reading a sheet leaves behind
pub prepared_with : (s : List ℕ) → reading sheet_layout s ≡ 0 → (h : Header) → h ≡ header_of s → (q : Places) → q ≡ places_of sheet_layout s → Prepared s h (frame_with h q.last) q.transitions
prepared_with s a h eh q eq = record { accepted = a; header = eh; frame = rw (eh, eq); from = rw eq }

module _ {s : List ℕ} {h : Header} {f : Frame} {from : ℕ} (p : Prepared s h f from) where
  there : Accepted sheet_layout s
  there = accepted sheet_layout s p.accepted

  tables_are : tables_at s h f from ≡ table_bytes false (translate (sheet_of s))
  tables_are = rw (p.header, p.frame, p.from) (tables_same there)

  -- header and tables are the network
  pub tables_length : 14 + length (tables_at s h f from) ≡ length (network_bytes s)
  unfolding network_bytes encode
  tables_length = rw tables_are (sym (length-append (header_bytes false (translate (sheet_of s)) (14 + length (table_bytes false (translate (sheet_of s))))) (table_bytes false (translate (sheet_of s)))))

  pub network_small : length (network_bytes s) ≤ 7904
  unfolding network_bytes
  network_small = translate_longest there

  pub few_texts : (h.conditions < 255) × (h.actions < 255)
  unfolding common_of
  few_texts =
      let b = bounds there in
      let c = length_records (text_form (wide s)) (conditions_in s) (drop (conditions_at s) s) in
      let d = length_records (text_form false) (actions_in s) (drop (actions_at s) s) in
      rw p.header (omega (arith, b.conditions), omega (arith, b.actions))

  pub few_transitions : (n : ℕ) → n ≡ h.transitions → (r : Spot) → Measures s r → n + r.added < 256
  unfolding sheet_of
  few_transitions n e r m =
      let b = bounds there in
      let c = length_records transition_form (transitions_in s) (drop (transitions_at s) s) in
      let d : n ≡ transitions_in s = e ∙ ap (λ (x : Header). x.transitions) p.header in
      omega (arith, b.transitions, b.last, m.added, added_length (sheet_of s))

  pub measured : (o q : List ℕ) (at : ℕ) → at ≡ 14 → (r : Spot) → WritesTables s h f from o q at r → Measures s r
  measured o q at e r w =
      record {
        size = omega (arith, w.writes.next, tables_length);
        added = w.added ∙ rw (p.header, p.frame) (ap length (added_same s));
      }

  pub filled : (r : Spot) → Measures s r → (n : ℕ) → n ≡ h.transitions → (o : List ℕ) → length (network_bytes s) ≤ length o → (q : List ℕ) (at : ℕ) → Writes o q 0 (header_at (network_header h (n + r.added)) r.at 2) at
      → (x : List ℕ) (z : Spot) → WritesTables s h f from q x at z → x ≡ network_bytes s ++ drop (length (network_bytes s)) o
  unfolding network_bytes encode
  filled r m n en o room q at v x z w =
      let N = translate (sheet_of s) in
      let size : r.at ≡ 14 + length (table_bytes false N) = m.size ∙ sym tables_length ∙ ap (λ (l : List ℕ). 14 + length l) tables_are in
      let count : n ≡ transitions_in s = en ∙ ap (λ (y : Header). y.transitions) p.header in
      let head : header_at (network_header h (n + r.added)) r.at 2 ≡ header_bytes false N (14 + length (table_bytes false N)) = rw (size, count, m.added, p.header) (header_same there (14 + length (table_bytes false N))) in
      let both = writes_then (header_at (network_header h (n + r.added)) r.at 2) (tables_at s h f from) v w.writes in
      let net : header_at (network_header h (n + r.added)) r.at 2 ++ tables_at s h f from ≡ encode false N = ap₂ (λ (a b : List ℕ). a ++ b) head tables_are in
      let none : 0 + length (encode false N) ≡ length (encode false N) = omega arith in
      both.all ∙ ap (sets o 0) net ∙ sets-eq (encode false N) o 0 (omega arith) ∙ ap (λ (k : ℕ). encode false N ++ drop k o) none

-- What translating answers, and the buffer.
module _ (s o : List ℕ) where
  module _ (a : reading sheet_layout s ≡ 0) (n : ℕ) (e : n ≡ length (network_bytes s)) where
    pub too_short : length o < n → (refused 19 ≡ translated_of s o) × (o ≡ buffer_of s o)
    unfolding translated_of buffer_of translate_refusal
    too_short h =
        let t = lt-leb (length (network_bytes s)) (length o) (omega arith) in
        rw (a, t) (refl, refl)

    pub long_enough : n ≤ length o → (x : List ℕ) → x ≡ network_bytes s ++ drop (length (network_bytes s)) o → (written n ≡ translated_of s o) × (x ≡ buffer_of s o)
    unfolding translated_of buffer_of translate_refusal
    long_enough h x f =
        let t = le-leb (length (network_bytes s)) (length o) (omega arith) in
        rw (a, t, e) (refl, f)

-- Where the sheet is refused, in either form: m stands for what would be asked after reading.
pub unread_with : (s o net : List ℕ) (m : ℕ) (r : Result (Unit {0}) Refusal) → reading_paper r ≡ answer (reading sheet_layout s) → (n : Refusal) → r ≡ Err n
    → (refused (number_of n) ≡ translated_with (or_else (reading sheet_layout s) m) (length net)) × (o ≡ buffer_with (or_else (reading sheet_layout s) m) net o)
unread_with s o net m r er n h =
    let (k, f, e) = answer_refused (reading sheet_layout s) r er n h in
    rw f (ap refused e, refl)

pub unread : (s o : List ℕ) (r : Result (Unit {0}) Refusal) → reading_paper r ≡ answer (reading sheet_layout s) → (n : Refusal) → r ≡ Err n → (refused (number_of n) ≡ translated_of s o) × (o ≡ buffer_of s o)
unfolding translated_of buffer_of translate_refusal
unread s o r er n h = unread_with s o (network_bytes s) _ r er n h
