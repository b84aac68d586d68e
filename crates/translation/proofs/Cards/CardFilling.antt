-- From the tables and the header to the card's network in its buffer. Assumes nothing.
use mathlib.Core.Path.{◌≡◌, refl, sym, ap, ◌∙◌}
use mathlib.Core.Bool.{Bool, true, false, ◌&&◌}
use mathlib.Core.List.{List, [], ◌∷◌, ◌++◌}
use Prim.Native.Nat.{ℕ, ◌+◌, ◌≤◌, ◌<◌}
use native.Mathlib.Omega.{arith}
use borrow.Author.Tests.{le-leb, lt-leb}
use lib.Dec.{leb}
use lib.ListN.{length, drop, length-append, length-map}
use lib.Seq.{sets, sets-eq}
use Rattle.sheet.specs.declared.Header.{Header}
use Rattle.sheet.specs.declared.Places.{Places}
use Rattle.std.specs.Prelude.{Result, Err}
use Rattle.refusal.specs.declared.Refusal.{Refusal}
use Rattle.refusal.specs.Numbers.{number_of}
use Rattle.sheet.specs.Bytes.{byte, half}
use Rattle.sheet.specs.Parts.{Paired, Network, bases}
use Rattle.sheet.specs.Table.{table}
use Rattle.sheet.specs.Decode.{wide, text_form, paired_form, template_form, conditions_in, actions_in, transitions_in, last_in, conditions_at, actions_at, transitions_at, last_at, common_of, sheet_of, network_of}
use Rattle.sheet.specs.Encode.{half_bytes, table_bytes, header_bytes, encode}
use Rattle.sheet.specs.Reading.{reading, sheet_layout, network_layout}
use Rattle.sheet.specs.Answer.{reading_paper, answer, header_of, places_of}
use Rattle.sheet.proofs.Accepted.{accepted, reading_accepted}
use Rattle.sheet.proofs.Encoding.{encode_wide}
use Rattle.sheet.proofs.Tables.{length_records}
use Rattle.translation.specs.Translate.{translate}
use Rattle.translation.specs.Card.{joined_conditions, guarded_from, with_conditions, separated, card}
use Rattle.translation.specs.Answer.{network_bytes, Writing, written, refused, translated_paper, translated_with, buffer_with, translated_of, card_bytes, card_fits, card_refusal, card_of, card_buffer_of}
use Rattle.translation.specs.Walk.{Writes, header_at}
use Rattle.translation.specs.CardWalk.{PreparedNetwork, separated_bytes, joined_short, separate_refusal}
use Rattle.translation.proofs.Networks.{translate_accepted, translate_decodes}
use Rattle.translation.proofs.Sheets.Filling.{unread_with}
use Rattle.translation.proofs.Cards.Joining.{length_joined}
use Rattle.translation.proofs.Cards.Guarding.{length_guarded}
use Rattle.translation.proofs.Cards.CardTabling.{total}
use Rattle.translation.proofs.Cut.{refused_reading}
use Rattle.translation.proofs.Writing.{writes_then}

-- what reading the network's bytes leaves behind
pub opened_with : (n : List ℕ) → reading network_layout n ≡ 0 → wide n ≡ false → (h : Header) → h ≡ header_of n → (q : Places) → q ≡ places_of network_layout n → PreparedNetwork n h q.conditions q.transitions q.last
opened_with n a w h eh q eq = record { network = record { accepted = a; narrow = w; places = rw eq; from = rw eq }; header = eh; templates = rw eq }

-- the header of the card's network
abbrev pub card_header : Header → Header
card_header h =
    record {
      states = h.states;
      units = h.units;
      programs = h.programs;
      monitors = h.monitors;
      start = h.start;
      bad = h.bad;
      conditions = h.conditions + h.transitions;
      actions = h.actions;
      transitions = h.transitions;
      last = h.last;
    }

module _ {n : List ℕ} {h : Header} {index : List ℕ} {from last : ℕ} (p : PreparedNetwork n h index from last) where
  abbrev M : Network
  M = separated (network_of n)

  tables_length : 14 + length (table_bytes true (separated (network_of n))) ≡ length (encode true (separated (network_of n)))
  unfolding encode
  tables_length = sym (length-append (header_bytes true M (14 + length (table_bytes true M))) (table_bytes true M))

  pub measured : (o q : List ℕ) (r : ℕ) → Writes o q 14 (table_bytes true (separated (network_of n))) r → (r ≡ length (encode true (separated (network_of n)))) × (r < 1000000)
  measured o q r w = (omega (arith, w.next, tables_length), omega (arith, w.next, total p))

  header_same : (size : ℕ) → header_at (card_header h) size 3 ≡ header_bytes true (separated (network_of n)) size
  unfolding separated with_conditions network_of common_of
  header_same size =
      let C = common_of n in
      let long = length_records (text_form (wide n)) (conditions_in n) (drop (conditions_at n) n) in
      let many = length_records paired_form (transitions_in n) (drop (transitions_at n) n) in
      let conditions : conditions_in n + transitions_in n ≡ length (C.conditions ++ joined_conditions (network_of n)) =
      omega (arith, length-append C.conditions (joined_conditions (network_of n)), length_joined (common_of n) [] (bases (network_of n)), length-map (table paired_form (transitions_in n) n (transitions_at n)) (λ (t : Paired). t.base), long, many) in
      let actions : actions_in n ≡ length C.actions = sym (length_records (text_form false) (actions_in n) (drop (actions_at n) n)) in
      let transitions : transitions_in n ≡ length (guarded_from (length C.conditions) (table paired_form (transitions_in n) n (transitions_at n))) = sym (length_guarded (length C.conditions) (table paired_form (transitions_in n) n (transitions_at n)) ∙ many) in
      let templates : last_in n ≡ length (table template_form (last_in n) n (last_at paired_form n)) = sym (length_records template_form (last_in n) (drop (last_at paired_form n) n)) in
      rw p.header (λ i. half_bytes size ++ 3 ∷ byte n 3 ∷ byte n 4 ∷ byte n 5 ∷ byte n 6 ∷ byte n 7 ∷ (half_bytes (half n 8) ++ conditions i ∷ actions i ∷ transitions i ∷ templates i ∷ []))

  pub filled : (size : ℕ) → size ≡ length (encode true (separated (network_of n))) → (o : List ℕ) → length (encode true (separated (network_of n))) ≤ length o → (q : List ℕ) (at : ℕ) → Writes o q 0 (header_at (card_header h) size 3) at
      → (x : List ℕ) (r : ℕ) → Writes q x at (table_bytes true (separated (network_of n))) r → x ≡ encode true (separated (network_of n)) ++ drop (length (encode true (separated (network_of n)))) o
  unfolding encode
  filled size e o room q at v x r w =
      let both = writes_then (header_at (card_header h) size 3) (table_bytes true M) v w in
      let net : header_at (card_header h) size 3 ++ table_bytes true M ≡ encode true M = ap (λ (l : List ℕ). l ++ table_bytes true M) (header_same size ∙ ap (header_bytes true M) (e ∙ sym tables_length)) in
      let none : 0 + length (encode true M) ≡ length (encode true M) = omega arith in
      both.all ∙ ap (sets o 0) net ∙ sets-eq (encode true M) o 0 (omega arith) ∙ ap (λ (k : ℕ). encode true M ++ drop k o) none

-- What separating answers, and the buffer.
abbrev Separates : List ℕ → List ℕ → List ℕ → Writing → Type 0
Separates n o x r = (r ≡ translated_with (separate_refusal n o) (length (separated_bytes n))) × (x ≡ buffer_with (separate_refusal n o) (separated_bytes n) o)

and_false : (b : Bool) → (b && false) ≡ false
and_false true = refl
and_false false = refl

module _ (n o : List ℕ) where
  pub joined_long : joined_short n ≡ false → Separates n o o (refused 21)
  joined_long h = rw h (refl, refl)

  module _ (size : ℕ) (e : size ≡ length (separated_bytes n)) where
    pub whole_long : 65535 < size → Separates n o o (refused 21)
    whole_long h =
        let t = lt-leb (length (separated_bytes n)) 65535 (omega arith) in
        rw (t, and_false (joined_short n)) (refl, refl)

    module _ (s : joined_short n ≡ true) (k : size ≤ 65535) where
      fits : leb (length (separated_bytes n)) 65535 ≡ true
      fits = le-leb (length (separated_bytes n)) 65535 (omega arith)

      pub buffer_short : length o < size → Separates n o o (refused 19)
      buffer_short h =
          let t = lt-leb (length (separated_bytes n)) (length o) (omega arith) in
          rw (s, fits, t) (refl, refl)

      pub buffer_holds : size ≤ length o → (x : List ℕ) → x ≡ separated_bytes n ++ drop (length (separated_bytes n)) o → Separates n o x (written size)
      buffer_holds h x f =
          let t = le-leb (length (separated_bytes n)) (length o) (omega arith) in
          rw (s, fits, t, ← e) (refl, f ∙ ap (λ (m : ℕ). separated_bytes n ++ drop m o) (sym e))

-- The network that was separated is the sheet's.
module _ (s : List ℕ) (a : reading sheet_layout s ≡ 0) where
  decodes : network_of (network_bytes s) ≡ translate (sheet_of s)
  unfolding network_bytes
  decodes = translate_decodes (accepted sheet_layout s a)

  module _ (n : List ℕ) (e : n ≡ network_bytes s) where
    pub narrow_network : (reading network_layout n ≡ 0) × (wide n ≡ false)
    unfolding network_bytes
    narrow_network = rw e (reading_accepted network_layout (encode false (translate (sheet_of s))) (translate_accepted (accepted sheet_layout s a)), encode_wide false (translate (sheet_of s)))

    same_bytes : separated_bytes n ≡ card_bytes s
    unfolding card_bytes card
    same_bytes = ap separated_bytes e ∙ ap (λ (N : Network). encode true (separated N)) decodes

    same_refusal : (o : List ℕ) → separate_refusal n o ≡ card_refusal s o
    unfolding card_refusal card_fits
    same_refusal o = rw (a, e, decodes, ← same_bytes, e, decodes) refl

    pub carded : (o x : List ℕ) (r : Writing) → Separates n o x r → (r ≡ card_of s o) × (x ≡ card_buffer_of s o)
    unfolding card_of card_buffer_of
    carded o x r (f, g) = rw (← same_refusal o, ← same_bytes) (f, g)

  -- a buffer of 8,192 bytes is never too short
  pub never_short : (o buffer : List ℕ) → 8192 ≤ length buffer → (t : Result ℕ Refusal) → translated_paper t ≡ translated_of s buffer → (k : Refusal) → t ≡ Err k → (refused (number_of k) ≡ card_of s o) × (o ≡ card_buffer_of s o)
  never_short o buffer h t e k f =
      let (m, g, z) = refused_reading s buffer h (number_of k) (sym e ∙ ap translated_paper f) in
      absurd (omega arith)

-- Where the sheet is refused.
pub card_unread : (s o : List ℕ) (r : Result (Unit {0}) Refusal) → reading_paper r ≡ answer (reading sheet_layout s) → (n : Refusal) → r ≡ Err n → (refused (number_of n) ≡ card_of s o) × (o ≡ card_buffer_of s o)
unfolding card_of card_buffer_of card_refusal
card_unread s o r er n h = unread_with s o (card_bytes s) _ r er n h
