-- A network as translating wrote it, cut to its length; 8,192 bytes always hold it. Assumes nothing.
use mathlib.Core.Path.{◌≡◌, refl, sym, ap, ◌∙◌}
use mathlib.Core.Bool.{Bool, true, false}
use mathlib.Core.List.{List, ◌++◌}
use Prim.Native.Nat.{ℕ, zero, suc, ◌≤◌}
use native.Mathlib.Omega.{arith}
use borrow.Author.Tests.{le-leb}
use lib.Dec.{leb}
use lib.ListN.{length, take, drop}
use lib.Seq.{take-append_seam}
use Rattle.sheet.specs.Table.{every}
use Rattle.sheet.specs.Decode.{sheet_of}
use Rattle.sheet.specs.Reading.{unless, or_else, reading, sheet_layout}
use Rattle.sheet.proofs.Tests.{and_iff}
use Rattle.sheet.proofs.Accepted.{accepted}
use Rattle.std.specs.Prelude.{Result, Ok}
use Rattle.refusal.specs.declared.Refusal.{Refusal}
use Rattle.translation.specs.Translate.{translate}
use Rattle.translation.specs.Card.{joined_conditions}
use Rattle.translation.specs.Answer.{network_bytes, translate_refusal, written, refused, translated_paper, translated_with, buffer_with, translated_of, buffer_of, card_bytes, card_fits, card_refusal, card_of, card_buffer_of}
use Rattle.translation.proofs.Networks.{translate_longest}

-- a refusal is no writing
pub never : {n m : ℕ} → refused n ≡ written m → ⊥
never e = let z : ◌≡◌ {A = ℕ} 0 1 = cc in omega arith

-- What was written, in either form, from the refusal and the bytes.
module _ (refusal : ℕ) (net buffer : List ℕ) (size : ℕ) (h : translated_with refusal (length net) ≡ written size) where
  pub with_unrefused : refusal ≡ 0
  with_unrefused = go refusal h
    where
      go : (n : ℕ) → translated_with n (length net) ≡ written size → n ≡ 0
      go zero e = refl
      go (suc n) e = absurd (never e)

  pub with_length : length net ≡ size
  with_length =
      let e : written (length net) ≡ written size = ap (λ n. translated_with n (length net)) (sym with_unrefused) ∙ h in
      cc

  pub with_bytes : take size (buffer_with refusal net buffer) ≡ net
  with_bytes =
      ap (take size) (ap (λ n. buffer_with n net buffer) with_unrefused)
      ∙ ap (λ n. take n (net ++ drop (length net) buffer)) (sym with_length)
      ∙ take-append_seam net (drop (length net) buffer)

-- the first of two refusals
or_else_none : (n m : ℕ) → or_else n m ≡ 0 → (n ≡ 0) × (m ≡ 0)
or_else_none zero m e = (refl, e)
or_else_none (suc n) m e = absurd (omega arith)

unless_none : (b : Bool) (n m : ℕ) → unless b (suc n) m ≡ 0 → (b ≡ true) × (m ≡ 0)
unless_none true n m e = (refl, e)
unless_none false n m e = absurd (omega arith)

module _ (s buffer : List ℕ) (size : ℕ) (h : translated_of s buffer ≡ written size) where
  pub sheet_accepted : reading sheet_layout s ≡ 0
  unfolding translated_of translate_refusal
  sheet_accepted = (or_else_none (reading sheet_layout s) _ (with_unrefused (translate_refusal s buffer) (network_bytes s) buffer size h)).0

  pub written_bytes : take size (buffer_of s buffer) ≡ network_bytes s
  unfolding translated_of buffer_of
  written_bytes = with_bytes (translate_refusal s buffer) (network_bytes s) buffer size h

  pub written_length : length (network_bytes s) ≡ size
  unfolding translated_of
  written_length = with_length (translate_refusal s buffer) (network_bytes s) buffer size h

-- the card's network
module _ (s buffer : List ℕ) (size : ℕ) (h : card_of s buffer ≡ written size) where
  card_parts : (reading sheet_layout s ≡ 0) × (card_fits s ≡ true)
  unfolding card_of card_refusal
  card_parts =
      let (r, f) = or_else_none (reading sheet_layout s) _ (with_unrefused (card_refusal s buffer) (card_bytes s) buffer size h) in
      (r, (unless_none (card_fits s) 20 _ f).0)

  pub card_sheet_accepted : reading sheet_layout s ≡ 0
  card_sheet_accepted = card_parts.0

  pub card_short : every (λ t. leb (length t) 1024) (joined_conditions (translate (sheet_of s))) ≡ true
  unfolding card_fits
  card_short = (simp and_iff at card_parts.1).0

  pub card_written_bytes : take size (card_buffer_of s buffer) ≡ card_bytes s
  unfolding card_of card_buffer_of
  card_written_bytes = with_bytes (card_refusal s buffer) (card_bytes s) buffer size h

-- how long the network of an accepted sheet can be
pub network_longest : (s : List ℕ) → reading sheet_layout s ≡ 0 → length (network_bytes s) ≤ 7904
unfolding network_bytes
network_longest s h = translate_longest (accepted sheet_layout s h)

-- "8,192 bytes always hold it."
pub written_always : (s buffer : List ℕ) → reading sheet_layout s ≡ 0 → 8192 ≤ length buffer → (size : ℕ) × (translated_of s buffer ≡ written size)
unfolding translated_of translate_refusal
written_always s buffer h k =
    let long = network_longest s h in
    let fits : leb (length (network_bytes s)) (length buffer) ≡ true = le-leb (length (network_bytes s)) (length buffer) (omega arith) in
    (length (network_bytes s), rw (h, fits))

-- So a refusal is one of reading the sheet.
pub refused_reading : (s buffer : List ℕ) → 8192 ≤ length buffer → (n : ℕ) → translated_of s buffer ≡ refused n → (m : ℕ) × (n ≡ suc m) × (reading sheet_layout s ≡ suc m)
unfolding translated_of translate_refusal
refused_reading s buffer k n h = go (reading sheet_layout s) refl
  where
    go : (j : ℕ) → reading sheet_layout s ≡ j → (m : ℕ) × (n ≡ suc m) × (reading sheet_layout s ≡ suc m)
    go zero e = let (size, w) = written_always s buffer e k in absurd (never (sym h ∙ w))
    go (suc j) e =
        let f : refused n ≡ refused (suc j) = sym h ∙ rw e refl in
        (j, cc, e)

-- What translating answered, and what it left in the buffer.
module _ (s buffer : List ℕ) (t : Result ℕ Refusal) (e : translated_paper t ≡ translated_of s buffer) (n : ℕ) (h : t ≡ Ok n) where
  pub told : translated_of s buffer ≡ written n
  told = sym e ∙ ap translated_paper h

  pub written_short : n ≤ 8192
  written_short = omega (arith, written_length s buffer n told, network_longest s (sheet_accepted s buffer n told))

  module _ (last : List ℕ) (f : last ≡ buffer_of s buffer) where
    pub cut : take n last ≡ network_bytes s
    cut = ap (take n) f ∙ written_bytes s buffer n told

    pub written_cut : n ≡ length (take n last)
    written_cut = sym (written_length s buffer n told) ∙ ap length (sym cut)
