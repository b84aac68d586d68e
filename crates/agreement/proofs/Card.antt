-- The card's network, as it was written, does what the definition says of the sheet, and its conditions exclude each other. Assumes nothing.
pub mod Joined
pub mod FirstAlone
pub mod Realised
pub mod Admitted
use mathlib.Core.Path.{◌≡◌, refl, sym, subst}
use mathlib.Core.Bool.{Bool, true, false}
use mathlib.Core.List.{List}
use Prim.Native.Nat.{ℕ, zero, suc, ◌≤◌}
use native.Mathlib.Omega.{arith}
use lib.Dec.{leb}
use lib.ListN.{length}
use Rattle.sheet.specs.Table.{every}
use Rattle.sheet.specs.Bytes.{byte}
use Rattle.sheet.specs.Decode.{common_of, sheet_of, network_of}
use Rattle.sheet.specs.Reading.{whole, counted, tabled, formed, ranged, roled, transitions_of, last_of, unless, or_else, reading, sheet_layout, network_layout}
use Rattle.sheet.proofs.Accepted.{accepted, bounds}
use Rattle.sheet.proofs.Encoding.{decode_encode, reading_encode}
use Rattle.translation.specs.Translate.{translate, extended}
use Rattle.translation.specs.Card.{joined_conditions, with_conditions, separated, card}
use Rattle.translation.specs.Answer.{refused, translated_with, card_bytes, card_fits, card_refusal, card_of}
use Rattle.translation.proofs.Networks.{translate_admitted}
use Rattle.translation.proofs.Cut.{never, card_sheet_accepted, card_short, card_written_bytes}
use Rattle.agreement.specs.Realises.{Realises}
use Rattle.agreement.specs.Card.{Exclusive, CardAgrees, CardDemand, RefusedTooLong}
use Rattle.agreement.proofs.Agreement.{as_defined}
use Rattle.agreement.proofs.Card.Realised.{card_exclusive, card_realises}
use Rattle.agreement.proofs.Card.Admitted.{separated_admitted}

module _ (s : List ℕ) (h : reading sheet_layout s ≡ 0) (f : every (λ t. leb (length t) 1024) (joined_conditions (translate (sheet_of s))) ≡ true) where
  card_accepted : reading network_layout (card_bytes s) ≡ 0
  unfolding card_bytes card separated
  card_accepted = reading_encode true (separated (translate (sheet_of s))) (separated_admitted (translate (sheet_of s)) (translate_admitted (accepted sheet_layout s h)) f)

  card_decodes : network_of (card_bytes s) ≡ card (sheet_of s)
  unfolding card_bytes card separated with_conditions translate extended sheet_of
  card_decodes = decode_encode true (separated (translate (sheet_of s))) (bounds (accepted sheet_layout s h)).initial

  pub card_agrees : CardAgrees s (card_bytes s)
  card_agrees = record {
    decodes = card_decodes;
    exclusive = subst Exclusive (sym card_decodes) (card_exclusive s h);
    defined = as_defined s (card_bytes s) h card_accepted (subst (Realises (sheet_of s)) (sym card_decodes) (card_realises s h));
  }

pub card_demand : CardDemand
card_demand s buffer size h = subst (CardAgrees s) (sym (card_written_bytes s buffer size h)) (card_agrees s (card_sheet_accepted s buffer size h) (card_short s buffer size h))

-- no reading refusal is 21
unless_most : (b : Bool) (n rest : ℕ) → n ≤ 8 → rest ≤ 8 → unless b n rest ≤ 8
unless_most true n rest h k = k
unless_most false n rest h k = h

reading_most : (s : List ℕ) → reading sheet_layout s ≤ 8
unfolding reading
reading_most s =
    let F = sheet_layout in
    let ts = transitions_of F s in
    let rs = last_of F s in
    unless_most (whole s) 1 _ (omega arith) (unless_most (F.version (byte s 2)) 2 _ (omega arith) (unless_most (counted F s) 3 _ (omega arith) (unless_most (tabled F s) 4 _ (omega arith)
    (unless_most (formed (common_of s)) 5 _ (omega arith) (unless_most (ranged F (common_of s) ts rs) 6 _ (omega arith) (unless_most (roled F (common_of s) ts rs) 7 _ (omega arith) (unless_most (F.spread rs) 8 0 (omega arith) (omega arith))))))))

same_refusal : {n m : ℕ} → refused n ≡ refused m → n ≡ m
same_refusal e = cc

too_long_is : (n : ℕ) → n ≤ 8 → (b c : Bool) (size : ℕ) → translated_with (or_else n (unless b 21 (unless c 19 0))) size ≡ refused 21 → (n ≡ 0) × (b ≡ false)
too_long_is zero h true true size e = absurd (never (sym e))
too_long_is zero h true false size e = absurd (omega (arith, same_refusal e))
too_long_is zero h false c size e = (refl, refl)
too_long_is (suc n) h b c size e = absurd (omega (arith, same_refusal e))

pub refused_too_long : RefusedTooLong
unfolding card_of card_refusal
refused_too_long s buffer = (λ e. too_long_is (reading sheet_layout s) (reading_most s) (card_fits s) (leb (length (card_bytes s)) (length buffer)) (length (card_bytes s)) e, λ h. rw (h.0, h.1) refl)
