-- What translating answers, and the buffer that it leaves (document 01, "What each operation turns away"; change request 5).
use Rattle.std.specs.Prelude.{Bool, true, false, ◌&&◌, List, ◌++◌, ℕ, zero, suc, leb, length, drop, Result, Ok, Err}
use Rattle.sheet.specs.Table.{every}
use Rattle.sheet.specs.Decode.{sheet_of}
use Rattle.sheet.specs.Encode.{encode}
use Rattle.sheet.specs.Reading.{unless, or_else, reading, sheet_layout}
use Rattle.refusal.specs.declared.Refusal.{Refusal}
use Rattle.refusal.specs.Numbers.{number_of}
use Rattle.translation.specs.Translate.{translate}
use Rattle.translation.specs.Card.{joined_conditions, card}

-- the bytes of a sheet's network
unfoldable pub network_bytes : List ℕ → List ℕ
network_bytes s = encode false (translate (sheet_of s))

-- "Translating: the reading refusals; 19: the buffer is shorter than the network."
unfoldable pub translate_refusal : List ℕ → List ℕ → ℕ
translate_refusal s o = or_else (reading sheet_layout s) (unless (leb (length (network_bytes s)) (length o)) 19 0)

-- The paper's words for what translating answers: written, of so many bytes, or the refusal's number.
pub data Writing : Type 0 where
  written : ℕ → Writing
  refused : ℕ → Writing

abbrev pub translated_paper : Result ℕ Refusal → Writing
translated_paper (Ok n) = written n
translated_paper (Err r) = refused (number_of r)

abbrev pub translated_with : ℕ → ℕ → Writing
translated_with zero size = written size
translated_with (suc n) size = refused (suc n)

-- "A refusal writes nothing; success writes the network at the front and no other byte."
abbrev pub buffer_with : ℕ → List ℕ → List ℕ → List ℕ
buffer_with zero net o = net ++ drop (length net) o
buffer_with (suc n) net o = o

unfoldable pub translated_of : List ℕ → List ℕ → Writing
translated_of s o = translated_with (translate_refusal s o) (length (network_bytes s))

unfoldable pub buffer_of : List ℕ → List ℕ → List ℕ
buffer_of s o = buffer_with (translate_refusal s o) (network_bytes s) o

-- the bytes of the card's network: "a second form, version 3"
unfoldable pub card_bytes : List ℕ → List ℕ
card_bytes s = encode true (card (sheet_of s))

-- "21 if some joined condition exceeds 1,024 bytes or the network 65,535"
unfoldable pub card_fits : List ℕ → Bool
card_fits s = every (λ t. leb (length t) 1024) (joined_conditions (translate (sheet_of s))) && leb (length (card_bytes s)) 65535

-- "After the reading refusals: 21 ..; then 19."
unfoldable pub card_refusal : List ℕ → List ℕ → ℕ
card_refusal s o = or_else (reading sheet_layout s) (unless (card_fits s) 21 (unless (leb (length (card_bytes s)) (length o)) 19 0))

unfoldable pub card_of : List ℕ → List ℕ → Writing
card_of s o = translated_with (card_refusal s o) (length (card_bytes s))

unfoldable pub card_buffer_of : List ℕ → List ℕ → List ℕ
card_buffer_of s o = buffer_with (card_refusal s o) (card_bytes s) o
