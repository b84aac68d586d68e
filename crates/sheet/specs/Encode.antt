-- The bytes of a network (document 01, "Sheet layout", "Network layout and translation"). A number that should fit a byte is written as it is, and
-- the first byte of two or of four takes all that is left, so that reading back needs no bounds.
use Rattle.std.specs.Prelude.{Bool, false, not, cond, ◌&&◌, List, [], ◌∷◌, ◌++◌, ℕ, ◌+◌, ◌/◌, ◌%◌, ◌^◌, leb, ltb, eqb, length}
use Rattle.sheet.specs.declared.Pair.{Pair}
use Rattle.sheet.specs.declared.Template.{Template}
use Rattle.sheet.specs.Table.{every}
use Rattle.sheet.specs.Parts.{Paired, Network}
use Rattle.sheet.specs.Reading.{between, most_bytes, is_bad, formed, ranged, roled, network_layout}

-- "Big-endian": two bytes, four bytes
abbrev pub half_bytes : ℕ → List ℕ
half_bytes m = m / 256 ∷ m % 256 ∷ []

abbrev pub word_bytes : ℕ → List ℕ
word_bytes m = m / 256 / 256 / 256 ∷ m / 256 / 256 % 256 ∷ m / 256 % 256 ∷ m % 256 ∷ []

-- "a length byte .., then that many bytes"
abbrev pub length_bytes : Bool → ℕ → List ℕ
length_bytes w n = cond w (half_bytes n) (n ∷ [])

abbrev pub text_bytes : Bool → List ℕ → List ℕ
text_bytes w t = length_bytes w (length t) ++ t

-- "n pairs: a condition and a template"
abbrev pub pair_bytes : Pair → List ℕ
pair_bytes p = p.condition ∷ p.template ∷ []

-- "templates, 2 bytes: unit, postcondition"
abbrev pub template_bytes : Template → List ℕ
template_bytes t = t.unit ∷ t.postcondition ∷ []

-- records one behind the other: "with nothing between"
unfoldable pub written : {A : Type 0} → (A → List ℕ) → List A → List ℕ
written w [] = []
written w (x ∷ l) = w x ++ written w l

-- "from, kind (0 entry, 1 exit), unit, condition, action, to"; "a seventh byte n, 0-4, and n pairs"
abbrev pub paired_bytes : Paired → List ℕ
paired_bytes t =
    t.base.from ∷ t.base.kind ∷ t.base.unit ∷ t.base.condition ∷ t.base.action ∷ t.base.to ∷ length t.pairs ∷ written pair_bytes t.pairs

-- "V initial values, signed 32-bit; conditions ..; actions ..; transitions ..", and "in place of triples stand templates"
unfoldable pub table_bytes : Bool → Network → List ℕ
table_bytes w N =
    written word_bytes N.common.initial ++ (written (text_bytes w) N.common.conditions ++ (written (text_bytes false) N.common.actions ++ (written paired_bytes N.transitions ++ written template_bytes N.templates)))

-- "Bytes 0-1: length of the whole sheet. 2: version, 1. 3: states Q .. 4: units U .. 5: program variables P .. 6: monitor variables V .. 7: start
-- state. 8-9: bad states .. 10: conditions .. 11: actions .. 12: transitions .. 13: triples"; "As the sheet, but version 2"
abbrev pub header_bytes : Bool → Network → ℕ → List ℕ
header_bytes w N size =
    let C = N.common in
    half_bytes size ++ cond w 3 2 ∷ C.states ∷ C.units ∷ C.programs ∷ C.monitors ∷ C.start ∷ (half_bytes C.bad ++ length C.conditions ∷ length C.actions ∷ length N.transitions ∷ length N.templates ∷ [])

-- version 3 where lengths are wide, else version 2
unfoldable pub encode : Bool → Network → List ℕ
encode w N = header_bytes w N (14 + length (table_bytes w N)) ++ table_bytes w N

-- 3 of a network without its bytes, "with up to 65 conditions, 33 actions, 96 transitions": as `counted` asks it of bytes, and there are V initial values
unfoldable pub within_counts : Bool → Network → Bool
within_counts w N =
    let C = N.common in
    between 1 16 C.states && (between 1 16 C.units && (leb C.programs 8 && (leb C.monitors 4 && (leb (length C.conditions) (network_layout.conditions w) && (leb (length C.actions) 33 && (leb (length N.transitions) 96 && (leb (length N.templates) 32
    && (ltb C.start C.states && (eqb (C.bad / 2 ^ C.states) 0 && (not (is_bad C.bad C.start) && eqb (length C.initial) C.monitors))))))))))

-- 4 of a network without its bytes
unfoldable pub within_lengths : Bool → Network → Bool
within_lengths w N = every (λ t. between 1 (most_bytes w) (length t)) N.common.conditions && every (λ t. between 0 (most_bytes false) (length t)) N.common.actions

-- A network whose bytes are accepted: 3, 4, 5, 6 and 7.
unfoldable pub admitted : Bool → Network → Bool
admitted w N =
    within_counts w N && (within_lengths w N && (every (λ t. between 0 4 (length t.pairs)) N.transitions && (formed N.common && (ranged network_layout N.common N.transitions N.templates && roled network_layout N.common N.transitions N.templates))))
