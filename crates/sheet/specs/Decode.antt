-- What the bytes of a sheet and of a network stand for (document 01, "Sheet layout", "Network layout and translation").
use Rattle.std.specs.Prelude.{Bool, false, cond, List, ℕ, ◌+◌, ◌*◌, eqb, take, drop}
use Rattle.sheet.specs.declared.Transition.{Transition}
use Rattle.sheet.specs.declared.Triple.{Triple}
use Rattle.sheet.specs.declared.Pair.{Pair}
use Rattle.sheet.specs.declared.Template.{Template}
use Rattle.sheet.specs.Bytes.{byte, half, word}
use Rattle.sheet.specs.Table.{Form, records, table, after}
use Rattle.sheet.specs.Parts.{Common, Sheet, Paired, Network}

-- "V initial values, signed 32-bit"
abbrev pub word_form : Form ℕ
word_form = record { value = λ s. word s 0; size = λ s. 4 }

-- "version 3, with two-byte condition lengths"
abbrev pub wide : List ℕ → Bool
wide s = eqb (byte s 2) 3

-- how many bytes the length takes, and the length: one byte, or two where lengths are wide
abbrev pub lead : Bool → ℕ
lead w = cond w 2 1

abbrev pub said : Bool → List ℕ → ℕ
said w s = cond w (half s 0) (byte s 0)

-- "a length byte .., then that many bytes"; and the length alone
abbrev pub text_form : Bool → Form (List ℕ)
text_form w = record { value = λ s. take (said w s) (drop (lead w) s); size = λ s. lead w + said w s }

abbrev pub length_form : Bool → Form ℕ
length_form w = record { value = λ s. said w s; size = λ s. lead w + said w s }

-- "transitions, 6 bytes: from, kind (0 entry, 1 exit), unit, condition, action, to"
abbrev pub transition_of : List ℕ → Transition
transition_of s = record { from = byte s 0; kind = byte s 1; unit = byte s 2; condition = byte s 3; action = byte s 4; to = byte s 5 }

abbrev pub transition_form : Form Transition
transition_form = record { value = transition_of; size = λ s. 6 }

-- "triples, 4 bytes: state, unit, precondition, postcondition"
abbrev pub triple_form : Form Triple
triple_form = record { value = λ s. record { state = byte s 0; unit = byte s 1; precondition = byte s 2; postcondition = byte s 3 }; size = λ s. 4 }

-- "n pairs: a condition and a template"
abbrev pub pair_form : Form Pair
pair_form = record { value = λ s. record { condition = byte s 0; template = byte s 1 }; size = λ s. 2 }

-- "A transition has a seventh byte n, 0-4, and n pairs"; and the seventh byte alone
abbrev pub paired_form : Form Paired
paired_form = record { value = λ s. record { base = transition_of s; pairs = records pair_form (byte s 6) (drop 7 s) }; size = λ s. 7 + 2 * byte s 6 }

abbrev pub pair_count_form : Form ℕ
pair_count_form = record { value = λ s. byte s 6; size = λ s. 7 + 2 * byte s 6 }

-- "templates, 2 bytes: unit, postcondition"
abbrev pub template_form : Form Template
template_form = record { value = λ s. record { unit = byte s 0; postcondition = byte s 1 }; size = λ s. 2 }

-- The header's counts, and where the tables begin: "Then, with nothing between".
abbrev pub conditions_in : List ℕ → ℕ
conditions_in s = byte s 10

abbrev pub actions_in : List ℕ → ℕ
actions_in s = byte s 11

abbrev pub transitions_in : List ℕ → ℕ
transitions_in s = byte s 12

abbrev pub last_in : List ℕ → ℕ
last_in s = byte s 13

unfoldable pub conditions_at : List ℕ → ℕ
conditions_at s = after word_form (byte s 6) s 14

unfoldable pub actions_at : List ℕ → ℕ
actions_at s = after (text_form (wide s)) (conditions_in s) s (conditions_at s)

unfoldable pub transitions_at : List ℕ → ℕ
transitions_at s = after (text_form false) (actions_in s) s (actions_at s)

-- behind transitions of a form
unfoldable pub last_at : {A : Type 0} → Form A → List ℕ → ℕ
last_at T s = after T (transitions_in s) s (transitions_at s)

unfoldable pub common_of : List ℕ → Common
common_of s =
    record {
      states = byte s 3;
      units = byte s 4;
      programs = byte s 5;
      monitors = byte s 6;
      start = byte s 7;
      bad = half s 8;
      initial = table word_form (byte s 6) s 14;
      conditions = table (text_form (wide s)) (conditions_in s) s (conditions_at s);
      actions = table (text_form false) (actions_in s) s (actions_at s);
    }

unfoldable pub sheet_of : List ℕ → Sheet
sheet_of s =
    record {
      common = common_of s;
      transitions = table transition_form (transitions_in s) s (transitions_at s);
      triples = table triple_form (last_in s) s (last_at transition_form s);
    }

unfoldable pub network_of : List ℕ → Network
network_of s =
    record {
      common = common_of s;
      transitions = table paired_form (transitions_in s) s (transitions_at s);
      templates = table template_form (last_in s) s (last_at paired_form s);
    }
