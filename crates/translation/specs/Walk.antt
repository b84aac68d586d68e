-- What the private functions promise: what they write from a place on, and the place behind it.
use Rattle.std.specs.Prelude.{◌≡◌, Bool, false, cond, List, [], ◌∷◌, ◌++◌, map, ℕ, ◌+◌, ◌≤◌, eqb, length}
use Rattle.std.proofs.lemmas.List.Edits.{sets}
use Rattle.sheet.specs.declared.Header.{Header}
use Rattle.sheet.specs.declared.Transition.{Transition}
use Rattle.sheet.specs.declared.Triple.{Triple}
use Rattle.sheet.specs.declared.Pair.{Pair}
use Rattle.sheet.specs.Parts.{Paired}
use Rattle.sheet.specs.Table.{table, after}
use Rattle.sheet.specs.Decode.{word_form, text_form, transition_form, triple_form, conditions_in, actions_in, last_in, transitions_at, last_at, sheet_of}
use Rattle.sheet.specs.Reading.{reading, sheet_layout}
use Rattle.sheet.specs.Answer.{header_of}
use Rattle.sheet.specs.Encode.{half_bytes, word_bytes, text_bytes, pair_bytes, paired_bytes, template_bytes, written}
use Rattle.translation.specs.declared.write.Frame.{Frame}
use Rattle.translation.specs.declared.write.Spot.{Spot}
use Rattle.translation.specs.declared.write.Both.{Both}
use Rattle.translation.specs.Translate.{pairs_from, joined, added, template_of}
use Rattle.translation.specs.Answer.{network_bytes}

-- places stay small
abbrev pub Room : ℕ → List ℕ → Type 0
Room at l = at + length l ≤ 1000000

-- l stored from `at` on, and the place behind it
pub record Writes (o p : List ℕ) (at : ℕ) (l : List ℕ) (r : ℕ) : Type 0 where
  pub all : p ≡ sets o at l
  pub next : r ≡ at + length l

-- the same of transitions that are added, with how many there are
pub record WritesAdded (o p : List ℕ) (b : Spot) (l : List Paired) (r : Spot) : Type 0 where
  pub writes : Writes o p b.at (written paired_bytes l) r.at
  pub more : r.added ≡ b.added + length l

-- the bytes of n texts from a place on, with lengths in one byte or in two; and of what is read, where it ends
abbrev pub texts_at : Bool → List ℕ → ℕ → ℕ → List ℕ
texts_at w s from n = written (text_bytes w) (table (text_form false) n s from)

pub record WritesTexts (w : Bool) (s o p : List ℕ) (from n at : ℕ) (r : Both) : Type 0 where
  pub writes : Writes o p at (texts_at w s from n) r.at
  pub read : r.from ≡ after (text_form false) n s from

-- the triples of a sheet's bytes
abbrev pub triples_at : List ℕ → Frame → List Triple
triples_at s f = table triple_form f.count s f.triples

-- "n, 0-4, and n pairs"
abbrev pub counted_pairs : List Pair → List ℕ
counted_pairs l = length l ∷ written pair_bytes l

-- "from, kind (0 entry, 1 exit), unit, condition, action, to"
abbrev pub base_bytes : Transition → List ℕ
base_bytes t = t.from ∷ t.kind ∷ t.unit ∷ t.condition ∷ t.action ∷ t.to ∷ []

-- a transition with the pairs of its state and unit, where it is an entry
abbrev pub copied_at : List ℕ → Frame → Transition → Paired
copied_at s f t = record { base = t; pairs = cond (eqb t.kind 0) (pairs_from 0 t.from t.unit (triples_at s f)) [] }

-- the transition back to a state, with the added condition and action
abbrev pub back_with : Frame → ℕ → ℕ → List Pair → List Paired
back_with f q u [] = []
back_with f q u (p ∷ l) = record { base = record { from = q; kind = 0; unit = u; condition = f.condition; action = f.action; to = q }; pairs = p ∷ l } ∷ []

abbrev pub back_at : List ℕ → Frame → ℕ → ℕ → List Paired
back_at s f q u = back_with f q u (pairs_from 0 q u (triples_at s f))

-- the bytes of a network's tables, from those of the sheet
abbrev pub copied_bytes : List ℕ → Frame → ℕ → ℕ → List ℕ
copied_bytes s f from n = written paired_bytes (map (copied_at s f) (table transition_form n s from))

abbrev pub added_at : List ℕ → Frame → ℕ → ℕ → List Paired
added_at s f states units = joined states (λ q. joined units (λ u. back_at s f q u))

abbrev pub templates_at : List ℕ → Frame → List ℕ
templates_at s f = written template_bytes (map template_of (triples_at s f))

abbrev pub frame_of : List ℕ → Frame
frame_of s = record { triples = last_at transition_form s; count = last_in s; condition = conditions_in s; action = actions_in s }

-- An accepted sheet, with its header and where its parts stand.
pub record Prepared (s : List ℕ) (h : Header) (f : Frame) (transitions : ℕ) : Type 0 where
  pub accepted : reading sheet_layout s ≡ 0
  pub header : h ≡ header_of s
  pub frame : f ≡ frame_of s
  pub from : transitions ≡ transitions_at s

unfoldable pub tables_at : List ℕ → Header → Frame → ℕ → List ℕ
tables_at s h f transitions =
    let conditions = after word_form h.monitors s 14 in
    let actions = after (text_form false) h.conditions s conditions in
    written word_bytes (table word_form h.monitors s 14)
    ++ (texts_at false s conditions h.conditions
    ++ 1 ∷ 0 ∷ (texts_at false s actions h.actions
    ++ 0 ∷ (copied_bytes s f transitions h.transitions
    ++ (written paired_bytes (added_at s f h.states h.units)
    ++ templates_at s f))))

pub record WritesTables (s : List ℕ) (h : Header) (f : Frame) (transitions : ℕ) (o p : List ℕ) (at : ℕ) (r : Spot) : Type 0 where
  pub writes : Writes o p at (tables_at s h f transitions) r.at
  pub added : r.added ≡ length (added_at s f h.states h.units)

-- the header of a network of this size and version
abbrev pub header_at : Header → ℕ → ℕ → List ℕ
header_at h size version =
    half_bytes size ++ version ∷ h.states ∷ h.units ∷ h.programs ∷ h.monitors ∷ h.start ∷ (half_bytes h.bad ++ h.conditions ∷ h.actions ∷ h.transitions ∷ h.last ∷ [])

-- how long the network is, and how many transitions are added
pub record Measures (s : List ℕ) (r : Spot) : Type 0 where
  pub size : r.at ≡ length (network_bytes s)
  pub added : r.added ≡ length (added (sheet_of s))
