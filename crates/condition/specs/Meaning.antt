-- What conditions, values and actions mean (document 01, "Conditions and values"; source document 000, definition 19).
use Rattle.std.specs.Prelude.{ℕ, Bool, true, cond, not, ◌&&◌, ◌||◌, List, [], ◌∷◌, length, slice_index, slice_set}
use Rattle.condition.specs.Word.{plus_word, minus_word, less_word, equal_word, within_word, big_endian}
use Rattle.condition.specs.Tree.{Variable, program, monitor, at_entry, Condition, always, negation, both, either, less, equal, within, Value, constant, variable, plus, minus, choose, Assignment}
use Rattle.condition.specs.declared.Lent.{Lent}

-- The lent values, as words: present program values, monitor variables, program values kept at entry.
pub record Environment : Type 0 where
  pub programs : List ℕ
  pub monitors : List ℕ
  pub kept : List ℕ

abbrev pub environment : List ℕ → List ℕ → List ℕ → Environment
environment programs monitors kept = record { programs = programs; monitors = monitors; kept = kept }

abbrev pub lent : Environment → Lent
lent E = record { programs = length E.programs; monitors = length E.monitors; kept = length E.kept }

unfoldable pub value_of : Variable → Environment → ℕ
value_of (program i) E = slice_index E.programs i
value_of (monitor i) E = slice_index E.monitors i
value_of (at_entry i) E = slice_index E.kept i

unfoldable mutual
  pub holds : Condition → Environment → Bool
  holds always E = true
  holds (negation c) E = not (holds c E)
  holds (both c d) E = holds c E && holds d E
  holds (either c d) E = holds c E || holds d E
  holds (less e f) E = less_word (word e E) (word f E)
  holds (equal e f) E = equal_word (word e E) (word f E)
  holds (within e f g) E = within_word (word e E) (word f E) (word g E)

  pub word : Value → Environment → ℕ
  word (constant a b c d) E = big_endian a b c d
  word (variable v) E = value_of v E
  word (plus e f) E = plus_word (word e E) (word f E)
  word (minus e f) E = minus_word (word e E) (word f E)
  word (choose c e f) E = cond (holds c E) (word e E) (word f E)

-- one assignment carried out
unfoldable pub assigned : Assignment → Environment → Environment
assigned a E = record { programs = E.programs; monitors = slice_set E.monitors a.target (word a.source E); kept = E.kept }

-- "carried out in order; later ones see earlier ones": the monitor variables afterwards
unfoldable pub performed : List Assignment → Environment → List ℕ
performed [] E = E.monitors
performed (a ∷ more) E = performed more (assigned a E)
