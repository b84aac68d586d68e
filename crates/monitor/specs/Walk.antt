-- What the tests of a state read of a sheet.
use Rattle.std.specs.Prelude.{List, ℕ, ◌+◌, ◌*◌, drop}
use Rattle.sheet.specs.declared.Triple.{Triple}
use Rattle.sheet.specs.Decode.{transition_form, triple_form, last_at}
use Rattle.sheet.specs.Answer.{header_of}
use Rattle.monitor.specs.declared.sound.Tables.{Tables}

-- the numbers of the header, and where the triples begin
abbrev pub tables_of : List ℕ → Tables
tables_of s = record { header = header_of s; triples = last_at transition_form s }

-- a triple by its number, from the place of the first
abbrev pub triple_at : List ℕ → ℕ → ℕ → Triple
triple_at s at i = triple_form.value (drop (at + 4 * i) s)
