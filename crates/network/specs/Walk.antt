-- What the tests of a state read of a network.
use Rattle.std.specs.Prelude.{Bool, ◌&&◌, List, ℕ, ◌+◌, ◌*◌, eqb, ltb, drop}
use Rattle.sheet.specs.declared.Template.{Template}
use Rattle.sheet.specs.Decode.{paired_form, template_form, last_at}
use Rattle.sheet.specs.Answer.{header_of}
use Rattle.step.specs.declared.Call.{Call}
use Rattle.step.specs.Lists.{any}
use Rattle.network.specs.declared.Checker.{Checker}
use Rattle.network.specs.declared.sound.Tables.{Tables}

-- the numbers of the header, and where the templates begin
abbrev pub tables_of : List ℕ → Tables
tables_of s = record { header = header_of s; templates = last_at paired_form s }

-- a template by its number, from the place of the first
abbrev pub template_at : List ℕ → ℕ → ℕ → Template
template_at s at i = template_form.value (drop (at + 2 * i) s)

-- a checker on an open call of its template's unit
abbrev pub on_call_at : List ℕ → ℕ → ℕ → List Call → Checker → Bool
on_call_at s at n calls h = ltb h.template n && any (λ (c : Call). eqb c.number h.number && eqb c.unit (template_at s at h.template).unit) calls

-- a checker that carries the position of its call's entry
abbrev pub carried_in : List Call → Checker → Bool
carried_in calls h = any (λ (c : Call). eqb c.number h.number && eqb c.entry h.entry) calls
