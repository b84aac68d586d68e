-- The answers of the crate's operations: the paper's numbers and values for each case.
use Rattle.std.specs.Prelude.{false, List, ℕ, zero, suc, Result, Ok, Err}
use Rattle.refusal.specs.declared.Refusal.{Refusal}
use Rattle.refusal.specs.Numbers.{number_of}
use Rattle.sheet.specs.declared.Header.{Header}
use Rattle.sheet.specs.declared.Places.{Places}
use Rattle.sheet.specs.declared.Record.{Record}
use Rattle.sheet.specs.Bytes.{byte, half}
use Rattle.sheet.specs.Table.{starts, fit}
use Rattle.sheet.specs.Decode.{wide, text_form, conditions_in, actions_in, transitions_in, last_in, conditions_at, actions_at, transitions_at, last_at}
use Rattle.sheet.specs.Reading.{Layout}

-- The paper's words for what reading answers: "accepted, or the first that applies"; of a log, with how many records there are.
pub data Read (A : Type 0) : Type 0 where
  accepted : A → Read A
  refused : ℕ → Read A

abbrev pub reading_paper : Result (Unit {0}) Refusal → Read (Unit {0})
reading_paper (Ok done) = accepted tt
reading_paper (Err r) = refused (number_of r)

abbrev pub log_paper : Result ℕ Refusal → Read ℕ
log_paper (Ok n) = accepted n
log_paper (Err r) = refused (number_of r)

-- by the number of the refusal; 0 stands for none
abbrev pub read_of : {A : Type 0} → ℕ → A → Read A
read_of zero a = accepted a
read_of (suc n) a = refused (suc n)

abbrev pub answer : ℕ → Read (Unit {0})
answer n = read_of n tt

-- "3: states Q .. 13: triples"
abbrev pub header_of : List ℕ → Header
header_of s =
    record {
      states = byte s 3;
      units = byte s 4;
      programs = byte s 5;
      monitors = byte s 6;
      start = byte s 7;
      bad = half s 8;
      conditions = conditions_in s;
      actions = actions_in s;
      transitions = transitions_in s;
      last = last_in s;
    }

-- where each condition and action begins, as many as the index has room for, and where the transitions and the last table begin
abbrev pub places_of : {T R : Type 0} → Layout T R → List ℕ → Places
places_of F s =
    record {
      conditions = fit 161 0 (starts (text_form (wide s)) (conditions_in s) s (conditions_at s));
      actions = fit 161 0 (starts (text_form false) (actions_in s) s (actions_at s));
      transitions = transitions_at s;
      last = last_at F.transition s;
    }

-- "records: kind, unit, call number (two bytes)"
abbrev pub record_of : List ℕ → Record
record_of s = record { kind = byte s 0; unit = byte s 1; number = half s 2 }
