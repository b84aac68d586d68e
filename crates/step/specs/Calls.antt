-- Open calls, and which events are refused (document 01, "One event", "What each operation turns away").
use Rattle.std.specs.Prelude.{Bool, not, cond, ◌&&◌, List, [], ◌∷◌, ℕ, leb, ltb, eqb, length}
use Rattle.std.proofs.Math.Option.{Option, none, some}
use Rattle.sheet.specs.Table.{every}
use Rattle.sheet.specs.Parts.{Common}
use Rattle.sheet.specs.declared.Record.{Record}
use Rattle.sheet.specs.Log.{Event}
use Rattle.step.specs.Lists.{first, any, rising}

-- "A call is open from entry to exit": its number, its unit, and the values kept at entry; document 02, request 4: "Each open call shall remember its entry's
-- position"
pub record Call : Type 0 where
  pub number : ℕ
  pub unit : ℕ
  pub entry : ℕ
  pub kept : List ℕ

abbrev pub is_entry : Event → Bool
is_entry e = eqb e.kind 0

abbrev pub is_exit : Event → Bool
is_exit e = eqb e.kind 1

-- the number is open, the number is open for the unit
abbrev pub open_number : ℕ → List Call → Bool
open_number n calls = any (λ c. eqb c.number n) calls

abbrev pub open_for : Event → List Call → Bool
open_for e calls = any (λ c. eqb c.number e.number && eqb c.unit e.unit) calls

-- "At most 16 calls are open."
abbrev pub most_calls : ℕ
most_calls = 16

-- the position of the entry of the open call of a number; 0 where there is none
abbrev pub entry_in : Option Call → ℕ
entry_in none = 0
entry_in (some c) = c.entry

abbrev pub entry_for : ℕ → List Call → ℕ
entry_for n calls = entry_in (first (λ c. eqb c.number n) calls)

-- What 9 also covers of the positions of the calls' entries, by request 4: "a call's entry position that is 0", "above the state's", "or not rising along the calls"
abbrev pub none_zero : List ℕ → Bool
none_zero entries = every (λ n. leb 1 n) entries

abbrev pub none_above : ℕ → List ℕ → Bool
none_above position entries = every (λ n. leb n position) entries

abbrev pub entries_sound : ℕ → List ℕ → Bool
entries_sound position entries = (none_zero entries && none_above position entries) && rising entries

-- "program variables P, 0-8": an event has so many values, and a call keeps as many
abbrev pub most_values : ℕ
most_values = 8

-- "at most four armed triples"; for a network "at most four a call"
abbrev pub most_armed : ℕ
most_armed = 4

abbrev pub last_position : ℕ
last_position = 4294967295

pub record Refusal : Type 0 where
  pub applies : Bool
  pub number : ℕ

-- "10: it has a verdict; 11: kind over 1, unit not below U, or not P values; 12: position is 4,294,967,295; 13: entry, number open; 14: entry,
-- 16 open; 15: exit, number not open or open for another unit"
unfoldable pub refusals : Common → Bool → ℕ → List Call → Event → List Refusal
refusals C judged position calls e =
    record { applies = judged; number = 10 }
    ∷ record { applies = not (leb e.kind 1 && (ltb e.unit C.units && eqb (length e.values) C.programs)); number = 11 }
    ∷ record { applies = eqb position last_position; number = 12 }
    ∷ record { applies = is_entry e && open_number e.number calls; number = 13 }
    ∷ record { applies = is_entry e && leb most_calls (length calls); number = 14 }
    ∷ record { applies = is_exit e && not (open_for e calls); number = 15 }
    ∷ []

-- "refused with the lowest"; 0 for none
unfoldable pub lowest : List Refusal → ℕ
lowest [] = 0
lowest (r ∷ l) = cond r.applies r.number (lowest l)

-- an event as its record and its values
abbrev pub event_of : Record → List ℕ → Event
event_of r values = record { kind = r.kind; unit = r.unit; number = r.number; values = values }
