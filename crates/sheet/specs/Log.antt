-- Logs (document 01, "What each operation turns away"): "A log is four bytes of length, version byte 1, P, then records: kind, unit, call number (two bytes),
-- P values."
use Rattle.std.specs.Prelude.{◌&&◌, List, ℕ, ◌+◌, ◌-◌, ◌*◌, ◌/◌, ◌%◌, leb, eqb, length, drop}
use Rattle.sheet.specs.Bytes.{byte, half, word}
use Rattle.sheet.specs.Table.{Form, records}
use Rattle.sheet.specs.Decode.{word_form}
use Rattle.sheet.specs.Reading.{unless}

-- "An event has a kind, a unit, a 16-bit call number and P signed 32-bit values."
pub record Event : Type 0 where
  pub kind : ℕ
  pub unit : ℕ
  pub number : ℕ
  pub values : List ℕ

abbrev pub record_size : ℕ → ℕ
record_size P = 4 + 4 * P

abbrev pub event_form : ℕ → Form Event
event_form P = record { value = λ s. record { kind = byte s 0; unit = byte s 1; number = half s 2; values = records word_form P (drop 4 s) }; size = λ s. record_size P }

-- "16: under 6 bytes, length not the slice's, or version not 1; 17: another P; 18: records don't fill it"
unfoldable pub log_reading : ℕ → List ℕ → ℕ
log_reading P s =
    unless (leb 6 (length s) && (eqb (word s 0) (length s) && eqb (byte s 4) 1)) 16
    (unless (eqb (byte s 5) P) 17
    (unless (eqb ((length s - 6) % record_size P) 0) 18 0))

-- how many records there are, and the events that they stand for
unfoldable pub records_in : ℕ → List ℕ → ℕ
records_in P s = (length s - 6) / record_size P

unfoldable pub events_of : ℕ → List ℕ → List Event
events_of P s = records (event_form P) (records_in P s) (drop 6 s)
