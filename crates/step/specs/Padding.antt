-- Calls as the operations hold them: arrays with zeros behind what is there.
use Rattle.std.specs.Prelude.{Bool, ◌&&◌, List, ℕ, eqb, length, take, drop, replicate}
use Rattle.sheet.specs.Table.{every, fit}
use Rattle.step.specs.declared.Call.{Call}
use Rattle.step.specs.Calls as Calls
use Rattle.step.specs.Calls.{most_values}

abbrev pub zero_call : Call
zero_call = record { number = 0; unit = 0; entry = 0; kept = replicate most_values 0 }

abbrev pub pad_call : Calls.Call → Call
pad_call c = record { number = c.number; unit = c.unit; entry = c.entry; kept = fit most_values 0 c.kept }

-- a call without its padding
abbrev pub unpad : ℕ → Call → Calls.Call
unpad programs c = record { number = c.number; unit = c.unit; entry = c.entry; kept = take programs c.kept }

-- zeros from a place on
unfoldable pub clear : ℕ → List ℕ → Bool
clear n l = every (λ x. eqb x 0) (drop n l)

-- zeros from a place on, in an array of so many places: the type of the code has that length, a list does not know it
abbrev pub padded : ℕ → ℕ → List ℕ → Bool
padded size n l = eqb (length l) size && clear n l

abbrev pub is_zero_call : Call → Bool
is_zero_call c = eqb c.number 0 && (eqb c.unit 0 && (eqb c.entry 0 && clear 0 c.kept))
