-- Calls put into a row of words and taken out of it.
use Rattle.std.specs.Prelude.{cond, List, ◌∷◌, ◌++◌, map, ℕ, ◌*◌, ◌%◌, ltb, length, get_or, take, drop, replicate}
use Rattle.std.proofs.lemmas.List.Edits.{sets}
use Rattle.sheet.specs.Table.{fit}
use Rattle.step.specs.declared.Call.{Call}
use Rattle.step.specs.Calls.{most_calls, most_values, most_armed}
use Rattle.step.specs.Padding.{zero_call}
use Rattle.engine.specs.declared.pack.Arms.{Arms}

-- the sixteen words of a call and of what is armed for it (Walk.entries)
abbrev pub words_of : Call → Arms → List ℕ
words_of c a = c.number ∷ c.unit ∷ a.count ∷ (a.numbers ++ c.entry ∷ c.kept)

unfoldable pub put_at : List ℕ → ℕ → Call → Arms → List ℕ
put_at row i c a = cond (ltb i most_calls) (sets row (16 * i) (words_of c a)) row

-- a call by its words, with as many values as are wanted, and what is armed for it
abbrev pub call_in : ℕ → List ℕ → Call
call_in programs w = record { number = get_or w 0 0 % 65536; unit = get_or w 1 0 % 256; entry = get_or w 7 0; kept = fit most_values 0 (take programs (take most_values (drop 8 w))) }

abbrev pub arms_in : List ℕ → Arms
arms_in w = let l = take (get_or w 2 0) (take most_armed (drop 3 w)) in record { count = length l; numbers = fit most_armed 0 (map (λ n. n % 256) l) }

unfoldable pub call_at : List ℕ → ℕ → ℕ → Call
call_at row i programs = cond (ltb i most_calls) (call_in programs (drop (16 * i) row)) zero_call

unfoldable pub arms_at : List ℕ → ℕ → Arms
arms_at row i = cond (ltb i most_calls) (arms_in (drop (16 * i) row)) (record { count = 0; numbers = replicate most_armed 0 })
