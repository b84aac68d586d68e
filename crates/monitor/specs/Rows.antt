-- The starred rows of document 01 on sheet A's logs, as rows under one claim about what running a log answers, and one about what it counts.
use Rattle.std.specs.Prelude.{◌≡◌, List, [], ◌∷◌, ◌++◌, map, ℕ, ◌+◌, length, replicate}
use Rattle.std.proofs.Math.Option.{none, some}
use Rattle.sheet.specs.Reading.{reading, sheet_layout}
use Rattle.sheet.specs.Rows.{sheet_a, built, head, four, negated, longest_condition}
use Rattle.step.specs.Answers.{Ending, violated, clean, refused_at}
use Rattle.monitor.specs.Answers.{run_of, count_of, run_count_of}
use Rattle.monitor.specs.Padded.{fresh_of}

-- records of sheet A's log: phases declared and phases loaded
abbrev pub number : ℕ → List ℕ
number n = 0 ∷ 0 ∷ 0 ∷ n ∷ []

abbrev pub entry : ℕ → ℕ → ℕ → List ℕ
entry call declared loaded = 0 ∷ 0 ∷ 0 ∷ call ∷ (number declared ++ number loaded)

abbrev pub exit : ℕ → ℕ → ℕ → List ℕ
exit call declared loaded = 1 ∷ 0 ∷ 0 ∷ call ∷ (number declared ++ number loaded)

-- a log of two program variables
abbrev pub log : List ℕ → List ℕ
log records = 0 ∷ 0 ∷ 0 ∷ (6 + length records) ∷ 1 ∷ 2 ∷ records

pub record Row : Type 0 where
  pub records : List ℕ
  pub expected : Ending
  pub counted : ℕ

-- "* the log above; * exit values 8, 8: clean 2 state 0 open 0; * exit values 7, 7: violated 2", and so on
abbrev pub rows : List Row
rows =
    record { records = entry 7 8 0 ++ exit 7 8 7; expected = violated 2 none (some 0) 1; counted = 6 }
    ∷ record { records = entry 7 8 0 ++ exit 7 8 8; expected = clean 2 0 0; counted = 6 }
    ∷ record { records = entry 7 8 0 ++ exit 7 7 7; expected = violated 2 none (some 0) 1; counted = 6 }
    ∷ record { records = []; expected = clean 0 0 0; counted = 0 }
    ∷ record { records = entry 7 8 0; expected = clean 1 1 1; counted = 2 }
    ∷ record { records = entry 7 8 0 ++ (entry 9 3 0 ++ (exit 9 3 0 ++ exit 7 8 8)); expected = clean 4 0 0; counted = 6 }
    ∷ record { records = exit 9 0 0; expected = refused_at 15 1; counted = 0 }
    ∷ record { records = entry 7 8 0 ++ entry 7 8 0; expected = refused_at 13 2; counted = 2 }
    ∷ []

abbrev pub Rows : Type 0
Rows = map (λ (r : Row). run_of sheet_a (log r.records)) rows ≡ map (λ (r : Row). r.expected) rows

-- What running them counts: an entry tries the first transition's `true` and asks the precondition `true`; an exit tries the second's and judges the three of
-- the postcondition; what finds no transition of its state tries none; a refused event counts 0.
abbrev pub CountedRows : Type 0
CountedRows = map (λ (r : Row). run_count_of sheet_a (log r.records)) rows ≡ map (λ (r : Row). r.counted) rows

-- How near an event comes to 4,416: 64 transitions with conditions of 64 bytes, of which all are tried and the last is taken, an action of 64 bytes, in which a
-- target, the number of the variable read and the branch passed over are not counted, and four preconditions of 64.
abbrev pub holding : List ℕ
holding = replicate 60 1 ++ 3 ∷ 1 ∷ 0 ∷ 0 ∷ []

abbrev pub choosing : List ℕ
choosing = 0 ∷ 22 ∷ (negated 57 ++ 18 ∷ 0 ∷ 18 ∷ 0 ∷ [])

abbrev pub fullest : List ℕ
fullest = built (head 1 1) (replicate 4 0) (longest_condition ∷ holding ∷ []) (choosing ∷ []) (replicate 63 (replicate 6 0) ++ (0 ∷ 0 ∷ 0 ∷ 1 ∷ 0 ∷ 0 ∷ []) ∷ []) (four 0)

abbrev pub Fullest : Type 0
Fullest = (reading sheet_layout fullest ≡ 0) × (count_of fullest (fresh_of fullest) (record { kind = 0; unit = 0; number = 7; values = 0 ∷ [] }) ≡ 4412)
