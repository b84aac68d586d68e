-- The starred rows of document 01 as the program prints them, "Output, whole".
use Rattle.std.specs.Prelude.{◌≡◌, List, [], ◌∷◌, ◌++◌, map, ℕ}
use Rattle.sheet.specs.Rows.{sheet_a}
use Rattle.monitor.specs.Rows.{entry, exit, log}
use Rattle.lines.specs.Lines.{lines_of}

-- the records behind sheet A, and a line in ASCII, without its end
pub record Row : Type 0 where
  pub records : List ℕ
  pub line : List ℕ

abbrev pub rows : List Row
rows =
    -- violated 2 state - triple 0 entry 1
    record { records = entry 7 8 0 ++ exit 7 8 7; line = 118 ∷ 105 ∷ 111 ∷ 108 ∷ 97 ∷ 116 ∷ 101 ∷ 100 ∷ 32 ∷ 50 ∷ 32 ∷ 115 ∷ 116 ∷ 97 ∷ 116 ∷ 101 ∷ 32 ∷ 45 ∷ 32 ∷ 116 ∷ 114 ∷ 105 ∷ 112 ∷ 108 ∷ 101 ∷ 32 ∷ 48 ∷ 32 ∷ 101 ∷ 110 ∷ 116 ∷ 114 ∷ 121 ∷ 32 ∷ 49 ∷ [] }
    -- clean 2 state 0 open 0
    ∷ record { records = entry 7 8 0 ++ exit 7 8 8; line = 99 ∷ 108 ∷ 101 ∷ 97 ∷ 110 ∷ 32 ∷ 50 ∷ 32 ∷ 115 ∷ 116 ∷ 97 ∷ 116 ∷ 101 ∷ 32 ∷ 48 ∷ 32 ∷ 111 ∷ 112 ∷ 101 ∷ 110 ∷ 32 ∷ 48 ∷ [] }
    -- violated 2 state - triple 0 entry 1
    ∷ record { records = entry 7 8 0 ++ exit 7 7 7; line = 118 ∷ 105 ∷ 111 ∷ 108 ∷ 97 ∷ 116 ∷ 101 ∷ 100 ∷ 32 ∷ 50 ∷ 32 ∷ 115 ∷ 116 ∷ 97 ∷ 116 ∷ 101 ∷ 32 ∷ 45 ∷ 32 ∷ 116 ∷ 114 ∷ 105 ∷ 112 ∷ 108 ∷ 101 ∷ 32 ∷ 48 ∷ 32 ∷ 101 ∷ 110 ∷ 116 ∷ 114 ∷ 121 ∷ 32 ∷ 49 ∷ [] }
    -- clean 0 state 0 open 0
    ∷ record { records = []; line = 99 ∷ 108 ∷ 101 ∷ 97 ∷ 110 ∷ 32 ∷ 48 ∷ 32 ∷ 115 ∷ 116 ∷ 97 ∷ 116 ∷ 101 ∷ 32 ∷ 48 ∷ 32 ∷ 111 ∷ 112 ∷ 101 ∷ 110 ∷ 32 ∷ 48 ∷ [] }
    -- clean 1 state 1 open 1
    ∷ record { records = entry 7 8 0; line = 99 ∷ 108 ∷ 101 ∷ 97 ∷ 110 ∷ 32 ∷ 49 ∷ 32 ∷ 115 ∷ 116 ∷ 97 ∷ 116 ∷ 101 ∷ 32 ∷ 49 ∷ 32 ∷ 111 ∷ 112 ∷ 101 ∷ 110 ∷ 32 ∷ 49 ∷ [] }
    -- clean 4 state 0 open 0
    ∷ record { records = entry 7 8 0 ++ (entry 9 3 0 ++ (exit 9 3 0 ++ exit 7 8 8)); line = 99 ∷ 108 ∷ 101 ∷ 97 ∷ 110 ∷ 32 ∷ 52 ∷ 32 ∷ 115 ∷ 116 ∷ 97 ∷ 116 ∷ 101 ∷ 32 ∷ 48 ∷ 32 ∷ 111 ∷ 112 ∷ 101 ∷ 110 ∷ 32 ∷ 48 ∷ [] }
    -- refused 15 at 1
    ∷ record { records = exit 9 0 0; line = 114 ∷ 101 ∷ 102 ∷ 117 ∷ 115 ∷ 101 ∷ 100 ∷ 32 ∷ 49 ∷ 53 ∷ 32 ∷ 97 ∷ 116 ∷ 32 ∷ 49 ∷ [] }
    -- refused 13 at 2
    ∷ record { records = entry 7 8 0 ++ entry 7 8 0; line = 114 ∷ 101 ∷ 102 ∷ 117 ∷ 115 ∷ 101 ∷ 100 ∷ 32 ∷ 49 ∷ 51 ∷ 32 ∷ 97 ∷ 116 ∷ 32 ∷ 50 ∷ [] }
    ∷ []

-- the line twice
abbrev pub whole : List ℕ → List ℕ
whole l = l ++ (10 ∷ (l ++ 10 ∷ []))

abbrev pub Rows : Type 0
Rows = map (λ (r : Row). lines_of (sheet_a ++ log r.records)) rows ≡ map (λ (r : Row). whole r.line) rows
