-- Answers as text, in ASCII (document 01, "The program and a sample").
use Rattle.std.specs.Prelude.{cond, List, [], ◌∷◌, ◌++◌, ℕ, zero, suc, ◌+◌, ◌/◌, ◌%◌, ltb}
use Rattle.std.proofs.Math.Option.{Option, none, some}
use Rattle.step.specs.Answers.{Ending, violated, clean, refused, refused_at}

-- A number in decimal, without zeros in front: its last digit behind the rest. The first argument bounds how many digits there can be.
abbrev pub digit : ℕ → ℕ
digit d = 48 + d

unfoldable pub decimal_from : ℕ → ℕ → List ℕ
decimal_from zero n = []
decimal_from (suc f) n = cond (ltb n 10) (digit n ∷ []) (decimal_from f (n / 10) ++ digit (n % 10) ∷ [])

unfoldable pub decimal : ℕ → List ℕ
decimal n = decimal_from (suc n) n

-- "`-` for none"
abbrev pub or_dash : Option ℕ → List ℕ
or_dash none = 45 ∷ []
or_dash (some n) = decimal n

-- document 02, request 4: "with `-` where no triple failed"
abbrev pub entry_or_dash : Option ℕ → ℕ → List ℕ
entry_or_dash none entry = 45 ∷ []
entry_or_dash (some t) entry = decimal entry

-- "violated ", "clean ", "refused "
abbrev pub violated_text : List ℕ
violated_text = 118 ∷ 105 ∷ 111 ∷ 108 ∷ 97 ∷ 116 ∷ 101 ∷ 100 ∷ 32 ∷ []

abbrev pub clean_text : List ℕ
clean_text = 99 ∷ 108 ∷ 101 ∷ 97 ∷ 110 ∷ 32 ∷ []

abbrev pub refused_text : List ℕ
refused_text = 114 ∷ 101 ∷ 102 ∷ 117 ∷ 115 ∷ 101 ∷ 100 ∷ 32 ∷ []

-- " state ", " triple ", " entry ", " open ", " at "
abbrev pub state_text : List ℕ
state_text = 32 ∷ 115 ∷ 116 ∷ 97 ∷ 116 ∷ 101 ∷ 32 ∷ []

abbrev pub triple_text : List ℕ
triple_text = 32 ∷ 116 ∷ 114 ∷ 105 ∷ 112 ∷ 108 ∷ 101 ∷ 32 ∷ []

abbrev pub entry_text : List ℕ
entry_text = 32 ∷ 101 ∷ 110 ∷ 116 ∷ 114 ∷ 121 ∷ 32 ∷ []

abbrev pub open_text : List ℕ
open_text = 32 ∷ 111 ∷ 112 ∷ 101 ∷ 110 ∷ 32 ∷ []

abbrev pub at_text : List ℕ
at_text = 32 ∷ 97 ∷ 116 ∷ 32 ∷ []

abbrev pub newline : List ℕ
newline = 10 ∷ []

-- "too long", and the end of the line
abbrev pub too_long : List ℕ
too_long = 116 ∷ 111 ∷ 111 ∷ 32 ∷ 108 ∷ 111 ∷ 110 ∷ 103 ∷ 10 ∷ []

-- "`violated N state S triple T` (position; `-` for none)", and behind it, by request 4, "` entry E`"; "`clean N state S open K` (events, main state, open calls), `refused N`, or `refused N at R`"
unfoldable pub line : Ending → List ℕ
line (violated n q t m) = violated_text ++ (decimal n ++ (state_text ++ (or_dash q ++ (triple_text ++ (or_dash t ++ (entry_text ++ (entry_or_dash t m ++ newline)))))))
line (clean n q k) = clean_text ++ (decimal n ++ (state_text ++ (decimal q ++ (open_text ++ (decimal k ++ newline)))))
line (refused n) = refused_text ++ (decimal n ++ newline)
line (refused_at n r) = refused_text ++ (decimal n ++ (at_text ++ (decimal r ++ newline)))
