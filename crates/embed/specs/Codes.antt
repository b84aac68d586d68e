-- Answers as numbers, for callers in other languages.
use Rattle.std.proofs.Math.Option.{Option, none, some}
use Rattle.std.specs.Prelude.{ℕ}
use Rattle.step.specs.Answers.{Ending, violated, clean, refused, refused_at}
use Rattle.translation.specs.Answer as writing
use Rattle.translation.specs.Answer.{Writing}

-- a state or a triple, which has at most 8 bits; 256 where there is none
abbrev pub or_none : Option ℕ → ℕ
or_none none = 256
or_none (some n) = n

-- What running a log answers: 0 clean, 1 violated, 2 refused, 3 an event refused.
abbrev pub code_of : Ending → ℕ
code_of (clean n q k) = 0
code_of (violated n q t m) = 1
code_of (refused n) = 2
code_of (refused_at n r) = 3

-- "violated N state S triple T entry E" (position; 0 where no triple failed), "clean N state S open K" (events, main state, open calls), "refused N", "refused N at R" (record, from 1): the numbers from left to right, 0 behind the last
abbrev pub first_of : Ending → ℕ
first_of (clean n q k) = n
first_of (violated n q t m) = n
first_of (refused n) = n
first_of (refused_at n r) = n

abbrev pub second_of : Ending → ℕ
second_of (clean n q k) = q
second_of (violated n q t m) = or_none q
second_of (refused n) = 0
second_of (refused_at n r) = r

abbrev pub third_of : Ending → ℕ
third_of (clean n q k) = k
third_of (violated n q t m) = or_none t
third_of (refused n) = 0
third_of (refused_at n r) = 0

abbrev pub fourth_of : Ending → ℕ
fourth_of (clean n q k) = 0
fourth_of (violated n q t m) = m
fourth_of (refused n) = 0
fourth_of (refused_at n r) = 0

-- What translating answers: the refusal's number, or 0 where the network was written.
abbrev pub refusal_of : Writing → ℕ
refusal_of (writing.written n) = 0
refusal_of (writing.refused n) = n

-- how many bytes the network has, or what stood there
abbrev pub size_of : Writing → ℕ → ℕ
size_of (writing.written n) old = n
size_of (writing.refused n) old = old
