-- What is prepared of a sheet or a network: a list of words that holds what an event asks for where it asks for it.
use Rattle.std.specs.Prelude.{cond, List, ℕ, ◌+◌, ◌*◌, ◌%◌, eqb, ltb, get_or}

abbrev pub plan_size : ℕ
plan_size = 2344

-- the number of no transition and of no candidate
abbrev pub absent : ℕ
absent = 1000

abbrev pub units_in : List ℕ → ℕ
units_in p = get_or p 0 0

abbrev pub programs_in : List ℕ → ℕ
programs_in p = get_or p 1 0

abbrev pub monitors_in : List ℕ → ℕ
monitors_in p = get_or p 2 0

abbrev pub bad_in : List ℕ → ℕ
bad_in p = get_or p 3 0

-- 0 where the candidates are triples, found by their state and unit; else they are pairs, found by their transition
abbrev pub paired_in : List ℕ → ℕ
paired_in p = get_or p 4 0

-- where the triples or templates begin
abbrev pub last_in : List ℕ → ℕ
last_in p = get_or p 5 0

-- a state and a unit, and with them a kind
abbrev pub cell_of : ℕ → ℕ → ℕ
cell_of main unit = (16 * main + unit) % 256

abbrev pub key_of : ℕ → ℕ → ℕ → ℕ
key_of main unit kind = (2 * cell_of main unit + kind) % 512

-- the first transition of a key, and of each transition where its condition and its action stand, the state it leads to, and how many others stand before the
-- next of its key
abbrev pub first_of : List ℕ → ℕ → ℕ
first_of p key = get_or p (8 + key) 0

abbrev pub guard_of : List ℕ → ℕ → ℕ
guard_of p t = get_or p (552 + 4 * t) 0

abbrev pub action_of : List ℕ → ℕ → ℕ
action_of p t = get_or p (553 + 4 * t) 0

abbrev pub target_of : List ℕ → ℕ → ℕ
target_of p t = get_or p (554 + 4 * t) 0

abbrev pub gap_of : List ℕ → ℕ → ℕ
gap_of p t = get_or p (555 + 4 * t) 0

-- the first candidate of a cell or of a transition, and of each candidate where its condition stands, its number, and how many others stand before the next that
-- is asked with it
abbrev pub candidate_of : List ℕ → ℕ → ℕ → ℕ
candidate_of p cell t = get_or p (936 + cond (eqb (paired_in p) 0) cell t) 0

abbrev pub asked_of : List ℕ → ℕ → ℕ
asked_of p i = get_or p (1192 + 3 * i) 0

abbrev pub number_of : List ℕ → ℕ → ℕ
number_of p i = get_or p (1193 + 3 * i) 0

abbrev pub behind_of : List ℕ → ℕ → ℕ
behind_of p i = get_or p (1194 + 3 * i) 0

-- where the postcondition of a number stands
abbrev pub post_of : List ℕ → ℕ → ℕ
post_of p n = cond (ltb n 32) (get_or p (520 + n) 0) 0
