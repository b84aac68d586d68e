-- Refusals 1-8 at the edges of their circumstances, as rows under one claim about the definitions, with document 01's sheet A and its networks.
use Rattle.std.specs.Prelude.{◌≡◌, true, false, List, [], ◌∷◌, ◌++◌, map, ℕ, zero, suc, ◌+◌, ◌*◌, eqb, length, take, set, replicate}
use Rattle.sheet.specs.Bytes.{byte}
use Rattle.sheet.specs.Decode.{network_of}
use Rattle.sheet.specs.Reading.{reading, sheet_layout, network_layout}
use Rattle.sheet.specs.Encode.{half_bytes, text_bytes, written, encode}

-- Sheets or networks that are accepted, and some that are refused with a number.
pub data Row : Type 0 where
  sheet : List (List ℕ) → ℕ → List (List ℕ) → Row
  network : List (List ℕ) → ℕ → List (List ℕ) → Row

-- what reading answers for all of them, and what it should answer
abbrev pub answered : Row → List ℕ
answered (sheet l n m) = map (reading sheet_layout) (l ++ m)
answered (network l n m) = map (reading network_layout) (l ++ m)

abbrev pub expected : Row → List ℕ
expected (sheet l n m) = replicate (length l) 0 ++ replicate (length m) n
expected (network l n m) = replicate (length l) 0 ++ replicate (length m) n

-- "Sheet A, 39 bytes", and "A's network, 53 bytes"
abbrev pub sheet_a : List ℕ
sheet_a =
    0x00 ∷ 0x27 ∷ 0x01 ∷ 0x02 ∷ 0x01 ∷ 0x02 ∷ 0x00 ∷ 0x00 ∷ 0x00 ∷ 0x00 ∷ 0x02 ∷ 0x01 ∷ 0x02 ∷ 0x01 ∷ 0x01 ∷ 0x00 ∷ 0x05 ∷ 0x05 ∷ 0x11 ∷ 0x01 ∷ 0x13 ∷ 0x00 ∷ 0x00 ∷ 0x00 ∷ 0x00 ∷ 0x00 ∷ 0x00 ∷ 0x00 ∷ 0x01 ∷ 0x01 ∷ 0x01 ∷ 0x00 ∷ 0x00 ∷ 0x00 ∷ 0x00 ∷ 0x00 ∷ 0x00 ∷ 0x00 ∷ 0x01 ∷ []

abbrev pub network_a : List ℕ
network_a =
    0x00 ∷ 0x35 ∷ 0x02 ∷ 0x02 ∷ 0x01 ∷ 0x02 ∷ 0x00 ∷ 0x00 ∷ 0x00 ∷ 0x00 ∷ 0x03 ∷ 0x02 ∷ 0x03 ∷ 0x01 ∷ 0x01 ∷ 0x00 ∷ 0x05 ∷ 0x05 ∷ 0x11 ∷ 0x01 ∷ 0x13 ∷ 0x00 ∷ 0x01 ∷ 0x00 ∷ 0x00 ∷ 0x00 ∷ 0x00 ∷ 0x00 ∷ 0x00 ∷ 0x00 ∷ 0x00 ∷ 0x01 ∷ 0x01 ∷ 0x00 ∷ 0x00 ∷ 0x01 ∷ 0x01 ∷ 0x00 ∷ 0x00 ∷ 0x00 ∷ 0x00 ∷ 0x00 ∷ 0x00 ∷ 0x00 ∷ 0x00 ∷ 0x02 ∷ 0x01 ∷ 0x00 ∷ 0x01 ∷ 0x00 ∷ 0x00 ∷ 0x00 ∷ 0x01 ∷ []

-- A's network for the card, 68 bytes
abbrev pub card_a : List ℕ
card_a =
    0x00 ∷ 0x44 ∷ 0x03 ∷ 0x02 ∷ 0x01 ∷ 0x02 ∷ 0x00 ∷ 0x00 ∷ 0x00 ∷ 0x00 ∷ 0x06 ∷ 0x02 ∷ 0x03 ∷ 0x01 ∷ 0x00 ∷ 0x01 ∷ 0x00 ∷ 0x00 ∷ 0x05 ∷ 0x05 ∷ 0x11 ∷ 0x01 ∷ 0x13 ∷ 0x00 ∷ 0x00 ∷ 0x01 ∷ 0x00 ∷ 0x00 ∷ 0x01 ∷ 0x00 ∷ 0x00 ∷ 0x01 ∷ 0x00 ∷ 0x00 ∷ 0x04 ∷ 0x02 ∷ 0x01 ∷ 0x00 ∷ 0x00 ∷ 0x00 ∷ 0x00 ∷ 0x00 ∷ 0x00 ∷ 0x00 ∷ 0x03 ∷ 0x00 ∷ 0x01 ∷ 0x01 ∷ 0x00 ∷ 0x00 ∷ 0x01 ∷ 0x01 ∷ 0x00 ∷ 0x04 ∷ 0x00 ∷ 0x00 ∷ 0x00 ∷ 0x00 ∷ 0x00 ∷ 0x00 ∷ 0x05 ∷ 0x01 ∷ 0x00 ∷ 0x01 ∷ 0x00 ∷ 0x00 ∷ 0x00 ∷ 0x01 ∷ []

-- A sheet with a bad state and a variable, 70 bytes: state 2 is bad, and an exit of unit 1 leads there; entries of unit 0 are counted; of both units the value at exit
-- has to be the one at entry, which triple 2 asks again of unit 0, but only while the variable is below 1.
abbrev pub sheet_b : List ℕ
sheet_b =
    0x00 ∷ 0x46 ∷ 0x01 ∷ 0x03 ∷ 0x02 ∷ 0x01 ∷ 0x01 ∷ 0x00 ∷ 0x00 ∷ 0x04 ∷ 0x03 ∷ 0x02 ∷ 0x02 ∷ 0x03 ∷ 0x00 ∷ 0x00 ∷ 0x00 ∷ 0x00 ∷ 0x01 ∷ 0x00 ∷ 0x05 ∷ 0x05 ∷ 0x11 ∷ 0x00 ∷ 0x13 ∷ 0x00 ∷ 0x08 ∷ 0x04 ∷ 0x12 ∷ 0x00 ∷ 0x10 ∷ 0x00 ∷ 0x00 ∷ 0x00 ∷ 0x01 ∷ 0x00 ∷ 0x09 ∷ 0x00 ∷ 0x14 ∷ 0x12 ∷ 0x00 ∷ 0x10 ∷ 0x00 ∷ 0x00 ∷ 0x00 ∷ 0x01 ∷ 0x00 ∷ 0x00 ∷ 0x00 ∷ 0x00 ∷ 0x01 ∷ 0x00 ∷ 0x00 ∷ 0x01 ∷ 0x01 ∷ 0x00 ∷ 0x00 ∷ 0x02 ∷ 0x00 ∷ 0x00 ∷ 0x00 ∷ 0x01 ∷ 0x00 ∷ 0x01 ∷ 0x00 ∷ 0x01 ∷ 0x00 ∷ 0x00 ∷ 0x02 ∷ 0x01 ∷ []

-- Other bytes behind their length: the header from the version to the bad states, the initial values, and the tables with their counts.
abbrev pub built : List ℕ → List ℕ → List (List ℕ) → List (List ℕ) → List (List ℕ) → List (List ℕ) → List ℕ
built head values conditions actions transitions last =
    let tables = values ++ written (text_bytes (eqb (byte head 0) 3)) conditions ++ written (text_bytes false) actions ++ written (λ t. t) transitions ++ written (λ t. t) last in
    half_bytes (14 + length tables) ++ head ++ (length conditions ∷ length actions ∷ length transitions ∷ length last ∷ tables)

-- version, V; Q is 8, and U and P are 1
abbrev pub head : ℕ → ℕ → List ℕ
head version monitors = version ∷ 8 ∷ 1 ∷ 1 ∷ monitors ∷ 0 ∷ 0 ∷ 0 ∷ []

-- The least sheet; sheets with many parts, with one condition or one action; four triples of a state, and of each below a number.
abbrev pub least : List ℕ
least = built (1 ∷ 1 ∷ 1 ∷ 0 ∷ 0 ∷ 0 ∷ 0 ∷ 0 ∷ []) [] [] [] [] []

abbrev pub conditions : ℕ → ℕ → List ℕ
conditions version n = built (head version 0) [] (replicate n (0 ∷ [])) [] [] []

abbrev pub actions : ℕ → ℕ → List ℕ
actions version n = built (head version 0) [] [] (replicate n []) [] []

abbrev pub transitions : ℕ → ℕ → ℕ → List ℕ
transitions version n size = built (head version 0) [] ((0 ∷ []) ∷ []) ([] ∷ []) (replicate n (replicate size 0)) []

abbrev pub templates : ℕ → ℕ → List ℕ
templates version n = built (head version 0) [] ((0 ∷ []) ∷ []) [] [] (replicate n (0 ∷ 0 ∷ []))

abbrev pub condition : ℕ → List ℕ → List ℕ
condition version t = built (head version 0) [] (t ∷ []) [] [] []

abbrev pub action : ℕ → List ℕ → List ℕ
action version t = built (head version 1) (replicate 4 0) [] (t ∷ []) [] []

abbrev pub four : ℕ → List (List ℕ)
four q = replicate 4 (q ∷ 0 ∷ 0 ∷ 0 ∷ [])

abbrev pub fours : ℕ → List (List ℕ)
fours zero = []
fours (suc q) = fours q ++ four q

abbrev pub triples : List (List ℕ) → List ℕ
triples l = built (head 1 0) [] ((0 ∷ []) ∷ []) [] [] l

-- A condition of n + 1 bytes, and one of 64; assignments to variable 0, of 3 and of 7 bytes, and 64 bytes of them.
abbrev pub negated : ℕ → List ℕ
negated n = replicate n 1 ++ 0 ∷ []

abbrev pub longest_condition : List ℕ
longest_condition = negated 63

abbrev pub assign : ℕ → ℕ → List ℕ
assign kind number = 0 ∷ kind ∷ number ∷ []

abbrev pub choice : List ℕ
choice = 0 ∷ 22 ∷ 0 ∷ 18 ∷ 0 ∷ 18 ∷ 0 ∷ []

abbrev pub longest_action : List ℕ
longest_action = written (assign 18) (replicate 19 0) ++ choice

-- Condition 0 is `true` and 1 is the one given: the numbers of a guard, a precondition and a postcondition. And a transition with n pairs.
abbrev pub roles : List ℕ → ℕ → ℕ → ℕ → List ℕ
roles t guard before after =
    built (head 1 1) (replicate 4 0) ((0 ∷ []) ∷ t ∷ []) ([] ∷ []) ((0 ∷ 0 ∷ 0 ∷ guard ∷ 0 ∷ 0 ∷ []) ∷ []) ((0 ∷ 0 ∷ before ∷ after ∷ []) ∷ [])

abbrev pub at_entry : List ℕ
at_entry = 5 ∷ 19 ∷ 0 ∷ 17 ∷ 0 ∷ []

abbrev pub monitored : List ℕ
monitored = 5 ∷ 18 ∷ 0 ∷ 17 ∷ 0 ∷ []

abbrev pub network_roles : ℕ → List ℕ → ℕ → ℕ → ℕ → List ℕ
network_roles version t guard before after =
    built (head version 1) (replicate 4 0) ((0 ∷ []) ∷ t ∷ []) ([] ∷ []) ((0 ∷ 0 ∷ 0 ∷ guard ∷ 0 ∷ 0 ∷ 1 ∷ before ∷ 0 ∷ []) ∷ []) ((0 ∷ after ∷ []) ∷ [])

abbrev pub paired : ℕ → ℕ → List ℕ
paired version n = built (head version 0) [] ((0 ∷ []) ∷ []) ([] ∷ []) ((0 ∷ 0 ∷ 0 ∷ 0 ∷ 0 ∷ 0 ∷ n ∷ replicate (2 * n) 0) ∷ []) ((0 ∷ 0 ∷ []) ∷ [])

-- As much as there can be of all.
abbrev pub longest_sheet : List ℕ
longest_sheet = built (head 1 4) (replicate 16 0) (replicate 64 longest_condition) (replicate 32 longest_action) (replicate 64 (replicate 6 0)) (fours 8)

abbrev pub longest_network : List ℕ
longest_network = built (head 2 4) (replicate 16 0) (replicate 65 longest_condition) (replicate 33 longest_action) (replicate 96 (replicate 6 0 ++ 4 ∷ replicate 8 0)) (replicate 32 (replicate 2 0))

abbrev pub rows : List Row
rows =
    sheet (sheet_b ∷ []) 0 [] ∷
    -- 1: "under 14 bytes, or the length isn't the slice's"
    sheet (least ∷ []) 1 (set (take 13 least) 1 13 ∷ []) ∷
    sheet (sheet_a ∷ []) 1 (set sheet_a 1 0x26 ∷ set sheet_a 1 0x28 ∷ set sheet_a 0 1 ∷ (sheet_a ++ 0 ∷ []) ∷ []) ∷
    -- 2: "other version"
    sheet (sheet_a ∷ []) 2 (set sheet_a 2 0 ∷ set sheet_a 2 2 ∷ []) ∷
    sheet (sheet_a ∷ []) 2 (set sheet_a 2 3 ∷ []) ∷
    network (network_a ∷ card_a ∷ []) 2 (set network_a 2 1 ∷ set network_a 2 4 ∷ set card_a 2 1 ∷ set card_a 2 4 ∷ []) ∷
    -- 3: "a count out of range": Q, U, P, V, conditions, actions, transitions, triples or templates
    sheet (set least 3 1 ∷ set least 3 16 ∷ []) 3 (set least 3 0 ∷ set least 3 17 ∷ []) ∷
    sheet (set least 4 1 ∷ set least 4 16 ∷ []) 3 (set least 4 0 ∷ set least 4 17 ∷ []) ∷
    sheet (set least 5 0 ∷ set least 5 8 ∷ []) 3 (set least 5 9 ∷ []) ∷
    sheet (built (head 1 4) (replicate 16 0) [] [] [] [] ∷ []) 3 (built (head 1 5) (replicate 20 0) [] [] [] [] ∷ []) ∷
    sheet (conditions 1 64 ∷ []) 3 (conditions 1 65 ∷ []) ∷
    sheet (actions 1 32 ∷ []) 3 (actions 1 33 ∷ []) ∷
    sheet (transitions 1 64 6 ∷ []) 3 (transitions 1 65 6 ∷ []) ∷
    sheet (triples (fours 8) ∷ []) 3 (triples (fours 9) ∷ []) ∷
    network (conditions 2 65 ∷ []) 3 (conditions 2 66 ∷ []) ∷
    network (conditions 3 161 ∷ []) 3 (conditions 3 162 ∷ []) ∷
    network (actions 2 33 ∷ []) 3 (actions 2 34 ∷ []) ∷
    network (transitions 2 96 7 ∷ []) 3 (transitions 2 97 7 ∷ []) ∷
    network (templates 2 32 ∷ []) 3 (templates 2 33 ∷ []) ∷
    -- 3: "start not below Q, a bad bit at or above Q, or start bad"
    sheet (set sheet_a 7 1 ∷ []) 3 (set sheet_a 7 2 ∷ []) ∷
    sheet (set sheet_a 9 2 ∷ set (set least 3 16) 8 0x80 ∷ []) 3 (set sheet_a 9 4 ∷ set sheet_a 9 1 ∷ set (set least 3 15) 8 0x80 ∷ []) ∷
    -- 4: "a length byte out of range", of a condition and of an action; "n over 4"
    sheet (condition 1 (0 ∷ []) ∷ condition 1 longest_condition ∷ []) 4 (condition 1 [] ∷ condition 1 (1 ∷ longest_condition) ∷ []) ∷
    sheet (action 1 [] ∷ action 1 longest_action ∷ []) 4 (action 1 (written (assign 18) (replicate 17 0) ++ choice ++ choice) ∷ []) ∷
    network (paired 2 0 ∷ paired 2 4 ∷ []) 4 (paired 2 5 ∷ []) ∷
    -- 4: "the tables don't end exactly at the end"
    sheet (sheet_a ∷ []) 4 (set (sheet_a ++ 0 ∷ []) 1 0x28 ∷ set (take 38 sheet_a) 1 0x26 ∷ set sheet_a 13 0 ∷ set sheet_a 22 1 ∷ []) ∷
    network (network_a ∷ []) 4 (set network_a 13 2 ∷ []) ∷
    -- 5: "a condition or action isn't exactly one, or exactly a run of assignments, by the grammar, or has a variable out of range"
    sheet (condition 1 (0 ∷ []) ∷ []) 5 (condition 1 (7 ∷ []) ∷ condition 1 (0 ∷ 0 ∷ []) ∷ condition 1 (1 ∷ []) ∷ []) ∷
    sheet (set sheet_a 19 1 ∷ set sheet_a 21 1 ∷ []) 5 (set sheet_a 19 2 ∷ set sheet_a 21 2 ∷ []) ∷
    sheet (action 1 (assign 17 0) ∷ action 1 (assign 18 0) ∷ []) 5 (action 1 (assign 17 1) ∷ action 1 (assign 18 1) ∷ action 1 (assign 23 0) ∷ action 1 (1 ∷ 17 ∷ 0 ∷ []) ∷ action 1 (0 ∷ []) ∷ []) ∷
    -- 6: "a transition or triple has a number out of range"
    sheet (set sheet_a 23 1 ∷ set sheet_a 24 1 ∷ set sheet_a 28 0 ∷ []) 6 (set sheet_a 23 2 ∷ set sheet_a 24 2 ∷ set sheet_a 25 1 ∷ set sheet_a 26 2 ∷ set sheet_a 27 1 ∷ set sheet_a 28 2 ∷ []) ∷
    sheet (set sheet_a 35 1 ∷ set sheet_a 38 0 ∷ []) 6 (set sheet_a 35 2 ∷ set sheet_a 36 1 ∷ set sheet_a 37 2 ∷ set sheet_a 38 2 ∷ []) ∷
    network (set network_a 52 2 ∷ []) 6 (set network_a 52 3 ∷ set network_a 51 1 ∷ set network_a 42 2 ∷ []) ∷
    -- 6 "includes pairs on an exit, and a template of another unit than its transition's"
    network (set network_a 33 2 ∷ set network_a 4 2 ∷ []) 6 (set network_a 33 3 ∷ set network_a 34 1 ∷ set network_a 27 1 ∷ set (set network_a 4 2) 51 1 ∷ []) ∷
    -- 7: "value-at-entry in an action or transition's condition; value-at-entry .. in a precondition; a monitor variable in a postcondition"; "pairs count as
    -- preconditions"; request 13: "7 no longer turns away monitor variables in preconditions and pairs"
    sheet (action 1 (assign 17 0) ∷ []) 7 (action 1 (assign 19 0) ∷ []) ∷
    sheet (roles at_entry 0 0 1 ∷ []) 7 (roles at_entry 1 0 0 ∷ roles at_entry 0 1 0 ∷ []) ∷
    sheet (roles monitored 1 1 0 ∷ []) 7 (roles monitored 0 0 1 ∷ []) ∷
    network (set network_a 33 0 ∷ []) 7 (set network_a 33 1 ∷ set network_a 29 1 ∷ []) ∷
    -- 8: "over four triples of one state and unit"
    sheet (triples (fours 1) ∷ triples (fours 2) ∷ []) 8 (triples (take 1 (four 0) ++ four 0) ∷ triples (fours 2 ++ take 1 (four 0)) ∷ []) ∷
    -- version 3: 1
    network (card_a ∷ []) 1 (set card_a 1 0x43 ∷ set card_a 1 0x45 ∷ set card_a 0 1 ∷ (card_a ++ 0 ∷ []) ∷ set (take 13 card_a) 1 13 ∷ []) ∷
    -- 3
    network (set card_a 3 2 ∷ set card_a 3 16 ∷ set card_a 4 1 ∷ set card_a 4 16 ∷ set card_a 5 8 ∷ []) 3 (set card_a 3 0 ∷ set card_a 3 17 ∷ set card_a 4 0 ∷ set card_a 4 17 ∷ set card_a 5 9 ∷ []) ∷
    network (built (head 3 4) (replicate 16 0) [] [] [] [] ∷ []) 3 (built (head 3 5) (replicate 20 0) [] [] [] [] ∷ []) ∷
    network (actions 3 33 ∷ []) 3 (actions 3 34 ∷ []) ∷
    network (transitions 3 96 7 ∷ []) 3 (transitions 3 97 7 ∷ []) ∷
    network (templates 3 32 ∷ []) 3 (templates 3 33 ∷ []) ∷
    network (set card_a 7 1 ∷ set card_a 9 2 ∷ []) 3 (set card_a 7 2 ∷ set card_a 9 4 ∷ set card_a 9 1 ∷ []) ∷
    -- 4: "conditions of 1 to 1,024 bytes", "all else is as in version 2"; each version's bytes are not the other's
    network (condition 3 (0 ∷ []) ∷ condition 3 (negated 255) ∷ condition 3 (negated 1023) ∷ []) 4 (condition 3 [] ∷ condition 3 (negated 1024) ∷ []) ∷
    network (condition 2 longest_condition ∷ condition 3 (1 ∷ longest_condition) ∷ []) 4 (condition 2 (1 ∷ longest_condition) ∷ []) ∷
    network (action 3 [] ∷ action 3 longest_action ∷ []) 4 (action 3 (written (assign 18) (replicate 17 0) ++ choice ++ choice) ∷ []) ∷
    network (paired 3 0 ∷ paired 3 4 ∷ []) 4 (paired 3 5 ∷ []) ∷
    network (card_a ∷ []) 4 (set (card_a ++ 0 ∷ []) 1 0x45 ∷ set (take 67 card_a) 1 0x43 ∷ set card_a 13 2 ∷ set card_a 14 1 ∷ set card_a 15 2 ∷ set card_a 2 2 ∷ set network_a 2 3 ∷ []) ∷
    -- 5
    network (set card_a 21 0 ∷ set card_a 23 1 ∷ []) 5 (set card_a 21 2 ∷ set card_a 23 2 ∷ set card_a 35 7 ∷ set card_a 16 1 ∷ condition 3 (0 ∷ 0 ∷ []) ∷ condition 3 (negated 1022 ++ 0 ∷ []) ∷ []) ∷
    -- 6
    network (set card_a 41 1 ∷ set card_a 44 5 ∷ set card_a 45 1 ∷ set card_a 46 0 ∷ []) 6 (set card_a 41 2 ∷ set card_a 51 2 ∷ set card_a 43 1 ∷ set card_a 44 6 ∷ set card_a 45 2 ∷ set card_a 46 2 ∷ []) ∷
    network (set card_a 48 5 ∷ set card_a 67 5 ∷ set card_a 4 2 ∷ []) 6 (set card_a 48 6 ∷ set card_a 67 6 ∷ set card_a 66 1 ∷ set card_a 49 1 ∷ set card_a 42 1 ∷ set (set card_a 4 2) 66 1 ∷ []) ∷
    -- 7
    network (action 3 (assign 17 0) ∷ []) 7 (action 3 (assign 19 0) ∷ []) ∷
    network (network_roles 3 at_entry 0 0 1 ∷ network_roles 2 at_entry 0 0 1 ∷ []) 7 (network_roles 3 at_entry 1 0 0 ∷ network_roles 3 at_entry 0 1 0 ∷ network_roles 2 at_entry 1 0 0 ∷ network_roles 2 at_entry 0 1 0 ∷ []) ∷
    network (network_roles 3 monitored 1 1 0 ∷ network_roles 2 monitored 1 1 0 ∷ []) 7 (network_roles 3 monitored 0 0 1 ∷ network_roles 2 monitored 0 0 1 ∷ []) ∷
    -- the longest
    sheet (longest_sheet ∷ []) 1 ((longest_sheet ++ 0 ∷ []) ∷ []) ∷
    network (longest_network ∷ []) 1 ((longest_network ++ 0 ∷ []) ∷ []) ∷
    -- "the first that applies"
    network (card_a ∷ []) 1 (set (set card_a 1 0) 2 4 ∷ []) ∷
    network (card_a ∷ []) 2 (set (set card_a 2 4) 3 0 ∷ []) ∷
    network (card_a ∷ []) 3 (set (set card_a 3 0) 14 1 ∷ []) ∷
    network (card_a ∷ []) 4 (set (set card_a 14 1) 16 7 ∷ []) ∷
    network (card_a ∷ []) 5 (set (set card_a 16 7) 41 2 ∷ []) ∷
    network (card_a ∷ []) 6 (set (set card_a 41 2) 44 1 ∷ []) ∷
    sheet (sheet_a ∷ []) 1 (set (set sheet_a 1 0) 2 2 ∷ []) ∷
    sheet (sheet_a ∷ []) 2 (set (set sheet_a 2 2) 3 0 ∷ []) ∷
    sheet (sheet_a ∷ []) 3 (set (set sheet_a 3 0) 22 1 ∷ []) ∷
    sheet (sheet_a ∷ []) 4 (set (set sheet_a 22 1) 15 7 ∷ []) ∷
    sheet (sheet_a ∷ []) 5 (set (set sheet_a 15 7) 23 2 ∷ []) ∷
    sheet (sheet_a ∷ []) 6 (set (set sheet_a 23 2) 26 1 ∷ []) ∷
    sheet (sheet_a ∷ []) 7 (built (head 1 0) [] ((0 ∷ []) ∷ at_entry ∷ []) [] [] (replicate 5 (0 ∷ 0 ∷ 1 ∷ 0 ∷ [])) ∷ []) ∷
    []

abbrev pub Rows : Type 0
Rows = map answered rows ≡ map expected rows

-- The bytes of what A's networks stand for are theirs.
abbrev pub Encoded : Type 0
Encoded = (encode false (network_of network_a) ≡ network_a) × (encode true (network_of card_a) ≡ card_a)
