-- The starred rows of document 01 on conditions and values, plus as document 02 has it, and rows of what is counted, each list under one claim.
use Rattle.std.specs.Prelude.{◌≡◌, ℕ, Bool, true, false, List, [], ◌∷◌, ◌++◌, replicate, ℤ, pos, negsuc}
use Rattle.condition.specs.Meaning.{environment}
use Rattle.condition.specs.Answer.{given, condition_outcome, value_outcome, condition_counted, value_counted, action_counted}

-- The bytes of a condition and whether it holds, or of a value and how it reads as signed. No value is lent.
pub data Row : Type 0 where
  condition : List ℕ → Bool → Row
  value : List ℕ → ℤ → Row

abbrev pub Shown : Row → Type 0
Shown (condition s b) = condition_outcome s (environment [] [] []) ≡ given b
Shown (value s z) = value_outcome s (environment [] [] []) ≡ given z

abbrev pub All : List Row → Type 0
All [] = Unit {0}
All (r ∷ more) = Shown r × All more

-- The value of a word's four bytes, and the rows: first how the words read, then document 01's, then plus and minus past either end, and
-- a sum past the high end from which 1 is taken.
abbrev pub bytes : ℕ → ℕ → ℕ → ℕ → List ℕ
bytes a b c d = 16 ∷ a ∷ b ∷ c ∷ d ∷ []

abbrev pub rows : List Row
rows =
    let lowest = bytes 0x80 0x00 0x00 0x00 in
    let highest = bytes 0x7F 0xFF 0xFF 0xFF in
    let minus_one = bytes 0xFF 0xFF 0xFF 0xFF in
    let zero = bytes 0x00 0x00 0x00 0x00 in
    let one = bytes 0x00 0x00 0x00 0x01 in
    value lowest (negsuc 2147483647) ∷
    value highest (pos 2147483647) ∷
    value minus_one (negsuc 0) ∷
    condition (6 ∷ (lowest ++ highest ++ one)) true ∷
    condition (6 ∷ (lowest ++ highest ++ zero)) false ∷
    condition (4 ∷ (minus_one ++ zero)) true ∷
    value (20 ∷ (highest ++ one)) (pos 2147483647) ∷
    value (20 ∷ (lowest ++ minus_one)) (negsuc 2147483647) ∷
    value (21 ∷ (lowest ++ one)) (negsuc 2147483647) ∷
    value (21 ∷ (zero ++ lowest)) (pos 2147483647) ∷
    value (21 ∷ (minus_one ++ lowest)) (pos 2147483647) ∷
    value (21 ∷ 20 ∷ (highest ++ one ++ one)) (pos 2147483646) ∷
    []

-- What is counted of a condition, a value or an action, of which the first two variables are the monitor's. A row that is refused counts 0.
pub data Counted : Type 0 where
  condition : List ℕ → ℕ → Counted
  value : List ℕ → ℕ → Counted
  action : List ℕ → ℕ → Counted

abbrev pub CountShown : Counted → Type 0
CountShown (condition s n) = condition_counted s (environment [] (3 ∷ 7 ∷ []) []) ≡ n
CountShown (value s n) = value_counted s (environment [] (3 ∷ 7 ∷ []) []) ≡ n
CountShown (action s n) = action_counted s (environment [] (3 ∷ 7 ∷ []) []) ≡ n

abbrev pub AllCounted : List Counted → Type 0
AllCounted [] = Unit {0}
AllCounted (r ∷ more) = CountShown r × AllCounted more

-- `true`, `not`; `and` and `or`, the left side either way; the three comparisons; a constant, a variable, plus and minus; `choose` either way, nested; an action
-- of two values, of which the second reads what the first assigned; then what is too long, no condition, and not lent.
abbrev pub counted_rows : List Counted
counted_rows =
    let never : List ℕ = 1 ∷ 0 ∷ [] in
    let first : List ℕ = 18 ∷ 0 ∷ [] in
    let second : List ℕ = 18 ∷ 1 ∷ [] in
    let one = bytes 0 0 0 1 in
    condition (0 ∷ []) 1 ∷
    condition never 2 ∷
    condition (2 ∷ 0 ∷ 0 ∷ []) 3 ∷
    condition (2 ∷ (never ++ 0 ∷ [])) 3 ∷
    condition (3 ∷ 0 ∷ 0 ∷ []) 2 ∷
    condition (3 ∷ (never ++ 0 ∷ [])) 4 ∷
    condition (2 ∷ 3 ∷ 0 ∷ (never ++ 2 ∷ (never ++ 0 ∷ []))) 6 ∷
    condition (4 ∷ (first ++ one)) 3 ∷
    condition (5 ∷ (first ++ second)) 3 ∷
    condition (6 ∷ (first ++ second ++ one)) 4 ∷
    value one 1 ∷
    value first 1 ∷
    value (20 ∷ (first ++ one)) 3 ∷
    value (21 ∷ 20 ∷ (first ++ one ++ second)) 5 ∷
    value (22 ∷ 0 ∷ (first ++ 20 ∷ (first ++ one))) 3 ∷
    value (22 ∷ (never ++ first ++ 20 ∷ (first ++ one))) 6 ∷
    value (22 ∷ 4 ∷ (first ++ second ++ 22 ∷ 0 ∷ (one ++ 20 ∷ (one ++ one)) ++ 20 ∷ (one ++ one))) 7 ∷
    action [] 0 ∷
    action (0 ∷ (first ++ 1 ∷ 20 ∷ (first ++ one))) 4 ∷
    action (0 ∷ (one ++ 1 ∷ 22 ∷ 4 ∷ (one ++ first ++ one ++ 20 ∷ (one ++ one)))) 8 ∷
    condition (replicate 1024 1 ++ 0 ∷ []) 0 ∷
    condition (2 ∷ 0 ∷ []) 0 ∷
    condition (4 ∷ 18 ∷ 2 ∷ one) 0 ∷
    action (2 ∷ one) 0 ∷
    []
