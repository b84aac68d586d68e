-- What the operations on the bytes answer, for all bytes and all indexes. On accepted ones they are the definitions of Meets and Moves.
use Rattle.std.specs.Prelude.{Bool, false, cond, List, [], ◌∷◌, ℕ, ◌+◌, ◌*◌, min, ltb, get_or, take, drop}
use Rattle.std.proofs.Math.Option.{Option, none, some}
use Rattle.condition.specs.Meaning.{environment}
use Rattle.condition.specs.Answer.{action_outcome, performed_on}
use Rattle.sheet.specs.declared.Transition.{Transition}
use Rattle.sheet.specs.Bytes.{byte}
use Rattle.sheet.specs.Table.{Form}
use Rattle.sheet.specs.Decode.{text_form, transition_of}

-- the variables after an action by its number
abbrev pub acted_at : List ℕ → List ℕ → ℕ → List ℕ → ℕ → List ℕ → List ℕ
acted_at s index i program count variables = cond (ltb i 161) (performed_on count variables (action_outcome ((text_form false).value (drop (get_or index i 0) s)) (environment program (take count variables) []))) variables

-- the least of some numbers and a first one
unfoldable pub least_of : ℕ → List ℕ → ℕ
least_of n [] = n
least_of n (m ∷ l) = least_of (min n m) l

-- a transition without its pairs, in a table with pairs or without
abbrev pub base_form : Bool → Form Transition
base_form paired = record { value = transition_of; size = λ s. cond paired (7 + 2 * byte s 6) 6 }

-- a byte's number, or none for what is past a byte
abbrev pub number_in : ℕ → Option ℕ
number_in n = cond (ltb n 256) (some n) none
