-- The plan of a sheet and of a network: what of their bytes is put where, from the last record of each table to the first.
use Rattle.std.specs.Prelude.{Bool, true, false, cond, List, [], ◌∷◌, ℕ, zero, suc, ◌+◌, ◌-◌, ◌*◌, ◌%◌, min, eqb, get_or, set, drop, replicate}
use Rattle.std.proofs.lemmas.List.Edits.{sets}
use Rattle.sheet.specs.Bytes.{byte}
use Rattle.sheet.specs.Table.{starts}
use Rattle.sheet.specs.Decode.{wide, lead, transition_of, triple_form}
use Rattle.sheet.specs.Reading.{sheet_layout, network_layout}
use Rattle.sheet.specs.declared.Header.{Header}
use Rattle.sheet.specs.Answer.{header_of, places_of}
use Rattle.step.specs.Walk.{base_form}
use Rattle.engine.specs.Plan.{plan_size, absent, cell_of, key_of}

-- where a text stands, by its number in an index: places are of two bytes
abbrev pub start_of : List ℕ → ℕ → ℕ
start_of index i = get_or index i 0 % 65536

-- where the text of a condition begins, behind its length; 0 where it is `true`
unfoldable pub text_place : List ℕ → List ℕ → ℕ → ℕ
text_place s index i = let at = (start_of index i + lead (wide s)) % 65536 in cond (eqb (byte s at) 0) 0 at

-- where an action stands, with its length byte; 0 where it is empty
unfoldable pub action_place : List ℕ → List ℕ → ℕ → ℕ
action_place s index i = let at = start_of index i in cond (eqb (byte s at) 0) 0 at

-- each record with its number put into a list, from the last to the first
unfoldable pub linked : {A : Type 0} → (ℕ → A → List ℕ → List ℕ) → ℕ → List A → List ℕ → List ℕ
linked f i [] p = p
linked f i (x ∷ l) p = f i x (linked f (suc i) l p)

-- the transition that stands at a place: its words, and its number as the first of its key
unfoldable pub with_transition : List ℕ → List ℕ → List ℕ → ℕ → ℕ → List ℕ → List ℕ
with_transition s conditions actions i at p =
    let t = transition_of (drop at s) in
    let key = 8 + key_of t.from t.unit t.kind in
    set (sets p (552 + 4 * i) (text_place s conditions t.condition ∷ action_place s actions t.action ∷ t.to ∷ (get_or p key 0 - suc i) ∷ [])) key i

-- n pairs from a place on as candidates, each but the last with the next right behind it
unfoldable pub pair_words : List ℕ → List ℕ → ℕ → ℕ → List ℕ
pair_words s conditions zero at = []
pair_words s conditions (suc n) at = text_place s conditions (byte s at) ∷ byte s (at + 1) ∷ cond (eqb n 0) absent 0 ∷ pair_words s conditions n (at + 2)

-- the pairs of the transition that stands at a place: up to four candidates, and the first of them
unfoldable pub with_pairs : List ℕ → List ℕ → ℕ → ℕ → List ℕ → List ℕ
with_pairs s conditions i at p =
    let n = min (byte s (at + 6)) 4 in
    set (sets p (1192 + 12 * i) (pair_words s conditions n (at + 7))) (936 + i) (cond (eqb n 0) absent (4 * i))

unfoldable pub with_transitions : Bool → List ℕ → List ℕ → List ℕ → List ℕ → List ℕ → List ℕ
with_transitions false s conditions actions places p = linked (with_transition s conditions actions) 0 places p
with_transitions true s conditions actions places p = linked (λ i at q. with_pairs s conditions i at (with_transition s conditions actions i at q)) 0 places p

-- the triple that stands at a place, as a candidate of its cell
unfoldable pub with_triple : List ℕ → List ℕ → ℕ → ℕ → List ℕ → List ℕ
with_triple s conditions i at p =
    let t = triple_form.value (drop at s) in
    let cell = 936 + cell_of t.state t.unit in
    set (sets p (1192 + 3 * i) (text_place s conditions t.precondition ∷ i ∷ (get_or p cell 0 - suc i) ∷ [])) cell i

-- the postconditions of n records of so many bytes, each the last byte of its record
unfoldable pub post_words : List ℕ → List ℕ → ℕ → ℕ → ℕ → List ℕ
post_words s conditions size zero at = []
post_words s conditions size (suc n) at = text_place s conditions (byte s (at + (size - 1))) ∷ post_words s conditions size n (at + size)

-- the numbers of the header, whether transitions have pairs, and where the triples or templates begin, a place of two bytes
abbrev pub head_words : Header → ℕ → ℕ → List ℕ
head_words h paired last = h.units ∷ h.programs ∷ h.monitors ∷ h.bad ∷ paired ∷ last % 65536 ∷ []

-- where the first transitions of a table stand, at most 96
abbrev pub transition_places : Bool → Header → List ℕ → ℕ → List ℕ
transition_places paired h s at = starts (base_form paired) (min h.transitions 96) s at

-- all of a sheet put into a list of words, and all of a network
unfoldable pub sheet_into : List ℕ → List ℕ → List ℕ
sheet_into s q =
    let h = header_of s in
    let x = places_of sheet_layout s in
    let n = min h.last 32 in
    let p = with_transitions false s x.conditions x.actions (transition_places false h s x.transitions) (sets q 0 (head_words h 0 x.last)) in
    sets (linked (with_triple s x.conditions) 0 (starts triple_form n s x.last) p) 520 (post_words s x.conditions 4 n x.last)

unfoldable pub network_into : List ℕ → List ℕ → List ℕ
network_into s q =
    let h = header_of s in
    let x = places_of network_layout s in
    let p = with_transitions true s x.conditions x.actions (transition_places true h s x.transitions) (sets q 0 (head_words h 1 x.last)) in
    sets p 520 (post_words s x.conditions 2 (min h.last 32) x.last)

-- a plan is made where nothing is there
unfoldable pub empty : List ℕ
empty = replicate plan_size absent

abbrev pub sheet_plan : List ℕ → List ℕ
sheet_plan s = sheet_into s empty

abbrev pub network_plan : List ℕ → List ℕ
network_plan s = network_into s empty
