-- What is shown after a list of events, in published terms over those that are taken (source document 003, definitions 3 and 5).
use Rattle.std.specs.Prelude.{◌≡◌, ◌↔◌, true, false, not, cond, ◌&&◌, List, [], ◌∷◌, ◌++◌, map, ℕ, suc, ◌+◌, ◌≤◌, ◌<◌, eqb, length}
use Rattle.std.proofs.Math.Option.{none, some}
use Rattle.sheet.specs.Parts.{Sheet}
use Rattle.sheet.specs.Table.{every}
use Rattle.sheet.specs.Log.{Event}
use Rattle.step.specs.Lists.{Among, keep}
use Rattle.step.specs.Meets.{meets}
use Rattle.step.specs.Moves.{Configuration, seen, moved}
use Rattle.step.specs.Answers.{Response, taken, declined}
use Rattle.monitor.specs.Monitor.{initial, triple_in, armed_by}
use Rattle.monitor.specs.Published.{reached, in_order, Counterexample}
use Rattle.monitor.specs.Demand.{stays_open, still_open, refusal_after, Clear, Finds}
use Rattle.agreement.specs.Shown.{Told, Living, Shown, open_call}

-- The answers to the events of a list, and which are taken: w before the list, u with it.
pub data Answers (S : Sheet) : List Event → List Event → List Response → List Event → Type 0 where
  nothing : {w : List Event} → Answers S w [] [] w
  -- "An event that meets one of 10-15 is refused with the lowest and changes nothing; any other is taken", as long as no prefix is a counterexample
  takes : {w es u : List Event} {rest : List Response} → Clear S (in_order S) w → (e : Event) → refusal_after S false w e ≡ 0 → Answers S (w ++ e ∷ []) es rest u → Answers S w (e ∷ es) (taken ∷ rest) u
  refuses : {w es u : List Event} {rest : List Response} → Clear S (in_order S) w → (e : Event) (n : ℕ) → refusal_after S false w e ≡ suc n → Answers S w es rest u → Answers S w (e ∷ es) (declined (suc n) ∷ rest) u
  -- "10: it has a verdict"
  ends : {w es u : List Event} {rest : List Response} → Counterexample S (in_order S) w → (e : Event) → Answers S w es rest u → Answers S w (e ∷ es) (declined 10 ∷ rest) u

-- A checker is due for a call number and a triple after a trace: the trace opened the call and left it open, and at its entry the triple was of its unit and
-- of the state held, and its precondition held, with the monitor variables as they stood before that event.
pub record Due (S : Sheet) (w : List Event) (n i : ℕ) : Type 0 where
  pub w₁ : List Event
  pub entry : Event
  pub w₂ : List Event
  pub parts : w ≡ w₁ ++ entry ∷ w₂
  pub is_entry : entry.kind ≡ 0
  pub number : entry.number ≡ n
  pub apart : every (λ e. not (eqb e.number n)) w₂ ≡ true
  pub there : i < length S.triples
  pub in_state : (triple_in S i).state ≡ (reached S w₁).main
  pub of_unit : (triple_in S i).unit ≡ entry.unit
  pub precondition : meets S.common (triple_in S i).precondition (seen entry (reached S w₁)) ≡ true

-- how many living checkers a call number and a triple have
abbrev pub many : ℕ → ℕ → List Living → ℕ
many n i row = length (keep (λ (h : Living). eqb h.number n && eqb h.triple i) row)

-- One living checker for each call number and triple that are due, with the values and the position of that entry, no other, and at most 64.
pub record Exactly (S : Sheet) (w : List Event) (row : List Living) : Type 0 where
  pub due : (n i : ℕ) → many n i row ≡ 1 ↔ Due S w n i
  pub once : (n i : ℕ) → many n i row ≤ 1
  pub values : (h : Living) → Among h row → (d : Due S w h.number h.triple) × (h.values ≡ d.entry.values) × (h.entry ≡ length d.w₁ + 1)
  pub few : length row ≤ 64

-- The row: "by calls in order of entry, then in triple order, with call number, triple number and the values at entry". The configuration is the one held before
-- the first of the events, which stands at the position.
unfoldable pub due_from : Sheet → Configuration → ℕ → List Event → List Living
due_from S k position [] = []
due_from S k position (e ∷ w) =
    cond (stays_open e w) (map (λ i. record { number = e.number; triple = i; entry = position; values = e.values }) (armed_by S k e)) []
    ++ due_from S (moved S.common S.transitions k e) (position + 1) w

-- What is shown after a list: "no verdict" just while no prefix of the events taken is a counterexample, else that counterexample's; their number; the
-- configuration that they reach; the calls that they leave open; and the checkers that are due.
pub record Meant (S : Sheet) (es : List Event) (r : Shown) : Type 0 where
  pub events : List Event
  pub answers : Answers S [] es r.answers events
  pub unjudged : r.verdict ≡ none ↔ Clear S (in_order S) events
  pub judged : (v : Told) → r.verdict ≡ some v ↔ Finds S (in_order S) events v.position v.state v.triple v.entry
  pub position : r.position ≡ length events
  pub main : r.main ≡ (reached S events).main
  pub variables : r.variables ≡ (reached S events).variables
  pub calls : r.calls ≡ map open_call (still_open events)
  pub checkers : r.checkers ≡ due_from S (initial S) 1 events
  pub exactly : Exactly S events r.checkers
