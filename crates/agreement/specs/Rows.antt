-- What is shown after lists of events, row by row: by the definition on sheet B, by sheet B's networks of both versions; and what tells A's two networks apart.
use Rattle.std.specs.Prelude.{◌≡◌, List, [], ◌∷◌, map, ℕ, length}
use Rattle.std.proofs.Math.Option.{none, some}
use Rattle.condition.specs.Meaning.{environment}
use Rattle.sheet.specs.Parts.{bases}
use Rattle.sheet.specs.Decode.{sheet_of, network_of}
use Rattle.sheet.specs.Log.{Event}
use Rattle.sheet.specs.Rows.{sheet_b, network_a, card_a}
use Rattle.step.specs.Lists.{keep}
use Rattle.step.specs.Answers.{taken, declined}
use Rattle.translation.specs.Answer.{network_bytes, card_bytes}
use Rattle.monitor.specs.Rows as OnSheet
use Rattle.network.specs.Answers.{run_of, run_count_of}
use Rattle.agreement.specs.Shown.{Shown, defined, shown_by_sheet, offered_to, shown_by_network}
use Rattle.agreement.specs.Card.{holds_for}

-- an event with one value
abbrev pub entry : ℕ → ℕ → ℕ → Event
entry unit number value = record { kind = 0; unit = unit; number = number; values = value ∷ [] }

abbrev pub exit : ℕ → ℕ → ℕ → Event
exit unit number value = record { kind = 1; unit = unit; number = number; values = value ∷ [] }

pub record Row : Type 0 where
  pub events : List Event
  pub shown : Shown

-- Two calls open, with their numbers and units, their checkers with the values at entry, one entry of unit 0 counted, at which triple 2 found none counted yet; then an exit whose value is another, one that
-- leads to the bad state, one that does both, and one that does neither; events that are refused before and after a verdict.
abbrev pub rows : List Row
rows =
    record {
      events = entry 0 7 5 ∷ entry 1 300 9 ∷ [];
      shown = record {
        answers = taken ∷ taken ∷ [];
        verdict = none;
        position = 2;
        main = 0;
        variables = 1 ∷ [];
        calls = record { number = 7; unit = 0; entry = 1 } ∷ record { number = 300; unit = 1; entry = 2 } ∷ [];
        checkers = record { number = 7; triple = 0; entry = 1; values = 5 ∷ [] } ∷ record { number = 7; triple = 2; entry = 1; values = 5 ∷ [] } ∷ record { number = 300; triple = 1; entry = 2; values = 9 ∷ [] } ∷ [];
      };
    }
    ∷ record {
      events = entry 0 7 5 ∷ entry 1 300 9 ∷ exit 0 7 6 ∷ exit 1 300 9 ∷ [];
      shown = record {
        answers = taken ∷ taken ∷ taken ∷ declined 10 ∷ [];
        verdict = some (record { position = 3; state = none; triple = some 0; entry = 1 });
        position = 3;
        main = 0;
        variables = 1 ∷ [];
        calls = record { number = 300; unit = 1; entry = 2 } ∷ [];
        checkers = record { number = 300; triple = 1; entry = 2; values = 9 ∷ [] } ∷ [];
      };
    }
    ∷ record {
      events = entry 0 7 5 ∷ entry 1 300 9 ∷ exit 1 300 9 ∷ [];
      shown = record {
        answers = taken ∷ taken ∷ taken ∷ [];
        verdict = some (record { position = 3; state = some 2; triple = none; entry = 0 });
        position = 3;
        main = 2;
        variables = 1 ∷ [];
        calls = record { number = 7; unit = 0; entry = 1 } ∷ [];
        checkers = record { number = 7; triple = 0; entry = 1; values = 5 ∷ [] } ∷ record { number = 7; triple = 2; entry = 1; values = 5 ∷ [] } ∷ [];
      };
    }
    ∷ record {
      events = entry 0 7 5 ∷ entry 0 8 6 ∷ exit 1 7 5 ∷ entry 0 7 5 ∷ entry 1 9 4 ∷ exit 0 7 5 ∷ exit 1 9 3 ∷ [];
      shown = record {
        answers = taken ∷ taken ∷ declined 15 ∷ declined 13 ∷ taken ∷ taken ∷ taken ∷ [];
        verdict = some (record { position = 5; state = some 2; triple = some 1; entry = 3 });
        position = 5;
        main = 2;
        variables = 2 ∷ [];
        calls = record { number = 8; unit = 0; entry = 2 } ∷ [];
        checkers = record { number = 8; triple = 0; entry = 2; values = 6 ∷ [] } ∷ [];
      };
    }
    ∷ []

-- how many transitions of a state, kind and unit hold, with 8 declared and none loaded
abbrev pub holding : List ℕ → ℕ → ℕ → ℕ → ℕ
holding n state kind unit = length (keep (holds_for (network_of n).common state kind unit (environment (8 ∷ 0 ∷ []) [] [])) (bases (network_of n)))

pub record Rows : Type 0 where
  pub defined : map (λ (r : Row). shown_by_sheet (defined (sheet_of sheet_b) r.events)) rows ≡ map (λ (r : Row). r.shown) rows
  pub network : map (λ (r : Row). shown_by_network (network_bytes sheet_b) (offered_to (network_bytes sheet_b) r.events)) rows ≡ map (λ (r : Row). r.shown) rows
  pub card : map (λ (r : Row). shown_by_network (card_bytes sheet_b) (offered_to (card_bytes sheet_b) r.events)) rows ≡ map (λ (r : Row). r.shown) rows
  -- the starred logs on sheet A's network
  pub runs : map (λ (r : OnSheet.Row). run_of network_a (OnSheet.log r.records)) OnSheet.rows ≡ map (λ (r : OnSheet.Row). r.expected) OnSheet.rows
  -- what they count there and on the card's: as much as on sheet A
  pub counts : map (λ (r : OnSheet.Row). run_count_of network_a (OnSheet.log r.records)) OnSheet.rows ≡ map (λ (r : OnSheet.Row). r.counted) OnSheet.rows
  pub card_counts : map (λ (r : OnSheet.Row). run_count_of card_a (OnSheet.log r.records)) OnSheet.rows ≡ map (λ (r : OnSheet.Row). r.counted) OnSheet.rows
  -- At an entry in state 0 the network of version 2 has two, the one that is added among them; the card's has one. At an exit in state 1 each has one, and in state 0 none.
  pub exclusive : (holding network_a 0 0 0 ≡ 2) × (holding card_a 0 0 0 ≡ 1) × (holding network_a 1 1 0 ≡ 1) × (holding card_a 1 1 0 ≡ 1) × (holding card_a 0 1 0 ≡ 0) × (holding card_a 0 0 1 ≡ 0)
