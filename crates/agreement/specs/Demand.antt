-- Demand 3 (document 01, "Network layout and translation"), whole: for the network that translating writes, and for the card's.
use Rattle.std.specs.Prelude.{◌≡◌, List, ℕ, ◌≤◌, length, take}
use Rattle.sheet.specs.Decode.{sheet_of}
use Rattle.sheet.specs.Reading.{reading, sheet_layout, network_layout}
use Rattle.sheet.specs.Log.{Event}
use Rattle.translation.specs.Answer.{written, translated_of, buffer_of}
use Rattle.monitor.specs.Answers as OnSheet
use Rattle.network.specs.Answers as OnNetwork
use Rattle.agreement.specs.Shown.{shown_by_sheet, defined, shown_by_network, offered_to}
use Rattle.agreement.specs.Meant.{Meant}

-- "Equal to the definition's are each answer .. and, after the list, ..": one claim about the list, for the bytes of a sheet and of a network; and what that is in
-- published terms.
pub record Agrees (s n : List ℕ) (events : List Event) : Type 0 where
  pub shown : shown_by_network n (offered_to n events) ≡ shown_by_sheet (defined (sheet_of s) events)
  pub meant : Meant (sheet_of s) events (shown_by_network n (offered_to n events))

-- All that a network owes a sheet, whatever its version: it is accepted, agrees for every list of events, and a log comes to the same.
pub record AsDefined (s n : List ℕ) : Type 0 where
  pub accepted : reading network_layout n ≡ 0
  pub agrees : (events : List Event) → Agrees s n events
  pub same_run : (log : List ℕ) → OnNetwork.run_of n log ≡ OnSheet.run_of s log

-- Of an accepted sheet and a buffer: "8,192 bytes always hold it"; and what was written, "cut to its length", is as defined.
pub record Translates (s buffer : List ℕ) : Type 0 where
  pub long : 8192 ≤ length buffer → (size : ℕ) × (translated_of s buffer ≡ written size)
  pub defined : (size : ℕ) → translated_of s buffer ≡ written size → AsDefined s (take size (buffer_of s buffer))

abbrev pub Demand3 : Type 0
Demand3 = (s buffer : List ℕ) → reading sheet_layout s ≡ 0 → Translates s buffer
