-- The card's network against the sheet's own definition (change request 5).
use Rattle.std.specs.Prelude.{◌≡◌, ◌↔◌, Bool, false, ◌&&◌, List, ℕ, ◌≤◌, eqb, length, take}
use Rattle.condition.specs.Meaning.{Environment}
use Rattle.sheet.specs.declared.Transition.{Transition}
use Rattle.sheet.specs.Parts.{Common, Network, bases}
use Rattle.sheet.specs.Decode.{sheet_of, network_of}
use Rattle.sheet.specs.Reading.{reading, sheet_layout}
use Rattle.step.specs.Lists.{keep}
use Rattle.step.specs.Meets.{meets}
use Rattle.translation.specs.Card.{card}
use Rattle.translation.specs.Answer.{written, refused, card_fits, card_of, card_buffer_of}
use Rattle.agreement.specs.Demand.{AsDefined}

-- a transition of a state, kind and unit whose condition holds under some values
abbrev pub holds_for : Common → ℕ → ℕ → ℕ → Environment → Transition → Bool
holds_for C state kind unit E t = eqb t.from state && (eqb t.kind kind && (eqb t.unit unit && meets C t.condition E))

-- "Under any values at most one condition for a state, kind and unit holds."
abbrev pub Exclusive : Network → Type 0
Exclusive N = (state kind unit : ℕ) (E : Environment) → length (keep (holds_for N.common state kind unit E) (bases N)) ≤ 1

-- Of the bytes that were written: they stand for the card's network; "The verdict and living checkers are those document 01 defines, shown for both forms
-- from one shared fact" (`Realises`).
pub record CardAgrees (s n : List ℕ) : Type 0 where
  pub decodes : network_of n ≡ card (sheet_of s)
  pub exclusive : Exclusive (network_of n)
  pub defined : AsDefined s n

abbrev pub CardDemand : Type 0
CardDemand = (s buffer : List ℕ) (size : ℕ) → card_of s buffer ≡ written size → CardAgrees s (take size (card_buffer_of s buffer))

-- "After the reading refusals: 21 if some joined condition exceeds 1,024 bytes or the network 65,535": there, and nowhere else.
abbrev pub RefusedTooLong : Type 0
RefusedTooLong = (s buffer : List ℕ) → card_of s buffer ≡ refused 21 ↔ (reading sheet_layout s ≡ 0) × (card_fits s ≡ false)
