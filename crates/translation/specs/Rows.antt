-- Document 01's sample: sheet A gives its network of 53 bytes; and for the card one of 68.
use Rattle.std.specs.Prelude.{◌≡◌}
use Rattle.sheet.specs.Rows.{sheet_a, network_a, card_a}
use Rattle.translation.specs.Answer.{network_bytes, card_bytes}

-- "* A's network, 53 bytes"; the card's joined conditions are 3 to 5: of the transition that is added, "the bytes of `and`, `not` and that one's old condition, then its own"
abbrev pub Rows : Type 0
Rows = (network_bytes sheet_a ≡ network_a) × (card_bytes sheet_a ≡ card_a)
