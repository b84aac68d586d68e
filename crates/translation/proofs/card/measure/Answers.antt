-- `card::measure` meets its contract. Assumes nothing.
use Rattle.translation.proofs.Cards.CardFilling.{measured}
use Rattle.translation.proofs.card.measure.Goals as goal

pub returns : goal.returns
returns c = measured c.requires _ _ _ c.tables.ensures
