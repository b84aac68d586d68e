-- `card::fill` meets its contract. Assumes nothing.
use native.Mathlib.Omega.{arith}
use Rattle.translation.proofs.Cards.CardTabling.{counted}
use Rattle.translation.proofs.Cards.CardFilling.{filled}
use Rattle.translation.proofs.card.fill.Goals as goal

pub overflow_add-head : goal.overflow_add-head
overflow_add-head c = record { fits = omega (arith, (counted c.requires.0).1) }

pub tables-requires : goal.tables-requires
tables-requires c = (c.requires.0, c.header-at.ensures.next)

pub returns : goal.returns
returns c =
    let p = c.requires in
    filled p.0 _ p.1 _ p.2 _ _ c.header-at.ensures _ _ c.tables.ensures
