-- `card::all_short` meets its contract. Assumes nothing.
use Rattle.translation.proofs.Cards.Listing.{Testing}
use Rattle.translation.proofs.card.all_short.Given as goal

abbrev pub invariant-loop-k : goal.invariant-loop-k
invariant-loop-k l = Testing l.net.n.now l.ok l.k l.place
