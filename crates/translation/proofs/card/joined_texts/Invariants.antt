-- `card::joined_texts` meets its contract. Assumes nothing.
use Rattle.translation.proofs.Cards.Listing.{Listing}
use Rattle.translation.proofs.card.joined_texts.Given as goal

abbrev pub invariant-loop-k : goal.invariant-loop-k
invariant-loop-k l = Listing l.net.n.now l.initial.out l.at l.out l.k l.place l.here
