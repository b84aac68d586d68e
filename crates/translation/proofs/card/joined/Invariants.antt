-- `card::joined` meets its contract. Assumes nothing.
use Rattle.translation.proofs.Cards.Joining.{Joining}
use Rattle.translation.proofs.card.joined.Given as goal

abbrev pub invariant-loop : goal.invariant-loop
invariant-loop l = Joining l.net.n.now l.k l.t l.initial.out l.at l.out l.counter l.place l.here
