-- `card::guarded_all` meets its contract. Assumes nothing.
use Rattle.translation.proofs.Cards.Guarding.{Guarding}
use Rattle.translation.proofs.card.guarded_all.Given as goal

abbrev pub invariant-loop-k : goal.invariant-loop-k
invariant-loop-k l = Guarding l.n l.from l.count l.number l.initial.out l.at l.out l.k l.place l.here
